use Rattle.std.proofs.Common.{arith}
use Rattle.std.proofs.lemmas.Result.{err_from_is_err_and}
use Rattle.net_rows.specs.GateLaws.{pin-map-stops, width-stops, maps-stop, maps-go}
use Rattle.net_rows.proofs.read_maps.Goals as goal

pub returns-in_err-pins : goal.returns-in_err-pins
returns-in_err-pins c =
    let a = c.args in
    let p = err_from_is_err_and c.from_residual.result c.from_residual.ensures.1 in
    rw (p.1, p.2) (record { result = pin-map-stops a.bytes.now a.at a.k c.in_err-pins.ensures; small = tt })

pub returns-then-k-ones_of : goal.returns-then-k-ones_of
returns-then-k-ones_of c =
    let a = c.args in
    let b = c.in_ok-pins in
    record { result = width-stops a.bytes.now a.at a.k b.pins.value b.pins.at b.ensures (omega arith); small = tt }

pub returns-in_err-registers : goal.returns-in_err-registers
returns-in_err-registers c =
    let a = c.args in
    let b = c.in_ok-pins in
    let p = err_from_is_err_and c.from_residual-in_err-registers.result c.from_residual-in_err-registers.ensures.1 in
    rw (p.1, p.2) (record { result = maps-stop a.bytes.now a.at a.k b.pins.value b.pins.at b.ensures (omega arith) (rw c.from-whole.ensures at c.in_err-registers.ensures); small = tt })

pub returns : goal.returns
returns c =
    let a = c.args in
    let b = c.in_ok-pins in
    let d = c.in_ok-registers in
    maps-go a.bytes.now a.at a.k b.pins.value b.pins.at b.ensures (omega arith) d.registers.value d.registers.at (rw c.from-whole.ensures at d.ensures)
