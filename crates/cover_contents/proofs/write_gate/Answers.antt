use mathlib.Core.Path.{sym}
use mathlib.Core.List.{[]}
use native.Mathlib.Omega.{arith}
use Rattle.cover_registers.specs.RegisterCountLaws.{told, within-back}
use Rattle.cover_records.specs.Rows.{kept_in}
use Rattle.cover_writer.specs.BytesBehind.{wrote_none}
use Rattle.cover_registers.specs.Counting.{lags_of}
use Rattle.cover_registers.specs.LagLaws.{gate-none, gate-some}
use Rattle.cover_contents.specs.CellLaws.{taps_none, asked-same, wrote-same}
use Rattle.cover_contents.proofs.write_gate.Goals as goal

pub returns-then-k-g-eq0 : goal.returns-then-k-g-eq0
returns-then-k-g-eq0 c =
    let s = c.args in
    let a = kept_in s.k.head.inputs s.k.head.gates s.k.head.period s.k.labels.now s.k.rows.now [] in
    let es = lags_of a in
    rw (gate-none a s.g c.if-k-g-eq0.true) (rw (taps_none s.trace.now es) (wrote_none s.area.now))

pub write_leaves-requires : goal.write_leaves-requires
write_leaves-requires c =
    let s = c.args in
    let a = kept_in s.k.head.inputs s.k.head.gates s.k.head.period s.k.labels.now s.k.rows.now [] in
    let es = lags_of a in
    let p = c.requires.leaves_held in
    let h = c.requires.g_lt_gates.0 in
    let m = c.if-k-g-eq0.false in
    let f = p.leaves s.g h m in
    let no = p.nodes in
    let ba = p.backs in
    let e = c.leaves_of-leaves.ensures in
    let t = told (omega arith) c.lag_at-own.ensures in
    rw (e.nodes, e.backs, e.place, e.count)
    record { lags_held = p.lags; n_in_bounds = (omega arith, omega arith); below = (p.small s.g h m, within-back c.lag_at-own.result (omega arith) c.lag_at-own.ensures.within); cells_asked = rw t (asked-same s.trace.now es (sym (gate-some a s.g h m)) c.requires.cells_asked) }

pub returns : goal.returns
returns c =
    let s = c.args in
    let a = kept_in s.k.head.inputs s.k.head.gates s.k.head.period s.k.labels.now s.k.rows.now [] in
    let es = lags_of a in
    let e = c.leaves_of-leaves.ensures in
    wrote-same s.trace.now es (gate-some a s.g c.requires.g_lt_gates.0 c.if-k-g-eq0.false)
    (rw (told (omega arith) c.lag_at-own.ensures, e.nodes, e.backs, e.place, e.count) at c.write_leaves.ensures)
