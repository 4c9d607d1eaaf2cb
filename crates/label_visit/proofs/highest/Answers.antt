use mathlib.Core.Path.{sym}
use Rattle.sequences.specs.Behind.{behind}
use Rattle.cut_circuit.specs.Packed.{sources_at, counts_at}
use Rattle.label_visit.specs.ReadyLaws.{pinmax_at, best-max, max-back}
use Rattle.label_visit.proofs.highest.Goals as goal

pub returns : goal.returns
returns c =
    let start = c in
    let net = c.args.net.now in
    let a = sources_at c.args.s.gates in
    let b = counts_at c.args.s.gates in
    let m = pinmax_at (sym (rw (behind net a, behind net b) at c.pin_height.ensures)) (best-max c.args.s net (rw (behind net a, behind net b) at c.best_pin-best.ensures)) in
    pinmax_at (max-back c.requires m) m
