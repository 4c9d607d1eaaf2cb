use mathlib.Core.Path.{sym}
use mathlib.Core.List.{[]}
use Rattle.cover_records.specs.Rows.{kept_in}
use Rattle.cover_tally.specs.TallyLaws.{took_none, took_then, took_same}
use Rattle.cover_registers.specs.Counting.{lags_of}
use Rattle.cover_registers.specs.LagLaws.{luts-none, luts-more}
use Rattle.cover_registers.proofs.take_luts.Goals as goal

pub loop-g-init : goal.loop-g-init
loop-g-init c =
    let s = c.args in
    let a = kept_in s.k.head.inputs s.k.head.gates s.k.head.period s.k.labels.now s.k.rows.now [] in
    took_same (sym (luts-none (lags_of a) a)) (took_none s.tally.places)

pub loop-g-preserved : goal.loop-g-preserved
loop-g-preserved c =
    let s = c.args in
    let a = kept_in s.k.head.inputs s.k.head.gates s.k.head.period s.k.labels.now s.k.rows.now [] in
    let l = c.loop-g in
    took_same (luts-more (lags_of a) a l.g) (took_then l.invariant c.take_gate-tally.ensures)
