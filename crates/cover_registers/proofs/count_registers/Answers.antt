use mathlib.Core.Path.{◌∙◌}
use mathlib.Core.List.{[]}
use Rattle.cover_records.specs.Rows.{kept_in}
use Rattle.cover_tally.specs.TallyLaws.{took_all, took_then, took_same}
use Rattle.cover_registers.specs.Counting.{lags_of, taps_of}
use Rattle.cover_registers.specs.LagLaws.{all_taps, all-counted, outputs-leaves}
use Rattle.cover_registers.proofs.count_registers.Goals as goal

pub returns : goal.returns
returns c =
    let s = c.args in
    let a = kept_in s.s.inputs s.s.gates s.s.period s.labels.now s.rows.now [] in
    let os = s.outs.now in
    let oc = s.delays.now in
    let all = took_same (all_taps a os oc s.n) (took_then c.take_luts-luts.ensures (took_same (outputs-leaves (lags_of a) os oc 0 s.n) c.take_leaves-all.ensures)) in
    c.total.ensures (taps_of a os oc s.n) (took_all c.new-empty.ensures all) ∙ all-counted a os oc s.n
