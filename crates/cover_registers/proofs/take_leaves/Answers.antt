use mathlib.Core.Path.{sym}
use mir.Syntax.{w64}
use mir.Val.{to_z, of_z}
use Rattle.cover_records.specs.Kept.{entries_in}
use Rattle.cover_tally.specs.TallyLaws.{took_none, took_then, took_same}
use Rattle.cover_registers.specs.Counting.{marking}
use Rattle.cover_registers.specs.LagLaws.{leaf-none, leaf-more}
use Rattle.cover_registers.proofs.take_leaves.Goals as goal

pub loop-j-init : goal.loop-j-init
loop-j-init c =
    let s = c.args in
    let es = entries_in (marking s.k.head.inputs s.k.head.gates s.k.head.period s.k.labels.now s.k.rows.now) in
    took_same (sym (leaf-none es (to_z w64 (of_z w64 s.own)) s.leaves.nodes.now s.leaves.backs.now s.leaves.at)) (took_none s.tally.places)

pub loop-j-preserved : goal.loop-j-preserved
loop-j-preserved c =
    let s = c.args in
    let es = entries_in (marking s.k.head.inputs s.k.head.gates s.k.head.period s.k.labels.now s.k.rows.now) in
    let l = c.loop-j in
    took_same (leaf-more es (to_z w64 (of_z w64 s.own)) s.leaves.nodes.now s.leaves.backs.now s.leaves.at l.j) (took_then l.invariant c.take_reader-tally.ensures)
