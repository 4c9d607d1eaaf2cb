use mathlib.Core.Path.{sym, ap, ◌∙◌}
use Prim.Native.Nat.{◌+◌, ◌≤◌}
use native.Mathlib.Omega.{arith}
use lib.ListN.{length, take, drop}
use lib.Seq.{length-take-le}
use Rattle.limits.specs.Limits.{most_table}
use Rattle.label_aim.specs.Aims.{mode_of}
use Rattle.job_plan.specs.Ready.{cleared-part, linked-kept, linked-net, linked_planning, planned-engine, planned-room, planned-cover}
use Rattle.job_plan.proofs.plan.Goals as goal

pub slice_bounds-cover-end-2 : goal.slice_bounds-cover-end-2
slice_bounds-cover-end-2 c =
    let clear_first = c.clear_first in
    let h : most_table ≤ length clear_first.new.scratch = let d = c.requires.most_table_in_bounds.0 in let e = clear_first.auto.scratch in omega arith in
    sym (length-take-le most_table clear_first.new.scratch h)

pub cover-requires : goal.cover-requires
cover-requires c = let link = c.link in
    let start = c in
    let a = c.args in
    let p = (linked_planning c.requires.planning link.ensures) in
    let x = c.extent-s.ensures in
    record {
      engine = planned-engine p x (mode_of a.forward) link.ensures.linked _ (ap (take most_table) c.clear_first.ensures ∙ cleared-part most_table a.work.now) _
          (length-take-le (a.z.inputs + a.z.gates) a.labels.now c.requires.most_table_in_bounds.1);
      roomy = planned-room p x c.requires.most_table_in_bounds.2;
    }

pub returns : goal.returns
returns c = let cover = c.cover in
    let link = c.link in
    let start = c in
    let a = c.args in
    let p = (linked_planning c.requires.planning link.ensures) in
    record {
      planned = planned-cover p c.extent-s.ensures (linked-net c.requires.planning link.ensures) cover.result (drop (a.z.inputs + a.z.gates) a.labels.now)
          (cover.auto.labels ∙ length-take-le (a.z.inputs + a.z.gates) a.labels.now c.requires.most_table_in_bounds.1) cover.ensures;
      plan_kept = record { kept = linked-kept c.requires.planning link.ensures; behind = link.ensures.apart.above };
    }
