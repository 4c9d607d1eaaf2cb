use mathlib.Core.Path.{sym, ap, subst, ◌∙◌}
use Prim.Native.Nat.{◌≤◌}
use native.Mathlib.Omega.{arith}
use lib.ListN.{length, take}
use lib.Seq.{length-take-le}
use Rattle.limits.specs.Limits.{most_table}
use Rattle.net_model.specs.Net.{Net}
use Rattle.cover_theory.specs.Covers.{LeastPeriod}
use Rattle.job_plan.specs.Ready.{cleared-part, linked-kept, linked-net, linked_planning}
use Rattle.job_least.specs.AskedLaws.{plan_asked, plan_told}
use Rattle.job_least.proofs.least.Goals as goal

pub slice_bounds-least_in-end-2 : goal.slice_bounds-least_in-end-2
slice_bounds-least_in-end-2 c =
    let h : most_table ≤ length c.clear_first.new.scratch = omega (arith, c.requires.most_table_in_bounds, c.clear_first.auto.scratch) in
    sym (length-take-le most_table c.clear_first.new.scratch h)

pub least_in-requires : goal.least_in-requires
least_in-requires c =
    let p = linked_planning c.requires.planning c.link.ensures in
    plan_asked p c.extent-s.ensures c.link.ensures.linked _ (ap (take most_table) c.clear_first.ensures ∙ cleared-part most_table c.args.work.now)

pub returns : goal.returns
returns c = let p = linked_planning c.requires.planning c.link.ensures in
    let r = c.least_in.result in
    record { least_period = subst (λ (N : Net). LeastPeriod N c.args.k r) (linked-net c.requires.planning c.link.ensures) (plan_told p c.extent-s.ensures c.least_in.ensures); net_kept = linked-kept c.requires.planning c.link.ensures }
