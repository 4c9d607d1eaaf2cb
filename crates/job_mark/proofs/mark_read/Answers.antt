use mathlib.Core.Path.{refl, sym, ap, ◌∙◌}
use mathlib.Core.List.{List}
use Prim.Native.Nat.{ℕ, ◌≤◌}
use native.Mathlib.Omega.{arith}
use lib.ListN.{length, get_or, take, length-replicate}
use lib.Seq.{length-take-le}
use Rattle.limits.specs.Limits.{most_table}
use Rattle.sequences.specs.Zeros.{zeros}
use Rattle.job_plan.specs.Ready.{cleared-part}
use Rattle.job_judge.specs.MarkOutcomeLaws.{net-refused, least_judging, marks-same}
use Rattle.std.proofs.lemmas.Result.{err_from_is_err_and}
use Rattle.refusals.specs.RefusalLaws.{number_positive}
use Rattle.job_mark.proofs.mark_read.Goals as goal

pub returns-in_err-least : goal.returns-in_err-least
returns-in_err-least c =
    let p = err_from_is_err_and c.from_residual.result c.from_residual.ensures.1 in
    rw (p.1, p.2) (net-refused c.args.rules c.args.cover.now c.in_err-least.ensures.least_of (number_positive c.in_err-least.field-0.0) refl)

pub slice_bounds-judge-end-2 : goal.slice_bounds-judge-end-2
slice_bounds-judge-end-2 c =
    let s = c.requires.marking.space in
    let cleared = c.clear_first in
    let h : most_table ≤ length cleared.new.scratch = omega (arith, s, cleared.auto.scratch, c.least_of.auto.work) in
    sym (length-take-le most_table cleared.new.scratch h)

pub judge-requires : goal.judge-requires
judge-requires c =
    let least = c.least_of in
    let cleared = c.clear_first in
    let e = ap (take most_table) cleared.ensures ∙ cleared-part most_table least.new.work in
    record { offered = c.requires.offered; judging = least_judging c.requires.marking.settling c.in_ok-least.ensures.net_kept c.in_ok-least.ensures.least_of; most_table_in_bounds = (omega (arith, ap length e, length-replicate {A = ℕ} most_table 0), λ q. ap (λ (x : List ℕ). get_or x q 0) e ∙ zeros most_table q) }

pub returns : goal.returns
returns c = marks-same c.requires.marking.settling c.in_ok-least.ensures.net_kept c.judge.ensures.marks_net
