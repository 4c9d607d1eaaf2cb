use mathlib.Core.Path.{refl}
use mathlib.Core.List.{◌++◌}
use Prim.Native.Nat.{◌+◌, ◌*◌, ◌≤◌}
use native.Mathlib.Omega.{arith}
use lib.ListN.{length, drop}
use Rattle.job_plan.specs.Engines.{engine-rest, engine_chooses, engine_tabulates, rest_part, clear_behind, length-behind}
use Rattle.job_plan.specs.Covering.{told_none, told-cover}
use Rattle.job_plan.specs.FoundLaws.{found_cap, missed_cap}
use Rattle.job_plan.proofs.cover.Goals as goal

pub find_period-requires : goal.find_period-requires
find_period-requires c = let e = c.requires.engine in
    record { at_rest = engine-rest e; outputs_in_bounds = e.parts; period_asked = (rw c.cap_of-cap.ensures e.period, refl) }

pub choose-requires : goal.choose-requires
choose-requires c = let find-period = c.find_period in
    let start = c in
    let f = found_cap c.args.s c.args.net.now c.cap_of-cap.ensures c.in_ok-phi.ensures.period_found in
    record { at_rest = rest_part _ c.in_ok-phi.ensures.at_rest_2; outputs_in_bounds = (c.requires.engine.parts, refl); chooses = engine_chooses c.requires.engine c.requires.roomy f }

pub tabulate-requires : goal.tabulate-requires
tabulate-requires c = let choose = c.choose in
    let find-period = c.find_period in
    let start = c in
    let e = c.requires.engine in
    let a = c.args in
    let t = a.table.now in
    let n = (a.s.inputs + a.s.gates) * a.s.width in
    let h : n ≤ length t = omega (arith, e.size, e.fits) in
    let x = find-period.new.table in
    let l = length-behind x t n h find-period.auto.table in
    let k : n ≤ length (x ++ drop n t) = omega arith in
    let y = choose.new.table in
    let m = length-behind y (x ++ drop n t) n k choose.auto.table in
    let rows = choose.auto.rows in
    record { tabulates = (engine_tabulates e c.requires.roomy rows (found_cap c.args.s c.args.net.now c.cap_of-cap.ensures c.in_ok-phi.ensures.period_found) choose.ensures.chosen, c.requires.roomy.at_luts); gates_in_bounds = (omega (arith, e.parts), omega (arith, rows, c.requires.roomy.at_rows)); most_table_in_bounds = (omega (arith, m, l, e.size), clear_behind y (x ++ drop n t) n choose.ensures.rest.cleared.zero (clear_behind x t n c.in_ok-phi.ensures.at_rest_2.cleared.zero e.clear)) }

pub returns-in_err-phi : goal.returns-in_err-phi
returns-in_err-phi c = rw c.from_residual.ensures (told_none (missed_cap c.args.s c.args.net.now c.cap_of-cap.ensures _ _ _ c.in_err-phi.ensures.period_found.1))

pub returns : goal.returns
returns c = told-cover c.requires.engine.few (found_cap c.args.s c.args.net.now c.cap_of-cap.ensures c.in_ok-phi.ensures.period_found) c.choose.ensures.chosen c.tabulate.ensures.tabulated
