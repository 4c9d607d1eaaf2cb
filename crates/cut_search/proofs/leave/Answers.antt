use Rattle.std.proofs.Common.{sym, subst, List, arith, true}
use Rattle.cut_circuit.specs.Packed.{wired}
use Rattle.cut_search.specs.CopyLaws.{seek_asked}
use Rattle.cut_search.specs.ComeLaws.{leave_inside, leave_wide, leave_entry, leave_open, leave_last, leave_met, leave_asked, leave_come}
use Rattle.cut_search.specs.Steps.{LeaveTold}
use Rattle.cut_search.proofs.leave.Goals as goal

pub is_open-requires : goal.is_open-requires
is_open-requires c = record { y_in_bounds = leave_inside c.requires; width_nonzero = leave_wide c.requires }

pub set_flow-requires : goal.set_flow-requires
set_flow-requires c = record { c_bound = leave_inside c.requires; n_bound = omega arith }

pub returns-then-is_open : goal.returns-then-is_open
returns-then-is_open c =
    let k = c.is_open.ensures.yes c.if-is_open.true in
    subst (λ (t : List _). LeaveTold (wired c.args.w) c.args.f c.args.table.now c.args.stack.now c.args.counts.now t c.args.stack.now c.args.counts.now c.args.y true) (sym c.set_flow.ensures)
    (leave_open c.requires k.0 k.1)

pub entry-requires : goal.entry-requires
entry-requires c = record { seek_asked = seek_asked c.requires.fixed c.args.table.now c.args.y c.requires.store.room (leave_inside c.requires); y_in_bounds = leave_inside c.requires }

pub returns-in_default : goal.returns-in_default
returns-in_default c = leave_last c.requires (rw c.in_default.is at c.entry.ensures)

pub in_at-requires : goal.in_at-requires
in_at-requires c = leave_entry c.requires c.in-Some.ensures

pub returns-then-in_at : goal.returns-then-in_at
returns-then-in_at c = leave_met c.requires c.in-Some.ensures (c.is_open.ensures.no c.if-is_open.false) (omega (arith, c.in_at.ensures.yes c.if-in_at.true))

pub come-requires : goal.come-requires
come-requires c = leave_asked c.requires c.in-Some.ensures (c.is_open.ensures.no c.if-is_open.false) (omega (arith, c.in_at.ensures.no c.if-in_at.false))

pub returns : goal.returns
returns c = leave_come c.requires c.in-Some.ensures (c.is_open.ensures.no c.if-is_open.false) c.come.ensures
