use native.Mathlib.Omega.{arith}
use Rattle.cut_search.specs.SearchLaws.{member-node, member-frame-fits, member_skipped, member-room, run-asked, run_lost, unwind_asked, run-won}
use Rattle.cut_search.proofs.try_member.Goals as goal

pub number_at-c-requires : goal.number_at-c-requires
number_at-c-requires c = member-node c.requires

pub returns-then-f-c : goal.returns-then-f-c
returns-then-f-c c = member_skipped c.requires (omega (arith, c.number_at-c.ensures, c.if-f-c.true))

pub put_number-requires : goal.put_number-requires
put_number-requires c = record { i_bound = member-node c.requires; n_bound = omega (arith, c.if-f-c.false, c.requires.asked.store.units) }

pub push-requires : goal.push-requires
push-requires c = record { room = member-room c.requires (omega (arith, c.number_at-c.ensures, c.if-f-c.false)); short = c.requires.asked.store.short; turn = omega arith; fits = member-frame-fits c.requires }

pub run-found-requires : goal.run-found-requires
run-found-requires c = run-asked c.requires c.number_at-c.ensures (omega (arith, c.if-f-c.false)) c.push.ensures c.push.auto.stack c.put_number.ensures

pub unwind-requires : goal.unwind-requires
unwind-requires c = unwind_asked c.requires c.number_at-c.ensures (omega (arith, c.if-f-c.false)) c.push.ensures c.push.auto.stack c.put_number.ensures c.run-found.ensures c.if-found.true c.run-found.auto.table c.run-found.auto.stack

pub returns-then-found : goal.returns-then-found
returns-then-found c = run-won c.requires c.number_at-c.ensures (omega (arith, c.if-f-c.false)) c.push.ensures c.push.auto.stack c.put_number.ensures c.run-found.ensures c.if-found.true c.unwind.ensures

pub returns-else-found : goal.returns-else-found
returns-else-found c = run_lost c.requires c.number_at-c.ensures (omega (arith, c.if-f-c.false)) c.push.ensures c.push.auto.stack c.put_number.ensures c.run-found.ensures c.if-found.false
