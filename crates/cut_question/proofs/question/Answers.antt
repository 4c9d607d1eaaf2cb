use Rattle.std.proofs.Common.{refl, ◌∙◌}
use Rattle.cut_forced.specs.GrowLaws.{listed_of, excess-listed}
use Rattle.cut_question.proofs.Meaning.{separate_asked, rest-again, rows-forced, members_kept, kept-found, decides_found}
use Rattle.cut_question.proofs.Few.{few-asked, decides_few}
use Rattle.cut_question.proofs.question.Goals as goal

pub unforce-requires : goal.unforce-requires
unforce-requires c = excess-listed c.in-Err.ensures.told

pub returns-in-Err-clause-rest : goal.returns-in-Err-clause-rest
returns-in-Err-clause-rest c = rest-again c.requires.at_rest (c.unforce.auto.slots ∙ c.force.auto.slots) c.unforce.ensures refl refl refl refl c.requires.at_rest.cleared c.force.auto.members (rows-forced c.requires.at_rest c.requires.asks c.force.auto.members c.in-Err.ensures.behind)

pub few_outside-requires-clause-few_asked : goal.few_outside-requires-clause-few_asked
few_outside-requires-clause-few_asked c = few-asked c.requires.at_rest.resting c.requires.asks c.in-Ok.ensures.told.growing

pub unforce-requires-then-few_outside : goal.unforce-requires-then-few_outside
unforce-requires-then-few_outside c = listed_of c.in-Ok.ensures.told.growing

pub returns-then-few_outside-clause-rest : goal.returns-then-few_outside-clause-rest
returns-then-few_outside-clause-rest c = rest-again c.requires.at_rest (c.unforce-then-few_outside.auto.slots ∙ c.force.auto.slots) c.unforce-then-few_outside.ensures refl refl refl refl c.requires.at_rest.cleared c.force.auto.members (rows-forced c.requires.at_rest c.requires.asks c.force.auto.members c.in-Ok.ensures.behind)

pub returns-then-few_outside-clause-answer : goal.returns-then-few_outside-clause-answer
returns-then-few_outside-clause-answer c = let F = c.in-Ok.ensures.told in decides_few c.requires.at_rest.resting c.requires.asks F.growing F.closed (c.few_outside.ensures c.if-few_outside.true)

pub separate-found-requires : goal.separate-found-requires
separate-found-requires c = separate_asked c.requires.at_rest c.requires.asks c.force.auto.members c.in-Ok.ensures.told.growing

pub unforce-requires-2 : goal.unforce-requires-2
unforce-requires-2 c = listed_of (members_kept c.separate-found.auto.members c.separate-found.ensures.kept.row c.in-Ok.ensures.told.growing)

pub returns : goal.returns
returns c =
    let F = c.in-Ok.ensures.told in
    let S = c.separate-found.ensures in
    record {
      rest = rest-again c.requires.at_rest (c.unforce-2.auto.slots ∙ c.force.auto.slots) c.unforce-2.ensures c.separate-found.auto.table c.separate-found.auto.list c.separate-found.auto.stack
          c.separate-found.auto.counts S.cleared (c.separate-found.auto.members ∙ c.force.auto.members)
          (kept-found c.requires.at_rest.resting c.requires.asks F.growing F.closed S.kept.seen.room S.kept.seen.told (rows-forced c.requires.at_rest c.requires.asks c.force.auto.members c.in-Ok.ensures.behind) c.separate-found.auto.members S.kept.row);
      answer = decides_found c.requires.at_rest.resting c.requires.asks F.growing F.closed S.kept.seen.room S.kept.seen.told c.separate-found.result S.kept.few S.kept.many;
    }
