use Rattle.std.specs.Prelude.{is_some}
use Rattle.std.proofs.Common.{refl, ◌∙◌}
use Rattle.cut_forced.specs.GrowLaws.{listed_of, excess-listed}
use Rattle.cut_question.proofs.Meaning.{rest-again, rows-forced, count-few, count-many, decides_found, written-found, written-some}
use Rattle.cut_question.proofs.chosen.Goals as goal

pub unforce-requires : goal.unforce-requires
unforce-requires c = excess-listed c.in-Err.ensures.told

pub returns-in-Err-clause-rest : goal.returns-in-Err-clause-rest
returns-in-Err-clause-rest c = rest-again c.requires.at_rest (c.unforce.auto.slots ∙ c.force.auto.slots) c.unforce.ensures refl refl refl refl c.requires.at_rest.cleared c.force.auto.members (rows-forced c.requires.at_rest c.requires.asks c.force.auto.members c.in-Err.ensures.behind)

pub unforce-requires-2 : goal.unforce-requires-2
unforce-requires-2 c = listed_of c.in-Ok.ensures.told.growing

pub returns : goal.returns
returns c =
    let F = c.in-Ok.ensures.told in
    let S = c.separate_leaves-least.ensures in
    let r = c.separate_leaves-least.result in
    record {
      rest = rest-again c.requires.at_rest (c.unforce-2.auto.slots ∙ c.force.auto.slots) c.unforce-2.ensures c.separate_leaves-least.auto.table c.separate_leaves-least.auto.list
          c.separate_leaves-least.auto.stack c.separate_leaves-least.auto.counts S.cleared c.force.auto.members (rows-forced c.requires.at_rest c.requires.asks c.force.auto.members c.in-Ok.ensures.behind);
      answer = decides_found c.requires.at_rest.resting c.requires.asks F.growing F.closed S.seen.seen.room S.seen.seen.told (is_some r) (count-few r S.most) (count-many r);
      most = S.most;
      written = written-some r (written-found c.requires.at_rest.resting c.requires.asks F.growing F.closed S.seen.seen.room S.seen.seen.told S.seen.collected);
    }
