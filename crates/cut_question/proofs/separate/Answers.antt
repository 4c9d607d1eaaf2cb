use Rattle.std.proofs.Common.{sym, ◌∙◌}
use Rattle.std.proofs.lemmas.Bool.{false≢true}
use Rattle.cut_question.proofs.separate.Goals as goal

pub returns-clause-kept : goal.returns-clause-kept
returns-clause-kept c = record {
  count = c.in-Some.r;
  few = λ h. c.in-Some.ensures.most;
  many = λ h. absurd (false≢true (sym h));
  seen = record { table = c.min_cut-least.new.table; list = c.min_cut-least.new.list; room = c.min_cut-least.auto.table ∙ c.requires.cut.sized.room; told = c.in-Some.ensures.told };
  row = c.keep_cut.ensures;
}
