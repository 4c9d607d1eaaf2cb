use Rattle.std.proofs.Common.{List, ℕ, ◌+◌, ◌∙◌, ap, set}
use Rattle.cut_kept.specs.KeptCuts.{row_at}
use Rattle.cut_kept.specs.Keeping.{closed}
use Rattle.cut_kept.proofs.close_row.Goals as goal

pub returns : goal.returns
returns c = closed c.in-Some.m c.in-Some.is (c.put_number-3.ensures ∙ ap (λ (l : List ℕ). set l (row_at c.args.s.gates c.args.g + 1) c.args.s.border) c.put_number-2.ensures)
