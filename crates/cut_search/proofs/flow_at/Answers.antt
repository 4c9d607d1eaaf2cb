use Rattle.std.proofs.Common.{◌%◌, ap, sym, ◌∙◌}
use Rattle.cut_search.specs.SearchTableLaws.{flow-is}
use Rattle.cut_search.proofs.flow_at.Goals as goal

pub returns : goal.returns
returns c = ap (λ b. b % 8) c.from.ensures ∙ sym (flow-is c.args.table.now c.args.c)
