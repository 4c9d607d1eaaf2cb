use Rattle.cut_search.specs.StacksLaws.{push_told}
use Rattle.cut_search.proofs.push.Goals as goal

pub returns : goal.returns
returns c = push_told c.requires c.number_at-d.ensures c.put_number.ensures c.put_number-2.ensures
