use mathlib.Core.Path.{refl}
use Rattle.cut_search.specs.SearchTable.{with_flow}
use Rattle.cut_search.proofs.set_flow.Goals as goal

pub returns : goal.returns
unfolding with_flow
returns c = refl
