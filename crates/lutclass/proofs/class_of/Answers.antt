use mathlib.Core.Path.{refl}
use Rattle.lutclass.specs.ClassTable.{shipped}
use Rattle.lutclass.proofs.class_of.Goals as goal

pub returns : goal.returns
unfolding shipped
returns c = rw c.from.ensures refl
