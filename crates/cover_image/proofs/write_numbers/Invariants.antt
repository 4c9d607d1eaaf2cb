use Rattle.cover_writer.specs.Writing.{Wrote}
use Rattle.cover_image.specs.Images.{numbers_to}
use Rattle.cover_image.proofs.write_numbers.Given as goal

abbrev pub invariant-loop-g : goal.invariant-loop-g
invariant-loop-g l = Wrote (numbers_to l.marks l.luts l.g) l.initial.area l.area l.at
