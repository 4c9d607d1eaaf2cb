use Prim.Native.Nat.{◌*◌}
use Rattle.text_digits.specs.Put.{Put}
use Rattle.text_classes.specs.ClassTextLaws.{first_lines}
use Rattle.text_classes.proofs.write_lines.Given as goal

abbrev pub invariant-loop-f : goal.invariant-loop-f
invariant-loop-f l = Put (21 * l.f) 0 (first_lines l.f) l.initial.out l.out l.at
