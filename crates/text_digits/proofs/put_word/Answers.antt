use native.Mathlib.Omega.{arith}
use mathlib.Core.Path.{refl}
use Rattle.std.proofs.lemmas.Grind.{common_steps}
use Rattle.std.proofs.lemmas.List.Edits.{sets-eq}
use Rattle.text_digits.proofs.put_word.Goals as goal

pub returns : goal.returns
returns c =
    let e = sets-eq c.args.word.now c.args.out.now c.args.at c.requires in
    record { ends = refl; few = omega arith; area = grind (arith, common_steps, e) }
