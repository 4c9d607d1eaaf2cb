use Rattle.std.proofs.Common.{arith}
use Rattle.label_lines.specs.LineLaws.{line-told, line-gates}
use Rattle.label_lines.proofs.greatest.Goals as goal

pub returns-then-not-rises : goal.returns-then-not-rises
returns-then-not-rises c = line-gates c.requires.1

pub returns : goal.returns
returns c = line-told (omega (arith, c.loop-g.invariant.place)) c.loop-g.invariant
