use Rattle.label_lines.specs.LineLaws.{line-gates}
use Rattle.label_lines.proofs.longest_line.Goals as goal

pub returns : goal.returns
returns c = line-gates c.requires.2
