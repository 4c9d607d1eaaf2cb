use Rattle.text_digits.specs.PutLaws.{put_then}
use Rattle.text_classes.proofs.put_line.Goals as goal

pub returns : goal.returns
returns c = rw c.from.ensures at (put_then c.put_decimal-a.ensures c.put_byte.ensures)
