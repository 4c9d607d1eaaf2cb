use Rattle.text_digits.specs.PutLaws.{put_then, put-wrote}
use Rattle.text_digits.proofs.write_said.Goals as goal

pub returns : goal.returns
returns c =
    put-wrote c.requires
    (put_then c.put_field-a.ensures c.put_byte.ensures)
