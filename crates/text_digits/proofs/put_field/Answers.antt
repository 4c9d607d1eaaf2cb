use Rattle.text_digits.specs.PutLaws.{put_then}
use Rattle.text_digits.proofs.put_field.Goals as goal

pub returns : goal.returns
returns c = put_then c.put_word-a.ensures c.put_decimal.ensures
