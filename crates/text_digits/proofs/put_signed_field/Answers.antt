use Rattle.text_digits.specs.PutLaws.{put_then, put-stored}
use Rattle.text_digits.proofs.put_signed_field.Goals as goal

pub returns : goal.returns
returns c =
    let start = c in
    put-stored c.args.word.now c.args.z c.requires.small (put_then c.put_word-a.ensures c.put_signed.ensures)
