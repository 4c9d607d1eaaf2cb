use Rattle.cover_records.specs.Listing.{label_word, lag_word}
use Rattle.text_digits.specs.PutLaws.{put_then, put_same, put-stored}
use Rattle.text_listing.specs.LineLaws.{front-text}
use Rattle.text_listing.proofs.put_front.Goals as goal

pub returns : goal.returns
returns c =
    let start = c in
    let root = c.args.root in
    let label = c.args.label in
    let lag = c.args.lag in
    put_same (front-text root label lag) (put_then
    (put_then c.put_field-a.ensures
    (put-stored label_word label c.requires.small.0 c.put_signed_field-b.ensures))
    (put-stored lag_word lag c.requires.small.1 c.put_signed_field.ensures))
