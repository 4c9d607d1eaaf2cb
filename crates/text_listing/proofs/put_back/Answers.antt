use native.Mathlib.Omega.{arith}
use Rattle.text_digits.specs.PutLaws.{put_then, put-more, put_same}
use Rattle.text_listing.specs.LineLaws.{back-text}
use Rattle.text_listing.proofs.put_back.Goals as goal

pub returns : goal.returns
returns c =
    let start = c in
    let f = c.requires.n_le_most_pins.0 in
    put-more 283 (omega arith) (put_same (back-text c.args.leaves.n c.args.table c.args.leaves.nodes.now c.args.leaves.backs.now c.args.leaves.at)
    (put_then (put_then (put_then (put_then c.put_word-a.ensures
    c.put_table-b.ensures)
    c.put_word-c.ensures)
    c.put_leaves-d.ensures) c.put_byte.ensures))
