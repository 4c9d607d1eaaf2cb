use mathlib.Core.Path.{refl, sym}
use Prim.Native.Nat.{◌+◌, ◌*◌}
use native.Mathlib.Omega.{arith}
use Rattle.text_digits.specs.PutLaws.{put-none, put_then, put-more, put_same}
use Rattle.text_listing.specs.LineLaws.{leaves_none, leaves-last}
use Rattle.text_listing.proofs.put_leaves.Goals as goal

pub loop-j-init : goal.loop-j-init
loop-j-init c =
    let a = c.args in
    put_same (sym (leaves_none a.leaves.nodes.now a.leaves.backs.now a.leaves.at 0 refl)) (put-none a.at a.out.now)

pub loop-j-preserved : goal.loop-j-preserved
loop-j-preserved c =
    let a = c.args in
    let l = c.loop-j in
    put-more (42 * (l.j + 1)) (omega arith)
    (put_same (leaves-last a.leaves.nodes.now a.leaves.backs.now a.leaves.at l.j) (put_then l.invariant (put_then c.put_field-a.ensures c.put_field-at.ensures)))
