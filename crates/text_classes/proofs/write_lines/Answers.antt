use mathlib.Core.Path.{◌≡◌, sym}
use Prim.Native.Nat.{◌+◌, ◌*◌}
use native.Mathlib.Omega.{arith}
use Rattle.text_digits.specs.PutLaws.{put-none, put_same, put-more, put_then, put-wrote}
use Rattle.text_classes.specs.ClassTextLaws.{lines_none, lines_next, lines_all}
use Rattle.text_classes.proofs.write_lines.Goals as goal

pub loop-f-init : goal.loop-f-init
loop-f-init c = put_same (sym lines_none) (put-none 0 c.args.out.now)

pub loop-f-preserved : goal.loop-f-preserved
loop-f-preserved c =
    let loop = c.loop-f in
    let line = rw c.smallest.ensures at c.put_line-at.ensures in
    put-more (21 * (loop.f + 1)) (omega arith) (put_same (lines_next loop.f) (put_then loop.invariant line))

pub returns-2 : goal.returns-2
returns-2 c =
    let loop = c.loop-f in
    let line = rw c.smallest.ensures at c.put_line-at.ensures in
    let e : loop.f + 1 ≡ 256 = omega arith in
    put-wrote c.requires (put-more (256 * 21) (omega arith) (put_same lines_all (rw e at (put_same (lines_next loop.f) (put_then loop.invariant line)))))

pub returns : goal.returns
returns c = absurd (omega arith)
