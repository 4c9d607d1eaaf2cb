use mathlib.Core.Path.{◌≡◌, sym}
use Prim.Native.Nat.{◌+◌, ◌*◌}
use native.Mathlib.Omega.{arith}
use Rattle.cover_records.specs.Rows.{kept_in}
use Rattle.text_digits.specs.PutLaws.{put-none, put_then, put-more, put_same}
use Rattle.text_listing.specs.LineLaws.{lines_start, lines_next, lines_whole}
use Rattle.text_listing.proofs.put_lines.Goals as goal

pub loop-g-init : goal.loop-g-init
loop-g-init c =
    let s = c.args in
    let a = kept_in s.k.head.inputs s.k.head.gates s.k.head.period s.k.labels.now s.k.rows.now s.tables.now in
    put_same (sym (lines_start a)) (put-none s.at s.out.now)

pub loop-g-preserved : goal.loop-g-preserved
loop-g-preserved c =
    let s = c.args in
    let a = kept_in s.k.head.inputs s.k.head.gates s.k.head.period s.k.labels.now s.k.rows.now s.tables.now in
    let l = c.loop-g in
    put-more (361 * (l.g + 1)) (omega arith) (put_same (lines_next a l.g) (put_then l.invariant c.put_gate-at.ensures))

pub returns : goal.returns
returns c =
    let s = c.args in
    let a = kept_in s.k.head.inputs s.k.head.gates s.k.head.period s.k.labels.now s.k.rows.now s.tables.now in
    let e : c.loop-g.g ≡ s.k.head.gates = omega arith in
    put_same (lines_whole a) (rw e at c.loop-g.invariant)
