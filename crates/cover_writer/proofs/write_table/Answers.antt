use mathlib.Core.Path.{refl, sym, ap, ◌∙◌}
use Prim.Native.Nat.{ℕ, ◌/◌, ◌%◌, ◌^◌}
use native.Mathlib.Omega.{arith}
use native.Mathlib.Numerals.{add-one}
use lib.ListN.{length-set}
use Rattle.cover_writer.specs.BytesBehind.{wrote_none, wrote-next}
use Rattle.cover_writer.specs.LutBytesLaws.{to_bytes_none, to_bytes_next, shift_none, shift-next}
use Rattle.cover_writer.proofs.write_table.Goals as goal

pub loop-i-init : goal.loop-i-init
loop-i-init c = (rw to_bytes_none (wrote_none c.args.area.now), refl, sym (shift_none c.args.table))

pub loop-i-preserved : goal.loop-i-preserved
loop-i-preserved c =
    let v = c.loop-i.invariant in
    let i = c.loop-i.i in
    let t = c.args.table in (
      rw v.2 (rw (add-one i, to_bytes_next i t) (rw (← add-one i) (wrote-next (t / 256 ^ i % 256) (omega arith) v.0))),
      length-set c.loop-i.area i
          (c.loop-i.rest % 256) ∙ v.1,
      ap (λ (q : ℕ). q / 256) v.2 ∙ shift-next i t,
    )
