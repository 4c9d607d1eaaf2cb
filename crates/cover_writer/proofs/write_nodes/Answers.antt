use mathlib.Core.Path.{refl, ◌∙◌}
use mathlib.Core.List.{[]}
use Prim.Native.Nat.{◌+◌}
use native.Mathlib.Omega.{arith}
use native.Mathlib.Numerals.{add-one}
use lib.ListN.{length-set, get_or}
use Rattle.cover_writer.specs.BytesBehind.{wrote_none, wrote-next}
use Rattle.cover_writer.specs.LutBytesLaws.{nodes-none, nodes-next}
use Rattle.cover_writer.proofs.write_nodes.Goals as goal

pub loop-j-init : goal.loop-j-init
loop-j-init c = (rw nodes-none (wrote_none c.args.area.now), refl)

pub loop-j-preserved : goal.loop-j-preserved
loop-j-preserved c =
    let v = c.loop-j.invariant in (
      rw (add-one c.loop-j.j, nodes-next c.args.nodes.now [] c.args.at c.loop-j.j)
          (rw (← add-one c.loop-j.j) (wrote-next (get_or c.args.nodes.now (c.args.at + c.loop-j.j) 0) (omega arith) v.0)),
      length-set
          c.loop-j.area c.loop-j.j (get_or c.args.nodes.now (c.args.at + c.loop-j.j) 0) ∙ v.1,
    )
