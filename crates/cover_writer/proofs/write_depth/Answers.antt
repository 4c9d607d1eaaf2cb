use mathlib.Core.Path.{ap}
use Prim.Native.Nat.{◌/◌, ◌%◌}
use native.Mathlib.Omega.{arith}
use lib.ListN.{length, length-set}
use Rattle.cover_writer.specs.BytesBehind.{wrote_none, wrote-next}
use Rattle.cover_writer.specs.LutBytesLaws.{depths-none, depths-two}
use Rattle.cover_writer.proofs.write_depth.Goals as goal

pub returns-then-d-eq0 : goal.returns-then-d-eq0
returns-then-d-eq0 c = rw (depths-none c.args.d c.if-d-eq0.true) (wrote_none c.args.area.now)

pub bounds-area-0 : goal.bounds-area-0
bounds-area-0 c = let e = ap length (depths-two c.args.d c.if-d-eq0.false c.requires.0) in omega arith

pub bounds-area-1 : goal.bounds-area-1
bounds-area-1 c = let e = ap length (depths-two c.args.d c.if-d-eq0.false c.requires.0) in simp length-set (omega arith)

pub returns : goal.returns
returns c =
    let d = c.args.d in
    let e = depths-two d c.if-d-eq0.false c.requires.0 in
    let l = ap length e in
    rw e (wrote-next (d / 256) (omega arith) (wrote-next (d % 256) (omega arith) (wrote_none c.args.area.now)))
