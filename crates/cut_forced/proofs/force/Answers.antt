use Prim.Native.Nat.{◌+◌}
use Rattle.cut_forced.specs.GrowLaws.{growing-root, growing-part, told-front, force_behind}
use Rattle.cut_forced.proofs.force.Goals as goal

pub grow-requires : goal.grow-requires
grow-requires c = record {
  grounded = c.requires.grounded;
  root = c.args.a.s.inputs + c.args.a.q.gate;
  growing = growing-part (growing-root c.requires c.args.a.q.height c.hold.ensures c.put_number.ensures);
}

pub returns : goal.returns
returns c = let G = growing-root c.requires c.args.a.q.height c.hold.ensures c.put_number.ensures in
    record { told = told-front _ _ _ _ _ _ c.grow.result (c.grow.ensures (c.args.a.s.inputs + c.args.a.q.gate) (growing-part G)); behind = force_behind c.requires c.grow.new.members c.put_number.ensures c.grow.auto.members }
