use Prim.Native.Nat.{◌+◌}
use native.Mathlib.Omega.{arith}
use Rattle.signed.specs.Range.{label_in}
use Rattle.label_visit.specs.ReadyLaws.{pinmax_at, max-small, max-back, raised-changed}
use Rattle.label_start.specs.StartLaws.{floored_next}
use Rattle.label_start.proofs.lift.Goals as goal

pub highest-p-requires : goal.highest-p-requires
highest-p-requires c = c.requires.0.fit c.args.labels.now c.requires.1 c.args.g c.requires.2

pub returns : goal.returns
returns c = floored_next c.requires.2 (max-small (label_in c.args.labels.now (c.args.s.inputs + c.args.g)) (c.requires.0.fit c.args.labels.now c.requires.1 c.args.g c.requires.2) (pinmax_at (max-back (c.requires.0.fit c.args.labels.now c.requires.1 c.args.g c.requires.2) c.highest-p.ensures) c.highest-p.ensures) (c.requires.1.small (c.args.s.inputs + c.args.g)) (c.higher.ensures.no c.if-higher.false)) (pinmax_at (max-back (c.requires.0.fit c.args.labels.now c.requires.1 c.args.g c.requires.2) c.highest-p.ensures) c.highest-p.ensures) (raised-changed (let e = c.requires.1.size in let h = c.requires.2 in omega arith) c.raise.ensures) c.requires.3
