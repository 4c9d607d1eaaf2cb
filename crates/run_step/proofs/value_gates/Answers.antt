use Rattle.std.proofs.Common.{◌≡◌, subst, arith}
use Rattle.run_values.specs.Sheets.{sheet}
use Rattle.run_step.specs.Stepping.{Ordering}
use Rattle.run_step.specs.SteppingLaws.{ordering_all}
use Rattle.run_step.proofs.value_gates.Goals as goal

pub returns : goal.returns
returns c =
    let all : c.loop-i.i ≡ c.args.s.z.gates = omega arith in
    ordering_all (subst (Ordering (sheet c.args.s.z c.args.s.net.now c.args.s.tables.now c.args.s.kept.now c.args.s.word) c.args.known.now c.loop-i.known) all c.loop-i.invariant)
