use native.Mathlib.Omega.{arith}
use Rattle.std.proofs.Common.{rules}
use Rattle.cover_tally.specs.TallyLaws.{took_kept, took_largest}
use Rattle.cover_tally.proofs.Tally.take.Goals as goal

pub returns-then-source-lt-NODES : goal.returns-then-source-lt-NODES
returns-then-source-lt-NODES c = took_largest c.args.self.places c.args.source c.args.number (omega arith) (search rules)

pub returns-else-source-lt-NODES : goal.returns-else-source-lt-NODES
returns-else-source-lt-NODES c =
    let a = c.args in
    took_kept a.self.places a.source a.number (λ h. absurd (omega (arith, c.if-source-lt-NODES.false)))
