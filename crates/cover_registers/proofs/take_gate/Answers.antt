use mathlib.Core.Path.{sym}
use mathlib.Core.List.{[]}
use native.Mathlib.Omega.{arith}
use Rattle.cover_registers.specs.RegisterCountLaws.{told}
use Rattle.cover_records.specs.Rows.{kept_in}
use Rattle.cover_tally.specs.TallyLaws.{took_none, took_same}
use Rattle.cover_registers.specs.LagLaws.{gate-none, gate-some}
use Rattle.cover_registers.proofs.take_gate.Goals as goal

pub returns-then-k-g-eq0 : goal.returns-then-k-g-eq0
returns-then-k-g-eq0 c =
    let s = c.args in
    let a = kept_in s.k.head.inputs s.k.head.gates s.k.head.period s.k.labels.now s.k.rows.now [] in
    took_same (sym (gate-none a s.g c.if-k-g-eq0.true)) (took_none s.tally.places)

pub returns : goal.returns
returns c =
    let s = c.args in
    let e = told (omega arith) c.lag_at-own.ensures in
    let f = c.leaves_of-leaves.ensures in
    let a = kept_in s.k.head.inputs s.k.head.gates s.k.head.period s.k.labels.now s.k.rows.now [] in
    took_same (gate-some a s.g c.requires.g_lt_gates.0 c.if-k-g-eq0.false) (rw (e, f.nodes, f.backs, f.place, f.count) at c.take_leaves.ensures)
