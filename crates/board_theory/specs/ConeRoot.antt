-- A cone in a run from a section: where the members' steps are 0 or later, the root's value is the LUT's table at the leaves' values, which may stand in the section.
use Rattle.std.specs.Prelude.{◌≡◌, Bool, List, map, ℕ, ◌+◌, ◌-◌, ◌≤◌}
use Rattle.std.proofs.Common.{sym, ap, ◌∙◌, arith}
use Rattle.sequences.specs.Member.{◌∈◌}
use Rattle.net_model.specs.Net.{Net, Pin, gate, pins}
use Rattle.net_model.specs.Checks.{Loopless}
use Rattle.net_model.specs.Copies.{Copy, copy, IsCone, IsLeaves}
use Rattle.net_model.specs.Tables.{apply, feeding, table_of}
use Rattle.cone_theory.specs.CopyOrder.{levels}
use Rattle.cone_values.specs.RunLaws.{map-map}
use Rattle.cone_values.specs.Values.{map_same, table_is}
use Rattle.run_theory.proofs.AgoLaws.{ago-same, ago-now}
use Rattle.run_theory.specs.Bench.{ago, pin_from, Bench}

module _ {N : Net} (loopless : Loopless N) {section inputs value : ℕ → ℕ → Bool} (b : Bench N section inputs value) {v : ℕ} {C L : List Copy} (i : IsCone N v C) (l : IsLeaves N C L) where
  pub cone-root : (s : ℕ) → ((x : Copy) → x ∈ C → x.back ≤ s)
      → value v s ≡ apply (table_of N v C L) (map (λ (y : Copy). ago (section y.node) (value y.node) s y.back) L)
  cone-root s deep = sym (table_is (levels loopless) i l s deep val obeys ∙ now v 0 (omega arith) ∙ ap (value v) (omega arith))
    where
      val : Copy → Bool
      val c = ago (section c.node) (value c.node) s c.back

      now : (u d : ℕ) → d ≤ s → ago (section u) (value u) s d ≡ value u (s - d)
      now u d h = ago-now (section u) (value u) s d h

      obeys : (x : Copy) → x ∈ C → val x ≡ apply (gate N x.node).table (map val (feeding N x))
      obeys x m =
          now x.node x.back (deep x m) ∙ b.gate x.node (s - x.back) (i.gates x m)
          ∙ ap (apply (gate N x.node).table)
          (map_same (pin_from section value (s - x.back)) (λ (p : Pin). val (copy p.src (x.back + p.count))) (pins N x.node)
          (λ p h. ago-same (section p.src) (value p.src) (s - x.back) p.count s (x.back + p.count) (let d = deep x m in omega arith))
          ∙ sym (map-map val (λ (p : Pin). copy p.src (x.back + p.count)) (pins N x.node)))
