-- Examples of E9: the cover that map writes of net C at period 1, plain and forward, has lag −1. The same LUT with lag 0 is a cover, too, meets 1 and is a forward cover: its lag
-- is larger, as every cover's is that has not the least.
use Rattle.std.specs.Prelude.{◌≡◌, refl, List, [], ◌∷◌, ℕ, zero, suc, ◌<◌, ℤ, pos, ◌+ℤ◌, length, ◌≤ℤ◌}
use Rattle.std.proofs.Common.{sym, subst, inl, inr, arith}
use Rattle.sequences.specs.Member.{◌∈◌, here, there, not_in_nil}
use Rattle.net_model.specs.Net.{IsGate, gate}
use Rattle.net_model.specs.Copies.{Copy, copy, IsCone, IsLeaves, IsCut}
use Rattle.cover_theory.specs.Covers.{Cover, lut, registers, output, output_registers, RootedAt, IsCover, Chain, one, more, Meets}
use Rattle.cover_theory.specs.Forward.{Forward}
use Rattle.cover_theory.specs.Key.{Entry}
use Rattle.examples.specs.Nets.{pin, net_c}
use Rattle.examples.specs.ByHand.{pair-cut, fed_by, both}
use Rattle.examples.specs.ForwardExamples.{entries_c, alone-C}

abbrev pub cover_c : Cover
cover_c = record { luts = record { root = 2; leaves = copy 0 1 ∷ copy 1 1 ∷ []; lag = pos 0 } ∷ []; feeder = λ i y. 0; named = λ o. 0 }

gate_2 : IsGate net_c 2
gate_2 = record { low = omega arith; high = omega arith }

cut_2 : IsCut net_c 2 2 (copy 0 1 ∷ copy 1 1 ∷ [])
unfolding gate
cut_2 = pair-cut net_c 2 (copy 0 1) (copy 1 1) gate_2 (inl (omega arith))
    (record { gate = gate_2; pin = pin 0 1; is_pin = here refl; source = refl; depth = refl })
    (record { gate = gate_2; pin = pin 1 1; is_pin = there (here refl); source = refl; depth = refl })
    (both (λ (y : Copy). ¬ (y.node ≡ 2)) (λ e. omega (arith, e)) (λ e. omega (arith, e)))
    (fed_by net_c 2 (pin 0 1) (pin 1 1) refl)

no_input : {u : ℕ} → u < 2 → IsGate net_c u → ⊥
no_input h g = let a = g.low in omega arith

-- there is one LUT, and one output
only : (P : ℕ → Type 0) → P 0 → (i : ℕ) → i < 1 → P i
only P p zero h = p
only P p (suc i) h = absurd (omega (arith, h))

-- **the LUT with lag 0 is a cover of net C for k 2,**
pub lag_0_cover : IsCover net_c 2 cover_c
lag_0_cover = record {
  gates = only (λ (i : ℕ). IsGate net_c (lut cover_c i).root) gate_2;
  cuts = only (λ (i : ℕ). IsCut net_c 2 (lut cover_c i).root (lut cover_c i).leaves) cut_2;
  fed = only (λ (i : ℕ). (y : Copy) → y ∈ (lut cover_c i).leaves → IsGate net_c y.node → RootedAt cover_c y.node 0)
      (both (λ (y : Copy). IsGate net_c y.node → RootedAt cover_c y.node 0) (λ g. absurd (no_input (omega arith) g)) (λ g. absurd (no_input (omega arith) g)));
  leaf_registers = only (λ (i : ℕ). (y : Copy) → y ∈ (lut cover_c i).leaves → pos 0 ≤ℤ registers net_c cover_c i y)
      (both (λ (y : Copy). pos 0 ≤ℤ registers net_c cover_c 0 y) (omega arith) (omega arith));
  names = only (λ (o : ℕ). IsGate net_c (output net_c o).src → RootedAt cover_c (output net_c o).src 0) (λ g. record { listed = omega arith; rooted = refl });
  output_registers = only (λ (o : ℕ). pos 0 ≤ℤ output_registers net_c cover_c o) (omega arith);
}

-- **it meets 1,**
pub lag_0_meets : Meets net_c cover_c 1
lag_0_meets i n h (one e) = omega (arith, e)
lag_0_meets i n h (more y m l g e s c) = absurd (inputs i h y l g)
  where
    inputs : (j : ℕ) → j < 1 → (z : Copy) → z ∈ (lut cover_c j).leaves → IsGate net_c z.node → ⊥
    inputs = only (λ (j : ℕ). (z : Copy) → z ∈ (lut cover_c j).leaves → IsGate net_c z.node → ⊥)
        (both (λ (z : Copy). IsGate net_c z.node → ⊥) (λ f. no_input (omega arith) f) (λ f. no_input (omega arith) f))

-- **is a forward cover,**
pub lag_0_forward : Forward net_c cover_c
lag_0_forward = only (λ (i : ℕ). (C : List Copy) → IsCone net_c (lut cover_c i).root C → IsLeaves net_c C (lut cover_c i).leaves → (x : Copy) → x ∈ C → ((lut cover_c i).lag +ℤ pos x.back) ≤ℤ pos 0)
    (λ C cone leaves x m. subst (λ (d : ℕ). (pos 0 +ℤ pos d) ≤ℤ pos 0) (sym (alone-C (cone.gates x m) cone.gates (cone.leads x m))) (omega arith))

-- **and its lag is larger than that of the LUT that map writes.**
pub lag_0_larger : (e : Entry) → e ∈ entries_c → (e.lag +ℤ pos 1) ≤ℤ (lut cover_c 0).lag
lag_0_larger e (here q) = subst (λ (x : Entry). (x.lag +ℤ pos 1) ≤ℤ pos 0) (sym q) (omega arith)
lag_0_larger e (there m) = absurd (not_in_nil m)
