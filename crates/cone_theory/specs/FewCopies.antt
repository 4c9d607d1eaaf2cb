-- A set of gate copies has at most as many copies of one gate as leaves: the first leaf on a copy's input path gives the copy back, since the path
-- meets the leaf's node once.
use Rattle.std.specs.Prelude.{◌≡◌, refl, List, map, ℕ, zero, suc, ◌+◌, ◌*◌, ◌≤◌, length}
use Rattle.std.proofs.Common.{sym, ap, ◌∙◌, mul_comm, arith}
use Rattle.std.proofs.Math.Decide.{ℕ_discrete}
use Rattle.std.proofs.lemmas.List.{length-map}
use Rattle.sequences.specs.Member.{◌∈◌, in_equal, Within, map_in}
use Rattle.sequences.specs.Decide.{count-from, in_count-from, count-from_in, length-count-from}
use Rattle.sequences.specs.Keep.{keep, in_keep}
use Rattle.sequences.specs.Distinct.{Distinct, inject, distinct-keep, distinct-map-on, distinct-count-from, count_by}
use Rattle.net_model.specs.Net.{Net, IsGate}
use Rattle.net_model.specs.Copies.{Copy, copy, IsLeaves}
use Rattle.cone_theory.specs.Basics.{copy-path}
use Rattle.cone_theory.specs.Ranks.{Ranked, OnPath, on_path_unique, FirstLeaf, first_leaf}

-- ---- the numbers of the gates, rising
unfoldable pub gate_numbers : Net → List ℕ
unfolding count-from
gate_numbers N = count-from N.inputs (length N.gates)

pub in_gate_numbers : {N : Net} {v : ℕ} → IsGate N v → v ∈ gate_numbers N
unfolding gate_numbers
in_gate_numbers {N} {v} g = in_count-from N.inputs (length N.gates) v g.low g.high

pub gate_numbers_in : {N : Net} {v : ℕ} → v ∈ gate_numbers N → IsGate N v
unfolding gate_numbers
gate_numbers_in {N} {v} h = let r = count-from_in N.inputs (length N.gates) v h in record { low = r.0; high = r.1 }

pub distinct-gate_numbers : (N : Net) → Distinct (gate_numbers N)
unfolding gate_numbers
distinct-gate_numbers N = distinct-count-from N.inputs (length N.gates)

pub length-gate_numbers : (N : Net) → length (gate_numbers N) ≡ length N.gates
unfolding gate_numbers
length-gate_numbers N = length-count-from N.inputs (length N.gates)

module _ {N : Net} (R : Ranked N) {C L : List Copy} (gates : (c : Copy) → c ∈ C → IsGate N c.node) (leaves : IsLeaves N C L) where
  -- No gate has more copies in C than C has leaves.
  pub few-copies : (u : ℕ) (ds : List ℕ) → Distinct ds → ((d : ℕ) → d ∈ ds → copy u d ∈ C) → length ds ≤ length L
  few-copies u ds distinct inside = inject {R = Behind} distinct find same
    where
      Behind : ℕ → Copy → Type 0
      Behind d y = (c : ℕ) × OnPath R u y.node c × (y.back ≡ d + c)

      find : (d : ℕ) → d ∈ ds → (y : Copy) × (y ∈ L) × Behind d y
      find d h =
          let f : FirstLeaf R C (copy u d) = first_leaf R C gates (copy u d) (inside d h) in
          (f.leaf, leaves.complete f.leaf f.is_leaf, (f.count, f.on_path, f.depth))

      same : (d e : ℕ) (y : Copy) → Behind d y → Behind e y → d ≡ e
      same d e y a b = omega (arith, on_path_unique R a.1 b.1, a.2, b.2)

  -- of u, in a list of members
  pub few-copies-of : (u : ℕ) (S : List Copy) → Distinct S → Within S C → length (keep (λ (c : Copy). ℕ_discrete c.node u) S) ≤ length L
  few-copies-of u S distinct w =
      let K : List Copy = keep (λ (c : Copy). ℕ_discrete c.node u) S in
      omega (arith, length-map K (λ (c : Copy). c.back), few-copies u (map (λ (c : Copy). c.back) K) (distinct-map-on (λ (c : Copy). c.back) one (distinct-keep (λ (c : Copy). ℕ_discrete c.node u) distinct)) inside)
    where
      at : (c : Copy) → c ∈ keep (λ (a : Copy). ℕ_discrete a.node u) S → (c ∈ S) × (c.node ≡ u)
      at c h = in_keep (λ (a : Copy). ℕ_discrete a.node u) S h

      one : (a c : Copy) → a ∈ keep (λ (b : Copy). ℕ_discrete b.node u) S → c ∈ keep (λ (b : Copy). ℕ_discrete b.node u) S → a.back ≡ c.back → a ≡ c
      one a c h k e = copy-path ((at a h).1 ∙ sym (at c k).1) e

      inside : (d : ℕ) → d ∈ map (λ (c : Copy). c.back) (keep (λ (a : Copy). ℕ_discrete a.node u) S) → copy u d ∈ C
      inside d h =
          let r = map_in (λ (c : Copy). c.back) (keep (λ (a : Copy). ℕ_discrete a.node u) S) h in
          in_equal {b = r.0} (copy-path (sym (at r.0 r.1).1) r.2) (w r.0 (at r.0 r.1).0)

  -- At most as many members as leaves times gates.
  pub few-members : (S : List Copy) → Distinct S → Within S C → length S ≤ length L * length N.gates
  few-members S distinct w =
      let r : length S ≤ length (gate_numbers N) * length L = count_by ℕ_discrete (λ (c : Copy). c.node) S (gate_numbers N) (λ c h. in_gate_numbers (gates c (w c h))) (length L) (λ u h. few-copies-of u S distinct w) in
      rw (mul_comm (length L) (length N.gates)) (rw (← length-gate_numbers N) r)
