-- Laws of the ceilings: those in the net's slice, and one for all gates.
use Rattle.std.specs.Prelude.{◌≡◌, Some, None, List, length, get_or, drop, replicate}
use Rattle.std.proofs.Math.Path.{refl, sym}
use Prim.Native.Nat.{ℕ, zero, suc, ◌+◌, ◌*◌, ◌≤◌, ◌<◌}
use Rattle.std.proofs.Common.{arith, get_or-drop}
use Rattle.std.proofs.Math.ListN.{length-drop, length-replicate}
use Rattle.net_model.specs.PackedNet.{tops_at}
use Rattle.signed.specs.Range.{room}
use Rattle.cut_circuit.specs.declared.Extent.{Extent}
use Rattle.label_visit.specs.LabelVisits.{wiring, tops_in, Ceilings}

same-all : (n x g : ℕ) → g < n → get_or (replicate n x) g 0 ≡ x
same-all zero x g h = absurd (none h)
  where
    none : {g : ℕ} → g < zero → ⊥
    none h = omega arith
same-all (suc n) x zero h = refl
same-all (suc n) x (suc g) h = same-all n x g (omega arith)

module _ (s : Extent) (net : List ℕ) where
  -- one for all gates
  pub top-capped : (cap g : ℕ) → g < s.gates → cap ≡ get_or (tops_in s net (Some cap)) g 0
  unfolding tops_in
  top-capped cap g h = sym (same-all s.gates cap g h)

  pub capped : (φ cap : ℕ) → φ * cap < room → Ceilings (wiring s net) φ (tops_in s net (Some cap))
  unfolding tops_in
  capped φ cap h = record {
    size = let e = length-replicate {A = ℕ} s.gates cap in omega arith;
    top = λ g l. rw (same-all s.gates cap g l) h;
  }

  -- each gate's own
  pub top-own : (g : ℕ) → get_or net (tops_at s.inputs s.gates + g) 0 ≡ get_or (tops_in s net None) g 0
  unfolding tops_in
  top-own g = sym (get_or-drop (tops_at s.inputs s.gates) net g 0)

  pub top-place : (g : ℕ) → g < s.gates → s.gates ≤ length (tops_in s net None) → tops_at s.inputs s.gates + g < length net
  unfolding tops_in
  top-place g l r = omega (arith, l, r, length-drop (tops_at s.inputs s.gates) net)

  pub tops-own : tops_in s net None ≡ drop (tops_at s.inputs s.gates) net
  unfolding tops_in
  tops-own = refl
