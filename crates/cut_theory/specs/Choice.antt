-- The chosen cut: of the cuts with fewest leaves one has a cone inside all the others' cones, and only one does.
use Rattle.std.specs.Prelude.{◌≡◌, refl, List, [], ◌∷◌, ◌++◌, ◌⊎◌}
use Rattle.std.proofs.Common.{sym, subst, inl, inr, le_trans}
use Prim.Native.Nat.{ℕ, zero, suc, ◌+◌, ◌≤◌, ◌<◌}
use Rattle.std.proofs.Math.Decide.{dec_le}
use native.Mathlib.Omega.{arith}
use Rattle.std.proofs.Math.ListN.{length}
use Rattle.sequences.specs.Member.{◌∈◌, Within}
use Rattle.sequences.specs.Decide.{any?, dec-×, dec-¬, dec_stable}
use Rattle.sequences.specs.Distinct.{Distinct, pigeonhole, remove, length-remove, remove-cases, dedup, Dedup}
use Rattle.net_model.specs.Net.{Net, IsGate}
use Rattle.net_model.specs.Copies.{Copy, copy, IsCone, Leaf, IsLeaves, Cut, Chosen}
use Rattle.cone_theory.specs.Basics.{Copy-dec, member?, leaves_unique, leaf-same}
use Rattle.cone_theory.specs.Part.{leads_mono}
use Rattle.cut_theory.specs.Lattice.{meet_cut, meet_leaves, union_cut, union_leaves, cut_inequality, meet-distinct, meet_left, meet_right}

-- ---- a cut under other limits, and over another list of the same members

unfoldable pub widen : {N : Net} {m n v : ℕ} {A B : Copy → Type 0} → Cut N m v A B → m ≤ n → Cut N n v A B
widen K h = record {
  cone = K.cone;
  leaves = K.leaves;
  is_cone = K.is_cone;
  is_leaves = K.is_leaves;
  few = le_trans K.few h;
  allowed = K.allowed;
  inside = K.inside;
}

unfoldable pub tighten : {N : Net} {m n v : ℕ} {A B : Copy → Type 0} (K : Cut N m v A B) → length K.leaves ≤ n → Cut N n v A B
tighten K h = record {
  cone = K.cone;
  leaves = K.leaves;
  is_cone = K.is_cone;
  is_leaves = K.is_leaves;
  few = h;
  allowed = K.allowed;
  inside = K.inside;
}

-- the cone without a copy x
unfoldable pub without : {N : Net} {n v : ℕ} {A B : Copy → Type 0} (K : Cut N n v A B) (x : Copy) → ¬ (x ∈ K.cone) → Cut N n v A (λ z. B z × (¬ (z ≡ x)))
without K x h = record {
  cone = K.cone;
  leaves = K.leaves;
  is_cone = K.is_cone;
  is_leaves = K.is_leaves;
  few = K.few;
  allowed = K.allowed;
  inside = λ z m. (K.inside z m, λ e. h (subst (λ (c : Copy). c ∈ K.cone) e m));
}

unfoldable pub forget : {N : Net} {n v : ℕ} {A B : Copy → Type 0} (x : Copy) → Cut N n v A (λ z. B z × (¬ (z ≡ x))) → Cut N n v A B
forget x K = record {
  cone = K.cone;
  leaves = K.leaves;
  is_cone = K.is_cone;
  is_leaves = K.is_leaves;
  few = K.few;
  allowed = K.allowed;
  inside = λ z m. (K.inside z m).0;
}

pub same-cone : {N : Net} {v : ℕ} {C C' : List Copy} → Within C C' → Within C' C → IsCone N v C → IsCone N v C'
same-cone f g i = record {
  gates = λ c h. i.gates c (g c h);
  root = f _ i.root;
  leads = λ c h. leads_mono f (i.leads c (g c h));
}

pub same-leaves : {N : Net} {C C' L : List Copy} → Within C C' → Within C' C → IsLeaves N C L → IsLeaves N C' L
same-leaves f g l = record {
  rising = l.rising;
  sound = λ y h. leaf-same f g (l.sound y h);
  complete = λ y h. l.complete y (leaf-same g f h);
}

unfoldable pub same-cut : {N : Net} {n v : ℕ} {A B : Copy → Type 0} (K : Cut N n v A B) (C : List Copy) → Within K.cone C → Within C K.cone → Cut N n v A B
same-cut K C f g = record {
  cone = C;
  leaves = K.leaves;
  is_cone = same-cone f g K.is_cone;
  is_leaves = same-leaves f g K.is_leaves;
  few = K.few;
  allowed = K.allowed;
  inside = λ x h. K.inside x (g x h);
}

-- ---- uniqueness

-- two chosen cuts have the same cone and so the same leaves
pub chosen-cone : {N : Net} {k v : ℕ} {A B : Copy → Type 0} {K J : Cut N k v A B} → Chosen N k v A B K → Chosen N k v A B J → Within K.cone J.cone
chosen-cone {K = K} {J = J} c d = c.smallest J (let a = c.fewest J in let b = d.fewest K in omega arith)

pub chosen-leaves : {N : Net} {k v : ℕ} {A B : Copy → Type 0} {K J : Cut N k v A B} → Chosen N k v A B K → Chosen N k v A B J → K.leaves ≡ J.leaves
chosen-leaves {K = K} {J = J} c d = leaves_unique K.is_leaves J.is_leaves (chosen-cone c d) (chosen-cone d c)

-- ---- existence

-- a cut with fewest leaves
pub record Fewest (N : Net) (k v : ℕ) (A B : Copy → Type 0) : Type 0 where
  pub cut : Cut N k v A B
  pub fewest : (I : Cut N k v A B) → length cut.leaves ≤ length I.leaves

-- one of them whose cone lies inside the others'
pub record Choice (N : Net) (k v : ℕ) (A B : Copy → Type 0) : Type 0 where
  pub cut : Cut N k v A B
  pub chosen : Chosen N k v A B cut

module _ {N : Net} {k v : ℕ} {A B : Copy → Type 0} where
  -- with two cuts of fewest leaves their meet is one
  pub meet-fewest : (K J : Cut N k v A B) → ((I : Cut N k v A B) → length K.leaves ≤ length I.leaves) → length J.leaves ≡ length K.leaves
      → length (meet_leaves K J).0 ≤ length K.leaves
  unfolding union_cut
  meet-fewest K J fewest e = go (dec_le (length (union_leaves K J).0) k)
    where
      go : Dec (length (union_leaves K J).0 ≤ k) → length (meet_leaves K J).0 ≤ length K.leaves
      go (yes h) =
          let a = cut_inequality K J in
          let b : length K.leaves ≤ length (union_leaves K J).0 = fewest (union_cut K J k h) in
          omega arith
      go (no n) = let a = cut_inequality K J in let b = K.few in omega arith

  -- fewer leaves while there is a cut with fewer
  fewer : ((n : ℕ) → Dec (Cut N n v A B)) → (n : ℕ) (K : Cut N k v A B) → length K.leaves ≤ n → Fewest N k v A B
  unfolding widen tighten
  fewer cut? zero K h = record { cut = K; fewest = λ I. omega arith }
  fewer cut? (suc n) K h = go (fewer cut? n) (cut? n)
    where
      go : ((I : Cut N k v A B) → length I.leaves ≤ n → Fewest N k v A B) → Dec (Cut N n v A B) → Fewest N k v A B
      go rest (yes I) = limit (dec_le n k)
        where
          limit : Dec (n ≤ k) → Fewest N k v A B
          limit (yes m) = rest (widen I m) I.few
          limit (no m) = rest K (let b = K.few in omega arith)
      go rest (no m) = record { cut = K; fewest = λ I. least I (dec_le (length I.leaves) n) }
        where
          least : (I : Cut N k v A B) → Dec (length I.leaves ≤ n) → length K.leaves ≤ length I.leaves
          least I (yes a) = absurd (m (tighten I a))
          least I (no a) = omega arith

  pub fewest_cut : ((n : ℕ) → Dec (Cut N n v A B)) → Cut N k v A B → Fewest N k v A B
  fewest_cut cut? K = fewer cut? (length K.leaves) K (omega arith)

  -- a smaller cone while some member is outside the cone of another cut with as few leaves
  smaller : ((x : Copy) (n : ℕ) → Dec (Cut N n v A (λ z. B z × (¬ (z ≡ x))))) → (m : ℕ) (K : Cut N k v A B) → Distinct K.cone → length K.cone ≤ m
      → ((I : Cut N k v A B) → length K.leaves ≤ length I.leaves) → Choice N k v A B
  unfolding widen forget without tighten meet_cut
  smaller avoid? zero K d h fewest = record { cut = K; chosen = record { fewest = fewest; smallest = λ I e x m. absurd (nowhere m) } }
    where
      nowhere : {x : Copy} → x ∈ K.cone → ⊥
      nowhere m = let a = length-remove m in omega arith
  smaller avoid? (suc m) K d h fewest = go (smaller avoid? m) (any? K.cone (λ x i. avoid? x (length K.leaves)))
    where
      go : ((I : Cut N k v A B) → Distinct I.cone → length I.cone ≤ m → ((I' : Cut N k v A B) → length I.leaves ≤ length I'.leaves) → Choice N k v A B)
          → Dec ((x : Copy) × (x ∈ K.cone) × Cut N (length K.leaves) v A (λ z. B z × (¬ (z ≡ x)))) → Choice N k v A B
      go rest (yes r) = rest I (meet-distinct K.is_cone J.is_cone) short least
        where
          x : Copy
          x = r.0

          J : Cut N k v A B
          J = widen (forget x r.2) K.few

          equal : length J.leaves ≡ length K.leaves
          equal = let a = fewest J in let b = r.2.few in omega arith

          fits : length (meet_leaves K J).0 ≤ length K.leaves
          fits = meet-fewest K J fewest equal

          I : Cut N k v A B
          I = meet_cut K J k (le_trans fits K.few)

          -- x is not in the meet, so the meet is smaller
          inside : Within I.cone (remove r.1)
          inside c i = other (remove-cases r.1 c (meet_left K.is_cone J.is_cone c i))
            where
              other : (c ≡ x) ⊎ (c ∈ remove r.1) → c ∈ remove r.1
              other (inl e) = absurd ((r.2.inside c (meet_right K.is_cone J.is_cone c i)).1 e)
              other (inr j) = j

          short : length I.cone ≤ m
          short =
              let a : length I.cone ≤ length (remove r.1) = pigeonhole (meet-distinct K.is_cone J.is_cone) inside in
              let b = length-remove r.1 in
              omega arith

          least : (I' : Cut N k v A B) → length I.leaves ≤ length I'.leaves
          least I' = le_trans fits (fewest I')
      go rest (no n) = record {
        cut = K;
        chosen = record {
          fewest = fewest;
          smallest = λ I e x i. dec_stable (member? x I.cone) (λ o. n (x, i, without (tighten I (let a = e in omega arith)) x o));
        };
      }

  -- **Fewest leaves, smallest cone, exists** wherever a cut does.
  pub choose : ((x : Copy) (n : ℕ) → Dec (Cut N n v A (λ z. B z × (¬ (z ≡ x))))) → ((n : ℕ) → Dec (Cut N n v A B)) → Cut N k v A B → Choice N k v A B
  unfolding same-cut
  choose avoid? cut? K =
      let F = fewest_cut cut? K in
      let D = dedup Copy-dec F.cut.cone in
      let I = same-cut F.cut D.list D.contains D.within in
      smaller avoid? (length D.list) I D.distinct (omega arith) F.fewest
