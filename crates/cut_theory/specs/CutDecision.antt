-- Whether a gate has a cut is decided: by the reach every cone lies in a finite box of copies, and its subsets can be tried.
use Rattle.std.specs.Prelude.{◌≡◌, refl, List, [], ◌∷◌, ◌++◌, map, ℕ, zero, suc, ◌+◌, ◌*◌, ◌≤◌, ◌<◌, length}
use Rattle.std.proofs.Common.{sym, subst, suc-le-suc, arith}
use Rattle.std.proofs.Math.Decide.{dec_le}
use Rattle.sequences.specs.Member.{◌∈◌, here, there, not_in_nil, Within, in_map, in_append_left, in_append_right}
use Rattle.sequences.specs.Decide.{all?, dec-×, dec-¬, up_to, in_up_to}
use Rattle.sequences.specs.Keep.{keep, keep_in, in_keep}
use Rattle.sequences.specs.Subsets.{subsets, keep_subset, any_subset?}
use Rattle.net_model.specs.Net.{Net, IsGate, size}
use Rattle.net_model.specs.Copies.{Copy, copy, IsCone, Leaf, IsLeaves, Cut}
use Rattle.cone_theory.specs.Basics.{Copy-dec, member?, leaves_of, leaves_unique}
use Rattle.cone_theory.specs.FewCopies.{gate_numbers, in_gate_numbers}
use Rattle.cone_theory.specs.Part.{is_cone?}
use Rattle.cone_theory.specs.Ranks.{Ranked}
use Rattle.cone_theory.specs.Reach.{reach_of, most, cut-reach}
use Rattle.cut_theory.specs.Choice.{same-cone, Choice, choose}

-- the copies of the given nodes up to d
unfoldable pub box_of : List ℕ → ℕ → List Copy
box_of [] d = []
box_of (u ∷ us) d = map (copy u) (up_to (suc d)) ++ box_of us d

pub in_box_of : (us : List ℕ) {u : ℕ} (d e : ℕ) → u ∈ us → e ≤ d → copy u e ∈ box_of us d
unfolding box_of
in_box_of [] d e m h = absurd (not_in_nil m)
in_box_of (w ∷ us) {u} d e m h = go (in_box_of us d e) m
  where
    go : (u ∈ us → e ≤ d → copy u e ∈ box_of us d) → u ∈ w ∷ us → copy u e ∈ map (copy w) (up_to (suc d)) ++ box_of us d
    go rest (here p) = in_append_left {l = map (copy w) (up_to (suc d))} (box_of us d) (rw p (in_map (copy w) (in_up_to (suc-le-suc h))))
    go rest (there i) = in_append_right (map (copy w) (up_to (suc d))) (rest i h)

-- the box that holds the cones with at most n leaves
unfoldable pub box : Net → ℕ → List Copy
unfolding box_of
box N n = box_of (gate_numbers N) (n * reach_of N)

-- s is the cone of a cut with at most n leaves
pub record CutSet (N : Net) (n v : ℕ) (A B : Copy → Type 0) (s : List Copy) : Type 0 where
  pub is_cone : IsCone N v s
  pub few : length (leaves_of N s).0 ≤ n
  pub allowed : (y : Copy) → y ∈ (leaves_of N s).0 → A y
  pub inside : (x : Copy) → x ∈ s → B x

pub cut_set_cut : {N : Net} {n v : ℕ} {A B : Copy → Type 0} {s : List Copy} → CutSet N n v A B s → Cut N n v A B
cut_set_cut {N} {s = s} c = record {
  cone = s;
  leaves = (leaves_of N s).0;
  is_cone = c.is_cone;
  is_leaves = (leaves_of N s).1;
  few = c.few;
  allowed = c.allowed;
  inside = c.inside;
}

unfoldable pub cut_set_leaves : {N : Net} {n v : ℕ} {A B : Copy → Type 0} {s : List Copy} → IsCone N v s → Dec (length (leaves_of N s).0 ≤ n)
    → Dec ((y : Copy) → y ∈ (leaves_of N s).0 → A y) → Dec ((x : Copy) → x ∈ s → B x) → Dec (CutSet N n v A B s)
cut_set_leaves i (no f) a b = no (λ c. f c.few)
cut_set_leaves i (yes f) (no a) b = no (λ c. a c.allowed)
cut_set_leaves i (yes f) (yes a) (no b) = no (λ c. b c.inside)
cut_set_leaves i (yes f) (yes a) (yes b) = yes (record { is_cone = i; few = f; allowed = a; inside = b })

module _ {N : Net} {v : ℕ} {A B : Copy → Type 0} (A? : (y : Copy) → Dec (A y)) (B? : (x : Copy) → Dec (B x)) (n : ℕ) where
  unfoldable pub cut_set_step : (s : List Copy) → Dec (IsCone N v s) → Dec (CutSet N n v A B s)
  unfolding cut_set_leaves
  cut_set_step s (no i) = no (λ c. i c.is_cone)
  cut_set_step s (yes i) =
      let L = (leaves_of N s).0 in
      let few = dec_le (length L) n in
      let allowed = all? L (λ y h. A? y) in
      let inside = all? s (λ x h. B? x) in
      cut_set_leaves i few allowed inside

  unfoldable pub cut_set? : (s : List Copy) → Dec (CutSet N n v A B s)
  unfolding cut_set_step
  cut_set? s = cut_set_step s (is_cone? N v s)

  -- a cut's cone, as one of the box's subsets
  module _ (R : Ranked N) where
    pub boxed : (K : Cut N n v A B) → List Copy
    boxed K = keep (λ x. member? x K.cone) (box N n)

    pub boxed_in : (K : Cut N n v A B) → Within K.cone (boxed K)
    unfolding boxed box
    boxed_in K x h =
        keep_in (λ c. member? c K.cone)
        (in_box_of (gate_numbers N) (n * reach_of N) x.back (in_gate_numbers (K.is_cone.gates x h)) (let a = cut-reach R K x h in omega arith)) h

    pub in_boxed : (K : Cut N n v A B) → Within (boxed K) K.cone
    unfolding boxed
    in_boxed K x h = (in_keep (λ c. member? c K.cone) (box N n) h).1

    pub boxed-set : (K : Cut N n v A B) → CutSet N n v A B (boxed K)
    boxed-set K =
        let e : (leaves_of N (boxed K)).0 ≡ K.leaves = leaves_unique (leaves_of N (boxed K)).1 K.is_leaves (in_boxed K) (boxed_in K) in
        record {
          is_cone = same-cone (boxed_in K) (in_boxed K) K.is_cone;
          few = rw e K.few;
          allowed = λ y h. K.allowed y (subst (λ (L : List Copy). y ∈ L) e h);
          inside = λ x h. K.inside x (in_boxed K x h);
        }

    pub boxed_subset : (K : Cut N n v A B) → boxed K ∈ subsets (box N n)
    unfolding boxed
    boxed_subset K = keep_subset (λ x. member? x K.cone) (box N n)

    unfoldable pub cut-found : Dec ((s : List Copy) × (s ∈ subsets (box N n)) × CutSet N n v A B s) → Dec (Cut N n v A B)
    cut-found (yes r) = yes (cut_set_cut r.2)
    cut-found (no m) = no (λ K. m (boxed K, boxed_subset K, boxed-set K))

    -- **Whether v has a cut with at most n leaves is decided**, whatever is decided about its leaves and members.
    unfoldable pub cut? : Dec (Cut N n v A B)
    unfolding cut-found cut_set? box
    cut? = cut-found (any_subset? (CutSet N n v A B) cut_set? (box N n))

-- The chosen cut exists wherever a cut does.
pub chosen_cut : {N : Net} {k v : ℕ} {A B : Copy → Type 0} → Ranked N → ((y : Copy) → Dec (A y)) → ((x : Copy) → Dec (B x)) → Cut N k v A B → Choice N k v A B
chosen_cut R A? B? K = choose (λ x n. cut? A? (λ z. dec-× (B? z) (dec-¬ (Copy-dec z x))) n R) (λ n. cut? A? B? n R) K
