-- The walk from a root to its leaves: what the list of met copies keeps, what ends the walk, and what the end means.
use Rattle.std.specs.Prelude.{refl, List, [], ◌∷◌, ◌++◌, ◌⊎◌, ℕ, ◌+◌, ◌*◌, ◌≤◌, ◌<◌, length}
use Rattle.std.proofs.Common.{sym, subst, inl, inr, lt_irrefl, arith, length-append}
use Rattle.sequences.specs.Member.{◌∈◌, here, there, not_in_nil, in_equal, Within, in_append_left, in_append_cases}
use Rattle.sequences.specs.Distinct.{Distinct, distinct_nil, distinct_cons, distinct_append}
use Rattle.net_model.specs.Net.{Net, IsGate}
use Rattle.net_model.specs.Wired.{Wired}
use Rattle.net_model.specs.Copies.{Copy, copy, Feeds, Leads, IsCone, IsLeaves, IsCut, Rising}
use Rattle.cone_theory.specs.Basics.{member?}
use Rattle.cone_theory.specs.Part.{leads_mono}
use Rattle.cone_theory.specs.Ranks.{Ranked}
use Rattle.cone_theory.specs.FewCopies.{few-members}

-- ---- what the list of met copies keeps

-- The copies C met on the walk from v with the leaves L: gate copies that lead to v:0 in C, each once, no leaves, and in every cone of v with these leaves.
pub record Walked (N : Net) (v : ℕ) (L C : List Copy) : Type 0 where
  pub gates : (c : Copy) → c ∈ C → IsGate N c.node
  pub root : copy v 0 ∈ C
  pub leads : (c : Copy) → c ∈ C → Leads N C (copy v 0) c
  pub distinct : Distinct C
  pub apart : (c : Copy) → c ∈ C → ¬ (c ∈ L)
  pub inside : (K : List Copy) → IsCone N v K → IsLeaves N K L → Within C K

-- what feeds x is in C or a leaf
abbrev pub Closed : Net → List Copy → List Copy → Copy → Type 0
Closed N L C x = (y : Copy) → Feeds N y x → (y ∈ C) ⊎ (y ∈ L)

-- no cone of v has these leaves
abbrev pub Refuted : Net → ℕ → List Copy → Type 0
Refuted N v L = (K : List Copy) → IsCone N v K → IsLeaves N K L → ⊥

-- what feeds a member of a cone and is no leaf is a member
fed-inside : {N : Net} {K L : List Copy} {x y : Copy} → IsLeaves N K L → x ∈ K → Feeds N y x → ¬ (y ∈ L) → y ∈ K
fed-inside {N} {K} {L} {x} {y} l m f n = go (member? y K)
  where
    go : Dec (y ∈ K) → y ∈ K
    go (yes k) = k
    go (no k) = absurd (n (l.complete y (record { outside = k; member = x; is_member = m; feeds = f })))

module _ {N : Net} {v : ℕ} {L : List Copy} where
  -- the root alone
  pub walked-root : IsGate N v → ¬ (copy v 0 ∈ L) → Walked N v L (copy v 0 ∷ [])
  walked-root g n = record {
    gates = λ c m. gates c m;
    root = here refl;
    leads = λ c m. leads c m;
    distinct = distinct_cons not_in_nil distinct_nil;
    apart = λ c m k. apart c m k;
    inside = λ K i l c m. inside K i c m;
  }
    where
      gates : (c : Copy) → c ∈ copy v 0 ∷ [] → IsGate N c.node
      gates c (here e) = subst (λ (x : Copy). IsGate N x.node) (sym e) g
      gates c (there m) = absurd (not_in_nil m)

      leads : (c : Copy) → c ∈ copy v 0 ∷ [] → Leads N (copy v 0 ∷ []) (copy v 0) c
      leads c (here e) = Leads.stop e
      leads c (there m) = absurd (not_in_nil m)

      apart : (c : Copy) → c ∈ copy v 0 ∷ [] → c ∈ L → ⊥
      apart c (here e) k = n (in_equal (sym e) k)
      apart c (there m) k = absurd (not_in_nil m)

      inside : (K : List Copy) → IsCone N v K → (c : Copy) → c ∈ copy v 0 ∷ [] → c ∈ K
      inside K i c (here e) = in_equal e i.root
      inside K i c (there m) = absurd (not_in_nil m)

  -- one copy more
  pub walked_more : {C : List Copy} (x y : Copy) → Walked N v L C → x ∈ C → Feeds N y x → IsGate N y.node → ¬ (y ∈ L) → ¬ (y ∈ C) → Walked N v L (C ++ (y ∷ []))
  walked_more {C} x y w m f g nl nc = record {
    gates = λ c k. gates c (in_append_cases C k);
    root = in_append_left (y ∷ []) w.root;
    leads = λ c k. leads c (in_append_cases C k);
    distinct = distinct_append w.distinct (distinct_cons not_in_nil distinct_nil) (λ a h k. other a h k);
    apart = λ c k. apart c (in_append_cases C k);
    inside = λ K i l c k. inside K i l c (in_append_cases C k);
  }
    where
      gates : (c : Copy) → (c ∈ C) ⊎ (c ∈ y ∷ []) → IsGate N c.node
      gates c (inl k) = w.gates c k
      gates c (inr (here e)) = subst (λ (z : Copy). IsGate N z.node) (sym e) g
      gates c (inr (there k)) = absurd (not_in_nil k)

      longer : (c : Copy) → c ∈ C → Leads N (C ++ (y ∷ [])) (copy v 0) c
      longer c k = leads_mono (λ a h. in_append_left (y ∷ []) h) (w.leads c k)

      leads : (c : Copy) → (c ∈ C) ⊎ (c ∈ y ∷ []) → Leads N (C ++ (y ∷ [])) (copy v 0) c
      leads c (inl k) = longer c k
      leads c (inr (here e)) = Leads.step x (in_append_left (y ∷ []) m) (subst (λ (z : Copy). Feeds N z x) (sym e) f) (longer x m)
      leads c (inr (there k)) = absurd (not_in_nil k)

      other : (a : Copy) → a ∈ C → a ∈ y ∷ [] → ⊥
      other a h (here e) = nc (in_equal (sym e) h)
      other a h (there k) = not_in_nil k

      apart : (c : Copy) → (c ∈ C) ⊎ (c ∈ y ∷ []) → ¬ (c ∈ L)
      apart c (inl k) = w.apart c k
      apart c (inr (here e)) = λ k. nl (in_equal (sym e) k)
      apart c (inr (there k)) = absurd (not_in_nil k)

      inside : (K : List Copy) → IsCone N v K → IsLeaves N K L → (c : Copy) → (c ∈ C) ⊎ (c ∈ y ∷ []) → c ∈ K
      inside K i l c (inl k) = w.inside K i l c k
      inside K i l c (inr (here e)) = in_equal e (fed-inside l (w.inside K i l x m) f nl)
      inside K i l c (inr (there k)) = absurd (not_in_nil k)

  -- ---- ways in which there is no cut

  -- the root is a leaf
  pub refuted-root : copy v 0 ∈ L → Refuted N v L
  refuted-root h K i l = (l.sound (copy v 0) h).outside i.root

  -- an input that is no leaf feeds a copy
  pub refuted-input : {C : List Copy} (x y : Copy) → Walked N v L C → x ∈ C → Feeds N y x → ¬ IsGate N y.node → ¬ (y ∈ L) → Refuted N v L
  refuted-input x y w m f n nl K i l = n (i.gates y (fed-inside l (w.inside K i l x m) f nl))

  -- more copies than leaves times gates
  pub refuted-full : Ranked N → {C : List Copy} (x y : Copy) → Walked N v L C → x ∈ C → Feeds N y x → IsGate N y.node → ¬ (y ∈ L) → ¬ (y ∈ C)
      → length L * length N.gates ≤ length C → Refuted N v L
  refuted-full R {C} x y w m f g nl nc full K i l =
      let s = walked_more x y w m f g nl nc in
      let a = few-members R i.gates l (C ++ (y ∷ [])) s.distinct (s.inside K i l) in
      let b = length-append C (y ∷ []) in
      lt_irrefl (length C) (omega arith)

  -- ---- the end

  -- where everything that feeds C is in C or a leaf, each cone of v with these leaves is C
  pub closed_all : {C : List Copy} → Walked N v L C → ((x : Copy) → x ∈ C → Closed N L C x) → (K : List Copy) → IsCone N v K → IsLeaves N K L → Within K C
  closed_all {C} w closed K i l c m = go c m (i.leads c m)
    where
      settle : (y : Copy) → y ∈ K → (y ∈ C) ⊎ (y ∈ L) → y ∈ C
      settle y k (inl h) = h
      settle y k (inr h) = absurd ((l.sound y h).outside k)

      go : (y : Copy) → y ∈ K → Leads N K (copy v 0) y → y ∈ C
      go y k (Leads.stop e) = in_equal e w.root
      go y k (Leads.step x mx f d) = settle y k (closed x (go x mx d) y f)

  pub walked-cone : {C : List Copy} → Walked N v L C → IsCone N v C
  walked-cone w = record { gates = w.gates; root = w.root; leads = w.leads }

  pub walked-leaves : {C : List Copy} → Rising L → Walked N v L C → ((x : Copy) → x ∈ C → Closed N L C x)
      → ((y : Copy) → y ∈ L → (x : Copy) × (x ∈ C) × Feeds N y x) → IsLeaves N C L
  walked-leaves {C} rising w closed touched = record {
    rising = rising;
    sound = λ y h. let t = touched y h in record { outside = λ k. w.apart y k h; member = t.0; is_member = t.1; feeds = t.2 };
    complete = λ y l. settle y l.outside (closed l.member l.is_member y l.feeds);
  }
    where
      settle : (y : Copy) → ¬ (y ∈ C) → (y ∈ C) ⊎ (y ∈ L) → y ∈ L
      settle y n (inl k) = absurd (n k)
      settle y n (inr k) = k

pub refuted-cut : {N : Net} {v : ℕ} {L : List Copy} → Refuted N v L → (k : ℕ) → ¬ IsCut N k v L
refuted-cut r k c = r c.cone c.is_cone c.is_leaves

-- ---- gates and inputs

module _ {N : Net} {I G : ℕ} {ps sources counts : List ℕ} (w : Wired N I G ps sources counts) where
  pub node-gate : (u : ℕ) → I ≤ u → u < I + G → IsGate N u
  node-gate u h k = let a = w.inputs in let b = w.gates in record { low = omega arith; high = omega arith }

  pub input_no_gate : (u : ℕ) → u < I → ¬ IsGate N u
  input_no_gate u h g = let a = w.inputs in let b = g.low in lt_irrefl u (omega arith)
