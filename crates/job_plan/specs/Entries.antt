-- Laws of a cover kept in arrays: its LUTs are a map over its rising roots.
use Rattle.std.specs.Prelude.{◌≡◌, Bool, ℤ, pos}
use Rattle.std.proofs.Math.Path.{refl, ap₂}
use Rattle.std.proofs.Common.{ap, ◌∙◌}
use Rattle.std.proofs.Math.Bool.{true, false, cond}
use mathlib.Core.List.{List, [], ◌∷◌, map}
use Prim.Native.Nat.{ℕ, zero, suc, ◌+◌, ◌*◌, ◌≤◌, ◌<◌}
use Rattle.std.proofs.Math.Decide.{ℕ_discrete}
use native.Mathlib.Omega.{arith}
use borrow.Author.Tests.{eqb-true, eqb-false}
use Rattle.std.proofs.Math.Dec.{eqb}
use Rattle.std.proofs.Math.ListN.{get_or}
use Rattle.integers.specs.Lag.{lag}
use Rattle.net_model.specs.Arrays.{stride, copies_from}
use Rattle.sequences.specs.Member.{◌∈◌, here, there, not_in_nil}
use Rattle.cover_theory.specs.Key.{Entry, RisingNumbers}
use Rattle.cover_records.specs.Kept.{Kept, short_table, entry_at, entries_from, entries_in}

module _ (a : Kept) where
  -- the marked gates among n, from gate g on
  unfoldable pub roots_from : ℕ → ℕ → List ℕ
  roots_from g zero = []
  roots_from g (suc n) = cond (eqb (get_or a.marks g 0) 0) (roots_from (suc g) n) ((a.inputs + g) ∷ roots_from (suc g) n)

  pub entries-roots : (f : ℕ → Entry) (g n : ℕ) → ((h : ℕ) → g ≤ h → h < g + n → ¬ (get_or a.marks h 0 ≡ 0) → entry_at a h ≡ f (a.inputs + h)) → entries_from a g n ≡ map f (roots_from g n)
  unfolding entries_from roots_from
  entries-roots f g zero e = refl
  entries-roots f g (suc n) e = go (entries-roots f (suc g) n (λ h p q m. e h (omega arith) (omega arith) m)) (eqb (get_or a.marks g 0) 0) refl
    where
      go : entries_from a (suc g) n ≡ map f (roots_from (suc g) n) → (t : Bool) → eqb (get_or a.marks g 0) 0 ≡ t
          → cond t (entries_from a (suc g) n) (entry_at a g ∷ entries_from a (suc g) n) ≡ map f (cond t (roots_from (suc g) n) ((a.inputs + g) ∷ roots_from (suc g) n))
      go rest true q = rest
      go rest false q = ap₂ {C = List Entry} ◌∷◌ (e g (omega arith) (omega arith) (eqb-false (get_or a.marks g 0) 0 q)) rest

  pub roots_in : (g n : ℕ) (v : ℕ) → v ∈ roots_from g n → (h : ℕ) × (g ≤ h) × (h < g + n) × (¬ (get_or a.marks h 0 ≡ 0)) × (v ≡ a.inputs + h)
  unfolding roots_from
  roots_in g zero v m = absurd (not_in_nil m)
  roots_in g (suc n) v m = go (λ i. let r = roots_in (suc g) n v i in (r.0, omega (arith, r.1), omega (arith, r.2), r.3, r.4)) (eqb (get_or a.marks g 0) 0) refl m
    where
      go : (v ∈ roots_from (suc g) n → (h : ℕ) × (g ≤ h) × (h < g + suc n) × (¬ (get_or a.marks h 0 ≡ 0)) × (v ≡ a.inputs + h)) → (t : Bool) → eqb (get_or a.marks g 0) 0 ≡ t → v ∈ cond t (roots_from (suc g) n) ((a.inputs + g) ∷ roots_from (suc g) n)
          → (h : ℕ) × (g ≤ h) × (h < g + suc n) × (¬ (get_or a.marks h 0 ≡ 0)) × (v ≡ a.inputs + h)
      go later true q i = later i
      go later false q (here e) = (g, omega arith, omega arith, eqb-false (get_or a.marks g 0) 0 q, e)
      go later false q (there i) = later i

  pub in_roots : (g n h : ℕ) → g ≤ h → h < g + n → ¬ (get_or a.marks h 0 ≡ 0) → a.inputs + h ∈ roots_from g n
  unfolding roots_from
  in_roots g zero h p q m = absurd (empty p q)
    where
      empty : g ≤ h → h < g + 0 → ⊥
      empty p q = omega arith
  in_roots g (suc n) h p q m = go (λ d. in_roots (suc g) n h (omega arith) (omega arith) m) (eqb (get_or a.marks g 0) 0) refl (ℕ_discrete h g)
    where
      go : (¬ (h ≡ g) → a.inputs + h ∈ roots_from (suc g) n) → (t : Bool) → eqb (get_or a.marks g 0) 0 ≡ t → Dec (h ≡ g) → a.inputs + h ∈ cond t (roots_from (suc g) n) ((a.inputs + g) ∷ roots_from (suc g) n)
      go later true z (yes e) = absurd (m (ap (λ (x : ℕ). get_or a.marks x 0) e ∙ eqb-true (get_or a.marks g 0) 0 z))
      go later true z (no d) = later d
      go later false z (yes e) = here (ap (λ (x : ℕ). a.inputs + x) e)
      go later false z (no d) = there (later d)

  pub roots-rising : (g n : ℕ) → RisingNumbers (roots_from g n)
  unfolding roots_from
  roots-rising g zero = tt
  roots-rising g (suc n) = go (roots-rising (suc g) n) (eqb (get_or a.marks g 0) 0)
    where
      go : RisingNumbers (roots_from (suc g) n) → (t : Bool) → RisingNumbers (cond t (roots_from (suc g) n) ((a.inputs + g) ∷ roots_from (suc g) n))
      go rest true = rest
      go rest false = (λ b i. let r = roots_in (suc g) n b i in omega (arith, r.1, r.4), rest)

-- ---- labels that agree on the gates

-- the same cover with other labels
abbrev pub with_labels : Kept → List ℤ → Kept
with_labels a ls = record {
  inputs = a.inputs;
  gates = a.gates;
  period = a.period;
  labels = ls;
  marks = a.marks;
  sizes = a.sizes;
  nodes = a.nodes;
  backs = a.backs;
  tables = a.tables;
}

pub entries-labels : (a : Kept) (ls : List ℤ) (g n : ℕ) → ((h : ℕ) → g ≤ h → h < g + n → get_or a.labels (a.inputs + h) (pos 0) ≡ get_or ls (a.inputs + h) (pos 0)) → entries_from a g n ≡ entries_from (with_labels a ls) g n
unfolding entries_from entry_at
entries-labels a ls g zero e = refl
entries-labels a ls g (suc n) e = go (entries-labels a ls (suc g) n (λ h p q. e h (omega arith) (omega arith))) (eqb (get_or a.marks g 0) 0)
  where
    here-entry : entry_at a g ≡ entry_at (with_labels a ls) g
    here-entry = λ i. record {
      root = a.inputs + g;
      leaves = copies_from a.nodes a.backs (stride * g) (get_or a.sizes g 0);
      lag = lag a.period (e g (omega arith) (omega arith) i);
      table = short_table (get_or a.sizes g 0) (get_or a.tables g 0);
    }

    go : entries_from a (suc g) n ≡ entries_from (with_labels a ls) (suc g) n → (t : Bool)
        → cond t (entries_from a (suc g) n) (entry_at a g ∷ entries_from a (suc g) n) ≡ cond t (entries_from (with_labels a ls) (suc g) n) (entry_at (with_labels a ls) g ∷ entries_from (with_labels a ls) (suc g) n)
    go rest true = rest
    go rest false = ap₂ {C = List Entry} ◌∷◌ here-entry rest

pub entries_in_lem : (a : Kept) (ls : List ℤ) → ((h : ℕ) → h < a.gates → get_or a.labels (a.inputs + h) (pos 0) ≡ get_or ls (a.inputs + h) (pos 0)) → entries_in a ≡ entries_in (with_labels a ls)
unfolding entries_in
entries_in_lem a ls e = entries-labels a ls 0 a.gates (λ h p q. e h (omega arith))
