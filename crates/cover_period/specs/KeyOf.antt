-- Where the target is reachable, all that the written cover consists of exists: chosen cuts by their existence, chosen roots by growing them from the outputs.
use Rattle.std.specs.Prelude.{◌≡◌, refl, ◌⊎◌, ℕ, zero, suc, ◌+◌, ◌≤◌, ◌<◌, ℤ, pos, length, ◌≤ℤ◌}
use Rattle.std.proofs.Common.{sym, subst, ◌∙◌, inl, inr, arith}
use Rattle.std.proofs.Math.Path.{ap}
use mathlib.Core.List.{List, [], ◌∷◌, map}
use Rattle.std.proofs.Math.Bridge.{le_prop}
use Rattle.std.proofs.Math.Decide.{ℕ_discrete}
use Rattle.integers.specs.Order.{≤ℤ?}
use Rattle.integers.specs.Height.{height}
use Rattle.integers.specs.Lag.{lag}
use Rattle.sequences.specs.Member.{◌∈◌, here, there, not_in_nil, in_map, map_in}
use Rattle.sequences.specs.Keep.{keep, keep_in, in_keep}
use Rattle.sequences.specs.Rising.{Rising, rising_nil, rising_cons, rising-keep, rising-count-from}
use Rattle.sequences.specs.Grow.{Reach, reach?}
use Rattle.net_model.specs.Net.{Net, Pin, IsGate, IsInput, IsNode, size}
use Rattle.net_model.specs.Checks.{Sound, Passed}
use Rattle.net_model.specs.Copies.{Copy, copy, Cut, Chosen}
use Rattle.net_model.specs.Tables.{table_of}
use Rattle.cone_theory.specs.Basics.{is_gate?}
use Rattle.cone_theory.specs.FewCopies.{gate_numbers, in_gate_numbers, gate_numbers_in}
use Rattle.cone_theory.specs.Ranks.{Ranked, ranked}
use Rattle.cut_theory.specs.Choice.{Choice}
use Rattle.cut_theory.specs.CutDecision.{chosen_cut}
use Rattle.label_theory.specs.Labels.{Mode, Inside, Low, LowCutIn, OutputsMet, ReachableIn}
use Rattle.label_theory.specs.Lower.{input_or_gate, leaf-node}
use Rattle.label_theory.specs.Modes.{inside?}
use Rattle.label_bounds.specs.LabelDecision.{reachable?}
use Rattle.cover_theory.specs.Key.{KeyIn, Root, source, leaf, RisingNumbers, Entry, entries, HasLut}
use Rattle.cover_period.specs.Written.{LabelledIn}

pub gate_prop : {N : Net} {v : ℕ} (g h : IsGate N v) → g ≡ h
gate_prop g h = λ i. record { low = le_prop g.low h.low i; high = le_prop g.high h.high i }

-- ---- the chosen roots

module _ (N : Net) (leaves : ℕ → List Copy) where
  -- what node x brings in: the outputs' sources for the node behind the last, a gate's leaves for a gate
  unfoldable pub brings_at : (x : ℕ) → Dec (x ≡ size N) → List ℕ
  brings_at x (yes e) = map (λ (o : Pin). o.src) N.outputs
  brings_at x (no n) = map (λ (y : Copy). y.node) (leaves x)

  unfoldable pub brings : ℕ → List ℕ
  unfolding brings_at
  brings x = brings_at x (ℕ_discrete x (size N))

  unfoldable pub root_of? : (v : ℕ) → Dec (Reach brings (size N ∷ gate_numbers N) (size N) v)
  unfolding brings
  root_of? = reach? ℕ_discrete brings (size N ∷ gate_numbers N) (size N) (here refl)

  unfoldable pub root_list : List ℕ
  unfolding root_of?
  root_list = keep root_of? (gate_numbers N)

  at-start : (x : ℕ) → x ≡ size N → (y : ℕ) → y ∈ brings x → y ∈ map (λ (o : Pin). o.src) N.outputs
  unfolding brings brings_at
  at-start x e y = go (ℕ_discrete x (size N))
    where
      go : (d : Dec (x ≡ size N)) → y ∈ brings_at x d → y ∈ map (λ (o : Pin). o.src) N.outputs
      go (yes q) m = m
      go (no n) m = absurd (n e)

  at-gate : (x : ℕ) → IsGate N x → (y : ℕ) → y ∈ brings x → y ∈ map (λ (z : Copy). z.node) (leaves x)
  unfolding brings brings_at
  at-gate x g y = go (ℕ_discrete x (size N))
    where
      go : (d : Dec (x ≡ size N)) → y ∈ brings_at x d → y ∈ map (λ (z : Copy). z.node) (leaves x)
      go (yes q) m = absurd (beyond q)
        where
          beyond : x ≡ size N → ⊥
          beyond q = omega (arith, g)
      go (no n) m = m

  from_start : (y : ℕ) → y ∈ map (λ (o : Pin). o.src) N.outputs → y ∈ brings (size N)
  unfolding brings brings_at
  from_start y m = go (ℕ_discrete (size N) (size N))
    where
      go : (d : Dec (size N ≡ size N)) → y ∈ brings_at (size N) d
      go (yes q) = m
      go (no n) = absurd (n refl)

  from-gate : (x : ℕ) → IsGate N x → (y : ℕ) → y ∈ map (λ (z : Copy). z.node) (leaves x) → y ∈ brings x
  unfolding brings brings_at
  from-gate x g y m = go (ℕ_discrete x (size N))
    where
      go : (d : Dec (x ≡ size N)) → y ∈ brings_at x d
      go (yes q) = absurd (beyond q)
        where
          beyond : x ≡ size N → ⊥
          beyond q = omega (arith, g)
      go (no n) = m

  pub root-gate : {v : ℕ} → Root N leaves v → IsGate N v
  root-gate (source o i e g) = g
  root-gate (leaf u y r m e g) = g

  reach-root : {v : ℕ} → Reach brings (size N ∷ gate_numbers N) (size N) v → (v ≡ size N) ⊎ Root N leaves v
  reach-root (Reach.stop e) = inl e
  reach-root {v} (Reach.step x r m u) = go (reach-root r) u
    where
      from : (x ≡ size N) ⊎ Root N leaves x → IsGate N v → Root N leaves v
      from (inl e) g = let t = map_in (λ (o : Pin). o.src) N.outputs (at-start x e v m) in source t.0 t.1 (sym t.2) g
      from (inr rx) g =
          let t = map_in (λ (z : Copy). z.node) (leaves x) (at-gate x (root-gate rx) v m) in
          leaf x t.0 rx t.1 (sym t.2) g

      go : (x ≡ size N) ⊎ Root N leaves x → v ∈ size N ∷ gate_numbers N → (v ≡ size N) ⊎ Root N leaves v
      go h (here e) = inl e
      go h (there i) = inr (from h (gate_numbers_in i))

  root-reach : {v : ℕ} → Root N leaves v → Reach brings (size N ∷ gate_numbers N) (size N) v
  root-reach {v} (source o i e g) =
      Reach.step (size N) (Reach.stop refl) (from_start v (subst (λ (s : ℕ). s ∈ map (λ (p : Pin). p.src) N.outputs) e (in_map (λ (p : Pin). p.src) i))) (there (in_gate_numbers g))
  root-reach {v} (leaf u y r m e g) =
      Reach.step u (root-reach r)
      (from-gate u (root-gate r) v (subst (λ (s : ℕ). s ∈ map (λ (z : Copy). z.node) (leaves u)) e (in_map (λ (z : Copy). z.node) m))) (there (in_gate_numbers g))

  pub root_list-root : (v : ℕ) → v ∈ root_list → Root N leaves v
  unfolding root_list
  root_list-root v h = go (in_keep root_of? (gate_numbers N) h)
    where
      go : (v ∈ gate_numbers N) × Reach brings (size N ∷ gate_numbers N) (size N) v → Root N leaves v
      go (i, r) = pick (reach-root r)
        where
          pick : (v ≡ size N) ⊎ Root N leaves v → Root N leaves v
          pick (inl e) = absurd (beyond e)
            where
              beyond : v ≡ size N → ⊥
              beyond e = omega (arith, gate_numbers_in i)
          pick (inr q) = q

  pub root-root_list : (v : ℕ) → Root N leaves v → v ∈ root_list
  unfolding root_list
  root-root_list v r = keep_in root_of? (in_gate_numbers (root-gate r)) (root-reach r)

pub numbers-rising : {l : List ℕ} → Rising ◌<◌ l → RisingNumbers l
numbers-rising rising_nil = tt
numbers-rising (rising_cons a r) = (a, numbers-rising r)

pub rising-gates : (N : Net) → Rising ◌<◌ (gate_numbers N)
unfolding gate_numbers
rising-gates N = rising-count-from N.inputs (length N.gates)

-- ---- the key

module _ {M : Mode} {N : Net} {k : ℕ} (P : Passed N k) {φ : ℕ} (r : ReachableIn M N k φ) where
  unfoldable pub choice : (v : ℕ) → IsGate N v → Choice N k v (Low φ r.label (r.label v)) (Inside M φ (r.label v))
  unfolding inside?
  choice v g = chosen_cut (ranked P.reached) (λ y. ≤ℤ? (height φ (r.label y.node) y.back) (r.label v)) (inside? M φ (r.label v)) (r.least.labelling.gates v g)

  unfoldable pub leaves_at : (v : ℕ) → Dec (IsGate N v) → List Copy
  unfolding choice
  leaves_at v (yes g) = (choice v g).cut.leaves
  leaves_at v (no n) = []

  unfoldable pub cone_at : (v : ℕ) → Dec (IsGate N v) → List Copy
  unfolding choice
  cone_at v (yes g) = (choice v g).cut.cone
  cone_at v (no n) = []

  unfoldable pub chosen_leaves : ℕ → List Copy
  unfolding leaves_at
  chosen_leaves v = leaves_at v (is_gate? N v)

  pub leaves_at-is : (v : ℕ) (g : IsGate N v) (d : Dec (IsGate N v)) → leaves_at v d ≡ (choice v g).cut.leaves
  unfolding leaves_at
  leaves_at-is v g (yes g') = ap (λ (h : IsGate N v). (choice v h).cut.leaves) (gate_prop g' g)
  leaves_at-is v g (no n) = absurd (n g)

  pub cone_at-is : (v : ℕ) (g : IsGate N v) (d : Dec (IsGate N v)) → cone_at v d ≡ (choice v g).cut.cone
  unfolding cone_at
  cone_at-is v g (yes g') = ap (λ (h : IsGate N v). (choice v h).cut.cone) (gate_prop g' g)
  cone_at-is v g (no n) = absurd (n g)

  -- **The key of a reachable target.**
  unfoldable pub key_of : KeyIn M N k φ
  unfolding chosen_leaves cone_at choice root_list
  key_of = record {
    label = r.label;
    least = r.least;
    outputs = r.outputs;
    cut = λ v g. (choice v g).cut;
    chosen = λ v g. (choice v g).chosen;
    leaves = chosen_leaves;
    cone = λ v. cone_at v (is_gate? N v);
    is_leaves = λ v g. leaves_at-is v g (is_gate? N v);
    is_cone = λ v g. cone_at-is v g (is_gate? N v);
    roots = root_list N chosen_leaves;
    rising = numbers-rising (rising-keep (root_of? N chosen_leaves) (rising-gates N));
    is_root = root_list-root N chosen_leaves;
    all_roots = root-root_list N chosen_leaves;
  }

-- ---- the entries of a key

module _ {M : Mode} {N : Net} {k φ : ℕ} (K : KeyIn M N k φ) where
  abbrev pub entry_of : ℕ → Entry
  entry_of v = record { root = v; leaves = K.leaves v; lag = lag φ (K.label v); table = table_of N v (K.cone v) (K.leaves v) }

  pub entries_in_lem : {e : Entry} → e ∈ entries K → (v : ℕ) × (v ∈ K.roots) × (e ≡ entry_of v)
  unfolding entries
  entries_in_lem m = map_in entry_of K.roots m

  pub in_entries : {v : ℕ} → v ∈ K.roots → entry_of v ∈ entries K
  unfolding entries
  in_entries m = in_map entry_of m

  pub roots-gate : (v : ℕ) → v ∈ K.roots → IsGate N v
  roots-gate v m = root-gate N K.leaves (K.is_root v m)

  has-lut : (v : ℕ) → Root N K.leaves v → HasLut (entries K) v
  has-lut v r = (entry_of v, in_entries (K.all_roots v r), refl)

  -- **A key's entries are labelled**, so they form a cover that meets φ.
  pub key-labelled : LabelledIn M N k φ K.label (entries K)
  key-labelled = record {
    gate = λ e m. let t = entries_in_lem m in subst (λ (x : Entry). IsGate N x.root) (sym t.2) (roots-gate t.0 t.1);
    cut = λ e m.
        let t = entries_in_lem m in
        let g = roots-gate t.0 t.1 in
        subst (λ (x : Entry). (J : LowCutIn M N k φ K.label x.root (K.label x.root)) × (x.leaves ≡ J.leaves)) (sym t.2) (K.cut t.0 g, K.is_leaves t.0 g);
    lags = λ e m. let t = entries_in_lem m in subst (λ (x : Entry). x.lag ≡ lag φ (K.label x.root)) (sym t.2) refl;
    closed = λ e m y i g.
        let t = entries_in_lem m in
        let j : y ∈ K.leaves t.0 = subst (λ (x : Entry). y ∈ x.leaves) t.2 i in
        has-lut y.node (leaf t.0 y (K.is_root t.0 t.1) j refl g);
    sources = λ o i g. has-lut o.src (source o i refl g);
  }
