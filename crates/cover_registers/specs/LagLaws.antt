-- The lag written for a node, and the connections and outputs, over the arrays.
use Rattle.std.specs.Prelude.{◌≡◌, Bool, true, false, cond, eqb, ℤ, pos, ◌+ℤ◌, ◌-ℤ◌, get_or}
use Rattle.std.proofs.Math.Path.{refl, sym, ap, ap₂}
use Rattle.std.proofs.Common.{◌∙◌, subst, zero-add, add-zero, add-suc, suc-add, add-one, arith, eq-eqb, ne_eqb}
use mathlib.Core.List.{List, [], ◌∷◌, ◌++◌, append_assoc, append-nil}
use Prim.Native.Nat.{ℕ, zero, suc, ◌+◌, ◌*◌, ◌≤◌, ◌<◌}
use Rattle.integers.specs.Lag.{lag}
use Rattle.net_model.specs.Arrays.{stride, copies_from, pins_in}
use Rattle.net_model.specs.Copies.{Copy}
use Rattle.net_model.specs.Net.{Net, Pin, size}
use Rattle.limits.specs.Limits.{most_gates, most_nodes}
use Rattle.sequences.specs.Member.{◌∈◌}
use Rattle.cover_theory.specs.Key.{Entry}
use Rattle.cover_theory.specs.SharedRegisters.{Tap, tap, shared_count}
use Rattle.cover_theory.proofs.SharedLaws.{count-beyond}
use Rattle.cover_records.specs.Kept.{Kept, kept, entry_at, entries_from, entries_in, label_at}
use Rattle.cover_records.specs.Listing.{lag_in, leaf_taps, lut_taps, output_taps, entry_taps, register_count}
use Rattle.cover_writer.specs.Writing.{ArraysHeld, LutsHeld}
use Rattle.cover_writer.specs.CoverBytesLaws.{entries-split}
use Rattle.cover_registers.specs.Counting.{marking, lags_of, taps_of, registers_of, LeavesHeld}

-- ---- the lag of a node

-- another gate's LUT does not matter
skip : (a : Kept) (g n u : ℕ) → (a.inputs + g ≡ u → ⊥) → lag_in (entries_from a g (suc n)) u ≡ lag_in (entries_from a (suc g) n) u
unfolding entries_from entry_at lag_in
skip a g n u h = go (eqb (get_or a.marks g 0) 0)
  where
    go : (t : Bool) → lag_in (cond t (entries_from a (suc g) n) (entry_at a g ∷ entries_from a (suc g) n)) u ≡ lag_in (entries_from a (suc g) n) u
    go true = refl
    go false = rw (ne_eqb (a.inputs + g) u h) refl

none : (a : Kept) (g n u : ℕ) → ((j : ℕ) → j < n → a.inputs + (g + j) ≡ u → ⊥) → lag_in (entries_from a g n) u ≡ pos 0
none a g zero u h = unfold entries_from lag_in in refl
none a g (suc n) u h =
    skip a g n u (λ e. h 0 (omega arith) (ap (λ (i : ℕ). a.inputs + i) (add-zero g) ∙ e))
    ∙ none a (suc g) n u (λ j l e. h (suc j) (omega arith) (ap (λ (i : ℕ). a.inputs + i) (add-suc g j ∙ sym (suc-add g j)) ∙ e))

-- its own LUT, or none
own : (a : Kept) (g n : ℕ) → lag_in (entries_from a g (suc n)) (a.inputs + g) ≡ cond (eqb (get_or a.marks g 0) 0) (pos 0) (lag a.period (label_at a (a.inputs + g)))
unfolding entries_from entry_at lag_in
own a g n = go (eqb (get_or a.marks g 0) 0) (none a (suc g) n (a.inputs + g) (λ j l e. omega arith))
  where
    go : (t : Bool) → lag_in (entries_from a (suc g) n) (a.inputs + g) ≡ pos 0
        → lag_in (cond t (entries_from a (suc g) n) (entry_at a g ∷ entries_from a (suc g) n)) (a.inputs + g) ≡ cond t (pos 0) (lag a.period (label_at a (a.inputs + g)))
    go true h = h
    go false h = rw (eq-eqb (a.inputs + g) (a.inputs + g) refl) refl

found : (a : Kept) (g n j : ℕ) → j < n → lag_in (entries_from a g n) (a.inputs + (g + j)) ≡ cond (eqb (get_or a.marks (g + j) 0) 0) (pos 0) (lag a.period (label_at a (a.inputs + (g + j))))
found a g zero j h = absurd (omega arith)
found a g (suc n) zero h = rw (add-zero g) (own a g n)
found a g (suc n) (suc j) h =
    let e : g + suc j ≡ suc g + j = omega arith in
    skip a g n (a.inputs + (g + suc j)) (λ q. omega arith)
    ∙ subst (λ (i : ℕ). lag_in (entries_from a (suc g) n) (a.inputs + i) ≡ cond (eqb (get_or a.marks i 0) 0) (pos 0) (lag a.period (label_at a (a.inputs + i)))) (sym e) (found a (suc g) n j (omega arith))

inside : (a : Kept) (g : ℕ) → g < a.gates → lag_in (entries_in a) (a.inputs + g) ≡ cond (eqb (get_or a.marks g 0) 0) (pos 0) (lag a.period (label_at a (a.inputs + g)))
unfolding entries_in
inside a g h = let e : 0 + g ≡ g = omega arith in rw e at (found a 0 a.gates g h)

pub lag-input : (a : Kept) (u : ℕ) → u < a.inputs → lag_in (entries_in a) u ≡ pos 0
unfolding entries_in
lag-input a u h = none a 0 a.gates u (λ j l e. omega arith)

pub lag-beyond : (a : Kept) (u : ℕ) → a.inputs + a.gates ≤ u → lag_in (entries_in a) u ≡ pos 0
unfolding entries_in
lag-beyond a u h = none a 0 a.gates u (λ j l e. omega arith)

pub lag-unmarked : (a : Kept) (g : ℕ) → g < a.gates → get_or a.marks g 0 ≡ 0 → lag_in (entries_in a) (a.inputs + g) ≡ pos 0
lag-unmarked a g h m = inside a g h ∙ ap (λ (t : Bool). cond t (pos 0) (lag a.period (label_at a (a.inputs + g)))) (eq-eqb (get_or a.marks g 0) 0 m)

pub lag-marked : (a : Kept) (g : ℕ) → g < a.gates → (get_or a.marks g 0 ≡ 0 → ⊥) → lag_in (entries_in a) (a.inputs + g) ≡ lag a.period (label_at a (a.inputs + g))
lag-marked a g h m = inside a g h ∙ ap (λ (t : Bool). cond t (pos 0) (lag a.period (label_at a (a.inputs + g)))) (ne_eqb (get_or a.marks g 0) 0 m)

-- ---- connections and outputs, one behind the others

pub leaf-none : (es : List Entry) (r : ℤ) (nodes backs : List ℕ) (p : ℕ) → leaf_taps es r (copies_from nodes backs p 0) ≡ []
unfolding copies_from leaf_taps
leaf-none es r nodes backs p = refl

leaf_last : (es : List Entry) (r : ℤ) (nodes backs : List ℕ) (p j : ℕ)
    → leaf_taps es r (copies_from nodes backs p (suc j))
    ≡ leaf_taps es r (copies_from nodes backs p j) ++ (tap (get_or nodes (p + j) 0) ((pos (get_or backs (p + j) 0) +ℤ r) -ℤ lag_in es (get_or nodes (p + j) 0)) ∷ [])
unfolding copies_from leaf_taps
leaf_last es r nodes backs p zero = rw (add-zero p) refl
leaf_last es r nodes backs p (suc j) =
    let e : suc p + j ≡ p + suc j = omega arith in
    ap (λ (l : List Tap). tap (get_or nodes p 0) ((pos (get_or backs p 0) +ℤ r) -ℤ lag_in es (get_or nodes p 0)) ∷ l) (rw e at (leaf_last es r nodes backs (suc p) j))

pub leaf-more : (es : List Entry) (r : ℤ) (nodes backs : List ℕ) (p j : ℕ)
    → leaf_taps es r (copies_from nodes backs p j) ++ (tap (get_or nodes (p + j) 0) ((pos (get_or backs (p + j) 0) +ℤ r) -ℤ lag_in es (get_or nodes (p + j) 0)) ∷ [])
    ≡ leaf_taps es r (copies_from nodes backs p (j + 1))
leaf-more es r nodes backs p j = sym (rw (add-one j) (leaf_last es r nodes backs p j))

-- outputs are leaves of lag 0
pub outputs-leaves : (es : List Entry) (os oc : List ℕ) (i n : ℕ) → leaf_taps es (pos 0) (copies_from os oc i n) ≡ output_taps es (pins_in os oc i n)
unfolding pins_in copies_from output_taps leaf_taps
outputs-leaves es os oc i zero = refl
outputs-leaves es os oc i (suc n) = rw (add-zero (get_or oc i 0)) (ap (λ (l : List Tap). tap (get_or os i 0) (pos (get_or oc i 0) -ℤ lag_in es (get_or os i 0)) ∷ l) (outputs-leaves es os oc (suc i) n))

pub output-none : (es : List Entry) (os oc : List ℕ) → output_taps es (pins_in os oc 0 0) ≡ []
unfolding pins_in output_taps
output-none es os oc = refl

output-last : (es : List Entry) (os oc : List ℕ) (i j : ℕ)
    → output_taps es (pins_in os oc i (suc j)) ≡ output_taps es (pins_in os oc i j) ++ (tap (get_or os (i + j) 0) ((pos (get_or oc (i + j) 0) +ℤ pos 0) -ℤ lag_in es (get_or os (i + j) 0)) ∷ [])
unfolding pins_in output_taps
output-last es os oc i zero = rw (add-zero i, add-zero (get_or oc i 0)) refl
output-last es os oc i (suc j) =
    let e : suc i + j ≡ i + suc j = omega arith in
    ap (λ (l : List Tap). tap (get_or os i 0) (pos (get_or oc i 0) -ℤ lag_in es (get_or os i 0)) ∷ l) (rw e at (output-last es os oc (suc i) j))

pub output-more : (es : List Entry) (os oc : List ℕ) (j : ℕ)
    → output_taps es (pins_in os oc 0 j) ++ (tap (get_or os j 0) ((pos (get_or oc j 0) +ℤ pos 0) -ℤ lag_in es (get_or os j 0)) ∷ []) ≡ output_taps es (pins_in os oc 0 (j + 1))
output-more es os oc j = sym (rw (add-one j) (rw (zero-add j) at (output-last es os oc 0 j)))

luts_append : (all es fs : List Entry) → lut_taps all (es ++ fs) ≡ lut_taps all es ++ lut_taps all fs
unfolding lut_taps
luts_append all [] fs = refl
luts_append all (e ∷ es) fs = ap (λ (l : List Tap). leaf_taps all e.lag e.leaves ++ l) (luts_append all es fs)
    ∙ sym (append_assoc (leaf_taps all e.lag e.leaves) (lut_taps all es) (lut_taps all fs))

pub luts-none : (all : List Entry) (a : Kept) → lut_taps all (entries_from a 0 0) ≡ []
unfolding entries_from lut_taps
luts-none all a = refl

pub luts-more : (all : List Entry) (a : Kept) (g : ℕ) → lut_taps all (entries_from a 0 g) ++ lut_taps all (entries_from a g 1) ≡ lut_taps all (entries_from a 0 (g + 1))
luts-more all a g = sym (ap (lut_taps all) (rw (zero-add g) at (entries-split a 0 g 1)) ∙ luts_append all (entries_from a 0 g) (entries_from a g 1))

module _ (a : Kept) (g : ℕ) where
  pub gate-none : get_or a.marks g 0 ≡ 0 → lut_taps (lags_of a) (entries_from a g 1) ≡ []
  unfolding entries_from lut_taps
  gate-none m = rw m refl

  pub gate-some : g < a.gates → (get_or a.marks g 0 ≡ 0 → ⊥)
      → leaf_taps (lags_of a) (lag_in (lags_of a) (a.inputs + g)) (copies_from a.nodes a.backs (stride * g) (get_or a.sizes g 0)) ≡ lut_taps (lags_of a) (entries_from a g 1)
  unfolding entries_from entry_at lut_taps
  gate-some h m =
      let L = copies_from a.nodes a.backs (stride * g) (get_or a.sizes g 0) in
      rw (lag-marked (marking a.inputs a.gates a.period a.labels a.marks) g h m)
      (rw (ne_eqb (get_or a.marks g 0) 0 m) (sym (append-nil (leaf_taps (lags_of a) (lag a.period (label_at a (a.inputs + g))) L))))

-- all of them
pub all_taps : (a : Kept) (os oc : List ℕ) (n : ℕ) → lut_taps (lags_of a) (entries_from a 0 a.gates) ++ output_taps (lags_of a) (pins_in os oc 0 n) ≡ taps_of a os oc n
all_taps a os oc n = unfold taps_of in refl

pub all-counted : (a : Kept) (os oc : List ℕ) (n : ℕ) → shared_count most_nodes (taps_of a os oc n) ≡ registers_of a os oc n
all-counted a os oc n = unfold registers_of in refl

-- ---- the lists of lags that give the same connections

Same : List Entry → List Entry → Type 0
Same es fs = (u : ℕ) → lag_in es u ≡ lag_in fs u

leaf-same : (es fs : List Entry) → Same es fs → (r : ℤ) (L : List Copy) → leaf_taps es r L ≡ leaf_taps fs r L
unfolding Same leaf_taps
leaf-same es fs s r [] = refl
leaf-same es fs s r (y ∷ L) = ap₂ {C = List Tap} (λ (q : ℤ) (l : List Tap). tap y.node ((pos y.back +ℤ r) -ℤ q) ∷ l) (s y.node) (leaf-same es fs s r L)

lut-same : (es fs : List Entry) → Same es fs → (L : List Entry) → lut_taps es L ≡ lut_taps fs L
unfolding lut_taps
lut-same es fs s [] = refl
lut-same es fs s (e ∷ L) = ap₂ {C = List Tap} (λ (a b : List Tap). a ++ b) (leaf-same es fs s e.lag e.leaves) (lut-same es fs s L)

output-same : (es fs : List Entry) → Same es fs → (L : List Pin) → output_taps es L ≡ output_taps fs L
unfolding Same output_taps
output-same es fs s [] = refl
output-same es fs s (o ∷ L) = ap₂ {C = List Tap} (λ (q : ℤ) (l : List Tap). tap o.src (pos o.count -ℤ q) ∷ l) (s o.src) (output-same es fs s L)

module _ (inputs gates period : ℕ) (labels : List ℤ) (marks sizes nodes backs tables : List ℕ) where
  lags-from : (g n u : ℕ) → lag_in (entries_from (kept inputs gates period labels marks sizes nodes backs tables) g n) u ≡ lag_in (entries_from (marking inputs gates period labels marks) g n) u
  unfolding entries_from entry_at lag_in
  lags-from g zero u = refl
  lags-from g (suc n) u = go (eqb (get_or marks g 0) 0) (lags-from (suc g) n u)
    where
      A : Kept
      A = kept inputs gates period labels marks sizes nodes backs tables

      B : Kept
      B = marking inputs gates period labels marks

      go : (t : Bool) → lag_in (entries_from A (suc g) n) u ≡ lag_in (entries_from B (suc g) n) u
          → lag_in (cond t (entries_from A (suc g) n) (entry_at A g ∷ entries_from A (suc g) n)) u ≡ lag_in (cond t (entries_from B (suc g) n) (entry_at B g ∷ entries_from B (suc g) n)) u
      go true h = h
      go false h = ap (λ (z : ℤ). cond (eqb (inputs + g) u) (lag period (get_or labels (inputs + g) (pos 0))) z) h

  -- the lags need no leaves
  pub lags-same : (u : ℕ) → lag_in (entries_in (kept inputs gates period labels marks sizes nodes backs tables)) u ≡ lag_in (entries_in (marking inputs gates period labels marks)) u
  unfolding entries_in
  lags-same u = lags-from 0 gates u

  luts-from : (es : List Entry) (g n : ℕ)
      → lut_taps es (entries_from (kept inputs gates period labels marks sizes nodes backs tables) g n) ≡ lut_taps es (entries_from (kept inputs gates period labels marks sizes nodes backs []) g n)
  unfolding entries_from entry_at lut_taps
  luts-from es g zero = refl
  luts-from es g (suc n) = go (eqb (get_or marks g 0) 0) (luts-from es (suc g) n)
    where
      A : Kept
      A = kept inputs gates period labels marks sizes nodes backs tables

      B : Kept
      B = kept inputs gates period labels marks sizes nodes backs []

      go : (t : Bool) → lut_taps es (entries_from A (suc g) n) ≡ lut_taps es (entries_from B (suc g) n)
          → lut_taps es (cond t (entries_from A (suc g) n) (entry_at A g ∷ entries_from A (suc g) n)) ≡ lut_taps es (cond t (entries_from B (suc g) n) (entry_at B g ∷ entries_from B (suc g) n))
      go true h = h
      go false h = ap (λ (l : List Tap). leaf_taps es (lag period (get_or labels (inputs + g) (pos 0))) (copies_from nodes backs (stride * g) (get_or sizes g 0)) ++ l) h

  -- the connections and outputs, by lags that need no leaves and leaves that need no tables
  pub taps_same : (N : Net) (os oc : List ℕ) (n : ℕ) → N.outputs ≡ pins_in os oc 0 n
      → entry_taps N (entries_in (kept inputs gates period labels marks sizes nodes backs tables)) ≡ taps_of (kept inputs gates period labels marks sizes nodes backs []) os oc n
  unfolding entry_taps taps_of entries_in Same
  taps_same N os oc n e =
      ap₂ {C = List Tap} (λ (a b : List Tap). a ++ b) (lut-same A B (lags-from 0 gates) A ∙ luts-from B 0 gates) (ap (output_taps A) e ∙ output-same A B (lags-from 0 gates) (pins_in os oc 0 n))
    where
      A : List Entry
      A = entries_from (kept inputs gates period labels marks sizes nodes backs tables) 0 gates

      B : List Entry
      B = entries_from (marking inputs gates period labels marks) 0 gates

  -- **the register count**, where every connection and output is fed by a node
  pub register_count_lem : (N : Net) (os oc : List ℕ) (n : ℕ) → N.outputs ≡ pins_in os oc 0 n → size N ≤ most_nodes
      → ((t : Tap) → t ∈ entry_taps N (entries_in (kept inputs gates period labels marks sizes nodes backs tables)) → t.source < size N)
      → register_count N (entries_in (kept inputs gates period labels marks sizes nodes backs tables)) ≡ registers_of (kept inputs gates period labels marks sizes nodes backs []) os oc n
  unfolding register_count registers_of
  register_count_lem N os oc n e l s =
      sym (count-beyond (size N) most_nodes (entry_taps N (entries_in (kept inputs gates period labels marks sizes nodes backs tables))) l s)
      ∙ ap (shared_count most_nodes) (taps_same N os oc n e)

  -- what the count asks
  pub leaves-held : ArraysHeld (kept inputs gates period labels marks sizes nodes backs tables) → LutsHeld (kept inputs gates period labels marks sizes nodes backs tables) → gates ≤ most_gates
      → LeavesHeld (kept inputs gates period labels marks sizes nodes backs [])
  leaves-held p q h = record {
    lags = record {
      marks = p.marks;
      labels = p.labels;
      least = p.least;
      period = p.period;
      label = λ g i m. (q.each g i m).label;
      small = λ g i m. (q.each g i m).small_lag;
    };
    few = h;
    sizes = p.sizes;
    nodes = p.nodes;
    backs = p.backs;
    leaves = λ g i m. (q.each g i m).few;
    small = λ g i m. (q.each g i m).backs;
  }
