-- Laws of the words of a cone's copies.
use Rattle.std.specs.Prelude.{◌≡◌, refl, List, [], ◌∷◌, map, ◌⊎◌, ℕ, zero, suc, ◌+◌, ◌-◌, ◌*◌, ◌/◌, ◌^◌, ◌≤◌, ◌<◌, length, get_or, set, take}
use Rattle.std.proofs.Common.{sym, ap, ap₂, ◌∙◌, subst, inl, inr, not-suc-le-zero, le_of_suc-le-suc, add-zero, add-suc, suc-add, arith}
use mathlib.Core.Bool.{Bool, true, false, cond}
use Rattle.limits.specs.Limits.{most_pins, most_table}
use Rattle.sequences.specs.Member.{◌∈◌, in_equal}
use Rattle.net_model.specs.Net.{Net, Pin, gate}
use Rattle.net_model.specs.Arrays.{stride, pins_in, copy_at}
use Rattle.net_model.specs.ArrayLaws.{pin_at}
use Rattle.net_model.specs.Wired.{Wired}
use Rattle.net_model.specs.Copies.{Copy, copy, Feeds, IsLeaves, Rising}
use Rattle.net_model.specs.Tables.{bit, apply, feeding, same, at_leaf, value_in}
use Rattle.net_model.specs.FullTables.{full_of}
use Rattle.cone_theory.specs.Basics.{member?}
use Rattle.cone_values.specs.Words.{bit-half}
use Rattle.cone_values.specs.Values.{same_true, same_refl, at_leaf-out}
use Rattle.cone_values.specs.FullTableLaws.{full-word}
use Rattle.cone_values.specs.RunLaws.{map-map}
use Rattle.cone_words.specs.LeafWords.{LeafWord, values_at}
use Rattle.sequences.specs.Tests.{First}
use Rattle.cone_copies.specs.CopyLists.{copies_in, source_at, SmallWires, Bounded, SourcesFirst}
use Rattle.cone_copies.specs.CopyListLaws.{length-copies_in, get_or_copies_in, in_copies_in, found_in, missing, each_set, member}
use Rattle.cone_copies.specs.CopyPinLaws.{pin-feeds}
use Rattle.cone_walk.specs.WalkTold.{WalkCut}
use Rattle.cone_walk.specs.declared.Cone.{Cone}
use Rattle.cone_descent.specs.Descent.{Placed}
use Rattle.cone_table.specs.ConeWords.{Given, Tabled, Carries, CopyWord, WordAt, Right, WordsSettled, TableOver}

-- ---- leaves

-- the value at a leaf is the bit of its first place
pub at_leaf-first : (L : List Copy) (i j : ℕ) (y : Copy) (b : Bool) → j < length L → get_or L j (copy 0 0) ≡ y → ((k : ℕ) → k < j → ¬ (get_or L k (copy 0 0) ≡ y)) → at_leaf L i y b ≡ bit i j
unfolding at_leaf
at_leaf-first [] i j y b h e f = absurd (not-suc-le-zero h)
at_leaf-first (c ∷ L) i zero y b h e f = go (same c y) refl
  where
    go : (t : Bool) → same c y ≡ t → cond t (bit i 0) (at_leaf L (i / 2) y b) ≡ bit i 0
    go true q = refl
    go false q = absurd (mathlib.Core.Bool.false≢true (sym q ∙ ap (same c) (sym e) ∙ same_refl c))
at_leaf-first (c ∷ L) i (suc j) y b h e f = go (same c y) refl (at_leaf-first L (i / 2) j y b (le_of_suc-le-suc h) e (λ k l. f (suc k) (omega arith)))
  where
    go : (t : Bool) → same c y ≡ t → at_leaf L (i / 2) y b ≡ bit (i / 2) j → cond t (bit i 0) (at_leaf L (i / 2) y b) ≡ bit i (suc j)
    go true q r = absurd (f zero (omega arith) (same_true c y q))
    go false q r = r ∙ sym (bit-half i j)

module _ (ln lb : List ℕ) (n : ℕ) (nodes backs : List ℕ) (len : ℕ) (words : List ℕ) (y : Copy) where
  -- the ways to a copy's word
  pub carries-leaf : (j w : ℕ) → First (λ i. copy_at ln lb i ≡ y) n j → j < n → LeafWord j w → Carries (copies_in ln lb n) (copies_in nodes backs len) words y w
  carries-leaf j w f h lw = record { leaf = λ m i k b. lw i k ∙ sym (at i b); other = λ m. absurd (m (found_in ln lb n j y f h)) }
    where
      at : (i : ℕ) (b : Bool) → at_leaf (copies_in ln lb n) i y b ≡ bit i j
      at i b = at_leaf-first (copies_in ln lb n) i j y b (omega (arith, length-copies_in ln lb n))
          (get_or_copies_in ln lb n j (copy 0 0) h ∙ f.found h)
          (λ k l e. f.before k l (sym (get_or_copies_in ln lb n k (copy 0 0) (omega arith)) ∙ e))

  pub carries-copy : (j p : ℕ) → First (λ i. copy_at ln lb i ≡ y) n j → n ≤ j → First (λ i. copy_at nodes backs i ≡ y) len p → p < len
      → Carries (copies_in ln lb n) (copies_in nodes backs len) words y (get_or words p 0)
  carries-copy j p f h g k = record {
    leaf = λ m. absurd (missing ln lb n j y f h m);
    other = λ m i. (p, omega (arith, length-copies_in nodes backs len), get_or_copies_in nodes backs len p (copy 0 0) k ∙ g.found k, refl);
  }

  pub carries-none : (j p w : ℕ) → First (λ i. copy_at ln lb i ≡ y) n j → n ≤ j → First (λ i. copy_at nodes backs i ≡ y) len p → len ≤ p
      → Carries (copies_in ln lb n) (copies_in nodes backs len) words y w
  carries-none j p w f h g k = record { leaf = λ m. absurd (missing ln lb n j y f h m); other = λ m i. absurd (missing nodes backs len p y g k i) }

-- ---- values

-- a word that carries a leaf's bits, or the value of a copy of C, is the value after enough steps
pub carries-value : (N : Net) {L C : List Copy} {words : List ℕ} {n r : ℕ} {y : Copy} (t : ℕ) → n ≤ 64 → length C ≤ t → Right N L C words n → Carries L C words y r → (y ∈ C) ⊎ (y ∈ L)
    → (i : ℕ) → i < n → bit r i ≡ value_in N L i t y
carries-value N {L} {C} {words} {n} {r} {y} t h e right c m i k = go (member? y L) m
  where
    at_leaf_lem : (s : ℕ) → y ∈ L → bit r i ≡ value_in N L i s y
    at_leaf_lem zero q = unfold value_in in c.leaf q i (omega arith) false
    at_leaf_lem (suc s) q = unfold value_in in c.leaf q i (omega arith) (apply (gate N y.node).table (map (value_in N L i s) (feeding N y)))

    go : Dec (y ∈ L) → (y ∈ C) ⊎ (y ∈ L) → bit r i ≡ value_in N L i t y
    go (yes q) z = at_leaf_lem t q
    go (no q) (inr z) = absurd (q z)
    go (no q) (inl z) =
        let o = c.other q z in
        ap (λ (w : ℕ). bit w i) o.3 ∙ right o.0 o.1 i k t (omega (arith, o.1)) ∙ ap (value_in N L i t) o.2

-- values read off a list of words and off the pins
pub map-pins : (f : ℕ → Bool) (h : Pin → Bool) (sources counts : List ℕ) (at m : ℕ) (words : List ℕ) → m ≤ length words
    → ((j : ℕ) → j < m → f (get_or words j 0) ≡ h (pin_at sources counts (at + j))) → map f (take m words) ≡ map h (pins_in sources counts at m)
unfolding pins_in
map-pins f h sources counts at zero words l e = refl
map-pins f h sources counts at (suc m) [] l e = absurd (not-suc-le-zero l)
map-pins f h sources counts at (suc m) (w ∷ words) l e =
    ap₂ {C = List Bool} ◌∷◌ (e 0 (omega arith) ∙ ap (λ (x : ℕ). h (pin_at sources counts x)) (add-zero at))
    (map-pins f h sources counts (suc at) m words (le_of_suc-le-suc l)
    (λ j k. e (suc j) (omega arith) ∙ ap (λ (x : ℕ). h (pin_at sources counts x)) (add-suc at j ∙ sym (suc-add at j))))

module _ {N : Net} {L C : List Copy} (leaves : IsLeaves N C L) where
  -- a copy's value after one step more
  value-step : (i t : ℕ) (x : Copy) → x ∈ C → value_in N L i (suc t) x ≡ apply (gate N x.node).table (map (value_in N L i t) (feeding N x))
  unfolding value_in
  value-step i t x m = at_leaf-out L i x _ (λ h. (leaves.sound x h).outside m)

  -- the word of a copy, from right words of the copies P, where what feeds it is in P or a leaf
  word_next : {I G : ℕ} {ps sources counts tables words : List ℕ} {P : List Copy} {g b n r : ℕ} (t : ℕ) → Wired N I G ps sources counts → Tabled N I G tables → n ≤ 64 → g < G → copy (I + g) b ∈ C
      → length P ≤ t → Right N L P words n → ((y : Copy) → Feeds N y (copy (I + g) b) → (y ∈ P) ⊎ (y ∈ L))
      → CopyWord sources counts L P words (get_or tables g 0) g (get_or ps g 0) b n r → (i : ℕ) → i < n → bit r i ≡ value_in N L i (suc t) (copy (I + g) b)
  word_next {I} {G} {ps} {sources} {counts} {tables} {words} {P} {g} {b} {n} {r} t w tabled h hg m e right fed c i k =
      c.word.bits i k
      ∙ ap₂ apply (sym (tabled.table g hg)) values
      ∙ sym (value-step i t (copy (I + g) b) m)
    where
      from : Pin → Copy
      from p = copy p.src (b + p.count)

      values : values_at c.fed (get_or ps g 0) i ≡ map (value_in N L i t) (feeding N (copy (I + g) b))
      values =
          map-pins (λ (x : ℕ). bit x i) (λ (p : Pin). value_in N L i t (from p)) sources counts (stride * g) (get_or ps g 0) c.fed c.size
          (λ j l. carries-value N t h e right (c.each j l) (fed (source_at sources counts g b j) (pin-feeds w g b j hg l)) i k)
          ∙ sym (map-map (value_in N L i t) from (pins_in sources counts (stride * g) (get_or ps g 0)))
          ∙ ap (λ (l : List Pin). map (value_in N L i t) (map from l)) (sym (w.wiring g hg))

-- what feeds the copy at place p stands before it or is a leaf
fed-before : {N : Net} {L : List Copy} (nodes backs : List ℕ) (len p : ℕ) → IsLeaves N (copies_in nodes backs len) L → SourcesFirst N (copies_in nodes backs len) → p < len
    → (y : Copy) → Feeds N y (copy_at nodes backs p) → (y ∈ copies_in nodes backs p) ⊎ (y ∈ L)
fed-before {N} {L} nodes backs len p leaves first h y f = go (member? y (copies_in nodes backs len))
  where
    at : get_or (copies_in nodes backs len) p (copy 0 0) ≡ copy_at nodes backs p
    at = get_or_copies_in nodes backs len p (copy 0 0) h

    go : Dec (y ∈ copies_in nodes backs len) → (y ∈ copies_in nodes backs p) ⊎ (y ∈ L)
    go (yes m) =
        let q = first p (omega (arith, length-copies_in nodes backs len)) y m (subst (Feeds N y) (sym at) f) in
        inl (in_equal (sym q.2 ∙ get_or_copies_in nodes backs len q.0 (copy 0 0) (omega (arith, q.1))) (in_copies_in nodes backs p q.0 q.1))
    go (no m) = inr (leaves.complete y (record { outside = m; member = copy_at nodes backs p; is_member = in_copies_in nodes backs len p h; feeds = f }))

-- the root's word is the full table
table-right : (N : Net) (v : ℕ) (L C : List Copy) (words : List ℕ) (p : ℕ) → p < length C → get_or C p (copy 0 0) ≡ copy v 0 → get_or words p 0 < 2 ^ 64 → Right N L C words 64
    → get_or words p 0 ≡ full_of N v C L
table-right N v L C words p h e small right = full-word N v C L (get_or words p 0) small (λ x k. right p h x k (length C) h ∙ ap (value_in N L x (length C)) e)

-- ---- for every net with this wiring and these tables

module _ {I G : ℕ} {ps sources counts tables : List ℕ} {L : List Copy} where
  pub settled-none : (nodes backs : List ℕ) (len : ℕ) (words : List ℕ) (n : ℕ) → WordsSettled I G ps sources counts tables L nodes backs len words n 0
  settled-none nodes backs len words n = record {
    small = λ q h. absurd (not-suc-le-zero h);
    right = λ N w tabled leaves first q h. absurd (not-suc-le-zero (subst (λ (l : ℕ). q < l) (length-copies_in nodes backs 0) h));
  }

  -- one copy more
  pub settled-next : (nodes backs : List ℕ) (len : ℕ) (words : List ℕ) (n p r : ℕ) → n ≤ 64 → Bounded I G (copies_in nodes backs len) → p < len → p < length words
      → WordAt I ps sources counts tables L nodes backs p words n r → WordsSettled I G ps sources counts tables L nodes backs len words n p
      → WordsSettled I G ps sources counts tables L nodes backs len (set words p r) n (p + 1)
  settled-next nodes backs len words n p r h b k room word s = record {
    small = each_set (λ (q x : ℕ). x < 2 ^ n) words p r room s.small word.word.small;
    right = λ N w tabled leaves first q l i a t z. right N w tabled leaves first q (low l) i a t z ∙ ap (value_in N L i t) (sym (get_or_copies_in nodes backs (p + 1) q (copy 0 0) (low l)));
  }
    where
      low : {q : ℕ} → q < length (copies_in nodes backs (p + 1)) → q < p + 1
      low l = let e = length-copies_in nodes backs (p + 1) in omega arith

      right : (N : Net) → Wired N I G ps sources counts → Tabled N I G tables → IsLeaves N (copies_in nodes backs len) L → SourcesFirst N (copies_in nodes backs len)
          → (q : ℕ) → q < p + 1 → (i : ℕ) → i < n → (t : ℕ) → q < t → bit (get_or (set words p r) q 0) i ≡ value_in N L i t (copy_at nodes backs q)
      right N w tabled leaves first = each_set (λ (q x : ℕ). (i : ℕ) → i < n → (t : ℕ) → q < t → bit x i ≡ value_in N L i t (copy_at nodes backs q)) words p r room before this
        where
          old : Right N L (copies_in nodes backs p) words n
          old = s.right N w tabled leaves first

          before : (q : ℕ) → q < p → (i : ℕ) → i < n → (t : ℕ) → q < t → bit (get_or words q 0) i ≡ value_in N L i t (copy_at nodes backs q)
          before q l i a t z = old q (omega (arith, length-copies_in nodes backs p)) i a t z ∙ ap (value_in N L i t) (get_or_copies_in nodes backs p q (copy 0 0) l)

          this : (i : ℕ) → i < n → (t : ℕ) → p < t → bit r i ≡ value_in N L i t (copy_at nodes backs p)
          this i a zero z = absurd (not-suc-le-zero z)
          this i a (suc t) z =
              let m = member nodes backs len p b k in
              word_next leaves t w tabled h m.gate (in_equal m.this (in_copies_in nodes backs len p k)) (omega (arith, length-copies_in nodes backs p)) old
              (λ y f. fed-before nodes backs len p leaves first k y (subst (Feeds N y) m.this f)) word i a
              ∙ ap (value_in N L i (suc t)) m.this

  pub settled-all : {nodes backs words : List ℕ} {len n p : ℕ} → p ≡ len → WordsSettled I G ps sources counts tables L nodes backs len words n p
      → WordsSettled I G ps sources counts tables L nodes backs len words n len
  settled-all {nodes} {backs} {words} {len} {n} e s = subst (WordsSettled I G ps sources counts tables L nodes backs len words n) e s

-- the last word is the full table, where the root is last
pub table-last : {I G : ℕ} {ps sources counts tables : List ℕ} (L : List Copy) (nodes backs : List ℕ) (len : ℕ) (words : List ℕ) (v : ℕ) → 1 ≤ len
    → WordsSettled I G ps sources counts tables L nodes backs len words 64 len → copy_at nodes backs (len - 1) ≡ copy v 0
    → TableOver I G ps sources counts tables L (copies_in nodes backs len) v (get_or words (len - 1) 0)
table-last L nodes backs len words v some s e N w tabled cone leaves first =
    table-right N v L (copies_in nodes backs len) words (len - 1) (omega (arith, length-copies_in nodes backs len)) (get_or_copies_in nodes backs len (len - 1) (copy 0 0) last ∙ e)
    (s.small (len - 1) last) (s.right N w tabled leaves first)
  where
    last : len - 1 < len
    last = omega arith

-- ---- for callers

module _ {I G : ℕ} {ps sources counts ln lb : List ℕ} {n g : ℕ} {r : Cone} (t : WalkCut I G ps sources counts ln lb n g r) where
  -- what a table over the cone asks
  pub cone-given : {tables marks : List ℕ} → SmallWires I G ps sources counts → G ≤ length tables → n ≤ most_pins → n ≤ length ln → n ≤ length lb → Rising (copies_in ln lb n)
      → most_table ≤ length marks → Placed I g r marks → Given I G ps sources counts tables ln lb n r.nodes r.backs r.len marks
  cone-given w h k a b u s p =
      record { wires = w; tables = h; few = k; leaf_nodes = a; leaf_backs = b; rising = u; room = t.room; bounded = t.bounded; space = s; marked = p.seated.byte }
