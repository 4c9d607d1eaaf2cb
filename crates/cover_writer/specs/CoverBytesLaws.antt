-- The LUTs of some gates and those of the next ones.
use Rattle.std.specs.Prelude.{◌≡◌, Bool, cond, not, ℕ, zero, suc, ◌+◌, ◌*◌, ◌-◌, ◌≤◌, ◌<◌, eqb, pos, get_or}
use Rattle.std.proofs.Math.Path.{refl}
use Rattle.std.proofs.Common.{sym, ap, ap₂, ◌∙◌, subst, add-one, arith, ne_eqb, length-append, count_by, take}
use Rattle.std.proofs.lemmas.List.Sums.{count_by_more_yes, count_by_more_no}
use Rattle.std.proofs.Math.Bool.{true, false}
use mathlib.Core.List.{List, [], ◌∷◌, ◌++◌, append_assoc, append-nil}
use Rattle.std.proofs.Math.ListN.{length}
use Rattle.limits.specs.Courses.{long}
use Rattle.integers.specs.Lag.{lag}
use Rattle.net_model.specs.Arrays.{stride}
use Rattle.net_model.specs.Tables.{as_number}
use Rattle.cone_values.specs.Words.{as_number_small}
use Rattle.cover_theory.specs.Key.{Entry}
use Rattle.cover_records.specs.CoverBytes.{not_zero, lut_bytes, all_lut_bytes, cover_bytes}
use Rattle.cover_records.specs.Kept.{Kept, short_table, entry_at, entries_from, entries_in}
use Rattle.cover_writer.specs.Writing.{bytes_at, marked, lut_of, LutsAsked}

pub entries-split : (a : Kept) (g n m : ℕ) → entries_from a g (n + m) ≡ entries_from a g n ++ entries_from a (g + n) m
unfolding entries_from
entries-split a g zero m =
    let e : 0 + m ≡ m = omega arith in
    let f : g + 0 ≡ g = omega arith in
    rw (e, f) refl
entries-split a g (suc n) m =
    let e : suc n + m ≡ suc (n + m) = omega arith in
    let f : g + suc n ≡ suc g + n = omega arith in
    rw (e, f) (go (eqb (get_or a.marks g 0) 0) (entries-split a (suc g) n m))
  where
    go : (t : Bool) → entries_from a (suc g) (n + m) ≡ entries_from a (suc g) n ++ entries_from a (suc g + n) m
        → cond t (entries_from a (suc g) (n + m)) (entry_at a g ∷ entries_from a (suc g) (n + m))
        ≡ cond t (entries_from a (suc g) n) (entry_at a g ∷ entries_from a (suc g) n) ++ entries_from a (suc g + n) m
    go true h = h
    go false h = ap (λ (l : List Entry). entry_at a g ∷ l) h

pub bytes_append : (es fs : List Entry) → all_lut_bytes false (es ++ fs) ≡ all_lut_bytes false es ++ all_lut_bytes false fs
unfolding all_lut_bytes
bytes_append [] fs = refl
bytes_append (e ∷ es) fs = ap (λ (l : List ℕ). lut_bytes false e ++ l) (bytes_append es fs) ∙ sym (append_assoc (lut_bytes false e) (all_lut_bytes false es) (all_lut_bytes false fs))

-- the bytes of the LUTs of the first g gates
unfoldable pub bytes_to : Kept → ℕ → List ℕ
bytes_to a g = all_lut_bytes false (entries_from a 0 g)

pub bytes-none : (a : Kept) → bytes_to a 0 ≡ []
unfolding bytes_to entries_from all_lut_bytes
bytes-none a = refl

pub bytes_next : (a : Kept) (g : ℕ) → bytes_to a (g + 1) ≡ bytes_to a g ++ bytes_at a g
unfolding bytes_to bytes_at
bytes_next a g = ap (all_lut_bytes false) (entries-split a 0 g 1 ∙ ap (λ (i : ℕ). entries_from a 0 g ++ entries_from a i 1) (zero_plus g)) ∙ bytes_append (entries_from a 0 g) (entries_from a g 1)
  where
    zero_plus : (g : ℕ) → 0 + g ≡ g
    zero_plus g = omega arith

-- they are no more than those of all
pub bytes-within : (a : Kept) (g n : ℕ) → g ≤ n → length (bytes_to a g) ≤ length (bytes_to a n)
unfolding bytes_to
bytes-within a g n h =
    let e : n ≡ g + (n - g) = omega arith in
    let s = ap (λ (i : ℕ). all_lut_bytes false (entries_from a 0 i)) e ∙ ap (all_lut_bytes false) (entries-split a 0 g (n - g)) ∙ bytes_append (entries_from a 0 g) (entries_from a (0 + g) (n - g)) in
    omega (arith, ap length s, length-append (all_lut_bytes false (entries_from a 0 g)) (all_lut_bytes false (entries_from a (0 + g) (n - g))))

pub bytes-all : (a : Kept) → bytes_to a a.gates ≡ all_lut_bytes false (entries_in a)
unfolding bytes_to entries_in
bytes-all a = refl

pub at_none : (a : Kept) (g : ℕ) → get_or a.marks g 0 ≡ 0 → bytes_at a g ≡ []
unfolding bytes_at entries_from all_lut_bytes
at_none a g e = rw e refl

pub at_some : (a : Kept) (g : ℕ) → (get_or a.marks g 0 ≡ 0 → ⊥)
    → bytes_at a g ≡ lut_bytes false (lut_of (a.inputs + g) a.nodes a.backs (stride * g) (get_or a.sizes g 0) (lag a.period (get_or a.labels (a.inputs + g) (pos 0)))
    (short_table (get_or a.sizes g 0) (get_or a.tables g 0)))
unfolding bytes_at entries_from entry_at all_lut_bytes
at_some a g n = rw (ne_eqb (get_or a.marks g 0) 0 n) (append-nil (lut_bytes false (entry_at a g)))

-- there is room for the LUTs of some gates, and for the next
pub room-so-far : {a : Kept} {area : List ℕ} (g : ℕ) → g ≤ a.gates → LutsAsked a area → length (bytes_to a g) ≤ length area
room-so-far {a} g h p = let w = bytes-within a g a.gates h in let e = ap length (bytes-all a) in let r = p.room in omega arith

pub room_next : {a : Kept} {area : List ℕ} (g : ℕ) → g < a.gates → LutsAsked a area → length (bytes_to a g ++ bytes_at a g) ≤ length area
room_next {a} {area} g h p = subst (λ (l : List ℕ). length l ≤ length area) (bytes_next a g) (room-so-far (g + 1) (omega arith) p)

-- ---- the number of LUTs

pub count_entries : (a : Kept) (n : ℕ) → length (entries_from a 0 n) ≡ marked a.marks n
unfolding marked
count_entries a zero = unfold entries_from in refl
count_entries a (suc n) =
    ap (λ (i : ℕ). length (entries_from a 0 i)) (plus_one n) ∙ ap length (entries-split a 0 n 1) ∙ length-append (entries_from a 0 n) (entries_from a (0 + n) 1)
    ∙ ap₂ ◌+◌ (count_entries a n) (ap (λ (i : ℕ). length (entries_from a i 1)) (zero_plus n) ∙ one n) ∙ swap (marked a.marks n) (as_number (not_zero (get_or a.marks n 0)))
  where
    plus_one : (n : ℕ) → suc n ≡ n + 1
    plus_one n = omega arith

    zero_plus : (n : ℕ) → 0 + n ≡ n
    zero_plus n = omega arith

    swap : (x y : ℕ) → x + y ≡ y + x
    swap x y = omega arith

    one : (n : ℕ) → length (entries_from a n 1) ≡ as_number (not_zero (get_or a.marks n 0))
    one n = unfold entries_from in go (eqb (get_or a.marks n 0) 0)
      where
        go : (t : Bool) → length (cond t [] (entry_at a n ∷ [])) ≡ as_number (not t)
        go true = refl
        go false = refl

pub marked_le : (marks : List ℕ) (n : ℕ) → marked marks n ≤ n
unfolding marked
marked_le marks zero = omega arith
marked_le marks (suc n) = let a = as_number_small (not_zero (get_or marks n 0)) in let b = marked_le marks n in omega arith

pub marked-none : (marks : List ℕ) → marked marks 0 ≡ 0
unfolding marked
marked-none marks = refl

pub marked_next : (marks : List ℕ) (g : ℕ) → marked marks (g + 1) ≡ as_number (not_zero (get_or marks g 0)) + marked marks g
unfolding marked
marked_next marks g = rw add-one refl

-- counted one by one
pub marked_count : (marks : List ℕ) (n : ℕ) → n ≤ length marks → count_by not_zero (take n marks) ≡ marked marks n
marked_count marks zero h = sym (marked-none marks)
marked_count marks (suc n) h = go (marked_count marks n (omega arith)) (not_zero (get_or marks n 0)) refl
  where
    next : (b : Bool) → not_zero (get_or marks n 0) ≡ b → marked marks (n + 1) ≡ as_number b + marked marks n
    next b e = marked_next marks n ∙ ap (λ (t : Bool). as_number t + marked marks n) e

    go : count_by not_zero (take n marks) ≡ marked marks n → (b : Bool) → not_zero (get_or marks n 0) ≡ b → count_by not_zero (take (suc n) marks) ≡ marked marks (suc n)
    go f true e =
        let a = rw (add-one n) at (count_by_more_yes not_zero marks n 0 h e) in
        let d = rw (add-one n) at (next true e) in
        omega arith
    go f false e =
        let a = rw (add-one n) at (count_by_more_no not_zero marks n 0 h e) in
        let d = rw (add-one n) at (next false e) in
        omega arith

-- ---- the whole record

pub cover-bytes : (a : Kept) (count : ℕ) → count ≡ marked a.marks a.gates → cover_bytes long a.period (entries_in a) ≡ (a.period ∷ count ∷ []) ++ all_lut_bytes false (entries_in a)
unfolding cover_bytes entries_in
cover-bytes a count e = ap (λ (n : ℕ). a.period ∷ n ∷ all_lut_bytes false (entries_from a 0 a.gates)) (count_entries a a.gates ∙ sym e)
