-- Laws: the lookup tells what the whole record says.
use Rattle.std.specs.Prelude.{◌≡◌, refl, Bool, true, false, cond, ◌⊎◌, eqb, length, take}
use Rattle.std.proofs.Math.Path.{sym, ap}
use Rattle.std.proofs.Common.{◌∙◌, subst, inl, inr, arith, lt-ltb, le-ltb, eq-eqb, ne_eqb, length-append}
use mathlib.Core.List.{List, [], ◌∷◌, ◌++◌, append_assoc, append-nil}
use Prim.Native.Nat.{ℕ, zero, suc, ◌+◌, ◌-◌, ◌*◌, ◌≤◌, ◌<◌}
use Rattle.std.proofs.Math.Decide.{ℕ_discrete, dec_lt}
use Rattle.limits.specs.Limits.{most_k}
use Rattle.limits.specs.declared.Rules.{Rules}
use Rattle.sequences.specs.Member.{◌∈◌, here, there, not_in_nil, in_append_right, in_append_cases}
use Rattle.net_model.specs.Net.{Net, size}
use Rattle.net_bytes.specs.Reading.{and_then, at_end, got}
use Rattle.net_bytes.specs.Readers.{refused-not-got, got-value, then-got, then-goes, check-got, at_end-got}
use Rattle.net_bytes.specs.Short.{Bytes, number_bytes}
use Rattle.cover_theory.specs.Key.{Entry, HasLut}
use Rattle.cover_records.specs.CoverBytes.{Record, numbers_in, lead_bytes, lut_bytes, all_lut_bytes, cover_bytes, cover_number, lut_reader, luts_reader, cover_reader}
use Rattle.cover_records.specs.CoverStages.{front-got, front_goes, from_luts, from_front, cover_stages, got-rest}
use Rattle.cover_records.specs.ReadWritten.{luts-written, cover-written}
use Rattle.cover_rows.specs.LutFacts.{lut-facts}
use Rattle.job_find.specs.RootLookup.{found, absent, turned_back, any_node, look_luts, look_reader, told, look_up}
use Rattle.job_find.specs.LookupTold.{RootAt, RootTold}
use Rattle.job_find.specs.Unread.{from_root, look_more, root_below, root-not-below, unread}
use Rattle.job_find.specs.Frames.{framed_front}
use Rattle.job_find.specs.Wider.{lut-wider}

-- ---- roots that rise

abbrev RisingRoots : ℕ → List Entry → Type 0
RisingRoots least [] = Unit {0}
RisingRoots least (e ∷ es) = (least ≤ e.root) × RisingRoots (suc e.root) es

roots-low : (least : ℕ) (es : List Entry) → RisingRoots least es → (x : Entry) → x ∈ es → least ≤ x.root
roots-low least [] r x m = absurd (not_in_nil m)
roots-low least (e ∷ es) r x (here q) = let h = r.0 in rw q h
roots-low least (e ∷ es) r x (there m) = let h = r.0 in let a = roots-low (suc e.root) es r.1 x m in omega arith

-- the roots before one are below it, those behind it above
below_root : (least : ℕ) (before : List Entry) (e : Entry) (after : List Entry) → RisingRoots least (before ++ (e ∷ after)) → (x : Entry) → x ∈ before → x.root < e.root
below_root least [] e after r x m = absurd (not_in_nil m)
below_root least (b ∷ before) e after r x (here q) = rw q (roots-low (suc b.root) (before ++ (e ∷ after)) r.1 e (in_append_right before (here refl)))
below_root least (b ∷ before) e after r x (there m) = below_root (suc b.root) before e after r.1 x m

above_root : (least : ℕ) (before : List Entry) (e : Entry) (after : List Entry) → RisingRoots least (before ++ (e ∷ after)) → (x : Entry) → x ∈ after → e.root < x.root
above_root least [] e after r x m = roots-low (suc e.root) after r.1 x m
above_root least (b ∷ before) e after r x m = above_root (suc b.root) before e after r.1 x m

-- the first root not below g, if there is one
data Course (g : ℕ) (es : List Entry) : Type 0 where
  stops : (before : List Entry) (e : Entry) (after : List Entry) → es ≡ before ++ (e ∷ after) → ((x : Entry) → x ∈ before → x.root < g) → g ≤ e.root → Course g es
  passes : ((x : Entry) → x ∈ es → x.root < g) → Course g es

course : (g : ℕ) (es : List Entry) → Course g es
course g [] = passes (λ x m. absurd (not_in_nil m))
course g (e ∷ es) = go (dec_lt e.root g) (course g es)
  where
    both : (l : List Entry) → e.root < g → ((x : Entry) → x ∈ l → x.root < g) → (x : Entry) → x ∈ e ∷ l → x.root < g
    both l h f x (here q) = rw q h
    both l h f x (there m) = f x m

    go : Dec (e.root < g) → Course g es → Course g (e ∷ es)
    go (no n) c = stops [] e es refl (λ x m. absurd (not_in_nil m)) (omega arith)
    go (yes h) (passes f) = passes (both es h f)
    go (yes h) (stops before f after is low high) = stops (e ∷ before) f after (ap (λ (l : List Entry). e ∷ l) is) (both before h low) high

-- ---- the LUTs

pub number-length : (w : Bool) (ok : ℕ → Bool) (s : List ℕ) (n : ℕ) (t : List ℕ) → cover_number w ok s ≡ got n t → length s ≡ number_bytes w + length t
number-length false ok [] n t e = absurd (refused-not-got 13 n t e)
number-length false ok (b ∷ s) n t e = let h = ap length (check-got (ok b) 13 b s n t e).2 in omega arith
number-length true ok [] n t e = absurd (refused-not-got 13 n t e)
number-length true ok (b ∷ []) n t e = absurd (refused-not-got 13 n t e)
number-length true ok (b ∷ c ∷ s) n t e = let h = ap length (check-got (ok (b + 256 * c)) 13 (b + 256 * c) s n t e).2 in omega arith

module _ (w : Bool) {nodes k : ℕ} (many : nodes ≤ any_node) (six : k ≤ most_k) where
  -- one LUT and the others
  luts-parts : (n least : ℕ) (s : List ℕ) (es : List Entry) (t : List ℕ) → luts_reader w nodes k (suc n) least s ≡ got es t
      → (e : Entry) × (behind : List ℕ) × (more : List Entry) × (lut_reader w nodes k least s ≡ got e behind) × (luts_reader w nodes k n (suc e.root) behind ≡ got more t) × (es ≡ e ∷ more)
  unfolding luts_reader
  luts-parts n least s es t q =
      let x = then-got (lut_reader w nodes k least s) (λ e behind. and_then (luts_reader w nodes k n (suc e.root) behind) (λ more after. got (e ∷ more) after)) es t q in
      let y = then-got (luts_reader w nodes k n (suc x.0.root) x.1) (λ more after. got (x.0 ∷ more) after) es t x.3 in
      (x.0, x.1, y.0, x.2, y.2 ∙ ap (λ (u : List ℕ). got y.0 u) (got-rest (x.0 ∷ y.0) y.1 es t y.3), sym (got-value (x.0 ∷ y.0) y.1 es t y.3))

  luts-none : (least : ℕ) (s : List ℕ) (es : List Entry) (t : List ℕ) → luts_reader w nodes k zero least s ≡ got es t → (es ≡ []) × (s ≡ t)
  unfolding luts_reader
  luts-none least s es t q = (sym (got-value [] s es t q), got-rest [] s es t q)

  luts-rising : (n least : ℕ) (s : List ℕ) (es : List Entry) (t : List ℕ) → luts_reader w nodes k n least s ≡ got es t → RisingRoots least es
  luts-rising zero least s es t q = rw (luts-none least s es t q).0 tt
  luts-rising (suc n) least s es t q =
      let x = luts-parts n least s es t q in
      rw x.5 ((lut-facts w nodes k least s x.0 x.1 x.3).low, luts-rising n (suc x.0.root) x.1 x.2 t x.4)

  -- all roots are below g
  look_passes : (total g n least low : ℕ) (s : List ℕ) (es : List Entry) (t : List ℕ) → low ≤ least → luts_reader w nodes k n least s ≡ got es t
      → ((x : Entry) → x ∈ es → x.root < g) → look_luts w total g n low s ≡ got absent t
  unfolding look_luts
  look_passes total g zero least low s es t h q f = ap (λ (u : List ℕ). got absent u) (luts-none least s es t q).1
  look_passes total g (suc n) least low s es t h q f =
      let x = luts-parts n least s es t q in
      let e = x.0 in
      let all : (y : Entry) → y ∈ e ∷ x.2 → y.root < g = λ y m. f y (subst (λ (l : List Entry). y ∈ l) (sym x.5) m) in
      let p = lut-wider w many six h s e x.1 x.3 in
      look_more w total g n low s ∙ then-goes (from_root w total g n s) p.1
      ∙ root_below w total g n s e.root p.0 (lt-ltb e.root g (all e (here refl)))
      ∙ then-goes (λ e' after. look_luts w total g n (suc e.root) after) p.2
      ∙ look_passes total g n (suc e.root) (suc e.root) x.1 x.2 t (omega arith) x.4 (λ y m. all y (there m))

  -- the first root not below g stands at s', and u behind it
  record StopsAt (g n low : ℕ) (s : List ℕ) (before : List Entry) (e : Entry) : Type 0 where
    at : List ℕ
    behind : List ℕ
    is : s ≡ all_lut_bytes w before ++ at
    root : length at ≡ number_bytes w + length behind
    tells : (total : ℕ) → look_luts w total g n low s ≡ got (cond (eqb e.root g) (found (total - length at)) absent) behind

  here-stops : (g n least low : ℕ) (s : List ℕ) (e : Entry) (t : List ℕ) → low ≤ least → lut_reader w nodes k least s ≡ got e t → g ≤ e.root → StopsAt g (suc n) low s [] e
  unfolding all_lut_bytes
  here-stops g n least low s e t h q high =
      let p = lut-wider w many six h s e t q in
      record {
        at = s;
        behind = p.0;
        is = refl;
        root = number-length w _ s e.root p.0 p.1;
        tells = λ total. look_more w total g n low s ∙ then-goes (from_root w total g n s) p.1 ∙ root-not-below w total g n s e.root p.0 (le-ltb e.root g high);
      }

  behind-stops : (g n least low : ℕ) (s : List ℕ) (b : Entry) (t : List ℕ) (before : List Entry) (e : Entry) → low ≤ least → lut_reader w nodes k least s ≡ got b t
      → s ≡ all_lut_bytes w (b ∷ []) ++ t → b.root < g → StopsAt g n (suc b.root) t before e → StopsAt g (suc n) low s (b ∷ before) e
  unfolding all_lut_bytes
  behind-stops g n least low s b t before e h q is lower st =
      let p = lut-wider w many six h s b t q in
      record {
        at = st.at;
        behind = st.behind;
        is = is ∙ ap (λ (l : List ℕ). l ++ t) (append-nil (lut_bytes w b)) ∙ ap (λ (l : List ℕ). lut_bytes w b ++ l) st.is ∙ sym (append_assoc (lut_bytes w b) (all_lut_bytes w before) st.at);
        root = st.root;
        tells = λ total. look_more w total g n low s ∙ then-goes (from_root w total g n s) p.1
            ∙ root_below w total g n s b.root p.0 (lt-ltb b.root g lower)
            ∙ then-goes (λ e' after. look_luts w total g n (suc b.root) after) p.2 ∙ st.tells total;
      }

  one-lut : (least : ℕ) (s : List ℕ) (e : Entry) (t : List ℕ) → lut_reader w nodes k least s ≡ got e t → luts_reader w nodes k 1 least s ≡ got (e ∷ []) t
  unfolding luts_reader
  one-lut least s e t q = then-goes (λ e behind. and_then (luts_reader w nodes k 0 (suc e.root) behind) (λ more after. got (e ∷ more) after)) q

  look_stops : (g n least low : ℕ) (s : List ℕ) (before : List Entry) (e : Entry) (after : List Entry) (t : List ℕ) → Bytes s → low ≤ least
      → luts_reader w nodes k n least s ≡ got (before ++ (e ∷ after)) t → ((x : Entry) → x ∈ before → x.root < g) → g ≤ e.root → StopsAt g n low s before e
  look_stops g zero least low s before e after t b h q f high = absurd (some before (ap length (luts-none least s (before ++ (e ∷ after)) t q).0))
    where
      some : (before : List Entry) → length (before ++ (e ∷ after)) ≡ 0 → ⊥
      some before z = let l = length-append before (e ∷ after) in omega arith
  look_stops g (suc n) least low s [] e after t b h q f high =
      let x = luts-parts n least s (e ∷ after) t q in
      let same : e ≡ x.0 = cc x.5 in
      here-stops g n least low s e x.1 h (x.3 ∙ ap (λ (z : Entry). got z x.1) (sym same)) high
  look_stops g (suc n) least low s (c ∷ before) e after t b h q f high =
      let x = luts-parts n least s (c ∷ (before ++ (e ∷ after))) t q in
      let same : c ≡ x.0 = cc x.5 in
      let rest : before ++ (e ∷ after) ≡ x.2 = cc x.5 in
      let one = x.3 ∙ ap (λ (z : Entry). got z x.1) (sym same) in
      let more = ap (λ (z : Entry). luts_reader w nodes k n (suc z.root) x.1) same ∙ x.4 ∙ ap (λ (l : List Entry). got l t) (sym rest) in
      let r = luts-written w nodes k 1 least s (c ∷ []) x.1 b (one-lut least s c x.1 one) in
      behind-stops g n least low s c x.1 before e h one r.0 (f c (here refl))
      (look_stops g n (suc c.root) (suc c.root) x.1 before e after t r.1 (omega arith) more (λ y m. f y (there m)) high)

-- ---- the record

-- the LUTs begin behind what stands before them
cover-length : (R : Rules) (φ : ℕ) (es : List Entry) → length (cover_bytes R φ es) ≡ length (cover_bytes R φ []) + length (all_lut_bytes R.wide es)
unfolding cover_bytes all_lut_bytes
cover-length R φ es = go R.wide
  where
    go : (w : Bool) → length (lead_bytes w ++ (numbers_in w (φ ∷ length es ∷ []) ++ all_lut_bytes w es))
        ≡ length (lead_bytes w ++ (numbers_in w (φ ∷ 0 ∷ []) ++ all_lut_bytes w [])) + length (all_lut_bytes w es)
    go false = omega arith
    go true = omega arith

-- the LUTs of a record that was read
record Luts (R : Rules) (N : Net) (k g : ℕ) (bytes : List ℕ) (r : Record) : Type 0 where
  count : ℕ
  start : List ℕ
  rest : List ℕ
  reads : luts_reader R.wide (size N) k count N.inputs start ≡ got r.entries rest
  looks : (total : ℕ) → look_reader R total g bytes ≡ look_luts R.wide total g count 0 start
  small : Bytes start
  long : length bytes ≡ length (cover_bytes R r.period []) + length start

luts-of : (R : Rules) (N : Net) (k g : ℕ) (bytes : List ℕ) (r : Record) (t : List ℕ) → Bytes bytes → cover_reader R N k bytes ≡ got r t → Luts R N k g bytes r
unfolding look_reader
luts-of R N k g bytes r t b q =
    let x = front-got R (from_front R (size N) k N.inputs) bytes r t (sym (cover_stages R N k bytes) ∙ q) in
    let a = x.0 in
    let u = x.1 in
    let z = then-got (luts_reader R.wide (size N) k a.luts N.inputs u) (from_luts a.period) r t x.3 in
    let is = (at_end-got 13 (record { period = a.period; entries = z.0 }) z.1 r t z.3).0 in
    let p = framed_front R bytes a u x.2 in
    let small : Bytes u = λ c m. b c (subst (λ (l : List ℕ). c ∈ l) (sym p.is) (in_append_right p.used m)) in
    let reads = z.2 ∙ ap (λ (v : Record). got v.entries z.1) is in
    let end = end_none (record { period = a.period; entries = z.0 }) z.1 r t z.3 in
    let s = luts-written R.wide (size N) k a.luts N.inputs u r.entries z.1 small reads in
    record {
      count = a.luts;
      start = u;
      rest = z.1;
      reads = reads;
      looks = λ total. front_goes R (λ period n. look_luts R.wide total g n 0) bytes x.2;
      small = small;
      long = ap length (cover-written R N k bytes r t b q) ∙ cover-length R r.period r.entries
          ∙ ap (λ (l : List ℕ). length (cover_bytes R r.period []) + length l) (sym (append-nil (all_lut_bytes R.wide r.entries)) ∙ ap (λ (l : List ℕ). all_lut_bytes R.wide r.entries ++ l) (sym end) ∙ sym s.0);
    }
  where
    end_none : {A : Type 0} (a : A) (s : List ℕ) (c : A) (t : List ℕ) → at_end 13 a s ≡ got c t → s ≡ []
    end_none a [] c t e = refl
    end_none a (d ∷ s) c t e = absurd (refused-not-got 13 c t e)

module _ (R : Rules) (N : Net) (k g : ℕ) (bytes : List ℕ) (r : Record) (many : size N ≤ any_node) (six : k ≤ most_k) (l : Luts R N k g bytes r) where
  -- where the reading stops, what it tells there and what it leaves
  stop-at : (before : List Entry) (e : Entry) (after : List Entry) → r.entries ≡ before ++ (e ∷ after) → ((x : Entry) → x ∈ before → x.root < g) → g ≤ e.root
      → (behind : List ℕ) × (look_reader R (length bytes) g bytes ≡ got (cond (eqb e.root g) (found (length (cover_bytes R r.period before))) absent) behind)
      × (length bytes - length behind ≡ length (cover_bytes R r.period before) + number_bytes R.wide)
  stop-at before e after is low high =
      let st = look_stops R.wide many six g l.count N.inputs 0 l.start before e after l.rest l.small (omega arith)
      (l.reads ∙ ap (λ (es : List Entry). got es l.rest) is) low high in
      let a = l.long in
      let b = ap length st.is in
      let c = length-append (all_lut_bytes R.wide before) st.at in
      let d = cover-length R r.period before in
      let f = st.root in
      let place : length bytes - length st.at ≡ length (cover_bytes R r.period before) = omega arith in (
        st.behind,
        l.looks (length bytes) ∙ st.tells (length bytes) ∙ ap (λ (o : ℕ). got (cond (eqb e.root g) (found o) absent) st.behind) place,
        omega arith,
      )

  stop-told : (before : List Entry) (e : Entry) (after : List Entry) → r.entries ≡ before ++ (e ∷ after) → ((x : Entry) → x ∈ before → x.root < g) → g ≤ e.root
      → look_up R g bytes ≡ cond (eqb e.root g) (found (length (cover_bytes R r.period before))) absent
  unfolding look_up
  stop-told before e after is low high = ap told (stop-at before e after is low high).1

  pass-told : ((x : Entry) → x ∈ r.entries → x.root < g) → look_up R g bytes ≡ absent
  unfolding look_up
  pass-told f = ap told (l.looks (length bytes)
      ∙ look_passes R.wide many six (length bytes) g l.count N.inputs 0 l.start r.entries l.rest (omega arith) l.reads f)

  rising : RisingRoots N.inputs r.entries
  rising = luts-rising R.wide many six l.count N.inputs l.start r.entries l.rest l.reads

  -- a root that is g stands there
  told-found : (before : List Entry) (e : Entry) (after : List Entry) → r.entries ≡ before ++ (e ∷ after) → ((x : Entry) → x ∈ before → x.root < g) → e.root ≡ g
      → look_up R g bytes ≡ found (length (cover_bytes R r.period before))
  told-found before e after is low same =
      stop-told before e after is low (omega arith) ∙ ap (λ (t : Bool). cond t (found (length (cover_bytes R r.period before))) absent) (eq-eqb e.root g same)

  told-absent : (before : List Entry) (e : Entry) (after : List Entry) → r.entries ≡ before ++ (e ∷ after) → ((x : Entry) → x ∈ before → x.root < g) → g ≤ e.root
      → (e.root ≡ g → ⊥) → look_up R g bytes ≡ absent
  told-absent before e after is low high other =
      stop-told before e after is low high ∙ ap (λ (t : Bool). cond t (found (length (cover_bytes R r.period before))) absent) (ne_eqb e.root g other)

  -- what the answer is: the place of g's LUT, or that there is none
  data Told : Type 0 where
    there-is : {o : ℕ} → RootAt R r g o → look_up R g bytes ≡ found o → Told
    there-is-none : (¬ HasLut r.entries g) → look_up R g bytes ≡ absent → Told

  which : Told
  which = go (course g r.entries)
    where
      beyond : (before : List Entry) (e : Entry) (after : List Entry) → r.entries ≡ before ++ (e ∷ after) → ((x : Entry) → x ∈ before → x.root < g) → g ≤ e.root
          → (e.root ≡ g → ⊥) → ¬ HasLut r.entries g
      beyond before e after is low high other h =
          let x = h.0 in
          let same = h.2 in
          let up = subst (RisingRoots N.inputs) is rising in
          which-part (in_append_cases before (subst (λ (es : List Entry). x ∈ es) is h.1)) same up
        where
          which-part : {x : Entry} → (x ∈ before) ⊎ (x ∈ e ∷ after) → x.root ≡ g → RisingRoots N.inputs (before ++ (e ∷ after)) → ⊥
          which-part {x} (inl m) same up = let a = low x m in omega arith
          which-part {x} (inr (here z)) same up = other (sym (ap (λ (y : Entry). y.root) z) ∙ same)
          which-part {x} (inr (there m)) same up = let a = above_root N.inputs before e after up x m in omega arith

      at : (before : List Entry) (e : Entry) (after : List Entry) → r.entries ≡ before ++ (e ∷ after) → ((x : Entry) → x ∈ before → x.root < g) → g ≤ e.root
          → Dec (e.root ≡ g) → Told
      at before e after is low high (yes same) =
          there-is (record { before = before; lut = e; after = after; listed = is; rooted = same; place = refl }) (told-found before e after is low same)
      at before e after is low high (no other) = there-is-none (beyond before e after is low high other) (told-absent before e after is low high other)

      go : Course g r.entries → Told
      go (passes f) = there-is-none (λ h. let a = f h.0 h.1 in let b = h.2 in absurd (omega arith)) (pass-told f)
      go (stops before e after is low high) = at before e after is low high (ℕ_discrete e.root g)

  -- the place of g's LUT is told
  at_told : (o : ℕ) → RootAt R r g o → look_up R g bytes ≡ found o
  at_told o a =
      told-found a.before a.lut a.after a.listed
      (λ x m. let b = below_root N.inputs a.before a.lut a.after (subst (RisingRoots N.inputs) a.listed rising) x m in let c = a.rooted in omega arith)
      a.rooted ∙ ap found (sym a.place)

has-lut : {R : Rules} {r : Record} {g o : ℕ} → RootAt R r g o → HasLut r.entries g
has-lut a = (a.lut, subst (λ (es : List Entry). a.lut ∈ es) (sym a.listed) (in_append_right a.before (here refl)), a.rooted)

pub found-not-absent : (o : ℕ) → found o ≡ absent → ⊥
found-not-absent o e = let z : ◌≡◌ {A = ℕ} 0 1 = cc in omega arith

pub found-same : (o p : ℕ) → found o ≡ found p → o ≡ p
found-same o p e = cc

pub found-not-back : (o n : ℕ) → found o ≡ turned_back n → ⊥
found-not-back o n e = let z : ◌≡◌ {A = ℕ} 0 1 = cc in omega arith

pub absent-not-back : (n : ℕ) → absent ≡ turned_back n → ⊥
absent-not-back n e = let z : ◌≡◌ {A = ℕ} 0 1 = cc in omega arith

-- **For each record that keeps 13's layout for some net and k, the lookup tells what the whole record says.**
pub root_told : (R : Rules) (N : Net) (k g : ℕ) (bytes : List ℕ) (r : Record) (t : List ℕ) → size N ≤ any_node → k ≤ most_k → Bytes bytes → cover_reader R N k bytes ≡ got r t
    → RootTold R g bytes r
root_told R N k g bytes r t many six b q = record {
  present = λ o. (present o (which R N k g bytes r many six l), at_told R N k g bytes r many six l o);
  missing = (missing (which R N k g bytes r many six l), none (which R N k g bytes r many six l));
  fine = λ n. fine n (which R N k g bytes r many six l);
  whole = cover-written R N k bytes r t b q;
  stop = stop;
}
  where
    l : Luts R N k g bytes r
    l = luts-of R N k g bytes r t b q

    present : (o : ℕ) → Told R N k g bytes r many six l → look_up R g bytes ≡ found o → RootAt R r g o
    present o (there-is {o = p} a e) h = subst (RootAt R r g) (found-same p o (sym e ∙ h)) a
    present o (there-is-none a e) h = absurd (found-not-absent o (sym h ∙ e))

    missing : Told R N k g bytes r many six l → look_up R g bytes ≡ absent → ¬ HasLut r.entries g
    missing (there-is {o = o} a e) h = absurd (found-not-absent o (sym e ∙ h))
    missing (there-is-none a e) h = a

    none : Told R N k g bytes r many six l → (¬ HasLut r.entries g) → look_up R g bytes ≡ absent
    none (there-is a e) h = absurd (h (has-lut a))
    none (there-is-none a e) h = e

    fine : (n : ℕ) → Told R N k g bytes r many six l → ¬ (look_up R g bytes ≡ turned_back n)
    fine n (there-is {o = o} a e) h = found-not-back o n (sym e ∙ h)
    fine n (there-is-none a e) h = absent-not-back n (sym e ∙ h)

    stop : (before after : List Entry) (e : Entry) → r.entries ≡ before ++ (e ∷ after) → ((x : Entry) → x ∈ before → x.root < g) → g ≤ e.root
        → (v : List ℕ) → look_up R g (take (length (cover_bytes R r.period before) + number_bytes R.wide) bytes ++ v) ≡ look_up R g bytes
    stop before after e is low high v =
        let s = stop-at R N k g bytes r many six l before e after is low high in
        ap (λ (n : ℕ). look_up R g (take n bytes ++ v)) (sym s.2) ∙ unread R g bytes s.0 _ s.1 v ∙ sym (stop-told R N k g bytes r many six l before e after is low high)
