-- Laws of the loader area: what the certificate says of it.
use Rattle.std.specs.Prelude.{◌≡◌, List, ◌⊎◌, ℤ, length, get_or}
use Rattle.std.proofs.Math.Path.{refl, subst_refl, ap, path_j}
use Rattle.std.proofs.Common.{sym, subst, ap₂, ◌∙◌, inl, inr, mod-eq_of_lt, arith, lt-ltb, le-ltb}
use mathlib.Core.Bool.{Bool, true, false, cond, ◌&&◌}
use Prim.Native.Nat.{ℕ, zero, suc, ◌%◌, ◌^◌, ◌≤◌, ◌<◌, suc-le-suc, zero-le}
use Rattle.limits.specs.Limits.{loader_area, most_k, scratch_area}
use Rattle.limits.specs.Courses.{long}
use Rattle.sequences.specs.Member.{◌∈◌}
use Rattle.net_model.specs.Net.{Net}
use Rattle.net_model.specs.Checks.{Passed}
use Rattle.net_model.specs.Copies.{Copy, copy}
use Rattle.net_model.specs.Runs.{Run}
use Rattle.net_model.specs.Tables.{bit, value_in, table_of}
use Rattle.net_model.specs.FullTables.{repeated_table}
use Rattle.cone_values.specs.Values.{table-small}
use Rattle.cone_values.specs.FullTableLaws.{repeated-low, repeated-period, repeated-apply, full-bit, full-repeated}
use Rattle.cover_theory.specs.Covers.{Cover, Lut}
use Rattle.cover_theory.specs.Board.{Brought, none, next}
use Rattle.cover_period.specs.Joined.{key?}
use Rattle.cover_theory.specs.Key.{Key, Entry, entries, as_cover}
use Rattle.cover_period.specs.KeyOf.{entries_in_lem, roots-gate}
use Rattle.cover_period.specs.KeyUnique.{entries_unique}
use Rattle.cover_period.specs.Period.{least_key, least_period-is, least_period_unique}
use Rattle.cover_period.specs.Written.{no_entry, lut-as_cover}
use Rattle.cover_records.specs.Accepted.{accepted-runs}
use Rattle.cover_records.specs.CoverBytes.{cover_bytes}
use Rattle.cover_records.specs.LoaderImage.{image_bytes, loaded}
use Rattle.cover_records.specs.LoaderLaws.{no_loader}
use Rattle.cover_records.specs.LoaderOutcome.{LoaderOutcome, beside, too_short, loader_written, loader_checked_in, loader_checked, loader_fit_in, loader_fit, loader_sized, loader_outcome}
use Rattle.cover_records.specs.Marking.{TablesRight}
use Rattle.cover_records.specs.Outcomes.{accepted, turned_back, Checked, passes, fails, check_net, cleared, written, Mapped, covered, unreachable, for_target, mapped_in, mapped, map_sizes, MapOutcome, map_written, map_checked_in, map_checked, map_sized, map_outcome}
use Rattle.demands.specs.TurnedBack.{IsNet, MapFails, OfMap}
use Rattle.demands.specs.Calls.{MapCall, map_done, MapBad, MapNet, Asked}
use Rattle.demands.proofs.CallLaws.{turned-not, turned_same, accepted-not, map-told, untouched, leaves, keyed}
use Rattle.demands.proofs.MapEndsLaws.{map_range, map-sized, map-taken}
use Rattle.demands.proofs.OrderLaws.{one-net, net-range}
use Rattle.demands.proofs.Demand3.{map-fit}
use Rattle.demands.specs.LoaderArea.{loader_done, loaded_number, SatisfiedWhole, LoaderArea}

-- ---- a key's LUTs

module _ {N : Net} {k φ : ℕ} (K : Key N k φ) where
  value_of : (e : Entry) → e ∈ entries K → (x : ℕ) → x < 64 → bit (loaded_number e) x ≡ value_in N e.leaves x (length (K.cone e.root)) (copy e.root 0)
  value_of e m x h =
      let t = entries_in_lem K m in
      subst (λ (d : Entry). bit (loaded_number d) x ≡ value_in N d.leaves x (length (K.cone d.root)) (copy d.root 0)) (sym t.2) (at t.0)
    where
      at : (v : ℕ) → bit (repeated_table (length (K.leaves v)) (table_of N v (K.cone v) (K.leaves v))) x ≡ value_in N (K.leaves v) x (length (K.cone v)) (copy v 0)
      at v = ap (λ (w : ℕ). bit w x) (sym (full-repeated N v (K.cone v) (K.leaves v))) ∙ full-bit N v (K.cone v) (K.leaves v) x h

  low_of : k ≤ most_k → (e : Entry) → e ∈ entries K → loaded_number e % 2 ^ (2 ^ length e.leaves) ≡ e.table
  low_of few e m =
      let t = entries_in_lem K m in
      let g = roots-gate K t.0 t.1 in
      subst (λ (d : Entry). loaded_number d % 2 ^ (2 ^ length d.leaves) ≡ d.table) (sym t.2)
      (repeated-low (length (K.leaves t.0)) (table_of N t.0 (K.cone t.0) (K.leaves t.0))
      (omega (arith, few, ap length (K.is_leaves t.0 g), (K.cut t.0 g).few)) ∙ mod-eq_of_lt (table-small N t.0 (K.cone t.0) (K.leaves t.0)))

-- ---- runs

brought-length : {N : Net} {C : Cover} {value : ℕ → ℕ → Bool} {i : ℕ} {t : ℤ} {L : List Copy} {bs : List Bool} → Brought N C value i t L bs → length bs ≡ length L
brought-length none = refl
brought-length (next c b) = ap suc (brought-length b)

runs_of : {N : Net} {k : ℕ} → Passed N k → (es : List Entry) → TablesRight N k es → {value : ℕ → ℕ → Bool} → Run N value → (i : ℕ) → i < length es
    → SatisfiedWhole N (as_cover N es) value i (loaded_number (get_or es i no_entry))
runs_of {N} P es right {value} run i h t b bs carried brought x small bits =
    accepted-runs P right run i h t b bs carried brought
    ∙ sym (repeated-apply (get_or es i no_entry).table bs x small bits)
    ∙ ap (λ (n : ℕ). bit (repeated_table n (get_or es i no_entry).table) x) (brought-length brought ∙ ap (λ (u : Lut). length u.leaves) (lut-as_cover N es i))

-- ---- the ways of a call

module _ (c : MapCall) (loader : List ℕ) where
  abbrev sizes : ℕ
  sizes = map_sizes long c.k c.target c.area c.scratch

  abbrev checked : Checked c.k
  checked = check_net long c.k c.net

  data Ways : Type 0 where
    turned : (n : ℕ) → sizes ≡ suc n → (map_done c).answer ≡ turned_back (suc n) → loader_done c loader ≡ beside (map_done c) loader → Ways
    cut : sizes ≡ 0 → too_short loader ≡ true
        → loader_done c loader ≡ record { answer = turned_back 20; area = c.area; scratch = cleared scratch_area c.scratch; loader = loader } → Ways
    goes : sizes ≡ 0 → too_short loader ≡ false → map_done c ≡ map_checked long c.k c.target checked c.area c.scratch
        → loader_done c loader ≡ beside (map_done c) (loader_checked c.k c.target checked loader) → Ways

  ways : Ways
  unfolding loader_outcome loader_sized loader_fit_in map_outcome map_sized
  ways = by_size sizes refl
    where
      sized : ℕ → LoaderOutcome
      sized n = loader_sized long n c.k c.target c.net c.area c.scratch loader

      alone : ℕ → MapOutcome
      alone n = map_sized long n c.k c.target c.net c.area c.scratch

      fit : Bool → LoaderOutcome
      fit b = loader_fit long b c.k c.target checked c.area c.scratch loader

      by-loader : sizes ≡ 0 → (b : Bool) → too_short loader ≡ b → Ways
      by-loader e true q = cut e q (ap sized e ∙ ap fit q)
      by-loader e false q =
          goes e q (ap alone e) (ap sized e ∙ ap fit q ∙ ap (λ (o : MapOutcome). beside o (loader_checked c.k c.target checked loader)) (sym (ap alone e)))

      by_size : (n : ℕ) → sizes ≡ n → Ways
      by_size (suc n) e = turned n e (ap (λ (m : ℕ). (alone m).answer) e) (ap sized e ∙ ap (λ (o : MapOutcome). beside o loader) (sym (ap alone e)))
      by_size zero e = by-loader e (too_short loader) refl

  -- where the sizes are right none of 1 to 3 fails
  sizes-none : sizes ≡ 0 → (m : ℕ) → m < 4 → ¬ MapBad c m
  sizes-none z m h f = go f
    where
      none : m < 4 → m ≡ 12 → ⊥
      none h e = omega arith

      go : MapBad c m → ⊥
      go (MapFails.outside o e) = let t = map-fit c.k c.target c.area c.scratch z in o (t.low, t.high)
      go (MapFails.above o e) = let t = (map-fit c.k c.target c.area c.scratch z).near in omega arith
      go (MapFails.room o e) = let t = (map-fit c.k c.target c.area c.scratch z).room in omega arith
      go (MapFails.space o e) = let t = (map-fit c.k c.target c.area c.scratch z).space in omega arith
      go (MapFails.of_net o) = let r = (net-range c.k c.net m o).0 in omega arith
      go (MapFails.unreachable N i t u e) = none h e

  early_as : (n : ℕ) → (map_done c).answer ≡ turned_back n → n ≤ 3 → loader_done c loader ≡ beside (map_done c) loader
  early_as n e h = go ways
    where
      never : sizes ≡ 0 → ⊥
      never z = sizes-none z n (omega (arith, h)) ((map-told c n).0 e).fails

      go : Ways → loader_done c loader ≡ beside (map_done c) loader
      go (turned m s d q) = q
      go (cut z b q) = absurd (never z)
      go (goes z b m q) = absurd (never z)

  lent-short : 0 < length loader → length loader < loader_area → too_short loader ≡ true
  lent-short a b = ap₂ ◌&&◌ (lt-ltb 0 (length loader) a) (lt-ltb (length loader) loader_area b)

  long-enough : loader_area ≤ length loader → too_short loader ≡ false
  long-enough h = ap₂ ◌&&◌ (lt-ltb 0 (length loader) (omega (arith, h))) (le-ltb (length loader) loader_area h)

  short_as : ((m : ℕ) → m < 4 → ¬ MapBad c m) → 0 < length loader → length loader < loader_area
      → loader_done c loader ≡ record { answer = turned_back 20; area = c.area; scratch = cleared scratch_area c.scratch; loader = loader }
  short_as passed a b = go ways
    where
      zero-sizes : sizes ≡ 0
      zero-sizes = map-sized c.net c.k c.target c.area c.scratch passed

      go : Ways → loader_done c loader ≡ record { answer = turned_back 20; area = c.area; scratch = cleared scratch_area c.scratch; loader = loader }
      go (turned m s d q) = absurd (differ (sym zero-sizes ∙ s))
        where
          differ : ◌≡◌ {A = ℕ} 0 (suc m) → ⊥
          differ e = omega arith
      go (cut z t q) = q
      go (goes z t m q) = absurd (mathlib.Core.Bool.true≢false (sym (lent-short a b) ∙ t))

  other_as : loader_area ≤ length loader
      → ((loader_done c loader).answer ≡ (map_done c).answer) × ((loader_done c loader).area ≡ (map_done c).area) × ((loader_done c loader).scratch ≡ (map_done c).scratch)
  other_as h = go ways
    where
      parts : {l : List ℕ} → loader_done c loader ≡ beside (map_done c) l
          → ((loader_done c loader).answer ≡ (map_done c).answer) × ((loader_done c loader).area ≡ (map_done c).area) × ((loader_done c loader).scratch ≡ (map_done c).scratch)
      parts q = (ap (λ (o : LoaderOutcome). o.answer) q, ap (λ (o : LoaderOutcome). o.area) q, ap (λ (o : LoaderOutcome). o.scratch) q)

      go : Ways → ((loader_done c loader).answer ≡ (map_done c).answer) × ((loader_done c loader).area ≡ (map_done c).area) × ((loader_done c loader).scratch ≡ (map_done c).scratch)
      go (turned m s d q) = parts q
      go (cut z t q) = absurd (mathlib.Core.Bool.true≢false (sym t ∙ long-enough h))
      go (goes z t m q) = parts q

  -- ---- refusals

  numbers_as : (n : ℕ) → (loader_done c loader).answer ≡ turned_back n → OfMap n ⊎ (n ≡ 20)
  numbers_as n e = go ways
    where
      of_map : (map_done c).answer ≡ turned_back n → OfMap n
      of_map d = map_range c.net c.k c.target c.area c.scratch n ((map-told c n).0 d).fails

      go : Ways → OfMap n ⊎ (n ≡ 20)
      go (turned m s d q) = inl (of_map (sym (ap (λ (o : LoaderOutcome). o.answer) q) ∙ e))
      go (cut z t q) = inr (sym (turned_same (sym (ap (λ (o : LoaderOutcome). o.answer) q) ∙ e)))
      go (goes z t m q) = inl (of_map (sym (ap (λ (o : LoaderOutcome). o.answer) q) ∙ e))

  kept-written : {N : Net} (m : Mapped N c.k) {n : ℕ} → (map_written long m c.area c.scratch).answer ≡ turned_back n → loader_written m loader ≡ loader
  unfolding map_written loader_written
  kept-written (covered φ K) e = absurd (accepted-not e)
  kept-written unreachable e = refl

  kept-checked : (d : Checked c.k) {n : ℕ} → (map_checked long c.k c.target d c.area c.scratch).answer ≡ turned_back n → loader_checked c.k c.target d loader ≡ loader
  unfolding map_checked_in loader_checked_in
  kept-checked (fails m) e = refl
  kept-checked (passes N P) e = kept-written (mapped N c.k c.target P) e

  kept_as : (n : ℕ) → (loader_done c loader).answer ≡ turned_back n → ((loader_done c loader).loader ≡ loader) × ((loader_done c loader).area ≡ c.area)
  kept_as n e = go ways
    where
      go : Ways → ((loader_done c loader).loader ≡ loader) × ((loader_done c loader).area ≡ c.area)
      go (turned m s d q) = (ap (λ (o : LoaderOutcome). o.loader) q, ap (λ (o : LoaderOutcome). o.area) q ∙ (untouched c (suc m) d).0)
      go (cut z t q) = (ap (λ (o : LoaderOutcome). o.loader) q, ap (λ (o : LoaderOutcome). o.area) q)
      go (goes z t m q) =
          let d : (map_done c).answer ≡ turned_back n = sym (ap (λ (o : LoaderOutcome). o.answer) q) ∙ e in (
            ap (λ (o : LoaderOutcome). o.loader) q ∙ kept-checked checked (sym (ap (λ (o : MapOutcome). o.answer) m) ∙ d),
            ap (λ (o : LoaderOutcome). o.area) q ∙ (untouched c n d).0,
          )

  -- ---- accepted calls

  -- the image is that of any key for the period asked
  image-mapped : {N : Net} (P : Passed N c.k) (φ : ℕ) → Asked c N φ → (K : Key N c.k φ) → loader_written (mapped N c.k c.target P) loader ≡ loaded (entries K) loader
  unfolding mapped_in loader_written for_target
  image-mapped {N} P φ asked K = go c.target refl
    where
      Written : ℕ → Type 0
      Written t = loader_written (mapped N c.k t P) loader ≡ loaded (entries K) loader

      same : {ψ : ℕ} (J : Key N c.k ψ) → φ ≡ ψ → loaded (entries J) loader ≡ loaded (entries K) loader
      same J e = ap (λ (es : List Entry). loaded es loader) (entries_unique P J (subst (Key N c.k) e K) ∙ moved e)
        where
          moved : {ψ : ℕ} (e : φ ≡ ψ) → entries (subst (Key N c.k) e K) ≡ entries K
          moved e = path_j (λ ψ e. entries (subst (Key N c.k) e K) ≡ entries K) (ap entries (subst_refl (Key N c.k) K)) e

      decided : (t : ℕ) → φ ≡ suc t → (d : Dec (Key N c.k (suc t))) → loader_written (for_target N c.k (suc t) d) loader ≡ loaded (entries K) loader
      decided t e (yes J) = same J e
      decided t e (no n) = absurd (n (subst (Key N c.k) e K))

      go : (t : ℕ) → c.target ≡ t → Written t
      go zero e = same (least_key P) (least_period_unique (asked.1 e) (least_period-is P))
      go (suc t) e = decided t (asked.0 (λ z. differ (sym z ∙ e)) ∙ e) (key? P (suc-le-suc zero-le))
        where
          differ : ◌≡◌ {A = ℕ} 0 (suc t) → ⊥
          differ e = omega arith

  lent-loaded : (es : List Entry) → 0 < length loader → loaded es loader ≡ written (image_bytes es) loader
  unfolding loaded
  lent-loaded es h = ap (λ (b : Bool). cond b (written (image_bytes es) loader) loader) (lt-ltb 0 (length loader) h)

  image-checked : {N : Net} (P : Passed N c.k) → checked ≡ passes N P → loader_checked c.k c.target checked loader ≡ loader_written (mapped N c.k c.target P) loader
  unfolding loader_checked_in
  image-checked P e = ap (λ (d : Checked c.k). loader_checked c.k c.target d loader) e

  image_as : (n : ℕ) → (loader_done c loader).answer ≡ accepted n → 0 < length loader → (N : Net) → IsNet c.k c.net N → (φ : ℕ) → Asked c N φ
      → (K : Key N c.k φ) → ((loader_done c loader).area ≡ written (cover_bytes long φ (entries K)) c.area) × ((loader_done c loader).loader ≡ written (image_bytes (entries K)) loader)
  image_as n e h N i φ asked K = go ways
    where
      go : Ways → ((loader_done c loader).area ≡ written (cover_bytes long φ (entries K)) c.area) × ((loader_done c loader).loader ≡ written (image_bytes (entries K)) loader)
      go (turned m s d q) = absurd (turned-not (sym d ∙ sym (ap (λ (o : LoaderOutcome). o.answer) q) ∙ e))
      go (cut z t q) = absurd (turned-not (sym (ap (λ (o : LoaderOutcome). o.answer) q) ∙ e))
      go (goes z t m q) =
          let d : (map_done c).answer ≡ accepted n = sym (ap (λ (o : LoaderOutcome). o.answer) q) ∙ e in
          let l = (leaves c n d).1 in
          let M = subst (MapNet c) (one-net c.k c.net l.2.0 i) l.2 in
          let p = (map-taken c.net c.k c.target c.area c.scratch N M.0 M.1).1 in (
            ap (λ (o : LoaderOutcome). o.area) q ∙ ((keyed c n d N i φ asked).1 K).1,
            ap (λ (o : LoaderOutcome). o.loader) q ∙ image-checked p.0 p.1 ∙ image-mapped p.0 φ asked K ∙ lent-loaded (entries K) h,
          )

-- **All of it is proved.**
pub loader-area : LoaderArea
loader-area = record {
  none = λ c loader e. no_loader loader e long c.net c.k c.target c.area c.scratch;
  early = early_as;
  short = short_as;
  other = other_as;
  numbers = numbers_as;
  kept = kept_as;
  image = image_as;
  value = value_of;
  unused = λ e. repeated-period (length e.leaves) e.table;
  runs = runs_of;
  low = λ few K. low_of K few;
}
