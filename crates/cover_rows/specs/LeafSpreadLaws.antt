-- Laws of spreading the stored d's over the leaves: at the start, at each kind of leaf, at the end.
use Rattle.std.specs.Prelude.{◌≡◌, refl, Bool, false, cond, ℕ, suc, ◌+◌, ◌/◌, ◌%◌, ◌^◌, ◌≤◌, ◌<◌, eqb, get_or, drop, set, replicate}
use Rattle.std.proofs.Common.{sym, ◌∙◌, div-one, add-one, length-set, drop_of_length-le, drop-cons, get_or-set_same, get_or-set_other}
use Rattle.std.proofs.Math.Path.{ap, ap₂}
use Rattle.std.proofs.Math.Bool.{true}
use mathlib.Core.List.{List, [], ◌∷◌, ◌++◌, append-nil}
use native.Mathlib.Omega.{arith}
use Rattle.std.proofs.Math.ListN.{length}
use Rattle.limits.specs.Limits.{most_items, most_pins}
use Rattle.sequences.specs.Listed.{listed_more}
use Rattle.net_model.specs.Arrays.{copies_from}
use Rattle.net_model.specs.ArrayLaws.{copies-listed}
use Rattle.net_model.specs.Copies.{Copy, copy}
use Rattle.net_model.specs.Tables.{bit}
use Rattle.net_bytes.specs.Maps.{half_pow}
use Rattle.net_bytes.specs.Walk.{first, rest}
use Rattle.cover_records.specs.CoverBytes.{leaves_from}
use Rattle.net_fields.specs.FieldListLaws.{first-drop, rest-drop, Alike, first_alike, rest-alike, small-none, small-set}
use Rattle.cover_rows.specs.declared.SpreadSoFar.{SpreadSoFar}
use Rattle.cover_rows.specs.LutParts.{Spreading, Spread}

-- one leaf: with the next d, or with none
leaf-deep : (b u : ℕ) (us ds : List ℕ) → bit b 0 ≡ true → leaves_from b (u ∷ us) ds ≡ copy u (first ds) ∷ leaves_from (b / 2) us (rest ds)
unfolding leaves_from
leaf-deep b u us ds e = ap (λ (t : Bool). cond t (copy u (first ds) ∷ leaves_from (b / 2) us (rest ds)) (copy u 0 ∷ leaves_from (b / 2) us ds)) e

leaf-flat : (b u : ℕ) (us ds : List ℕ) → bit b 0 ≡ false → leaves_from b (u ∷ us) ds ≡ copy u 0 ∷ leaves_from (b / 2) us ds
unfolding leaves_from
leaf-flat b u us ds e = ap (λ (t : Bool). cond t (copy u (first ds) ∷ leaves_from (b / 2) us (rest ds)) (copy u 0 ∷ leaves_from (b / 2) us ds)) e

low_bit : (b i : ℕ) → bit (b / 2 ^ i) 0 ≡ bit b i
low_bit b i = ap (λ (n : ℕ). eqb (n % 2) 1) (div-one (b / 2 ^ i))

module _ (p : ℕ) (depths : List ℕ) where
  pub spread_none : Spreading p depths 0 (record { backs = replicate most_items 0; used = 0 })
  unfolding copies_from
  spread_none = record {
    result = λ us h. ap (λ (n : ℕ). leaves_from n us depths) (sym (div-one p));
    used = omega arith;
    long = refl;
    small = λ s. small-none true most_items;
  }

  module _ (i : ℕ) (so : SpreadSoFar) (h : i < most_pins) (w : Spreading p depths i so) where
    -- the leaves that are left, the next one in front
    next : (us : List ℕ) → i + 1 ≤ length us → leaves_from p us depths
        ≡ copies_from us so.backs 0 i ++ leaves_from (p / 2 ^ i) (get_or us i 0 ∷ drop (suc i) us) (drop so.used depths)
    next us l = w.result us (omega arith)
        ∙ ap (λ (r : List ℕ). copies_from us so.backs 0 i ++ leaves_from (p / 2 ^ i) r (drop so.used depths)) (drop-cons us i 0 (omega arith))

    -- a leaf with the d v, and the rest from there on
    placed : (v used : ℕ) (us : List ℕ) → leaves_from p us depths
        ≡ copies_from us so.backs 0 i ++ (copy (get_or us i 0) v ∷ leaves_from (p / 2 ^ i / 2) (drop (suc i) us) (drop used depths))
        → leaves_from p us depths ≡ copies_from us (set so.backs i v) 0 (i + 1) ++ leaves_from (p / 2 ^ (i + 1)) (drop (i + 1) us) (drop used depths)
    placed v used us e =
        let long = w.long in
        e ∙ listed_more (copies-listed us so.backs) (copies-listed us (set so.backs i v)) i (copy (get_or us i 0) v) (leaves_from (p / 2 ^ i / 2) (drop (suc i) us) (drop used depths))
        (λ k b. ap (copy (get_or us k 0)) (sym (get_or-set_other so.backs i k v 0 (omega arith))))
        (ap (copy (get_or us i 0)) (sym (get_or-set_same so.backs i v 0 (omega arith))))
        ∙ ap (λ (l : List Copy). copies_from us (set so.backs i v) 0 (i + 1) ++ l)
        (ap₂ (λ (b : ℕ) (r : List ℕ). leaves_from b r (drop used depths)) (half_pow p i ∙ ap (λ (n : ℕ). p / 2 ^ n) (sym (add-one i))) (ap (λ (n : ℕ). drop n us) (sym (add-one i))))

    pub spread_flat : bit p i ≡ false → Spreading p depths (i + 1) (record { backs = set so.backs i 0; used = so.used })
    spread_flat e =
        let used = w.used in
        let long = w.long in
        record {
          result = λ us l. placed 0 so.used us (next us l ∙ ap (λ (r : List Copy). copies_from us so.backs 0 i ++ r)
              (leaf-flat (p / 2 ^ i) (get_or us i 0) (drop (suc i) us) (drop so.used depths) (low_bit p i ∙ e)));
          used = omega arith;
          long = length-set so.backs i 0 ∙ w.long;
          small = λ s. small-set true so.backs i 0 (omega arith) (w.small s) (omega arith);
        }

    pub spread_deep : bit p i ≡ true → Spreading p depths (i + 1) (record { backs = set so.backs i (get_or depths so.used 0); used = so.used + 1 })
    spread_deep e =
        let used = w.used in
        let long = w.long in
        let k = so.used in
        record {
          result = λ us l. placed (get_or depths k 0) (k + 1) us (next us l ∙ ap (λ (r : List Copy). copies_from us so.backs 0 i ++ r)
              (leaf-deep (p / 2 ^ i) (get_or us i 0) (drop (suc i) us) (drop k depths) (low_bit p i ∙ e)
              ∙ ap₂ (λ (v : ℕ) (r : List ℕ). copy (get_or us i 0) v ∷ leaves_from (p / 2 ^ i / 2) (drop (suc i) us) r) (first-drop depths k)
              (rest-drop depths k ∙ ap (λ (n : ℕ). drop n depths) (sym (add-one k)))));
          used = omega arith;
          long = length-set so.backs i (get_or depths k 0) ∙ w.long;
          small = λ s. small-set true so.backs i (get_or depths k 0) (omega arith) (w.small s) (s k);
        }

  -- all leaves have their d's
  pub spread_all : (n i : ℕ) (so : SpreadSoFar) → i ≡ n → Spreading p depths i so → Spread p n depths so.backs
  unfolding leaves_from
  spread_all n i so e w = record {
    result = λ us h. let past : length us ≤ i = omega arith in
        w.result us (omega arith)
        ∙ ap₂ (λ (k : ℕ) (r : List ℕ). copies_from us so.backs 0 k ++ leaves_from (p / 2 ^ i) r (drop so.used depths)) e (drop_of_length-le us past)
        ∙ append-nil (copies_from us so.backs 0 n);
    small = w.small;
  }

-- zeros behind the d's may go
pub leaves_from-alike : (b : ℕ) (us ds es : List ℕ) → Alike ds es → leaves_from b us ds ≡ leaves_from b us es
unfolding leaves_from
leaves_from-alike b [] ds es h = refl
leaves_from-alike b (u ∷ us) ds es h = go (bit b 0) (leaves_from-alike (b / 2) us)
  where
    go : (t : Bool) → ((ds es : List ℕ) → Alike ds es → leaves_from (b / 2) us ds ≡ leaves_from (b / 2) us es)
        → cond t (copy u (first ds) ∷ leaves_from (b / 2) us (rest ds)) (copy u 0 ∷ leaves_from (b / 2) us ds)
        ≡ cond t (copy u (first es) ∷ leaves_from (b / 2) us (rest es)) (copy u 0 ∷ leaves_from (b / 2) us es)
    go true more = ap₂ (λ (d : ℕ) (l : List Copy). copy u d ∷ l) (first_alike ds es h) (more (rest ds) (rest es) (rest-alike ds es h))
    go false more = ap (λ (l : List Copy). copy u 0 ∷ l) (more ds es h)
