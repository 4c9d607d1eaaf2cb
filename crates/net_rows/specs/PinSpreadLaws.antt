-- Laws of spreading the counts over the pins: at the start, at each kind of place, at the end.
use Rattle.std.specs.Prelude.{◌≡◌, true, false, ℕ, suc, ◌+◌, ◌-◌, ◌≤◌, ◌<◌, get_or, drop, set, replicate}
use Rattle.std.proofs.Math.Path.{refl, sym, ap}
use Rattle.std.proofs.Common.{ap₂, ◌∙◌, div-one, add-one, length-set, get_or-set_same, get_or-set_other}
use mathlib.Core.List.{List, ◌∷◌, ◌++◌, append-nil}
use native.Mathlib.Omega.{arith}
use Rattle.std.specs.Int.Count.{ones, ones_in}
use Rattle.std.proofs.Math.ListN.{length}
use Rattle.limits.specs.Limits.{most_items, most_pins}
use Rattle.sequences.specs.Listed.{listed_more}
use Rattle.net_model.specs.Net.{Pin}
use Rattle.net_model.specs.Tables.{bit}
use Rattle.net_model.specs.Arrays.{pins_in}
use Rattle.net_model.specs.ArrayLaws.{pin_at, pins-listed, length-pins_in}
use Rattle.net_bytes.specs.Walk.{pins_from, first, rest}
use Rattle.net_bytes.specs.Maps.{ones_in_lem, length-pins_from}
use Rattle.net_fields.specs.FieldListLaws.{first-drop, rest-drop}
use Rattle.net_rows.specs.declared.SpreadSoFar.{SpreadSoFar}
use Rattle.net_rows.specs.RowParts.{Spreading}
use Rattle.net_rows.specs.RowLaws.{place-absent, place-plain, place-counted}

module _ (p r : ℕ) (counts : List ℕ) where
  pub spread_none : Spreading p r counts 0 (record { counts = replicate most_items 0; pin = 0; used = 0 })
  unfolding pins_in
  spread_none = record { result = λ s. refl; pins = omega arith; used = omega arith; long = refl }

  module _ (i : ℕ) (so : SpreadSoFar) (h : i < most_pins) (w : Spreading p r counts i so) where
    one_left : most_pins - i ≡ suc (most_pins - (i + 1))
    one_left = omega arith

    -- the places that are left, the next one in front
    next : (s : List ℕ) → pins_from most_pins 0 p r s counts
        ≡ pins_in s so.counts 0 so.pin ++ pins_from (suc (most_pins - (i + 1))) i p r (drop so.pin s) (drop so.used counts)
    next s = w.result s ∙ ap (λ (n : ℕ). pins_in s so.counts 0 so.pin ++ pins_from n i p r (drop so.pin s) (drop so.used counts)) one_left

    pub spread_absent : bit p i ≡ false → Spreading p r counts (i + 1) so
    spread_absent e =
        let pins = w.pins in
        let used = w.used in
        let after : i + 1 ≡ suc i = add-one i in
        record {
          result = λ s. next s ∙ ap (λ (l : List Pin). pins_in s so.counts 0 so.pin ++ l)
              (place-absent (most_pins - (i + 1)) i p r (drop so.pin s) (drop so.used counts) e
              ∙ ap (λ (j : ℕ). pins_from (most_pins - (i + 1)) j p r (drop so.pin s) (drop so.used counts)) (sym after));
          pins = omega arith;
          used = omega arith;
          long = w.long;
        }

    -- a pin whose count is v, and the rest from there on
    placed : (v u : ℕ) (s : List ℕ) (x : Pin) (l : List Pin) → x ≡ record { src = first (drop so.pin s); count = v }
        → l ≡ pins_from (most_pins - (i + 1)) (suc i) p r (rest (drop so.pin s)) (drop u counts)
        → pins_from most_pins 0 p r s counts ≡ pins_in s so.counts 0 so.pin ++ (x ∷ l)
        → pins_from most_pins 0 p r s counts ≡ pins_in s (set so.counts so.pin v) 0 (so.pin + 1)
        ++ pins_from (most_pins - (i + 1)) (i + 1) p r (drop (so.pin + 1) s) (drop u counts)
    placed v u s x l ex el e =
        let j = so.pin in
        let pins = w.pins in
        let long = w.long in
        let here : get_or (set so.counts j v) j 0 ≡ v = get_or-set_same so.counts j v 0 (omega arith) in
        let kept : (k : ℕ) → k < j → pin_at s so.counts k ≡ pin_at s (set so.counts j v) k =
        λ k b. ap (λ (n : ℕ). record { src = get_or s k 0; count = n }) (sym (get_or-set_other so.counts j k v 0 (omega arith))) in
        let is_pin : x ≡ pin_at s (set so.counts j v) j =
        ex ∙ ap₂ (λ (a b : ℕ). record { src = a; count = b }) (first-drop s j) (sym here) in
        let after : suc i ≡ i + 1 = sym (add-one i) in
        let behind : rest (drop j s) ≡ drop (j + 1) s = rest-drop s j ∙ ap (λ (n : ℕ). drop n s) (sym (add-one j)) in
        e ∙ listed_more (pins-listed s so.counts) (pins-listed s (set so.counts j v)) j x l kept is_pin
        ∙ ap (λ (m : List Pin). pins_in s (set so.counts j v) 0 (j + 1) ++ m)
        (el ∙ ap₂ (λ (n : ℕ) (t : List ℕ). pins_from (most_pins - (i + 1)) n p r t (drop u counts)) after behind)

    pub spread_plain : bit p i ≡ true → bit r i ≡ false
        → Spreading p r counts (i + 1) (record { counts = set so.counts so.pin 0; pin = so.pin + 1; used = so.used })
    spread_plain e f =
        let pins = w.pins in
        let used = w.used in
        record {
          result = λ s. placed 0 so.used s (record { src = first (drop so.pin s); count = 0 })
              (pins_from (most_pins - (i + 1)) (suc i) p r (rest (drop so.pin s)) (drop so.used counts)) refl refl
              (next s ∙ ap (λ (l : List Pin). pins_in s so.counts 0 so.pin ++ l)
              (place-plain (most_pins - (i + 1)) i p r (drop so.pin s) (drop so.used counts) e f));
          pins = omega arith;
          used = omega arith;
          long = length-set so.counts so.pin 0 ∙ w.long;
        }

    pub spread_counted : bit p i ≡ true → bit r i ≡ true
        → Spreading p r counts (i + 1) (record { counts = set so.counts so.pin (get_or counts so.used 0); pin = so.pin + 1; used = so.used + 1 })
    spread_counted e f =
        let pins = w.pins in
        let used = w.used in
        let u = so.used in
        let behind : rest (drop u counts) ≡ drop (u + 1) counts = rest-drop counts u ∙ ap (λ (n : ℕ). drop n counts) (sym (add-one u)) in
        record {
          result = λ s. placed (get_or counts u 0) (u + 1) s (record { src = first (drop so.pin s); count = first (drop u counts) })
              (pins_from (most_pins - (i + 1)) (suc i) p r (rest (drop so.pin s)) (rest (drop u counts)))
              (ap (λ (n : ℕ). record { src = first (drop so.pin s); count = n }) (first-drop counts u))
              (ap (pins_from (most_pins - (i + 1)) (suc i) p r (rest (drop so.pin s))) behind)
              (next s ∙ ap (λ (l : List Pin). pins_in s so.counts 0 so.pin ++ l)
              (place-counted (most_pins - (i + 1)) i p r (drop so.pin s) (drop u counts) e f));
          pins = omega arith;
          used = omega arith;
          long = length-set so.counts so.pin (get_or counts u 0) ∙ w.long;
        }

  -- all six places are spread: there are as many pins as the map has ones
  pub spread_all : (i : ℕ) (so : SpreadSoFar) → most_pins ≤ i → i ≤ most_pins → p < 64 → Spreading p r counts i so
      → (s : List ℕ) → pins_from most_pins 0 p r s counts ≡ pins_in s so.counts 0 (ones p)
  unfolding pins_from
  spread_all i so l h small w s =
      let none : most_pins - i ≡ 0 = omega arith in
      let whole : pins_from most_pins 0 p r s counts ≡ pins_in s so.counts 0 so.pin =
      w.result s ∙ ap (λ (n : ℕ). pins_in s so.counts 0 so.pin ++ pins_from n i p r (drop so.pin s) (drop so.used counts)) none
      ∙ append-nil (pins_in s so.counts 0 so.pin) in
      let many : so.pin ≡ ones p =
      sym (length-pins_in s so.counts 0 so.pin) ∙ ap length (sym whole) ∙ length-pins_from most_pins 0 p r s counts ∙ ap (ones_in most_pins) (div-one p)
      ∙ sym (ones_in_lem most_pins p small) in
      whole ∙ ap (pins_in s so.counts 0) many
