-- Laws of the packed arrays and of the slots.
use Rattle.std.specs.Prelude.{◌≡◌, refl, true, false, List, [], ◌∷◌, ℕ, zero, suc, ◌+◌, ◌*◌, ◌/◌, ◌%◌, ◌-◌, ◌^◌, ◌≤◌, ◌<◌, length, get_or, drop, take}
use Rattle.std.proofs.Common.{sym, ap, subst, ◌∙◌, not-suc-le-zero, arith, length-drop, length-take, get_or-drop, get_or-take, eqb, eq-eqb, eqb-true}
use Rattle.std.proofs.lemmas.Bool.{false≢true}
use Rattle.std.specs.List.{list_any}
use Rattle.std.proofs.lemmas.List.{get_or_default}
use Rattle.std.proofs.lemmas.List.Folds.{Any-from_list_any, list_any_at}
use Rattle.limits.specs.Limits.{most_k, most_pins}
use Rattle.cut_circuit.specs.Circuit.{ending_at, feeding_at, among, forced_at}
use Rattle.cut_circuit.specs.CircuitLaws.{node-below, place-held, held_place, held-forced}
use Rattle.cut_circuit.specs.Packed.{packed_of, first_at, sources_at, counts_at, GateAsked, SourceAsked, SlotAsked}
use Rattle.cut_circuit.specs.declared.Extent.{Extent}

-- a part up to the end
take_all : (l : List ℕ) (n : ℕ) → length l ≤ n → take n l ≡ l
take_all [] zero h = refl
take_all [] (suc n) h = refl
take_all (x ∷ l) zero h = absurd (not-suc-le-zero h)
take_all (x ∷ l) (suc n) h = ap (λ (m : List ℕ). x ∷ m) (take_all l n (omega (arith, h)))

pub behind : (l : List ℕ) (a : ℕ) → take (length l - a) (drop a l) ≡ drop a l
behind l a = take_all (drop a l) (length l - a) (omega (arith, length-drop a l))

-- ---- the pins of a copy
module _ {s : Extent} {net : List ℕ} {x : ℕ} where
  pub first-inside : GateAsked (packed_of s net []) (drop (first_at s.gates) net) x → s.gates + (x / s.width - s.inputs) < length net
  first-inside a = omega (arith, a.below, length-drop (first_at s.gates) net)

  module _ {j : ℕ} (a : SourceAsked (packed_of s net []) x j) where
    abbrev here : ℕ
    here = most_pins * (x / s.width - s.inputs) + j

    pub source-inside : sources_at s.gates + here < length net
    source-inside = omega (arith, a.source, length-drop (sources_at s.gates) net)

    pub count-inside : counts_at s.gates + here < length net
    count-inside = omega (arith, a.count, length-drop (counts_at s.gates) net)

    pub source-read : get_or net (sources_at s.gates + here) 0 * s.width + (x % s.width + get_or net (counts_at s.gates + here) 0)
        ≡ feeding_at s.width (drop (sources_at s.gates) net) (drop (counts_at s.gates) net) x here
    source-read =
        ap (λ (u : ℕ). u * s.width + (x % s.width + get_or net (counts_at s.gates + here) 0)) (sym (get_or-drop (sources_at s.gates) net here 0))
        ∙ ap (λ (d : ℕ). get_or (drop (sources_at s.gates) net) here 0 * s.width + (x % s.width + d)) (sym (get_or-drop (counts_at s.gates) net here 0))

    pub source_fits : get_or net (sources_at s.gates + here) 0 * s.width + (x % s.width + get_or net (counts_at s.gates + here) 0) < 2 ^ 64
    source_fits = subst (λ (n : ℕ). n < 2 ^ 64) (sym source-read) a.fits

-- ---- a copy looked for in its gate's slots
module _ {s : Extent} {slots : List ℕ} {x : ℕ} (a : SlotAsked s slots x) (e : ending_at s.inputs s.width s.border x ≡ 0) where
  abbrev gate : ℕ
  gate = x / s.width - s.inputs

  pub slot-gate : gate < s.gates
  slot-gate = omega (arith, node-below x s.width (s.inputs + s.gates) a.wide a.inside, e)

  pub slot-count : gate < length slots
  slot-count = omega (arith, slot-gate, a.room)

  pub slot-places : s.gates + most_k * gate + get_or slots gate 0 ≤ length slots
  slot-places = omega (arith, slot-gate, a.room, a.held gate slot-gate)

  pub slot-forced : forced_at s.inputs s.gates s.width s.border slots x ≡ among slots (s.gates + most_k * gate) (get_or slots gate 0) (x % s.width)
  slot-forced = held-forced s.inputs s.gates s.width s.border slots x a.inside e

-- a number found among so many places, or not
module _ (slots : List ℕ) (a n d : ℕ) (inside : a + n ≤ length slots) where
  abbrev part : List ℕ
  part = take (a + n - a) (drop a slots)

  length-part : length part ≡ n
  length-part = simp (length-take, length-drop) (omega arith)

  at-part : (i : ℕ) → i < n → get_or part i 0 ≡ get_or slots (a + i) 0
  at-part i h = get_or-take (a + n - a) (drop a slots) i 0 (omega (arith, h)) ∙ get_or-drop a slots i 0

  pub any-held : list_any (λ x. eqb x d) part ≡ true → 0 < among slots a n d
  any-held h =
      let r = Any-from_list_any (λ x. eqb x d) part h in
      let i : r.0 < n = omega (arith, r.2, length-part) in
      place-held slots a n d r.0 i (sym (at-part r.0 i) ∙ (get_or_default part r.0 0 r.1 r.2 ∙ (r.3 ∙ eqb-true r.1 d r.4)))

  pub none-held : list_any (λ x. eqb x d) part ≡ false → among slots a n d ≡ 0
  none-held h = go (among slots a n d) refl
    where
      go : (m : ℕ) → among slots a n d ≡ m → among slots a n d ≡ 0
      go zero q = q
      go (suc m) q =
          let r = held_place slots a n d (omega (arith, q)) in
          absurd (false≢true (sym h ∙ list_any_at (λ x. eqb x d) part r.0 0 (omega (arith, r.1, length-part)) (eq-eqb (get_or part r.0 0) d (at-part r.0 r.1 ∙ r.2))))

-- ---- what is asked of pins does not speak of slots
pub source-plain : {s : Extent} {net slots : List ℕ} {x j : ℕ} → SourceAsked (packed_of s net slots) x j → SourceAsked (packed_of s net []) x j
source-plain a = record { wide = a.wide; gate = a.gate; source = a.source; count = a.count; fits = a.fits }

pub gate-plain : {s : Extent} {net slots l : List ℕ} {x : ℕ} → GateAsked (packed_of s net slots) l x → GateAsked (packed_of s net []) l x
gate-plain a = record { wide = a.wide; gate = a.gate; below = a.below }
