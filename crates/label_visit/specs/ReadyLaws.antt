-- What the engine needs of labels, also where one of them changes.
use Rattle.std.specs.Prelude.{◌≡◌, refl, Bool, true, false, ◌⊎◌, List, ℕ, zero, suc, ◌+◌, ◌*◌, ◌≤◌, ◌<◌, ℤ, pos, ◌+ℤ◌, length, get_or, set, drop, ◌≤ℤ◌, ◌<ℤ◌}
use Rattle.std.proofs.Common.{sym, ap, subst, ◌∙◌, inl, inr, arith, mul-le-mul_left, to_z, of_z, length-set, length-drop, get_or-set_same, get_or-set_other}
use Rattle.std.proofs.Math.Decide.{ℕ_discrete}
use Rattle.std.proofs.lemmas.Bool.{true≢false, false≢true}
use Rattle.std.specs.Int.{w64}
use Rattle.limits.specs.Limits.{most_pins}
use Rattle.integers.specs.Parts.{ints, +-parts}
use Rattle.integers.specs.Order.{≤ℤ_antisym}
use Rattle.signed.specs.Range.{Small, room, label_in}
use Rattle.signed.specs.RangeLaws.{small-between}
use Rattle.cut_circuit.specs.Circuit.{Circuit, Layout}
use Rattle.cut_circuit.specs.Packed.{packed_of, sources_at, counts_at}
use Rattle.cut_circuit.specs.declared.Extent.{Extent}
use Rattle.label_pins.specs.PinHeights.{height_at, PinFits, Best}
use Rattle.label_pins.specs.PinHeightLaws.{height-back, small-height}
use Rattle.label_visit.specs.LabelVisits.{PinMax, wiring, PinsFit, Raised, Changed, Fine, Ready}

pub raise-lower : (ls : List ℤ) (v : ℕ) (p q : ℤ) → q ≡ p → label_in ls v <ℤ p → Raised ls (set ls v q) v p true
raise-lower ls v p q e h = record { lower = λ i. (h, ap (set ls v) e); there = λ i. absurd (true≢false i) }

pub raise-there : (ls : List ℤ) (v : ℕ) (p : ℤ) → label_in ls v ≤ℤ p → p ≤ℤ label_in ls v → Raised ls ls v p false
raise-there ls v p h l = record { lower = λ i. absurd (false≢true i); there = λ i. (≤ℤ_antisym h l, refl) }

pub changed-set : (ls : List ℤ) (v : ℕ) (p : ℤ) → v < length ls → Changed ls (set ls v p) v p
changed-set ls v p h = record { size = length-set ls v p; at = get_or-set_same ls v p (pos 0) h; other = λ u n. get_or-set_other ls v u p (pos 0) n }

pub changed-none : (ls : List ℤ) (v : ℕ) (p : ℤ) → label_in ls v ≡ p → Changed ls ls v p
changed-none ls v p e = record { size = refl; at = e; other = λ u n. refl }

pub changed_then : {ls ls' ls'' : List ℤ} {v : ℕ} {p q : ℤ} → Changed ls ls' v p → Changed ls' ls'' v q → Changed ls ls'' v q
changed_then a b = record { size = b.size ∙ a.size; at = b.at; other = λ u n. b.other u n ∙ a.other u n }

-- the same of an equal number
pub pinmax_at : {C : Circuit} {ls : List ℤ} {φ g : ℕ} {p q : ℤ} → p ≡ q → PinMax C ls φ g p → PinMax C ls φ g q
pinmax_at {C} {ls} {φ} {g} e m = subst (PinMax C ls φ g) e m

-- the pins of a gate can be read, and their numbers do not overflow
pub pins-fit : {s : Extent} {net slots : List ℕ} {ls : List ℤ} {φ k : ℕ} → Layout (packed_of s net slots) → Ready s ls φ k → (g : ℕ) → g < s.gates → PinsFit s net ls φ g
pins-fit {s} {net} {ls = ls} {φ = φ} L y g h = record {
  gate = h;
  room = omega (arith, L.counts, length-drop (counts_at s.gates) net, h);
  some = omega (arith, L.first g h);
  few = L.few g h;
  pin = pin;
}
  where
    so : List ℕ
    so = drop (sources_at s.gates) net

    co : List ℕ
    co = drop (counts_at s.gates) net

    pin : (j : ℕ) → j < get_or net g 0 → PinFits so co ls φ (most_pins * g + j)
    pin j l =
        let a = L.few g h in
        let b = L.sources in
        let d = L.counts in
        let r = L.source g j h l in
        let w = L.count g j h l in
        let e = y.size in
        let m = mul-le-mul_left φ (let x : get_or co (most_pins * g + j) 0 ≤ s.width = omega arith in x) in
        let q = y.shift in
        record { source = omega arith; count = omega arith; node = omega arith; small = y.small (get_or so (most_pins * g + j) 0); shift = omega arith }

pub best-max : (s : Extent) (net : List ℕ) {ls : List ℤ} {φ g r : ℕ} → Best (drop (sources_at s.gates) net) (drop (counts_at s.gates) net) ls φ (most_pins * g) (get_or net g 0) r
    → PinMax (wiring s net) ls φ g (height_at (drop (sources_at s.gates) net) (drop (counts_at s.gates) net) ls φ (most_pins * g + r))
best-max s net {r = r} b = record { above = b.above; pin = r; is_pin = b.bound; attained = refl }

-- the pins' largest is small where it is no lower than a small number
pub max-small : {s : Extent} {net : List ℕ} {ls : List ℤ} {φ g : ℕ} {p : ℤ} (x : ℤ) → PinsFit s net ls φ g → PinMax (wiring s net) ls φ g p → Small x → x ≤ℤ p → Small p
max-small {s} {net} {ls} {φ} {g} {p} x f m h l =
    subst Small m.attained (small-height (drop (sources_at s.gates) net) (drop (counts_at s.gates) net) ls φ (most_pins * g + m.pin) x (f.pin m.pin m.is_pin) h
    (subst (λ (z : ℤ). x ≤ℤ z) (sym m.attained) l))

-- and 64 bits hold it
pub max-back : {s : Extent} {net : List ℕ} {ls : List ℤ} {φ g : ℕ} {p : ℤ} → PinsFit s net ls φ g → PinMax (wiring s net) ls φ g p → p ≡ to_z w64 (of_z w64 p)
max-back {s} {net} {ls} {φ} {g} f m =
    subst (λ (z : ℤ). z ≡ to_z w64 (of_z w64 z)) m.attained
    (sym (height-back (drop (sources_at s.gates) net) (drop (counts_at s.gates) net) ls φ (most_pins * g + m.pin) (f.pin m.pin m.is_pin)))

pub two_cases : (n : ℕ) → n < 2 → (n ≡ 0) ⊎ (n ≡ 1)
two_cases zero l = inl refl
two_cases (suc zero) l = inr refl
two_cases (suc (suc n)) l = absurd (omega (arith, l))

pub raised-changed : {ls ls' : List ℤ} {v : ℕ} {rose : Bool} {p : ℤ} → v < length ls → Raised ls ls' v p rose → Changed ls ls' v p
raised-changed {ls} {ls'} {v} {rose = true} {p} i R = subst (λ (x : List ℤ). Changed ls x v p) (sym (R.lower refl).1) (changed-set ls v p i)
raised-changed {ls} {ls'} {v} {rose = false} {p} i R = let t = R.there refl in subst (λ (x : List ℤ). Changed ls x v p) (sym t.1) (changed-none ls v p t.0)

-- a small number in place of a label
pub changed-small : {ls ls' : List ℤ} {v : ℕ} {q : ℤ} → ((u : ℕ) → Small (label_in ls u)) → Small q → Changed ls ls' v q → (u : ℕ) → Small (label_in ls' u)
changed-small {ls} {ls'} {v} {q} f s c u = go (ℕ_discrete u v)
  where
    go : Dec (u ≡ v) → Small (label_in ls' u)
    go (yes e) = subst (λ (x : ℕ). Small (label_in ls' x)) (sym e) (subst Small (sym c.at) s)
    go (no n) = subst Small (sym (c.other u n)) (f u)

pub raised-ready : {s : Extent} {φ k : ℕ} {ls ls' : List ℤ} (g : ℕ) {rose : Bool} {p : ℤ} → Ready s ls φ k → g < s.gates → Small p → Raised ls ls' (s.inputs + g) p rose → Ready s ls' φ k
raised-ready g y h q R =
    let c = raised-changed (let e = y.size in omega arith) R in
    record { size = c.size ∙ y.size; small = changed-small y.small q c; shift = y.shift; least = y.least; limit = y.limit; fits = y.fits }

pub ready-fine : {s : Extent} {net : List ℕ} {φ k : ℕ} {ls : List ℤ} → Ready s ls φ k → Fine (wiring s net) ls
ready-fine y = record { size = y.size; small = y.small }

pub ready-after : {s : Extent} {net : List ℕ} {φ k : ℕ} {ls ls' : List ℤ} → Ready s ls φ k → Fine (wiring s net) ls' → Ready s ls' φ k
ready-after y f = record { size = f.size; small = f.small; shift = y.shift; least = y.least; limit = y.limit; fits = y.fits }

pub small-next : (p : ℤ) (top : ℕ) → Small p → top ≤ room → p <ℤ pos top → Small (p +ℤ pos 1)
small-next p top s h l = small-between p (pos top) (p +ℤ pos 1) s (record { size = h }) (omega (arith, ints, +-parts p (pos 1))) (omega (arith, ints, +-parts p (pos 1)))
