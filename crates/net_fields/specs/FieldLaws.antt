-- Laws of one byte and of one number: their tests, reading them at a place of the bytes, and what a result tells.
use Rattle.std.specs.Prelude.{◌≡◌, refl, Bool, true, false, not, ◌&&◌, List, [], ℕ, ◌+◌, ◌%◌, ◌≤◌, ◌<◌, leb, ltb, eqb, length, get_or, drop, Result, Ok, Err}
use Rattle.std.proofs.Common.{sym, ap, ap₂, ◌∙◌, arith, add-one, drop_of_length-le, drop-cons, le-leb, lt-ltb, le-ltb, eq-eqb, ne_eqb}
use Rattle.std.proofs.lemmas.Bool.{lt-leb}
use Rattle.net_bytes.specs.Reading.{Result as Outcome, at_end, between, byte, number, check, got, refused}
use Rattle.net_bytes.specs.Readers.{from_high, from_low, then-goes, then-stops}
use Rattle.net_bytes.specs.Walk.{table_byte}
use Rattle.refusals.specs.declared.Refusal.{Refusal}
use Rattle.refusals.specs.Refusals.{number_of}
use Rattle.net_fields.specs.declared.Read.{Read}
use Rattle.net_fields.specs.Outcomes.{outcome, onward}

pub in_range : (low high b : ℕ) → low ≤ b → b ≤ high → true ≡ between low high b
in_range low high b l h = sym (ap₂ (λ (x y : Bool). x && y) (le-leb low b l) (le-leb b high h))

pub below-range : (low high b : ℕ) → b < low → false ≡ between low high b
below-range low high b l = sym (ap (λ (x : Bool). x && leb b high) (lt-leb low b l))

pub above-range : (low high b : ℕ) → low ≤ b → high < b → false ≡ between low high b
above-range low high b l h = sym (ap₂ (λ (x y : Bool). x && y) (le-leb low b l) (lt-leb b high h))

pub root-low : (least nodes b : ℕ) → b < least → false ≡ (leb least b && ltb b nodes)
root-low least nodes b h = sym (ap (λ (x : Bool). x && ltb b nodes) (lt-leb least b h))

pub root_in : (least nodes b : ℕ) → least ≤ b → ltb b nodes ≡ (leb least b && ltb b nodes)
root_in least nodes b h = sym (ap (λ (x : Bool). x && ltb b nodes) (le-leb least b h))

pub map_in : (limit b : ℕ) → b < 128 → ltb (b % 64) limit ≡ (ltb b 128 && ltb (b % 64) limit)
map_in limit b h = sym (ap (λ (x : Bool). x && ltb (b % 64) limit) (lt-ltb b 128 h))

pub map-over : (limit b : ℕ) → 128 ≤ b → false ≡ (ltb b 128 && ltb (b % 64) limit)
map-over limit b h = sym (ap (λ (x : Bool). x && ltb (b % 64) limit) (le-ltb b 128 h))

pub size-some : (limit b : ℕ) → 1 ≤ b → leb b limit ≡ between 1 limit b
size-some limit b h = sym (ap (λ (x : Bool). x && leb b limit) (le-leb 1 b h))

pub some-not-zero : (b : ℕ) → 1 ≤ b → true ≡ not (eqb b 0)
some-not-zero b h = sym (ap not (ne_eqb b 0 (λ e. omega arith)))

pub none-zero : (b : ℕ) → b ≡ 0 → false ≡ not (eqb b 0)
none-zero b h = sym (ap not (eq-eqb b 0 h))

-- a table byte of few pins, where n is 2 to the number of its bits
module _ (m n b : ℕ) (e : table_byte m b ≡ ltb b n) where
  pub table_in : b < n → true ≡ table_byte m b
  table_in h = sym (e ∙ lt-ltb b n h)

  pub table-over : n ≤ b → false ≡ table_byte m b
  table-over h = sym (e ∙ le-ltb b n h)

pub table-pins : (m k b : ℕ) → m ≡ k → table_byte m b ≡ table_byte k b
table-pins m k b e = ap (λ (x : ℕ). table_byte x b) e

pub table-whole : (m b : ℕ) → 3 ≤ m → b < 256 → true ≡ table_byte m b
table-whole m b h l = rw (le-ltb m 3 h) (sym (lt-ltb b 256 l))

-- one byte at a place: past the end, allowed, or not
module _ (early bad : ℕ) (ok : ℕ → Bool) (s : List ℕ) (at : ℕ) where
  pub byte_end : length s ≤ at → byte early bad ok (drop at s) ≡ refused early
  byte_end h = ap (byte early bad ok) (drop_of_length-le s h)

  pub byte-here : at < length s → byte early bad ok (drop at s) ≡ check (ok (get_or s at 0)) bad (get_or s at 0) (drop (at + 1) s)
  byte-here h = rw (add-one, drop-cons s at 0 h) refl

  pub byte_ok : at < length s → ok (get_or s at 0) ≡ true → byte early bad ok (drop at s) ≡ got (get_or s at 0) (drop (at + 1) s)
  byte_ok h e = byte-here h ∙ ap (λ (t : Bool). check t bad (get_or s at 0) (drop (at + 1) s)) e

  pub byte-bad : at < length s → ok (get_or s at 0) ≡ false → byte early bad ok (drop at s) ≡ refused bad
  byte-bad h e = byte-here h ∙ ap (λ (t : Bool). check t bad (get_or s at 0) (drop (at + 1) s)) e

-- a number of two bytes at a place: past the end before either byte, or tested behind both
module _ (early bad : ℕ) (ok : ℕ → Bool) (s : List ℕ) (at : ℕ) where
  pub two_end : length s ≤ at → number true early bad ok (drop at s) ≡ refused early
  two_end h = then-stops (from_low early bad ok) (byte_end early bad (λ b. true) s at h)

  pub two-cut : at < length s → length s ≤ at + 1 → number true early bad ok (drop at s) ≡ refused early
  two-cut h l =
      then-goes (from_low early bad ok) (byte-here early bad (λ b. true) s at h) ∙ then-stops (from_high bad ok (get_or s at 0)) (byte_end early bad (λ b. true) s (at + 1) l)

  pub two_here : at + 1 < length s
      → number true early bad ok (drop at s) ≡ from_high bad ok (get_or s at 0) (get_or s (at + 1) 0) (drop (at + 1 + 1) s)
  two_here h =
      then-goes (from_low early bad ok) (byte-here early bad (λ b. true) s at (omega arith))
      ∙ then-goes (from_high bad ok (get_or s at 0)) (byte-here early bad (λ b. true) s (at + 1) h)

-- no byte is left, or some
pub end_done : {A : Type 0} (n : ℕ) (a : A) (s : List ℕ) (at : ℕ) → length s ≤ at → at_end n a (drop at s) ≡ got a []
end_done n a s at h = ap (at_end n a) (drop_of_length-le s h)

pub end_over : {A : Type 0} (n : ℕ) (a : A) (s : List ℕ) (at : ℕ) → at < length s → at_end n a (drop at s) ≡ refused n
end_over n a s at h = ap (at_end n a) (drop-cons s at 0 h)

-- a result tells what the reader gave
module _ {A B : Type 0} {r : Outcome B} {x : Result (Read A) Refusal} (f : A → B) (s : List ℕ) where
  pub went : {a : Read A} → r ≡ outcome f s x → x ≡ Ok a → r ≡ got (f a.value) (drop a.at s)
  went e h = e ∙ ap (outcome f s) h

  pub stopped : {n : Refusal} → r ≡ outcome f s x → x ≡ Err n → r ≡ refused (number_of n)
  stopped e h = e ∙ ap (outcome f s) h

  pub stopping : {n : Refusal} → r ≡ refused (number_of n) → x ≡ Err n → r ≡ outcome f s x
  stopping e h = e ∙ ap (outcome f s) (sym h)

-- a result tells where the reader went on
module _ {A B : Type 0} {r : Outcome B} {x : Result A Refusal} (f : A → Outcome B) where
  pub onward-went : {a : A} → r ≡ onward f x → x ≡ Ok a → r ≡ f a
  onward-went e h = e ∙ ap (onward f) h

  pub onward-stopped : {n : Refusal} → r ≡ onward f x → x ≡ Err n → r ≡ refused (number_of n)
  onward-stopped e h = e ∙ ap (onward f) h

  pub onward-stopping : {n : Refusal} → r ≡ refused (number_of n) → x ≡ Err n → r ≡ onward f x
  onward-stopping e h = e ∙ ap (onward f) (sym h)

-- no result is both
pub not-both : {A : Type 0} {x : Result A Refusal} {a : A} {n : Refusal} → x ≡ Ok a → x ≡ Err n → ⊥
not-both p q = cc
