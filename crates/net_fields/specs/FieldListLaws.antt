-- Laws of lists of bytes: the first and the rest, lists that end in zeros, and the number of eight bytes.
use Rattle.std.specs.Prelude.{◌≡◌, refl, Bool, true, false, List, [], ◌∷◌, ℕ, zero, suc, ◌+◌, ◌*◌, ◌≤◌, ◌<◌, take, drop, set, replicate}
use Rattle.std.proofs.Math.Path.{sym, ap}
use Rattle.std.proofs.Common.{◌∙◌, zero-le, suc-le-suc, get_or-set_same, get_or-set_other}
use native.Mathlib.Omega.{arith}
use Rattle.std.specs.Int.{w64, from_le_bytes}
use Rattle.std.proofs.Math.Decide.{ℕ_discrete}
use Rattle.std.proofs.Math.ListN.{length, get_or}
use Rattle.sequences.specs.Zeros.{zeros}
use Rattle.net_bytes.specs.Walk.{first, rest, from_bytes}
use Rattle.net_fields.specs.ItemsRead.{number_room, Small}

pub first-drop : (l : List ℕ) (j : ℕ) → first (drop j l) ≡ get_or l j 0
first-drop [] zero = refl
first-drop [] (suc j) = refl
first-drop (a ∷ l) zero = refl
first-drop (a ∷ l) (suc j) = first-drop l j

pub rest-drop : (l : List ℕ) (j : ℕ) → rest (drop j l) ≡ drop (suc j) l
rest-drop [] zero = refl
rest-drop [] (suc j) = refl
rest-drop (a ∷ l) zero = refl
rest-drop (a ∷ l) (suc j) = rest-drop l j

-- two lists with the same elements, 0 behind their ends
abbrev pub Alike : List ℕ → List ℕ → Type 0
Alike l m = (i : ℕ) → get_or l i 0 ≡ get_or m i 0

pub first_alike : (l m : List ℕ) → Alike l m → first l ≡ first m
first_alike l m h = first-drop l 0 ∙ h 0 ∙ sym (first-drop m 0)

pub rest-alike : (l m : List ℕ) → Alike l m → Alike (rest l) (rest m)
rest-alike [] [] h i = refl
rest-alike [] (b ∷ m) h i = h (suc i)
rest-alike (a ∷ l) [] h i = h (suc i)
rest-alike (a ∷ l) (b ∷ m) h i = h (suc i)

-- the zeros behind n elements may go
pub take-alike : (n : ℕ) (l : List ℕ) → ((i : ℕ) → n ≤ i → get_or l i 0 ≡ 0) → Alike (take n l) l
take-alike zero l h i = sym (h i zero-le)
take-alike (suc n) [] h i = refl
take-alike (suc n) (a ∷ l) h zero = refl
take-alike (suc n) (a ∷ l) h (suc i) = take-alike n l (λ j b. h (suc j) (suc-le-suc b)) i

first_get_or : (l : List ℕ) → first l ≡ get_or l 0 0
first_get_or [] = refl
first_get_or (a ∷ l) = refl

-- the first of the elements taken, 0 behind them
pub first_taken : (n : ℕ) (l : List ℕ) → ((i : ℕ) → n ≤ i → get_or l i 0 ≡ 0) → first (take n l) ≡ get_or l 0 0
first_taken n l h = first_get_or (take n l) ∙ take-alike n l h 0

from_bytes-zero : (l : List ℕ) → ((i : ℕ) → get_or l i 0 ≡ 0) → from_bytes l ≡ 0
unfolding from_bytes
from_bytes-zero [] h = refl
from_bytes-zero (a ∷ l) h = let z = h 0 in omega (arith, from_bytes-zero l (λ i. h (suc i)))

pub from_bytes-take : (n : ℕ) (l : List ℕ) → ((i : ℕ) → n ≤ i → get_or l i 0 ≡ 0) → from_bytes (take n l) ≡ from_bytes l
unfolding from_bytes
from_bytes-take zero l h = sym (from_bytes-zero l (λ i. h i zero-le))
from_bytes-take (suc n) [] h = refl
from_bytes-take (suc n) (a ∷ l) h = ap (λ (x : ℕ). a + 256 * x) (from_bytes-take n l (λ j b. h (suc j) (suc-le-suc b)))

-- the number that std reads from eight bytes
pub eight_bytes : (l : List ℕ) → length l ≡ 8 → from_le_bytes w64 l ≡ from_bytes l
unfolding from_bytes
eight_bytes (a ∷ b ∷ c ∷ d ∷ e ∷ f ∷ g ∷ h ∷ []) long = omega arith
eight_bytes [] long = absurd (omega arith)
eight_bytes (a ∷ []) long = absurd (omega arith)
eight_bytes (a ∷ b ∷ []) long = absurd (omega arith)
eight_bytes (a ∷ b ∷ c ∷ []) long = absurd (omega arith)
eight_bytes (a ∷ b ∷ c ∷ d ∷ []) long = absurd (omega arith)
eight_bytes (a ∷ b ∷ c ∷ d ∷ e ∷ []) long = absurd (omega arith)
eight_bytes (a ∷ b ∷ c ∷ d ∷ e ∷ f ∷ []) long = absurd (omega arith)
eight_bytes (a ∷ b ∷ c ∷ d ∷ e ∷ f ∷ g ∷ []) long = absurd (omega arith)
eight_bytes (a ∷ b ∷ c ∷ d ∷ e ∷ f ∷ g ∷ h ∷ i ∷ l) long = absurd (omega arith)

-- zeros are numbers of at most two bytes, and one more stays so
pub some-room : (two : Bool) → 0 < number_room two
some-room true = omega arith
some-room false = omega arith

pub small-none : (two : Bool) (n : ℕ) → Small two (replicate n 0)
small-none two n i = let z = zeros n i in let r = some-room two in omega arith

pub small-set : (two : Bool) (l : List ℕ) (i b : ℕ) → i < length l → Small two l → b < number_room two → Small two (set l i b)
small-set two l i b long h small j = go (ℕ_discrete j i)
  where
    go : Dec (j ≡ i) → get_or (set l i b) j 0 < number_room two
    go (yes e) = rw e (rw (get_or-set_same l i b 0 long) small)
    go (no n) = rw (get_or-set_other l i j b 0 n) (h j)
