-- Definitions: reading bytes from the front, each tested when read.
use Rattle.std.specs.Prelude.{Bool, true, false, cond, ◌&&◌, List, [], ◌∷◌, ℕ, zero, suc, ◌+◌, ◌*◌, leb}

-- What a reader gives: a value and the bytes behind it, or the number of a refusal.
pub data Result (A : Type 0) : Type 0 where
  got : A → List ℕ → Result A
  refused : ℕ → Result A

abbrev pub Reader : Type 0 → Type 0
Reader A = List ℕ → Result A

abbrev pub and_then : {A B : Type 0} → Result A → (A → Reader B) → Result B
and_then (got a rest) f = f a rest
and_then (refused n) f = refused n

infixl 1 ◌>>=◌
abbrev pub ◌>>=◌ : {A B : Type 0} → Reader A → (A → Reader B) → Reader B
◌>>=◌ m f s = and_then (m s) f

abbrev pub give : {A : Type 0} → A → Reader A
give a s = got a s

-- one value where the test passes, else the refusal n
abbrev pub check : {A : Type 0} → Bool → ℕ → A → Reader A
check true n a s = got a s
check false n a s = refused n

-- One byte: `early` where the bytes end, `bad` where it fails its test.
abbrev pub byte : ℕ → ℕ → (ℕ → Bool) → Reader ℕ
byte early bad ok [] = refused early
byte early bad ok (b ∷ rest) = check (ok b) bad b rest

-- One number: of one byte, or of two bytes, low first, tested when the second is there.
abbrev pub number : Bool → ℕ → ℕ → (ℕ → Bool) → Reader ℕ
number false early bad ok = byte early bad ok
number true early bad ok = do
  low ← byte early bad (λ b. true)
  high ← byte early bad (λ b. true)
  check (ok (low + 256 * high)) bad (low + 256 * high)

-- n things, one after the other
unfoldable pub times : {A : Type 0} → ℕ → Reader A → Reader (List A)
times zero m s = got [] s
times (suc n) m s = and_then (m s) (λ a rest. and_then (times n m rest) (λ more behind. got (a ∷ more) behind))

-- no byte is left, else the refusal n
abbrev pub at_end : {A : Type 0} → ℕ → A → Reader A
at_end n a [] = got a []
at_end n a (b ∷ rest) = refused n

abbrev pub between : ℕ → ℕ → ℕ → Bool
between low high b = leb low b && leb b high
