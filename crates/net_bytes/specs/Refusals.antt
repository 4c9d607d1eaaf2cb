-- Laws: with which numbers a reader refuses. The walk over a net record refuses with 4 to 8 alone.
use Rattle.std.specs.Prelude.{◌≡◌, refl, Bool, true, false, leb}
use Rattle.std.proofs.Common.{sym, subst, arith}
use mathlib.Core.List.{List, [], ◌∷◌}
use Prim.Native.Nat.{ℕ, zero, suc, ◌+◌, ◌*◌, ◌≤◌}
use Rattle.std.specs.Int.Count.{ones}
use Rattle.limits.specs.declared.Rules.{Rules}
use Rattle.net_bytes.specs.Reading.{Result, Reader, and_then, check, byte, number, times, at_end, got, refused}
use Rattle.net_bytes.specs.Readers.{refused-not-got}
use Rattle.net_bytes.specs.Walk.{head_of, drawn, gate_reader, output_reader, body_reader, drawn_reader, net_reader}

module _ (P : ℕ → Type 0) where
  -- no other number
  abbrev pub Only : {A : Type 0} → Result A → Type 0
  Only r = (n : ℕ) → r ≡ refused n → P n

  module _ {A : Type 0} where
    pub only-got : (a : A) (s : List ℕ) → Only (got a s)
    only-got a s n e = absurd (refused-not-got n a s (sym e))

    pub only-refused : (m : ℕ) → P m → Only {A = A} (refused m)
    only-refused m p n e = let same : m ≡ n = cc in subst P same p

    pub only-check : (t : Bool) (m : ℕ) (a : A) (s : List ℕ) → P m → Only (check t m a s)
    only-check true m a s p = only-got a s
    only-check false m a s p = only-refused m p

    pub only_end : (m : ℕ) (a : A) (s : List ℕ) → P m → Only (at_end m a s)
    only_end m a [] p = only-got a []
    only_end m a (b ∷ s) p = only-refused m p

    pub only_then : {B : Type 0} (r : Result A) (f : A → Reader B) → Only r → ((a : A) (s : List ℕ) → Only (f a s)) → Only (and_then r f)
    only_then (got a s) f p q n e = q a s n e
    only_then (refused m) f p q n e = let same : m ≡ n = cc in subst P same (p m refl)

  pub only-byte : (early bad : ℕ) (ok : ℕ → Bool) (s : List ℕ) → P early → P bad → Only (byte early bad ok s)
  only-byte early bad ok [] p q = only-refused early p
  only-byte early bad ok (b ∷ s) p q = only-check (ok b) bad b s q

  pub only-number : (wide : Bool) (early bad : ℕ) (ok : ℕ → Bool) (s : List ℕ) → P early → P bad → Only (number wide early bad ok s)
  only-number false early bad ok s p q = only-byte early bad ok s p q
  only-number true early bad ok s p q =
      only_then _ _ (only-byte early bad (λ x. true) s p q) λ low t.
      only_then _ _ (only-byte early bad (λ x. true) t p q) λ high u. only-check (ok (low + 256 * high)) bad (low + 256 * high) u q

  pub only-times : {A : Type 0} (m : Reader A) → ((s : List ℕ) → Only (m s)) → (k : ℕ) (s : List ℕ) → Only (times k m s)
  unfolding times
  only-times m h zero s = only-got [] s
  only-times m h (suc k) s = only_then _ _ (h s) (λ a t. only_then _ _ (only-times m h k t) (λ l u. only-got (a ∷ l) u))

-- ---- the net

-- "4 to 8 arise in one walk"
abbrev pub OfWalk : ℕ → Type 0
OfWalk n = (4 ≤ n) × (n ≤ 8)

walk-byte : (bad : ℕ) (ok : ℕ → Bool) (s : List ℕ) → OfWalk bad → Only OfWalk (byte 4 bad ok s)
walk-byte bad ok s p = only-byte OfWalk 4 bad ok s (omega arith, omega arith) p

byte_6 : (ok : ℕ → Bool) (s : List ℕ) → Only OfWalk (byte 4 6 ok s)
byte_6 ok s = walk-byte 6 ok s (omega arith, omega arith)

byte_5 : (ok : ℕ → Bool) (s : List ℕ) → Only OfWalk (byte 4 5 ok s)
byte_5 ok s = walk-byte 5 ok s (omega arith, omega arith)

number_6 : (wide : Bool) (ok : ℕ → Bool) (s : List ℕ) → Only OfWalk (number wide 4 6 ok s)
number_6 wide ok s = only-number OfWalk wide 4 6 ok s (omega arith, omega arith) (omega arith, omega arith)

only-gate : (wide : Bool) (k nodes : ℕ) (s : List ℕ) → Only OfWalk (gate_reader wide k nodes s)
unfolding gate_reader
only-gate wide k nodes s =
    only_then OfWalk _ _ (byte_6 _ s) λ p s1.
    only_then OfWalk _ _ (only-check OfWalk (leb (ones p) k) 7 (ones p) s1 (omega arith, omega arith)) λ m s2.
    only_then OfWalk _ _ (byte_6 _ s2) λ r s3.
    only_then OfWalk _ _ (only-times OfWalk _ (number_6 wide _) m s3) λ so s4.
    only_then OfWalk _ _ (only-times OfWalk _ (byte_6 _) _ s4) λ co s5.
    only_then OfWalk _ _ (only-times OfWalk _ (byte_6 _) _ s5) λ t s6. only-got OfWalk _ s6

only-output : (wide : Bool) (nodes : ℕ) (s : List ℕ) → Only OfWalk (output_reader wide nodes s)
unfolding output_reader
only-output wide nodes s =
    only_then OfWalk _ _ (byte_6 _ s) λ m s1.
    only_then OfWalk _ _ (number_6 wide _ s1) λ so s2.
    only_then OfWalk _ _ (only-times OfWalk _ (byte_6 _) m s2) λ co s3. only-got OfWalk _ s3

pub only-body : (R : Rules) (k i : ℕ) (s : List ℕ) → Only OfWalk (body_reader R k i s)
unfolding body_reader
only-body R k i s =
    only_then OfWalk _ _ (only-number OfWalk R.wide 4 5 _ s (omega arith, omega arith) (omega arith, omega arith)) λ g s1.
    only_then OfWalk _ _ (byte_5 _ s1) λ o s2.
    only_then OfWalk _ _ (only-times OfWalk _ (only-gate R.wide k (i + g)) g s2) λ gs s3.
    only_then OfWalk _ _ (only-times OfWalk _ (only-output R.wide (i + g)) o s3) λ os s4. only-got OfWalk _ s4

pub only-drawn : (R : Rules) (k : ℕ) (s : List ℕ) → Only OfWalk (drawn_reader R k s)
unfolding drawn_reader
only-drawn R k s =
    only_then OfWalk _ _ (only_then OfWalk _ _ (byte_5 _ s) λ b s1. only-got OfWalk (head_of b) s1) λ h s1.
    only_then OfWalk _ _ (only-body R k h.inputs s1) λ N s2.
    only_then OfWalk _ _ (only-times OfWalk _ (byte_6 _) _ s2) λ section s3. only_end OfWalk 8 (drawn N section) s3 (omega arith, omega arith)

pub only-net : (R : Rules) (k : ℕ) (s : List ℕ) → Only OfWalk (net_reader R k s)
unfolding net_reader
only-net R k s = only_then OfWalk _ _ (only-drawn R k s) λ d s1. only-got OfWalk d.net s1
