-- Laws of reading a number byte by byte, from the last one on: what is known from a place on, one byte more, and all of them.
use Rattle.std.specs.Prelude.{◌≡◌, List, ℕ, suc, ◌+◌, ◌-◌, ◌*◌, ◌^◌, ◌≤◌, ◌<◌, drop}
use Rattle.std.proofs.Math.Path.{sym, ap}
use Rattle.std.proofs.Common.{◌∙◌, length-drop, drop_of_length-le, drop-cons, get_or-drop}
use native.Mathlib.Omega.{arith}
use Rattle.std.proofs.Math.ListN.{length, get_or}
use Rattle.limits.specs.Limits.{most_items}
use Rattle.sequences.specs.Member.{get_or_in}
use Rattle.net_bytes.specs.Walk.{from_bytes}
use Rattle.net_bytes.specs.Readers.{Each}
use Rattle.net_bytes.specs.Maps.{from_bytes_lt}

-- what is known of each element by its place
pub each-byte : (l : List ℕ) → ((i : ℕ) → get_or l i 0 < 256) → Each (λ (b : ℕ). b < 256) l
each-byte l h b m = let r = get_or_in m in rw (← r.2 0) (h r.0)

-- the number of eight bytes, from place i on: the end, one byte more, and room for it
pub record BytesFrom (l : List ℕ) (n i : ℕ) : Type 0 where
  pub is : n ≡ from_bytes (drop i l)
  pub most : i ≤ most_items
  pub long : length l ≡ most_items
  pub bytes : (j : ℕ) → get_or l j 0 < 256

module _ (l : List ℕ) where
  pub bytes-none : length l ≡ most_items → ((j : ℕ) → get_or l j 0 < 256) → BytesFrom l 0 most_items
  unfolding from_bytes
  bytes-none e h =
      let end : length l ≤ most_items = omega arith in
      record { is = sym (ap from_bytes (drop_of_length-le l end)); most = omega arith; long = e; bytes = h }

  module _ (n i : ℕ) (w : BytesFrom l n i) (p : 0 < i) where
    below : suc (i - 1) ≡ i
    below = omega arith

    pub bytes-room : n < 2 ^ 56
    bytes-room =
        let long = w.long in
        rw w.is (from_bytes_lt 7 (drop i l) (each-byte (drop i l) (λ j. rw get_or-drop (w.bytes (i + j)))) (rw length-drop (omega arith)))

    pub bytes_one : (r : ℕ) → r ≡ get_or l (i - 1) 0 + 256 * n → BytesFrom l r (i - 1)
    unfolding from_bytes
    bytes_one r e =
        let long = w.long in
        let most = w.most in
        record {
          is = e ∙ ap (λ (x : ℕ). get_or l (i - 1) 0 + 256 * x) (w.is ∙ ap (λ (k : ℕ). from_bytes (drop k l)) (sym below))
              ∙ sym (ap from_bytes (drop-cons l (i - 1) 0 (omega arith)));
          most = omega arith;
          long = long;
          bytes = w.bytes;
        }

  pub bytes-all : (n i : ℕ) → BytesFrom l n i → i ≤ 0 → n ≡ from_bytes l
  bytes-all n i w h =
      let none : i ≡ 0 = omega arith in
      w.is ∙ ap (λ (k : ℕ). from_bytes (drop k l)) none
