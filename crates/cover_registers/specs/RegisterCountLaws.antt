-- Whole numbers and how large they get.
use Rattle.std.specs.Prelude.{◌≡◌, refl, false, ℕ, ◌+◌, ◌≤◌, ◌<◌, ◌^◌, ℤ, pos, negsuc, ◌+ℤ◌, ◌-ℤ◌, ◌<ℤ◌}
use Rattle.std.proofs.Common.{sym, ap, ap₂, ◌∙◌, arith, SFits, to_z, of_z}
use Rattle.std.specs.Int.{w64}
use Rattle.limits.specs.Limits.{depth_room}
use Rattle.integers.specs.Parts.{ints, up as above, +-parts, sub_parts}
use Rattle.integers.specs.Lag.{lag}
use Rattle.cover_records.specs.RoundTrip.{SmallLag, up, down}
use Rattle.signed.specs.Range.{Small, room}
use Rattle.signed.specs.RangeLaws.{one-zero, other-zero, parts-mag, fits-of, small-fits, back}
use Rattle.cover_registers.specs.Counting.{Within, Counted}

pub within-pos : (n m : ℕ) → n ≤ m → Within m (pos n)
within-pos n m h = record { high = h; low = omega arith }

pub within-lag : {z : ℤ} → SmallLag false z → Within 128 z
within-lag (up h) = record { high = omega arith; low = omega arith }
within-lag (down h) = record { high = omega arith; low = omega arith }

pub within_more : {m : ℕ} {z : ℤ} (k : ℕ) → m ≤ k → Within m z → Within k z
within_more k h w = let a = w.high in let b = w.low in record { high = omega arith; low = omega arith }

pub within_plus : {m k : ℕ} (a b : ℤ) → Within m a → Within k b → Within (m + k) (a +ℤ b)
within_plus {m} {k} a b v w =
    let p = v.high in
    let q = v.low in
    let r = w.high in
    let s = w.low in
    let e = +-parts a b in
    record { high = one-zero (a +ℤ b) (m + k) (omega arith); low = other-zero (a +ℤ b) (m + k) (omega arith) }

pub within_minus : {m k : ℕ} (a b : ℤ) → Within m a → Within k b → Within (m + k) (a -ℤ b)
within_minus {m} {k} a b v w =
    let p = v.high in
    let q = v.low in
    let r = w.high in
    let s = w.low in
    let e = sub_parts a b in
    record { high = one-zero (a -ℤ b) (m + k) (omega arith); low = other-zero (a -ℤ b) (m + k) (omega arith) }

pub within-small : {m : ℕ} (z : ℤ) → m ≤ room → Within m z → Small z
within-small {m} z h w = let a = w.high in let b = w.low in record { size = parts-mag z room (omega arith) (omega arith) }

pub within-fits : {m : ℕ} (z : ℤ) → m < 2 ^ 63 → Within m z → SFits w64 z
within-fits {m} z h w = let a = w.high in let b = w.low in fits-of z m h (parts-mag z m (omega arith) (omega arith))

pub none_below : (z : ℤ) → z <ℤ pos 0 → above z ≡ 0
none_below (pos n) h = absurd (omega (arith, ints))
none_below (negsuc n) h = refl

-- ---- stored numbers

pub stored : {m : ℕ} (z : ℤ) → m < 2 ^ 63 → Within m z → to_z w64 (of_z w64 z) ≡ z
stored z h w = back z (within-fits z h w)

pub plus_stored : {m k : ℕ} (a b : ℤ) → m < 2 ^ 63 → k < 2 ^ 63 → Within m a → Within k b → (to_z w64 (of_z w64 a) +ℤ to_z w64 (of_z w64 b)) ≡ (a +ℤ b)
plus_stored a b h l v w = ap₂ ◌+ℤ◌ (stored a h v) (stored b l w)

pub minus_stored : {m k : ℕ} (a b : ℤ) → m < 2 ^ 63 → k < 2 ^ 63 → Within m a → Within k b → (to_z w64 (of_z w64 a) -ℤ to_z w64 (of_z w64 b)) ≡ (a -ℤ b)
minus_stored a b h l v w = ap₂ ◌-ℤ◌ (stored a h v) (stored b l w)

pub within-back : {m : ℕ} (z : ℤ) → m < 2 ^ 63 → Within m z → Within m (to_z w64 (of_z w64 z))
within-back {m} z h w = rw (stored z h w) w

pub counted_back : {m : ℕ} {z r : ℤ} → m < 2 ^ 63 → Counted m z r → Counted m z (to_z w64 (of_z w64 r))
counted_back {m} {z} {r} h c = rw (stored r h c.within) c

-- nothing is counted
pub counted_none : {z : ℤ} (m : ℕ) → z ≡ pos 0 → Counted m z (pos 0)
counted_none m e = record { same = sym e; within = within-pos 0 m (omega arith) }

-- ---- the lag of a stored label

pub lag-asked : (z : ℤ) (φ : ℕ) → Small z → 1 ≤ φ → φ < 256 → Small (to_z w64 (of_z w64 z)) × (1 ≤ φ) × (φ ≤ room)
lag-asked z φ s l h = (rw (back z (small-fits z s)) s, l, omega arith)

pub lag-told : (z : ℤ) (φ : ℕ) (r : ℤ) → Small z → r ≡ lag φ (to_z w64 (of_z w64 z)) → r ≡ lag φ z
lag-told z φ r s e = e ∙ ap (lag φ) (back z (small-fits z s))

-- ---- the registers of a connection

pub within-moved : (d : ℕ) (own other : ℤ) → d < depth_room → Within 128 own → Within 128 other → Within 65792 ((pos d +ℤ own) -ℤ other)
within-moved d own other h v w = within_more 65792 (omega arith) (within_minus (pos d +ℤ own) other (within_plus (pos d) own (within-pos d 65535 (omega arith)) v) w)

-- the parts of what was stored
pub moved-stored : (d : ℕ) {y a b r : ℤ} → Within 128 a → Counted 128 y b → r ≡ ((pos d +ℤ to_z w64 (of_z w64 a)) -ℤ to_z w64 (of_z w64 b)) → r ≡ ((pos d +ℤ a) -ℤ y)
moved-stored d {y} {a} {b} u v q = (rw (stored a (omega arith) u, stored b (omega arith) v.within) at q) ∙ rw v.same refl

module _ (d : ℕ) {y a b r : ℤ} (u : Within 128 a) (v : Counted 128 y b) (q : r ≡ ((pos d +ℤ to_z w64 (of_z w64 a)) -ℤ to_z w64 (of_z w64 b))) (h : d < depth_room) where
  moved-small : Within 65792 r
  moved-small = rw (moved-stored d u v q) (within-moved d a y h u (rw v.same at v.within))

  pub moved-within : Within 65792 (to_z w64 (of_z w64 r))
  moved-within = within-back r (omega arith) moved-small

  -- the count of a connection
  pub moved-counted : (number : ℕ) → number ≡ above (to_z w64 (of_z w64 r)) → number ≡ above ((pos d +ℤ a) -ℤ y)
  moved-counted number e = e ∙ ap (λ (z : ℤ). above z) (stored r (omega arith) moved-small ∙ moved-stored d u v q)

pub told : {m : ℕ} {z r : ℤ} → m < 2 ^ 63 → Counted m z r → to_z w64 (of_z w64 r) ≡ z
told {m} {z} {r} h c = (counted_back h c).same
