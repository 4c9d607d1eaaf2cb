-- A whole number as the difference of two naturals, so that linear facts about whole numbers become linear facts about naturals, which omega proves.
use Rattle.std.specs.Prelude.{◌≡◌, refl, Bool, true, false, not, cond, ℕ, zero, suc, ◌+◌, ◌*◌, ◌-◌, ◌≤◌, ◌<◌, T, ltb, ℤ, pos, negsuc, neg_ℤ, ◌+ℤ◌, ◌-ℤ◌, ◌*ℤ◌, ◌≤ℤ◌, ◌<ℤ◌}
use Rattle.std.proofs.Common.{ap, arith, leb→le, le→leb, ltb→lt, lt→ltb, nltb→le}
use Rattle.std.proofs.Math.IntN.{sub_ℕ}

-- z = up z − dn z, and one of the two is 0
abbrev pub up : ℤ → ℕ
up (pos n) = n
up (negsuc n) = 0

abbrev pub dn : ℤ → ℕ
dn (pos n) = 0
dn (negsuc n) = suc n

-- ---- an order or an equation, to and from one of naturals
pub ≤-parts : (a b : ℤ) → a ≤ℤ b → up a + dn b ≤ up b + dn a
≤-parts (pos a) (pos b) h = omega (arith, leb→le a b h.le)
≤-parts (pos a) (negsuc b) h = absurd h.le
≤-parts (negsuc a) (pos b) h = omega arith
≤-parts (negsuc a) (negsuc b) h = omega (arith, leb→le b a h.le)

pub parts-≤ : (a b : ℤ) → up a + dn b ≤ up b + dn a → a ≤ℤ b
parts-≤ (pos a) (pos b) h = record { le = le→leb a b (omega arith) }
parts-≤ (pos a) (negsuc b) h = absurd (omega arith)
parts-≤ (negsuc a) (pos b) h = record { le = tt }
parts-≤ (negsuc a) (negsuc b) h = record { le = le→leb b a (omega arith) }

pub <-parts : (a b : ℤ) → a <ℤ b → up a + dn b < up b + dn a
<-parts (pos a) (pos b) h = omega (arith, ltb→lt a b h.lt)
<-parts (pos a) (negsuc b) h = absurd h.lt
<-parts (negsuc a) (pos b) h = omega arith
<-parts (negsuc a) (negsuc b) h = omega (arith, ltb→lt b a h.lt)

pub parts-< : (a b : ℤ) → up a + dn b < up b + dn a → a <ℤ b
parts-< (pos a) (pos b) h = record { lt = lt→ltb a b (omega arith) }
parts-< (pos a) (negsuc b) h = absurd (omega arith)
parts-< (negsuc a) (pos b) h = record { lt = tt }
parts-< (negsuc a) (negsuc b) h = record { lt = lt→ltb b a (omega arith) }

pub ≡-parts : (a b : ℤ) → a ≡ b → up a + dn b ≡ up b + dn a
≡-parts a b e = omega (arith, ap up e, ap dn e)

pub parts-≡ : (a b : ℤ) → up a + dn b ≡ up b + dn a → a ≡ b
parts-≡ (pos a) (pos b) h = ap pos (omega arith)
parts-≡ (pos a) (negsuc b) h = absurd (omega arith)
parts-≡ (negsuc a) (pos b) h = absurd (omega arith)
parts-≡ (negsuc a) (negsuc b) h = ap negsuc (omega arith)

-- the six as rules: `omega (arith, ints, ..)` reads hypotheses over ℤ and proves such goals, once each sum in them is opened
pub ruleset ints = (≤-parts, parts-≤, <-parts, parts-<, ≡-parts, parts-≡)

-- ---- the parts of a sum, a difference, a negation, a multiple
subℕ_parts : (a b : ℕ) → up (sub_ℕ a b) + b ≡ dn (sub_ℕ a b) + a
subℕ_parts a b = go (ltb a b) (ltb→lt a b) (nltb→le a b)
  where
    go : (c : Bool) → (T c → a < b) → (T (not c) → b ≤ a) → up (cond c (negsuc (b - suc a)) (pos (a - b))) + b ≡ dn (cond c (negsuc (b - suc a)) (pos (a - b))) + a
    go true f g = omega (arith, f tt)
    go false f g = omega (arith, g tt)

pub +-parts : (a b : ℤ) → up (a +ℤ b) + (dn a + dn b) ≡ dn (a +ℤ b) + (up a + up b)
+-parts (pos a) (pos b) = omega arith
+-parts (pos a) (negsuc b) = omega (arith, subℕ_parts a (suc b))
+-parts (negsuc a) (pos b) = omega (arith, subℕ_parts b (suc a))
+-parts (negsuc a) (negsuc b) = omega arith

pub neg_parts : (a : ℤ) → up (neg_ℤ a) + up a ≡ dn (neg_ℤ a) + dn a
neg_parts (pos zero) = refl
neg_parts (pos (suc n)) = omega arith
neg_parts (negsuc n) = omega arith

pub sub_parts : (a b : ℤ) → up (a -ℤ b) + (dn a + up b) ≡ dn (a -ℤ b) + (up a + dn b)
sub_parts a b = omega (arith, +-parts a (neg_ℤ b), neg_parts b)

pub *-parts : (n : ℕ) (z : ℤ) → up (pos n *ℤ z) + n * dn z ≡ dn (pos n *ℤ z) + n * up z
*-parts n (pos m) = omega arith
*-parts n (negsuc m) = omega (arith, neg_parts (pos (n * suc m)))

-- an equation of parts, times n
pub scale : (n : ℕ) {a b : ℕ} → a ≡ b → n * a ≡ n * b
scale n e = ap (λ (k : ℕ). n * k) e

pub pos-up : (z : ℤ) → pos 0 ≤ℤ z → pos (up z) ≡ z
pos-up (pos n) h = refl
pos-up (negsuc n) h = absurd h.le
