-- Laws of copies: they are compared and ordered, and what feeds a copy is listed.
use Rattle.std.specs.Prelude.{◌≡◌, refl, List, ◌⊎◌, ℕ, ◌+◌, ◌<◌}
use Rattle.std.proofs.Common.{ap, inl, inr, arith}
use Rattle.std.proofs.Math.Decide.{ℕ_discrete, dec_lt}
use Rattle.sequences.specs.Member.{◌∈◌, in_equal, in_map, map_in}
use Rattle.net_model.specs.Net.{Net, Pin, IsGate, pins}
use Rattle.net_model.specs.Copies.{Copy, copy, Feeds, Before}
use Rattle.net_model.specs.Tables.{feeding}

pub copy-path : {a b : Copy} → a.node ≡ b.node → a.back ≡ b.back → a ≡ b
copy-path p q = λ i. record { node = p i; back = q i }

unfoldable pub copy_step : {a b : Copy} → Dec (a.node ≡ b.node) → Dec (a.back ≡ b.back) → Dec (a ≡ b)
copy_step (yes p) (yes q) = yes (copy-path p q)
copy_step (yes p) (no n) = no (λ e. n (ap (λ (c : Copy). c.back) e))
copy_step (no n) d = no (λ e. n (ap (λ (c : Copy). c.node) e))

unfoldable pub Copy-dec : Discrete Copy
unfolding copy_step ℕ_discrete
Copy-dec a b = copy_step (ℕ_discrete a.node b.node) (ℕ_discrete a.back b.back)

-- ---- what feeds a copy
pub feeds_in : {N : Net} {y x : Copy} → Feeds N y x → y ∈ feeding N x
feeds_in {N} {y} {x} f = in_equal (copy-path f.source f.depth) (in_map (λ (p : Pin). copy p.src (x.back + p.count)) f.is_pin)

pub in_feeding : {N : Net} {y x : Copy} → IsGate N x.node → y ∈ feeding N x → Feeds N y x
in_feeding {N} {y} {x} g h =
    let r = map_in (λ (p : Pin). copy p.src (x.back + p.count)) (pins N x.node) h in
    record { gate = g; pin = r.0; is_pin = r.1; source = ap (λ (c : Copy). c.node) r.2; depth = ap (λ (c : Copy). c.back) r.2 }

-- ---- the order of leaves
pub before_irrefl : (a : Copy) → ¬ Before a a
before_irrefl a (inl h) = omega arith
before_irrefl a (inr h) = omega arith

pub before_trans : (a b c : Copy) → Before a b → Before b c → Before a c
before_trans a b c (inl h) (inl k) = inl (omega arith)
before_trans a b c (inl h) (inr k) = inl (omega arith)
before_trans a b c (inr h) (inl k) = inl (omega arith)
before_trans a b c (inr h) (inr k) = inr (omega arith)

unfoldable pub before-step : (a b : Copy) → Dec (a.node < b.node) → Dec (b.node < a.node) → Dec (a.back < b.back) → Dec (b.back < a.back) → Before a b ⊎ ((a ≡ b) ⊎ Before b a)
before-step a b (yes h) d e f = inl (inl h)
before-step a b (no n) (yes h) e f = inr (inr (inl h))
before-step a b (no n) (no m) (yes h) f = inl (inr (omega arith))
before-step a b (no n) (no m) (no p) (yes h) = inr (inr (inr (omega arith)))
before-step a b (no n) (no m) (no p) (no q) = inr (inl (copy-path (omega arith) (omega arith)))

-- Of two copies one is before the other, or they are equal.
unfoldable pub before_cmp : (a b : Copy) → Before a b ⊎ ((a ≡ b) ⊎ Before b a)
unfolding before-step dec_lt
before_cmp a b = before-step a b (dec_lt a.node b.node) (dec_lt b.node a.node) (dec_lt a.back b.back) (dec_lt b.back a.back)

pub before_asym : (a b : Copy) → Before a b → ¬ Before b a
before_asym a b h k = before_irrefl a (before_trans a b a h k)
