-- Laws of the shared count: the largest number of a node bounds what it feeds and is attained; neither order nor repetition of the readers matters; and why it is the right number.
use Rattle.std.specs.Prelude.{◌≡◌, Bool, true, false, cond, List, [], ◌∷◌, ◌⊎◌, ℕ, zero, suc, max, ◌+◌, ◌-◌, ◌≤◌, ◌<◌, eqb, ℤ, pos, negsuc, ◌≤ℤ◌}
use Rattle.std.proofs.Math.Path.{refl}
use Rattle.std.proofs.Common.{sym, ap, subst, ◌∙◌, inr, zero-le, le_trans, arith, eqb-true, eq-eqb, ne_eqb}
use Rattle.std.proofs.Math.Logic.{inl}
use Rattle.std.proofs.Math.Decide.{dec_le}
use Rattle.std.proofs.Math.Nat.{le-max_left, le-max_right, max-eq_left, max-eq_right}
use Rattle.std.proofs.lemmas.Bool.{eqb-false}
use Rattle.integers.specs.Parts.{ints, up}
use Rattle.sequences.specs.Member.{◌∈◌, here, there, Within}
use Rattle.cover_theory.specs.SharedRegisters.{Tap, longest, over_nodes, shared_count, Serves}

-- ---- the larger of two numbers

pub record Larger (a b c : ℕ) : Type 0 where
  pub left : a ≤ c
  pub right : b ≤ c
  pub one : (c ≡ a) ⊎ (c ≡ b)

pub larger-is : (a b : ℕ) → Larger a b (max a b)
larger-is a b = record { left = le-max_left a b; right = le-max_right a b; one = go (dec_le a b) }
  where
    go : Dec (a ≤ b) → (max a b ≡ a) ⊎ (max a b ≡ b)
    go (yes h) = inr (max-eq_right h)
    go (no h) = inl (max-eq_left (omega arith))

-- ---- one node

-- another node's reader does not matter
pub longest-other : (u : ℕ) (t : Tap) (ts : List Tap) → ¬ (t.source ≡ u) → longest u (t ∷ ts) ≡ longest u ts
unfolding longest
longest-other u t ts n = rw (ne_eqb t.source u n)

pub longest-own : (u : ℕ) (t : Tap) (ts : List Tap) → t.source ≡ u → longest u (t ∷ ts) ≡ max (up t.number) (longest u ts)
unfolding longest
longest-own u t ts e = rw (eq-eqb t.source u e)

pub longest-rest : (u : ℕ) (t : Tap) (ts : List Tap) → longest u ts ≤ longest u (t ∷ ts)
longest-rest u t ts = go (eqb t.source u) refl
  where
    go : (b : Bool) → eqb t.source u ≡ b → longest u ts ≤ longest u (t ∷ ts)
    go true e = let f = longest-own u t ts (eqb-true t.source u e) in let l = (larger-is (up t.number) (longest u ts)).right in omega arith
    go false e = let f = longest-other u t ts (eqb-false t.source u e) in omega arith

-- **no reader of the node has a larger number**
pub longest-bound : (u : ℕ) {t : Tap} {ts : List Tap} → t ∈ ts → t.source ≡ u → up t.number ≤ longest u ts
longest-bound u {t} (here {x = x} {xs = ts} e) s =
    let f = longest-own u x ts (ap (λ (z : Tap). z.source) (sym e) ∙ s) in
    let l = (larger-is (up x.number) (longest u ts)).left in
    let q = ap (λ (z : Tap). up z.number) e in
    omega arith
longest-bound u (there {x = x} {xs = ts} m) s = le_trans (longest-bound u m s) (longest-rest u x ts)

-- **it is 0 or the number of a reader**
pub longest-attained : (u : ℕ) (ts : List Tap) → (longest u ts ≡ 0) ⊎ ((t : Tap) × (t ∈ ts) × (t.source ≡ u) × (longest u ts ≡ up t.number))
longest-attained u [] = unfold longest in inl refl
longest-attained u (t ∷ ts) = go (eqb t.source u) refl (longest-attained u ts)
  where
    Attained : List Tap → Type 0
    Attained l = (longest u l ≡ 0) ⊎ ((x : Tap) × (x ∈ l) × (x.source ≡ u) × (longest u l ≡ up x.number))

    later : longest u (t ∷ ts) ≡ longest u ts → Attained ts → Attained (t ∷ ts)
    later e (inl z) = inl (e ∙ z)
    later e (inr (x, m, s, q)) = inr (x, there m, s, e ∙ q)

    own : t.source ≡ u → (max (up t.number) (longest u ts) ≡ up t.number) ⊎ (max (up t.number) (longest u ts) ≡ longest u ts) → Attained ts → Attained (t ∷ ts)
    own s (inl e) h = inr (t, here refl, s, longest-own u t ts s ∙ e)
    own s (inr e) h = later (longest-own u t ts s ∙ e) h

    go : (b : Bool) → eqb t.source u ≡ b → Attained ts → Attained (t ∷ ts)
    go true e h = own (eqb-true t.source u e) (larger-is (up t.number) (longest u ts)).one h
    go false e h = later (longest-other u t ts (eqb-false t.source u e)) h

-- whatever bounds the numbers of the node's readers bounds it
pub longest-least : (u : ℕ) (ts : List Tap) (c : ℕ) → ((t : Tap) → t ∈ ts → t.source ≡ u → up t.number ≤ c) → longest u ts ≤ c
longest-least u ts c h = go (longest-attained u ts)
  where
    go : (longest u ts ≡ 0) ⊎ ((t : Tap) × (t ∈ ts) × (t.source ≡ u) × (longest u ts ≡ up t.number)) → longest u ts ≤ c
    go (inl e) = omega arith
    go (inr (t, m, s, e)) = let b = h t m s in omega arith

-- ---- order and repetition

pub longest-within : (u : ℕ) {ts us : List Tap} → Within ts us → longest u ts ≤ longest u us
longest-within u {ts} {us} w = longest-least u ts (longest u us) (λ t m s. longest-bound u (w t m) s)

-- **Only which readers there are matters, not their order or how often they come.**
pub longest-same : (u : ℕ) {ts us : List Tap} → Within ts us → Within us ts → longest u ts ≡ longest u us
longest-same u v w = let a = longest-within u v in let b = longest-within u w in omega arith

-- ---- all nodes

pub over-least : (f g : ℕ → ℕ) (n : ℕ) → ((u : ℕ) → u < n → f u ≤ g u) → over_nodes f n ≤ over_nodes g n
unfolding over_nodes
over-least f g zero h = zero-le
over-least f g (suc n) h = let a = h n (omega arith) in let b = over-least f g n (λ u l. h u (omega arith)) in omega arith

pub over-same : (f g : ℕ → ℕ) (n : ℕ) → ((u : ℕ) → u < n → f u ≡ g u) → over_nodes f n ≡ over_nodes g n
unfolding over_nodes
over-same f g zero h = refl
over-same f g (suc n) h = let a = h n (omega arith) in let b = over-same f g n (λ u l. h u (omega arith)) in omega arith

pub count_same : (n : ℕ) {ts us : List Tap} → Within ts us → Within us ts → shared_count n ts ≡ shared_count n us
unfolding shared_count
count_same n {ts} {us} v w = over-same (λ u. longest u ts) (λ u. longest u us) n (λ u l. longest-same u v w)

over-beyond : (f : ℕ → ℕ) (n m : ℕ) → ((u : ℕ) → n ≤ u → f u ≡ 0) → over_nodes f (m + n) ≡ over_nodes f n
unfolding over_nodes
over-beyond f n zero h = let e : 0 + n ≡ n = omega arith in ap (over_nodes f) e
over-beyond f n (suc m) h =
    let e : suc m + n ≡ suc (m + n) = omega arith in
    let a = h (m + n) (omega arith) in
    let b = over-beyond f n m h in
    let d : f (m + n) + over_nodes f (m + n) ≡ over_nodes f n = omega arith in
    ap (over_nodes f) e ∙ d

-- places beyond the nodes count nothing
pub count-beyond : (n m : ℕ) (ts : List Tap) → n ≤ m → ((t : Tap) → t ∈ ts → t.source < n) → shared_count m ts ≡ shared_count n ts
unfolding shared_count
count-beyond n m ts l h =
    let e : (m - n) + n ≡ m = omega arith in
    subst (λ (k : ℕ). over_nodes (λ u. longest u ts) k ≡ over_nodes (λ u. longest u ts) n) e
    (over-beyond (λ u. longest u ts) n (m - n) (λ u g. let z = longest-least u ts 0 (λ t i s. absurd (below t i s g)) in omega arith))
  where
    below : (t : Tap) → t ∈ ts → {u : ℕ} → t.source ≡ u → n ≤ u → ⊥
    below t i s g = let k = h t i in omega arith

-- ---- why it is the right number

-- **Chains of these lengths, tapped, serve every reader;**
pub longest_serves : (ts : List Tap) → Serves (λ u. longest u ts) (λ t. t ∈ ts)
longest_serves ts t m = let b = longest-bound t.source m refl in omega (arith, ints)

up-below : (z : ℤ) (n : ℕ) → z ≤ℤ pos n → up z ≤ n
up-below (pos m) n h = omega (arith, ints)
up-below (negsuc m) n h = zero-le

-- **chains that serve every reader are nowhere shorter,**
pub serves_long : (chain : ℕ → ℕ) (ts : List Tap) → Serves chain (λ t. t ∈ ts) → (u : ℕ) → longest u ts ≤ chain u
serves_long chain ts s u = longest-least u ts (chain u) each
  where
    each : (t : Tap) → t ∈ ts → t.source ≡ u → up t.number ≤ chain u
    each t m e = let h = up-below t.number (chain t.source) (s t m) in let c = ap chain e in omega arith

-- **so a shorter one at any node leaves a reader unserved,**
pub shorter-fails : (chain : ℕ → ℕ) (ts : List Tap) (u : ℕ) → chain u < longest u ts → ¬ Serves chain (λ t. t ∈ ts)
shorter-fails chain ts u l s = let h = serves_long chain ts s u in omega arith

-- **and no chains that serve have fewer registers in all.**
pub count-least : (chain : ℕ → ℕ) (ts : List Tap) → Serves chain (λ t. t ∈ ts) → (n : ℕ) → shared_count n ts ≤ over_nodes chain n
unfolding shared_count
count-least chain ts s n = over-least (λ u. longest u ts) chain n (λ u l. serves_long chain ts s u)
