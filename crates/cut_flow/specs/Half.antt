-- What holds of a search that found nothing, whichever copies it opened: marks are passed on from out to in, and from in to itself. So no more copies are
-- marked out and not in than there are entries.
use Rattle.std.specs.Prelude.{◌≡◌, refl, ◌⊎◌, List, ℕ, zero, suc, ◌+◌, ◌≤◌, ◌<◌, length}
use Rattle.std.proofs.Common.{sym, ap, subst, ◌∙◌, inl, inr, arith}
use Rattle.sequences.specs.Member.{◌∈◌}
use Rattle.sequences.specs.Distinct.{Distinct, inject}
use Rattle.cut_flow.specs.Graph.{Graph, Lawful, Order}
use Rattle.cut_flow.specs.State.{Next, State, fed-at}
use Rattle.cut_flow.specs.Search.{View, Ready, PassedOut, positive_or_zero, reached-inner}

pub record Half (G : Graph) (v : View) : Type 0 where
  pub ready : Ready G v
  pub self : (z : ℕ) → 0 < v.inn z → 0 < v.flow z → 0 < v.out z
  pub outs : (z : ℕ) → 0 < v.out z → PassedOut G v z

-- From e by inflow pins to l, where all before l are marked in.
pub data Inner (G : Graph) (v : View) (l : ℕ) : ℕ → Type 0 where
  stop : {e : ℕ} → e ≡ l → Inner G v l e
  over : {e : ℕ} (y : ℕ) → 0 < v.inn e → Next G v.flow y e → Inner G v l y → Inner G v l e

pub inner-one : {G : Graph} {v : View} {l m e : ℕ} → v.inn l ≡ 0 → v.inn m ≡ 0 → Inner G v l e → Inner G v m e → l ≡ m
inner-one i j (stop p) (stop q) = sym p ∙ q
inner-one {v} i j (stop p) (over y h n w) = absurd (omega (arith, i, h, ap v.inn p))
inner-one {v} i j (over y h n w) (stop p) = absurd (omega (arith, j, h, ap v.inn p))
inner-one {G} {v} {m} i j (over y h n w) (over z k o u) = inner-one i j w (subst (Inner G v m) (sym o.source ∙ (fed-at refl o.fed n.fed ∙ n.source)) u)

module _ {G : Graph} {v : View} (law : Lawful G) (c : Half G v) (O : Order G) {E : List ℕ} (s : State G v.flow E) where
  pub rises : {y x : ℕ} → 0 < v.inn y → Next G v.flow y x → O.measure y < O.measure x
  rises {y} {x} h n =
      let e = n.source in
      let t : G.terminal (G.source x n.by) ≡ 0 = ap G.terminal e ∙ reached-inner law (c.ready.ins y h) in
      omega (arith, O.falls x n.by n.fed.below t, ap O.measure e)

  -- The successors of a carrying in-copy are in, up to an entry.
  rise : (n : ℕ) {l x : ℕ} → O.bound < n + O.measure x → 0 < v.inn x → 0 < v.flow x → Inner G v l x → (e : ℕ) × (e ∈ E) × Inner G v l e
  rise zero {x} b h f w = absurd (omega (arith, b, O.most x))
  rise (suc n) {l} {x} b h f w = go (λ z m i. rise n (omega (arith, b, rises h m)) i (omega (arith, m.fed.pin)) (over x i m w)) (s.leaves x f)
    where
      go : ((z : ℕ) → Next G v.flow x z → 0 < v.inn z → (e : ℕ) × (e ∈ E) × Inner G v l e) → (x ∈ E) ⊎ ((z : ℕ) × Next G v.flow x z) → (e : ℕ) × (e ∈ E) × Inner G v l e
      go rest (inl i) = (x, i, w)
      go rest (inr (z, m)) = rest z m ((c.outs x (c.self x h f)).next z m)

  out-carries : {l : ℕ} → 0 < v.out l → v.inn l ≡ 0 → 0 < v.flow l
  out-carries {l} o i = go (positive_or_zero (v.flow l))
    where
      go : (0 < v.flow l) ⊎ (v.flow l ≡ 0) → 0 < v.flow l
      go (inl h) = h
      go (inr e) = absurd (omega (arith, i, ((c.outs l o).empty e).1))

  -- A copy out and not in stands on the course of an entry, behind copies that are in.
  pub out-entry : {l : ℕ} → 0 < v.out l → v.inn l ≡ 0 → (e : ℕ) × (e ∈ E) × Inner G v l e
  out-entry {l} o i = go (s.leaves l (out-carries o i))
    where
      go : (l ∈ E) ⊎ ((z : ℕ) × Next G v.flow l z) → (e : ℕ) × (e ∈ E) × Inner G v l e
      go (inl k) = (l, k, stop refl)
      go (inr (z, m)) =
          let k = (c.outs l o).next z m in
          rise (suc O.bound) (omega arith) k (omega (arith, m.fed.pin)) (over l k m (stop refl))

  -- No more copies are out and not in than there are entries.
  pub few-out : {L : List ℕ} → Distinct L → ((y : ℕ) → y ∈ L → (0 < v.out y) × (v.inn y ≡ 0)) → length L ≤ length E
  few-out d f =
      inject {R = λ l e. (v.inn l ≡ 0) × Inner G v l e} d
      (λ l i. let r = out-entry (f l i).0 (f l i).1 in (r.0, r.1, ((f l i).1, r.2)))
      (λ a b e p q. inner-one p.0 q.0 p.1 q.1)
