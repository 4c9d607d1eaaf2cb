-- A search that opens at most f + 1 members of each node, from f units: where it found nothing all its members are open after all, so its marks are closed.
use Rattle.std.specs.Prelude.{◌≡◌, refl, ◌⊎◌, List, ℕ, zero, suc, ◌≤◌, ◌<◌, length}
use Rattle.std.proofs.Common.{sym, ap, subst, ◌∙◌, inl, inr, arith}
use Rattle.sequences.specs.Member.{◌∈◌}
use Rattle.sequences.specs.Distinct.{Distinct, inject}
use Rattle.cut_flow.specs.Graph.{Graph, Feeding, Lawful, Order}
use Rattle.cut_flow.specs.State.{State}
use Rattle.cut_flow.specs.Search.{View, PinPassed, positive_or_zero, reached-inner}
use Rattle.cut_flow.specs.Half.{Half, Inner, inner-one, out-entry}
use Rattle.cut_flow.specs.Closed.{Closed, Found}

-- The copies of a net's nodes: from each one `behind` leads to a source of smaller rank, for all copies of a node to copies of one node, and no two of them to
-- the same.
pub record Copies (G : Graph) (node : ℕ → ℕ) : Type 0 where
  pub rank : ℕ → ℕ
  pub behind : ℕ → ℕ
  pub feeds : (x : ℕ) → G.terminal x ≡ 0 → Feeding G (behind x) x
  pub falls : (x : ℕ) → G.terminal x ≡ 0 → rank (node (behind x)) < rank (node x)
  pub same : (x y : ℕ) → G.terminal x ≡ 0 → G.terminal y ≡ 0 → node x ≡ node y → node (behind x) ≡ node (behind y)
  pub one : (x y : ℕ) → G.terminal x ≡ 0 → G.terminal y ≡ 0 → node x ≡ node y → behind x ≡ behind y → x ≡ y

-- All pins of x have passed its mark on.
abbrev pub Expanded : Graph → View → ℕ → Type 0
Expanded G v x = (j : ℕ) → j < G.pins x → PinPassed G v x j

-- More than f members of node u, all open.
pub record Crowd (G : Graph) (v : View) (node : ℕ → ℕ) (u f : ℕ) : Type 0 where
  pub list : List ℕ
  pub distinct : Distinct list
  pub many : f < length list
  pub found : (y : ℕ) → y ∈ list → Found G v y
  pub of : (y : ℕ) → y ∈ list → node y ≡ u
  pub expanded : (y : ℕ) → y ∈ list → Expanded G v y

-- Each member is open, or its node has a crowd.
pub record Capped (G : Graph) (v : View) (node : ℕ → ℕ) (f : ℕ) : Type 0 where
  pub half : Half G v
  pub counted : (x : ℕ) → Found G v x → Expanded G v x ⊎ Crowd G v node (node x) f

module _ {G : Graph} {node : ℕ → ℕ} (K : Copies G node) where
  -- From x by `behind` to l, one step at least.
  data Path (l : ℕ) : ℕ → Type 0 where
    last : {x : ℕ} → G.terminal x ≡ 0 → K.behind x ≡ l → Path l x
    more : {x : ℕ} → G.terminal x ≡ 0 → Path l (K.behind x) → Path l x

  path-falls : {l x : ℕ} → Path l x → K.rank (node l) < K.rank (node x)
  path-falls {l} {x} (last t e) = omega (arith, K.falls x t, ap (λ (z : ℕ). K.rank (node z)) e)
  path-falls {l} {x} (more t p) = omega (arith, K.falls x t, path-falls p)

  -- Paths from copies of one node meet in no copy.
  path-one : {l x y : ℕ} → node x ≡ node y → Path l x → Path l y → x ≡ y
  path-one {l} {x} {y} n (last t e) (last u f) = K.one x y t u n (e ∙ sym f)
  path-one {l} {x} {y} n (more t p) (more u q) = K.one x y t u n (path-one (K.same x y t u n) p q)
  path-one {l} {x} {y} n (last t e) (more u q) =
      absurd (omega (arith, path-falls q, ap K.rank (sym (K.same x y t u n) ∙ ap node e)))
  path-one {l} {x} {y} n (more t p) (last u f) =
      absurd (omega (arith, path-falls p, ap K.rank (K.same x y t u n ∙ ap node f)))

  module _ {v : View} {f : ℕ} (law : Lawful G) (c : Capped G v node f) where
    -- Where the path of x leaves the members: a copy out and not in.
    record Met (x : ℕ) : Type 0 where
      at : ℕ
      path : Path at x
      out : 0 < v.out at
      apart : v.inn at ≡ 0

    found-inner : {x : ℕ} → Found G v x → G.terminal x ≡ 0
    found-inner {x} (inl h) = law.inner x h
    found-inner {x} (inr h) = reached-inner law (c.half.ready.ins x h)

    walk : (n x : ℕ) → K.rank (node x) < n → Found G v x → Expanded G v x → ((z : ℕ) → K.rank (node z) < K.rank (node x) → Found G v z → Expanded G v z) → Met x
    walk zero x b h e small = absurd (omega (arith, b))
    walk (suc n) x b h e small =
        go (λ k. walk n (K.behind x) (omega (arith, b, K.falls x t)) k (small (K.behind x) (K.falls x t) k) (λ z l. small z (omega (arith, l, K.falls x t))))
        (positive_or_zero (G.forced (K.behind x))) (positive_or_zero (v.inn (K.behind x)))
        (subst (λ (z : ℕ). (0 < G.forced z) ⊎ (0 < v.out z)) (K.feeds x t).source (e (K.feeds x t).pin (K.feeds x t).below))
      where
        t : G.terminal x ≡ 0
        t = found-inner h

        on : Met (K.behind x) → Met x
        on m = record { at = m.at; path = more t m.path; out = m.out; apart = m.apart }

        go : (Found G v (K.behind x) → Met (K.behind x)) → (0 < G.forced (K.behind x)) ⊎ (G.forced (K.behind x) ≡ 0) → (0 < v.inn (K.behind x)) ⊎ (v.inn (K.behind x) ≡ 0)
            → (0 < G.forced (K.behind x)) ⊎ (0 < v.out (K.behind x)) → Met x
        go rest (inl p) i q = on (rest (inl p))
        go rest (inr p) (inl i) q = on (rest (inr i))
        go rest (inr p) (inr i) (inl q) = absurd (omega (arith, p, q))
        go rest (inr p) (inr i) (inr q) = record { at = K.behind x; path = last t refl; out = q; apart = i }

    module _ (O : Order G) {E : List ℕ} (s : State G v.flow E) (few : length E ≤ f) where
      -- a crowd has no more members than there are entries
      crowded : {u : ℕ} (k : Crowd G v node u f) → ((y : ℕ) → y ∈ k.list → Met y) → ⊥
      crowded {u} k m =
          let l = inject {R = λ y e. (node y ≡ u) × ((m : Met y) × Inner G v m.at e)} k.distinct
          (λ y i. let r = out-entry law c.half O s (m y i).out (m y i).apart in (r.0, r.1, (k.of y i, (m y i, r.2))))
          (λ a b e p q. same (p.0 ∙ sym q.0) p.1.0 q.1.0 (inner-one p.1.0.apart q.1.0.apart p.1.1 q.1.1)) in
          omega (arith, k.many, few, l)
        where
          same : {a b : ℕ} → node a ≡ node b → (p : Met a) (q : Met b) → p.at ≡ q.at → a ≡ b
          same {a} {b} n p q e = path-one n p.path (subst (λ (l : ℕ). Path l b) (sym e) q.path)

      expanded-below : (n x : ℕ) → K.rank (node x) < n → Found G v x → Expanded G v x
      expanded-below zero x b h = absurd (omega (arith, b))
      expanded-below (suc n) x b h = go (λ z l. expanded-below n z (omega (arith, b, l))) (c.counted x h)
        where
          go : ((z : ℕ) → K.rank (node z) < K.rank (node x) → Found G v z → Expanded G v z) → Expanded G v x ⊎ Crowd G v node (node x) f → Expanded G v x
          go small (inl e) = e
          go small (inr k) = absurd (crowded k met)
            where
              met : (y : ℕ) → y ∈ k.list → Met y
              met y i =
                  let r = ap K.rank (k.of y i) in
                  walk (suc (K.rank (node y))) y (omega arith) (k.found y i) (k.expanded y i) (λ z l. small z (omega (arith, l, r)))

      -- **All members are open.**
      pub all-expanded : (x : ℕ) → Found G v x → Expanded G v x
      all-expanded x h = expanded-below (suc (K.rank (node x))) x (omega arith) h

      pub capped-closed : Closed G v
      capped-closed = record {
        ready = c.half.ready;
        ins = λ z h. record { pins = all-expanded z (inr h); self = c.half.self z h };
        outs = c.half.outs;
        roots = λ x j h. all-expanded x (inl h) j;
      }
