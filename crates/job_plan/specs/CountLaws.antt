-- Laws of the largest counts and their sum: it is M, or more.
use Rattle.std.specs.Prelude.{◌≡◌, get_or}
use Rattle.std.proofs.Common.{sym, not-suc-le-zero}
use Rattle.std.proofs.Math.Path.{ap, subst}
use mathlib.Core.List.{List}
use Prim.Native.Nat.{ℕ, suc, max, ◌+◌, ◌-◌, ◌*◌, ◌≤◌, ◌<◌}
use Rattle.std.proofs.Math.Decide.{ℕ_discrete}
use native.Mathlib.Omega.{arith}
use Rattle.sequences.specs.Member.{◌∈◌}
use Rattle.sequences.specs.Decide.{count-from}
use Rattle.sequences.specs.Sum.{sum}
use Rattle.net_model.specs.Net.{Net, Pin}
use Rattle.net_model.specs.Arrays.{stride}
use Rattle.net_model.specs.ArrayLaws.{pins_in_in}
use Rattle.net_model.specs.Wired.{Wired}
use Rattle.limits.specs.Limits.{most_count}
use Rattle.cone_theory.specs.FewCopies.{gate_numbers}
use Rattle.cone_theory.specs.Reach.{most, most_le, reach_of}
use Rattle.job_plan.specs.Counts.{MostCount, Counted, SumCounts}

pub most-none : (co : List ℕ) (at : ℕ) → MostCount co at 0 0
most-none co at = record { above = λ j h. absurd (not-suc-le-zero h); least = λ c f. omega arith }

pub most-next : {co : List ℕ} {at n r t : ℕ} → MostCount co at n r → t ≡ max r (get_or co (at + n) 0) → MostCount co at (n + 1) t
most-next {co} {at} {n} {r} {t} m e = record { above = λ j k. go j k (ℕ_discrete j n); least = λ c f. let a = m.least c (λ j k. f j (omega arith)) in let b = f n (omega arith) in omega arith }
  where
    go : (j : ℕ) → j < n + 1 → Dec (j ≡ n) → get_or co (at + j) 0 ≤ t
    go j k (yes q) = omega (arith, e, ap (λ (x : ℕ). get_or co (at + x) 0) q)
    go j k (no d) = let a = m.above j (omega arith) in omega (arith, e)

pub most-all : (co : List ℕ) (at j n r : ℕ) → j ≤ n → n ≤ j → MostCount co at j r → MostCount co at n r
most-all co at j n r h k m = record { above = λ i l. m.above i (omega arith); least = λ c f. m.least c (λ i l. f i (omega arith)) }

-- ---- the sum

module _ {G : ℕ} {ps co : List ℕ} where
  pub sum-none : SumCounts G ps co G 0
  unfolding sum count-from
  sum-none = record {
    small = omega arith;
    enough = λ N I so w. subst (λ (n : ℕ). sum (most N) (count-from (I + G) n) ≤ 0) (self G) (omega arith);
  }
    where
      self : (n : ℕ) → 0 ≡ n - n
      self n = omega arith

  pub sum-next : (g r c : ℕ) → g < G → Counted G ps co → SumCounts G ps co (suc g) r → MostCount co (stride * g) (get_or ps g 0) c → SumCounts G ps co g (r + c)
  unfolding sum count-from
  sum-next g r c h d s m = record {
    small = let a = s.small in let b = m.least most_count (λ j k. d.count g j h k) in omega arith;
    enough = λ N I so w.
        let here : most N (I + g) ≤ c = most_le N (I + g) c (λ p i.
        let t = pins_in_in so co (stride * g) (get_or ps g 0) p (subst (λ (l : List Pin). p ∈ l) (w.wiring g h) i) in
        omega (arith, ap (λ (q : Pin). q.count) t.2, m.above t.0 t.1)) in
        let rest = s.enough N I so w in
        subst (λ (n : ℕ). sum (most N) (count-from (I + g) n) ≤ r + c) (count h)
        (subst (λ (b : ℕ). most N (I + g) + sum (most N) (count-from b (G - suc g)) ≤ r + c) (next I) (omega (arith, here, rest)));
  }
    where
      count : g < G → suc (G - suc g) ≡ G - g
      count h = omega arith

      next : (I : ℕ) → I + suc g ≡ suc (I + g)
      next I = omega arith

  pub sum-down : (g r c : ℕ) → 0 < g → g ≤ G → Counted G ps co → SumCounts G ps co g r → MostCount co (stride * (g - 1)) (get_or ps (g - 1) 0) c → SumCounts G ps co (g - 1) (r + c)
  sum-down g r c z h d s m = sum-next (g - 1) r c (omega arith) d (subst (λ (x : ℕ). SumCounts G ps co x r) (above z) s) m
    where
      above : 0 < g → g ≡ suc (g - 1)
      above z = omega arith

  pub sum-all : {g r : ℕ} → g ≤ 0 → SumCounts G ps co g r → SumCounts G ps co 0 r
  sum-all {g} {r} h s = subst (λ (x : ℕ). SumCounts G ps co x r) (none h) s
    where
      none : g ≤ 0 → g ≡ 0
      none h = omega arith

  -- **r is M**, or more
  pub sum-reach : {r : ℕ} → SumCounts G ps co 0 r → (N : Net) {I : ℕ} {so : List ℕ} → Wired N I G ps so co → reach_of N ≤ r
  unfolding reach_of gate_numbers
  sum-reach {r} s N {I} {so} w =
      let a = subst (λ (n : ℕ). sum (most N) (count-from (I + 0) n) ≤ r) (all G) (s.enough N I so w) in
      subst (λ (n : ℕ). sum (most N) (count-from N.inputs n) ≤ r) (sym w.gates) (subst (λ (b : ℕ). sum (most N) (count-from b G) ≤ r) (same w.inputs) a)
    where
      all : (n : ℕ) → n - 0 ≡ n
      all n = omega arith

      same : N.inputs ≡ I → I + 0 ≡ N.inputs
      same e = omega arith
