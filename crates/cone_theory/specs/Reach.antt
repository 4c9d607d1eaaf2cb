-- How far back a cone reaches: grown from its root, member by member, no member's d exceeds the sum of the largest counts of the members so far,
-- and each gate is counted at most once for each leaf.
use Rattle.std.specs.Prelude.{◌≡◌, refl, List, [], ◌∷◌, ℕ, ◌+◌, ◌*◌, ◌≤◌, max, length}
use Rattle.std.proofs.Math.Path.{ap}
use Rattle.std.proofs.Common.{zero-le, mul-le-mul_right, mul-le-mul, arith}
use Rattle.std.proofs.Math.Nat.{le_trans, lt_irrefl}
use Rattle.std.proofs.Math.Decide.{ℕ_discrete}
use Rattle.limits.specs.Limits.{most_gates, most_count, most_k, most_copies, most_reach}
use Rattle.sequences.specs.Member.{◌∈◌, here, there, not_in_nil, Within}
use Rattle.sequences.specs.Distinct.{Distinct, distinct_nil, distinct_cons, within_cons}
use Rattle.sequences.specs.Sum.{sum, sum_by, sum-within, sum-at-most}
use Rattle.net_model.specs.Net.{Net, Pin, IsGate, pins}
use Rattle.net_model.specs.Copies.{Copy, copy, Feeds, Leads, IsCone, IsLeaves, Cut}
use Rattle.cone_theory.specs.Basics.{member?}
use Rattle.cone_theory.specs.Ranks.{Ranked, OnPath}
use Rattle.cone_theory.specs.FewCopies.{gate_numbers, in_gate_numbers, gate_numbers_in, length-gate_numbers, few-copies, few-copies-of, few-members}

-- ---- the largest counts
unfoldable pub max_count : List Pin → ℕ
max_count [] = 0
max_count (p ∷ l) = max p.count (max_count l)

pub in_max_count : {p : Pin} {l : List Pin} → p ∈ l → p.count ≤ max_count l
unfolding max_count
in_max_count {p} (here {x = q} e) = omega (arith, ap (λ (r : Pin). r.count) e)
in_max_count (there h) = omega (arith, in_max_count h)

pub max_count_le : (c : ℕ) (l : List Pin) → ((p : Pin) → p ∈ l → p.count ≤ c) → max_count l ≤ c
unfolding max_count
max_count_le c [] f = zero-le
max_count_le c (p ∷ l) f = omega (arith, f p (here refl), max_count_le c l (λ q h. f q (there h)))

-- the largest count on a pin of gate v
unfoldable pub most : Net → ℕ → ℕ
unfolding max_count
most N v = max_count (pins N v)

-- M, the sum of the largest counts over all gates
unfoldable pub reach_of : Net → ℕ
unfolding most sum gate_numbers
reach_of N = sum (most N) (gate_numbers N)

pub in_most : (N : Net) (v : ℕ) {p : Pin} → p ∈ pins N v → p.count ≤ most N v
unfolding most
in_most N v h = in_max_count h

pub most_le : (N : Net) (v c : ℕ) → ((p : Pin) → p ∈ pins N v → p.count ≤ c) → most N v ≤ c
unfolding most
most_le N v c f = max_count_le c (pins N v) f

pub feeds-most : {N : Net} {y x : Copy} → Feeds N y x → y.back ≤ x.back + most N x.node
feeds-most {N} {x} f = omega (arith, f.depth, in_most N x.node f.is_pin)

most-sum_le : (N : Net) (c : ℕ) → ((v : ℕ) → IsGate N v → (p : Pin) → p ∈ pins N v → p.count ≤ c) → sum (most N) (gate_numbers N) ≤ length N.gates * c
most-sum_le N c f = rw (length-gate_numbers N) at (sum-at-most (most N) c (gate_numbers N) (λ v h. most_le N v c (f v (gate_numbers_in h))))

pub reach_of_le : (N : Net) (c : ℕ) → ((v : ℕ) → IsGate N v → (p : Pin) → p ∈ pins N v → p.count ≤ c) → reach_of N ≤ length N.gates * c
unfolding reach_of
reach_of_le N c f = most-sum_le N c f

-- ---- a growing set of members
record Good (N : Net) (C S : List Copy) : Type 0 where
  distinct : Distinct S
  within : Within S C
  bound : (x : Copy) → x ∈ S → x.back + most N x.node ≤ sum (λ (c : Copy). most N c.node) S

module _ {N : Net} {C : List Copy} where
  good-one : (v : ℕ) (r : Copy) → r ≡ copy v 0 → r ∈ C → Good N C (r ∷ [])
  good-one v r e h = record {
    distinct = distinct_cons not_in_nil distinct_nil;
    within = within_cons h (λ x k. absurd (not_in_nil k));
    bound = bound;
  }
    where
      bound : (x : Copy) → x ∈ r ∷ [] → x.back + most N x.node ≤ sum (λ (c : Copy). most N c.node) (r ∷ [])
      bound x (here q) = unfold sum in omega (arith, ap (λ (c : Copy). most N c.node) q, ap (λ (c : Copy). c.back) q, ap (λ (c : Copy). c.back) e)
      bound x (there k) = absurd (not_in_nil k)

  good_cons : {S : List Copy} (y x : Copy) → Good N C S → x ∈ S → Feeds N y x → y ∈ C → ¬ (y ∈ S) → Good N C (y ∷ S)
  good_cons {S} y x s h f m n = record { distinct = distinct_cons n s.distinct; within = within_cons m s.within; bound = bound }
    where
      bound : (z : Copy) → z ∈ y ∷ S → z.back + most N z.node ≤ sum (λ (c : Copy). most N c.node) (y ∷ S)
      bound z (here q) = unfold sum in omega (arith, ap (λ (c : Copy). most N c.node) q, ap (λ (c : Copy). c.back) q, feeds-most f, s.bound x h)
      bound z (there k) = unfold sum in omega (arith, s.bound z k)

  grow-to : {v : ℕ} (x : Copy) → x ∈ C → Leads N C (copy v 0) x → (S : List Copy) × Good N C S × (x ∈ S)
  grow-to {v} x h (Leads.stop e) = (x ∷ [], good-one v x e h, here refl)
  grow-to {v} x h (Leads.step z k f l) = go (grow-to z k l) (member? x (grow-to z k l).0)
    where
      go : (r : (S : List Copy) × Good N C S × (z ∈ S)) → Dec (x ∈ r.0) → (S : List Copy) × Good N C S × (x ∈ S)
      go r (yes m) = (r.0, r.1, m)
      go r (no n) = (x ∷ r.0, good_cons x z r.1 r.2 f h n, here refl)

module _ {N : Net} (R : Ranked N) {v : ℕ} {C L : List Copy} (cone : IsCone N v C) (leaves : IsLeaves N C L) where
  few-sum : (S : List Copy) → Distinct S → Within S C → sum (λ (c : Copy). most N c.node) S ≤ length L * reach_of N
  unfolding reach_of
  few-sum S distinct w =
      sum_by ℕ_discrete (λ (c : Copy). c.node) (most N) S (gate_numbers N) (λ c h. in_gate_numbers (cone.gates c (w c h))) (length L) (λ u h. few-copies-of R cone.gates leaves u S distinct w)

  pub reach : (x : Copy) → x ∈ C → x.back + most N x.node ≤ length L * reach_of N
  reach x h =
      let r = grow-to x h (cone.leads x h) in
      le_trans (r.1.bound x r.2) (few-sum r.0 r.1.distinct r.1.within)

  pub reach-leaf : (y : Copy) → y ∈ L → y.back ≤ length L * reach_of N
  reach-leaf y h =
      let l = leaves.sound y h in
      omega (arith, feeds-most l.feeds, reach l.member l.is_member)

-- ---- for k-cuts
module _ {N : Net} (R : Ranked N) {k v : ℕ} {A B : Copy → Type 0} (K : Cut N k v A B) where
  pub cut-reach : (x : Copy) → x ∈ K.cone → x.back + most N x.node ≤ k * reach_of N
  cut-reach x h = le_trans (reach R K.is_cone K.is_leaves x h) (mul-le-mul_right (reach_of N) K.few)

  pub cut-reach-leaf : (y : Copy) → y ∈ K.leaves → y.back ≤ k * reach_of N
  cut-reach-leaf y h = le_trans (reach-leaf R K.is_cone K.is_leaves y h) (mul-le-mul_right (reach_of N) K.few)

  pub cut-few : (u : ℕ) (ds : List ℕ) → Distinct ds → ((d : ℕ) → d ∈ ds → copy u d ∈ K.cone) → length ds ≤ k
  cut-few u ds distinct h = le_trans (few-copies R K.is_cone.gates K.is_leaves u ds distinct h) K.few

  pub cut_members : (S : List Copy) → Distinct S → Within S K.cone → length S ≤ k * length N.gates
  cut_members S distinct w = le_trans (few-members R K.is_cone.gates K.is_leaves S distinct w) (mul-le-mul_right (length N.gates) K.few)

  -- By document 01's limits: at most 192 members, and no d above 576.
  pub limit-members : length N.gates ≤ most_gates → k ≤ most_k → (S : List Copy) → Distinct S → Within S K.cone → length S ≤ most_copies
  limit-members g h S distinct w = le_trans (cut_members S distinct w) (mul-le-mul h g)

  limit_product : length N.gates ≤ most_gates → ((u : ℕ) → IsGate N u → (p : Pin) → p ∈ pins N u → p.count ≤ most_count) → k ≤ most_k → k * reach_of N ≤ most_reach
  limit_product g c h =
      let m : reach_of N ≤ most_gates * most_count = omega (arith, reach_of_le N most_count c) in
      mul-le-mul h m

  pub limit-reach : length N.gates ≤ most_gates → ((u : ℕ) → IsGate N u → (p : Pin) → p ∈ pins N u → p.count ≤ most_count) → k ≤ most_k → (x : Copy) → x ∈ K.cone → x.back ≤ most_reach
  limit-reach g c h x m = omega (arith, cut-reach x m, limit_product g c h)

  pub limit-reach-leaf : length N.gates ≤ most_gates → ((u : ℕ) → IsGate N u → (p : Pin) → p ∈ pins N u → p.count ≤ most_count) → k ≤ most_k → (y : Copy) → y ∈ K.leaves → y.back ≤ most_reach
  limit-reach-leaf g c h y m = omega (arith, cut-reach-leaf y m, limit_product g c h)

-- ---- the registers of an input path
module _ {N : Net} (R : Ranked N) where
  -- the gates passed, each once, carry the registers passed
  record Passed (u c : ℕ) : Type 0 where
    gates : List ℕ
    distinct : Distinct gates
    within : Within gates (gate_numbers N)
    below : (v : ℕ) → v ∈ gates → R.rank v ≤ R.rank u
    enough : c ≤ sum (most N) gates

  passed_cons : {u c d : ℕ} → IsGate N u → c ≡ (R.pin u).count + d → Passed (R.pin u).src d → Passed u c
  unfolding sum
  passed_cons {u} {c} {d} g e r = record {
    gates = u ∷ r.gates;
    distinct = distinct_cons (λ (h : u ∈ r.gates). lt_irrefl (R.rank u) (omega (arith, r.below u h, R.falls u g))) r.distinct;
    within = within_cons (in_gate_numbers g) r.within;
    below = below;
    enough = omega (arith, r.enough, in_most N u (R.is_pin u g));
  }
    where
      below : (v : ℕ) → v ∈ u ∷ r.gates → R.rank v ≤ R.rank u
      below v (here q) = omega (arith, ap R.rank q)
      below v (there h) = omega (arith, r.below v h, R.falls u g)

  passed : {u s c : ℕ} → OnPath R u s c → Passed u c
  passed (OnPath.starts e z) = record { gates = []; distinct = distinct_nil; within = λ v h. absurd (not_in_nil h); below = λ v h. absurd (not_in_nil h); enough = omega arith }
  passed (OnPath.follows d g p e) = passed_cons g e (passed p)

  -- An input path passes at most M registers.
  pub on_path_count : {u s c : ℕ} → OnPath R u s c → c ≤ reach_of N
  unfolding reach_of
  on_path_count p = let r = passed p in le_trans r.enough (sum-within (most N) r.distinct r.within)
