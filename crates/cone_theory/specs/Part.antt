-- The part of a cone at one of its members u:e: first all members are moved down by e, then what leads to u:0 is grown from it. Its leaves are
-- leaves of the whole, moved down. And a cone is known by its leaves, and is decided, by growing it from its root.
use Rattle.std.specs.Prelude.{◌≡◌, refl, List, map, ℕ, ◌+◌, ◌-◌, ◌≤◌}
use Rattle.std.proofs.Common.{sym, ap, ◌∙◌, le_trans, arith}
use Rattle.std.proofs.Math.Decide.{dec_le}
use Rattle.sequences.specs.Member.{◌∈◌, in_equal, Within, in_map, map_in}
use Rattle.sequences.specs.Decide.{dec_map, all?, all-step}
use Rattle.sequences.specs.Keep.{keep, keep_in, in_keep}
use Rattle.sequences.specs.Distinct.{inject}
use Rattle.sequences.specs.Grow.{Reach, Grown, grow, grown-all}
use Rattle.net_model.specs.Net.{Net, IsGate}
use Rattle.net_model.specs.Copies.{Copy, copy, Feeds, Leads, IsCone, Leaf, IsLeaves, Cut}
use Rattle.net_model.specs.Tables.{feeding}
use Rattle.cone_theory.specs.Basics.{copy-path, Copy-dec, member?, is_gate?, feeds_in, in_feeding, leaves_of, leaves-distinct}

-- c, e registers further back
abbrev pub lift : ℕ → Copy → Copy
lift e c = copy c.node (e + c.back)

abbrev pub lower : ℕ → Copy → Copy
lower e c = copy c.node (c.back - e)

pub lift-zero : (c : Copy) → lift 0 c ≡ c
lift-zero c = copy-path refl (omega arith)

pub lift-one : (e : ℕ) {a b : Copy} → lift e a ≡ lift e b → a ≡ b
lift-one e {a} {b} p = copy-path (ap (λ (c : Copy). c.node) p) (omega (arith, ap (λ (c : Copy). c.back) p))

pub lift-feeds : {N : Net} (e : ℕ) {y x : Copy} → Feeds N y x → Feeds N (lift e y) (lift e x)
lift-feeds e f = record { gate = f.gate; pin = f.pin; is_pin = f.is_pin; source = f.source; depth = omega (arith, f.depth) }

pub lower-feeds : {N : Net} (e : ℕ) {y x : Copy} → Feeds N (lift e y) (lift e x) → Feeds N y x
lower-feeds e f = record { gate = f.gate; pin = f.pin; is_pin = f.is_pin; source = f.source; depth = omega (arith, f.depth) }

-- the copies whose lift by e is in C
unfoldable pub lowered : ℕ → List Copy → List Copy
unfolding keep dec_le
lowered e C = map (lower e) (keep (λ c. dec_le e c.back) C)

pub lowered_in : (e : ℕ) (C : List Copy) {c : Copy} → c ∈ lowered e C → lift e c ∈ C
unfolding lowered
lowered_in e C {c} h =
    let r = map_in (lower e) (keep (λ a. dec_le e a.back) C) h in
    let s = in_keep (λ a. dec_le e a.back) C r.1 in
    let n : e ≤ r.0.back = s.1 in
    in_equal (copy-path (ap (λ (a : Copy). a.node) r.2) (omega (arith, ap (λ (a : Copy). a.back) r.2))) s.0

pub in_lowered : (e : ℕ) {C : List Copy} {c : Copy} → lift e c ∈ C → c ∈ lowered e C
unfolding lowered
in_lowered e {C} {c} h =
    in_equal (copy-path refl (omega arith)) (in_map (lower e) (keep_in (λ a. dec_le e a.back) h (omega arith)))

-- ---- growing from a copy inside a set of gate copies
pub leads_mono : {N : Net} {C C' : List Copy} {r c : Copy} → Within C C' → Leads N C r c → Leads N C' r c
leads_mono w (Leads.stop e) = Leads.stop e
leads_mono w (Leads.step x h f l) = Leads.step x (w x h) f (leads_mono w l)

module _ {N : Net} {Q : List Copy} {s : Copy} (gates : (c : Copy) → c ∈ Q → IsGate N c.node) (r : Grown (feeding N) Q s) where
  pub reach_leads : {c : Copy} → Reach (feeding N) Q s c → Leads N r.set s c
  reach_leads (Reach.stop e) = Leads.stop e
  reach_leads (Reach.step x h k u) =
      let m = grown-all r x h in
      Leads.step x m (in_feeding (gates x (r.within x m)) k) (reach_leads h)

  pub grown-leads : (c : Copy) → c ∈ r.set → Leads N r.set s c
  grown-leads c h = reach_leads (r.reached c h)

pub leads-grown : {N : Net} {Q : List Copy} {s c : Copy} (r : Grown (feeding N) Q s) → c ∈ Q → Leads N Q s c → c ∈ r.set
leads-grown r h (Leads.stop e) = in_equal e r.starts
leads-grown {c} r h (Leads.step x k f l) = r.closed x c (leads-grown r k l) (feeds_in f) h

unfoldable pub grow_copies : (N : Net) (Q : List Copy) (s : Copy) → s ∈ Q → Grown (feeding N) Q s
unfolding grow Copy-dec
grow_copies N Q s h = grow Copy-dec (feeding N) Q s h

-- ---- the part of a cone
pub record Part (N : Net) (C : List Copy) (u e : ℕ) : Type 0 where
  pub cone : List Copy
  pub is_cone : IsCone N u cone
  pub lifted : (c : Copy) → c ∈ cone → lift e c ∈ C
  pub leaves : (y : Copy) → Leaf N cone y → Leaf N C (lift e y)

part-from : {N : Net} {C : List Copy} {u e : ℕ} → ((c : Copy) → c ∈ C → IsGate N c.node) → Grown (feeding N) (lowered e C) (copy u 0) → Part N C u e
part-from {N} {C} {u} {e} gates r = record {
  cone = r.set;
  is_cone = record { gates = λ c h. gates (lift e c) (lifted c h); root = r.starts; leads = grown-leads (λ c h. gates (lift e c) (lowered_in e C h)) r };
  lifted = lifted;
  leaves = λ y l. record {
    outside = λ h. l.outside (r.closed l.member y l.is_member (feeds_in l.feeds) (in_lowered e h));
    member = lift e l.member;
    is_member = lifted l.member l.is_member;
    feeds = lift-feeds e l.feeds;
  };
}
  where
    lifted : (c : Copy) → c ∈ r.set → lift e c ∈ C
    lifted c h = lowered_in e C (r.within c h)

unfoldable pub part : {N : Net} {v : ℕ} {C : List Copy} {u e : ℕ} → IsCone N v C → copy u e ∈ C → Part N C u e
unfolding part-from grow_copies lowered
part {N} {v} {C} {u} {e} k h = part-from k.gates (grow_copies N (lowered e C) (copy u 0) (in_lowered e (in_equal (copy-path refl (omega arith)) h)))

-- The part of a cut at u:e is a cut of u.
pub part_cut : {N : Net} {k v : ℕ} {A B : Copy → Type 0} (K : Cut N k v A B) (u e : ℕ) → copy u e ∈ K.cone → Cut N k u (λ y. A (lift e y)) (λ x. B (lift e x))
part_cut {N} {k} {v} {A} {B} K u e h =
    let P : Part N K.cone u e = part K.is_cone h in
    let L = leaves_of N P.cone in
    record {
      cone = P.cone;
      leaves = L.0;
      is_cone = P.is_cone;
      is_leaves = L.1;
      few = le_trans (inject {R = λ (y z : Copy). lift e y ≡ z} (leaves-distinct L.1) (λ y m. (lift e y, K.is_leaves.complete (lift e y) (P.leaves y (L.1.sound y m)), refl)) (λ a b c p q. lift-one e (p ∙ sym q))) K.few;
      allowed = λ y m. K.allowed (lift e y) (K.is_leaves.complete (lift e y) (P.leaves y (L.1.sound y m)));
      inside = λ x m. K.inside (lift e x) (P.lifted x m);
    }

-- ---- a cut determines its cone
pub cone_determined : {N : Net} {v : ℕ} {C C' L : List Copy} → IsCone N v C → IsCone N v C' → IsLeaves N C L → IsLeaves N C' L → (c : Copy) → c ∈ C → c ∈ C'
cone_determined {N} {v} {C} {C'} {L} a b l m c h = go c h (a.leads c h)
  where
    meet : (c x : Copy) → c ∈ C → Feeds N c x → x ∈ C' → Dec (c ∈ C') → c ∈ C'
    meet c x h f k (yes i) = i
    meet c x h f k (no n) = absurd ((l.sound c (m.complete c (record { outside = n; member = x; is_member = k; feeds = f }))).outside h)

    go : (c : Copy) → c ∈ C → Leads N C (copy v 0) c → c ∈ C'
    go c h (Leads.stop e) = in_equal e b.root
    go c h (Leads.step x k f t) = meet c x h f (go x k t) (member? c C')

-- ---- is this a cone?
all_grown : {N : Net} {v : ℕ} {C : List Copy} → ((c : Copy) → c ∈ C → IsGate N c.node) → copy v 0 ∈ C → (r : Grown (feeding N) C (copy v 0)) → Within C r.set → IsCone N v C
all_grown g h r w = record { gates = g; root = h; leads = λ c k. leads_mono r.within (grown-leads g r c (w c k)) }

unfoldable pub is_cone-step : {N : Net} {v : ℕ} {C : List Copy} → Dec ((c : Copy) → c ∈ C → IsGate N c.node) → Dec (copy v 0 ∈ C) → Dec (IsCone N v C)
unfolding dec_map all? all-step member? grow_copies all_grown
is_cone-step {N} {v} {C} (yes g) (yes h) =
    let r = grow_copies N C (copy v 0) h in
    dec_map (all_grown g h r) (λ k c m. leads-grown r m (k.leads c m)) (all? C (λ c m. member? c r.set))
is_cone-step (yes g) (no n) = no (λ k. n k.root)
is_cone-step (no n) d = no (λ k. n k.gates)

unfoldable pub is_cone? : (N : Net) (v : ℕ) (C : List Copy) → Dec (IsCone N v C)
unfolding is_cone-step all? all-step is_gate? member?
is_cone? N v C = let d = member? (copy v 0) C in is_cone-step (all? C (λ c h. is_gate? N c.node)) d
