-- The walk with document 01's limits: what it asks follows from them, and what it tells is told as before.
use Rattle.std.specs.Prelude.{◌≡◌, List, ℕ, ◌+◌, ◌*◌, ◌≤◌, ◌<◌, length}
use Rattle.std.proofs.Common.{ap, subst, mul-le-mul, mul-le-mul_right, le_trans, arith}
use Rattle.limits.specs.Limits.{most_pins, most_gates, most_count, most_reach, most_table, most_nodes}
use Rattle.sequences.specs.Member.{◌∈◌}
use Rattle.net_model.specs.Net.{Net, Pin, IsGate, pins}
use Rattle.net_model.specs.Arrays.{copy_at}
use Rattle.net_model.specs.Copies.{Copy, Rising}
use Rattle.net_model.specs.Wired.{Wired}
use Rattle.net_model.specs.WiredLaws.{gate-wired, pin-wired}
use Rattle.cone_theory.specs.Reach.{reach_of, reach_of_le}
use Rattle.cone_copies.specs.CopyLists.{copies_in, SmallWires, members, most, Room, Bounded}
use Rattle.cone_copies.specs.CopyListLaws.{length-copies_in, in_copies_in}
use Rattle.cone_walk.specs.WalkTold.{WalkCut, WalkNone}
use Rattle.cone_descent.specs.Descent.{wide_most, place, Clear, Field, ToldCut, ToldNone, Seated}
use Rattle.cone_descent.specs.TrailLaws.{place-below}
use Rattle.cone_descent.specs.DescentSteps.{Asked}

pub seated-at : (width : ℕ) (us ds marks : List ℕ) {len : ℕ} (k : ℕ) → len ≡ k → Seated width us ds len marks → Seated width us ds k marks
seated-at width us ds marks k e s = subst (λ (z : ℕ). Seated width us ds z marks) e s

-- a copy's place in the table
pub small-place : (c : Copy) → c.node < most_nodes → c.back < wide_most → place wide_most c < most_table
small-place c h k = omega (arith, place-below wide_most most_nodes c h k)

module _ {I G : ℕ} {ps so co : List ℕ} (w : SmallWires I G ps so co) where
  -- so have the members of a cone
  pub cone-place : {us ds : List ℕ} {len : ℕ} → Room us ds len → Bounded I G (copies_in us ds len) → (p : ℕ) → p < len → place wide_most (copy_at us ds p) < most_table
  cone-place {us} {ds} {len} r b p h =
      let m = in_copies_in us ds len p h in
      small-place (copy_at us ds p) (omega (arith, b.high (copy_at us ds p) m, w.inputs, w.gates)) (omega (arith, b.near (copy_at us ds p) m, length-copies_in us ds len, r.fits))

  small-field : (marks : List ℕ) → most_table ≤ length marks → Field I G wide_most most_reach ps so co marks
  small-field marks h =
      let nodes : I + G ≤ most_nodes = omega (arith, w.inputs, w.gates) in
      record {
        wires = w.wires;
        wide = omega arith;
        near = λ g j a b. omega (arith, w.count g j a b);
        table = le_trans (mul-le-mul_right wide_most nodes) h;
      }

  pub small-asked : {ln lb : List ℕ} {n g : ℕ} {us ds hs bs ts seen marks : List ℕ} → n ≤ most_pins → n ≤ length ln → n ≤ length lb → g < G → Rising (copies_in ln lb n) → most_table ≤ length marks
      → Clear marks
      → length us ≡ members → length ds ≡ members → length hs ≡ members → length bs ≡ members → length ts ≡ members → length seen ≡ most_pins → Clear seen
      → Asked I G wide_most most_reach members ps so co ln lb n g us ds hs bs ts seen marks
  small-asked {marks = marks} few a b root rising table clear eu ed eh eb et es unseen = record {
    field = small-field marks table;
    leaves = record { nodes = a; backs = b; touched = omega (arith, few, es); rising = rising };
    limit = mul-le-mul few w.gates;
    some = omega arith;
    list_nodes = eu;
    list_backs = ed;
    nodes = eh;
    backs = eb;
    turns = et;
    root = root;
    clear = clear;
    unseen = unseen;
  }

  small-counts : (N : Net) → Wired N I G ps so co → (v : ℕ) → IsGate N v → (p : Pin) → p ∈ pins N v → p.count ≤ most_count
  small-counts N wired v k p m =
      let g = gate-wired wired v k in
      let r = pin-wired wired g.0 g.1 p (subst (λ (u : ℕ). p ∈ pins N u) g.2 m) in
      omega (arith, ap (λ (q : Pin). q.count) r.2, w.count g.0 r.0 g.1 r.1)

  small-reach : (N : Net) → Wired N I G ps so co → (L : List Copy) → length L ≤ most_pins → length L * reach_of N ≤ most_reach
  small-reach N wired L h =
      let m : reach_of N ≤ most_gates * most_count = omega (arith, reach_of_le N most_count (small-counts N wired), wired.gates, w.gates) in
      mul-le-mul h m

  module _ (ln lb : List ℕ) (n g : ℕ) where
    pub walk_none : {marks : List ℕ} → n ≤ most_pins → ToldNone I G most_reach ps so co (copies_in ln lb n) (I + g) marks → WalkNone I G ps so co ln lb n g
    walk_none few t N wired R k = t.none N wired R (small-reach N wired (copies_in ln lb n) (omega (arith, few, length-copies_in ln lb n))) k

    pub walk-cut : {us ds marks : List ℕ} {len : ℕ} → ToldCut I G wide_most most_reach ps so co (copies_in ln lb n) (I + g) us ds marks len → length us ≡ members → length ds ≡ members
        → WalkCut I G ps so co ln lb n g (record { nodes = us; backs = ds; len = len })
    walk-cut {us} {ds} {len = len} t hu hd = record {
      room = record { nodes = hu; backs = hd; some = t.some; fits = omega (arith, t.fits, hu) };
      bounded = record {
        low = λ c m. (t.inside c m).low;
        high = λ c m. (t.inside c m).high;
        near = λ c m. omega (arith, t.close most w.count c m, length-copies_in us ds len);
      };
      cone = t.cone;
      leaves = t.leaves;
      order = t.order;
    }
