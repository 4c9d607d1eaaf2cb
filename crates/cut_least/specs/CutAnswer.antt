-- What the answer of `min_cut` means: with r units no separation has fewer than r leaves; where r is at most k, the set found is a separation with r leaves, it lies
-- inside each other separation with so few, and its members lead to the root.
use Rattle.std.specs.Prelude.{◌≡◌, refl, List, map, ℕ, ◌≤◌, ◌<◌, length, get_or}
use Rattle.std.proofs.Common.{sym, ap, subst, ◌∙◌, inl, inr, le_antisymm, arith}
use Rattle.std.proofs.Math.Decide.{dec_lt}
use Rattle.std.proofs.lemmas.List.{length-map}
use Rattle.sequences.specs.Member.{◌∈◌, in_equal, in_map, map_in, Within}
use Rattle.sequences.specs.Decide.{dec-⊎, up_to, in_up_to}
use Rattle.sequences.specs.Keep.{keep, keep_in, in_keep}
use Rattle.sequences.specs.Distinct.{Distinct, distinct-map-on}
use Rattle.net_model.specs.Net.{Net, IsGate}
use Rattle.net_model.specs.Checks.{Loopless}
use Rattle.net_model.specs.Copies.{Copy, copy, Feeds, Leads, IsCone, Leaf, IsLeaves}
use Rattle.cone_theory.specs.Basics.{member?, leaves-distinct}
use Rattle.cone_theory.specs.Ranks.{Ranked}
use Rattle.cut_flow.specs.Graph as Graphs
use Rattle.cut_flow.specs.Graph.{Graph, Feeding, Separation, Lists}
use Rattle.cut_flow.specs.Course.{duality}
use Rattle.cut_flow.specs.Capped.{capped-closed}
use Rattle.cut_flow.specs.Closed.{Closed, Found, found-separation, few-leaves, smallest, found-leads, out-leaf, leaf-out, leaf_apart}
use Rattle.cut_circuit.specs.Circuit.{Circuit, graph_of, Layout, total, ending, forced_in}
use Rattle.cut_circuit.specs.CircuitLaws.{lawful, wide-positive, size_is, terminal-is, forced-is}
use Rattle.cut_search.specs.SearchTable.{view_of}
use Rattle.cut_search.specs.SearchTableLaws.{in_below}
use Rattle.cut_least.specs.CutRounds.{Flowing, CutTold}
use Rattle.cut_least.specs.Collect.{LeafMark, CollectAsked, CollectTold, number_at}
use Rattle.cut_least.specs.CollectLaws.{rising-copies_from, number-before}
use Rattle.cut_circuit.specs.Bridge.{Holds, decode, encode, encode-decode, decode-encode, decode-one, inner-gate, gate-inner, to-feeds, from-feeds, order, copies}
use Rattle.net_model.specs.Arrays.{copies_from}
use Rattle.net_model.specs.ArrayLaws.{copies_from_in, in_copies_from, length-copies_from}

-- A set of gate copies, none beyond the border, that contains the forced set.
pub record Separates (C : Circuit) (N : Net) (cone : List Copy) : Type 0 where
  pub gates : (c : Copy) → c ∈ cone → IsGate N c.node
  pub border : (c : Copy) → c ∈ cone → c.back ≤ C.border
  pub forced : (x : ℕ) → 0 < forced_in C x → decode C x ∈ cone

-- Each forced copy leads to v:0 among the forced copies, listed by S, and v:0 is one.
pub record ForcedLeads (C : Circuit) (N : Net) (v : ℕ) (S : List Copy) : Type 0 where
  pub within : (c : Copy) → c ∈ S → (x : ℕ) × (0 < forced_in C x) × (c ≡ decode C x)
  pub leads : (x : ℕ) → 0 < forced_in C x → Leads N S (copy v 0) (decode C x)
  pub root : 0 < forced_in C (encode C (copy v 0))

-- ---- the set found
unfoldable pub found? : (C : Circuit) (t : List ℕ) (x : ℕ) → Dec (Found (graph_of C) (view_of t) x)
found? C t x = dec-⊎ (dec_lt 0 ((graph_of C).forced x)) (dec_lt 0 ((view_of t).inn x))

-- the copies that are forced or marked in
unfoldable pub cone_of : Circuit → List ℕ → List Copy
cone_of C t = map (decode C) (keep (found? C t) (up_to (total C)))

pub cone_of_in : (C : Circuit) (t : List ℕ) {c : Copy} → c ∈ cone_of C t → (x : ℕ) × Found (graph_of C) (view_of t) x × (c ≡ decode C x)
unfolding cone_of
cone_of_in C t h =
    let r = map_in (decode C) (keep (found? C t) (up_to (total C))) h in
    (r.0, (in_keep (found? C t) (up_to (total C)) r.1).1, r.2)

module _ {C : Circuit} (t : List ℕ) (L : Layout C) (room : length t ≡ total C) where
  found_inside : (x : ℕ) → Found (graph_of C) (view_of t) x → x < total C
  found_inside x (inl h) = omega (arith, size_is C, (lawful L).forced x h)
  found_inside x (inr h) = omega (arith, room, in_below t x h)

  pub in_cone_of : (x : ℕ) → Found (graph_of C) (view_of t) x → decode C x ∈ cone_of C t
  unfolding cone_of
  in_cone_of x f = in_map (decode C) (keep_in (found? C t) (in_up_to (found_inside x f)) f)

  pub in_cone_of-found : (x : ℕ) → decode C x ∈ cone_of C t → Found (graph_of C) (view_of t) x
  in_cone_of-found x h =
      let r = cone_of_in C t h in
      subst (Found (graph_of C) (view_of t)) (sym (decode-one C x r.0 r.2)) r.1

-- ---- separations of a net
module _ {C : Circuit} {N : Net} (L : Layout C) (H : Holds C N) where
  module _ {cone : List Copy} (s : Separates C N cone) where
    abbrev Member : ℕ → Type 0
    Member x = decode C x ∈ cone

    pub separation : Separation (graph_of C) Member
    separation = record {
      contains = λ x h. s.forced x (subst (λ (n : ℕ). 0 < n) (forced-is C x) h);
      free = λ x h. terminal-is C x ∙ gate-inner L H x (s.gates (decode C x) h) (s.border (decode C x) h);
    }

    pub graph-leaf : {y : ℕ} → Graphs.Leaf (graph_of C) Member y → Leaf N cone (decode C y)
    graph-leaf l = record { outside = l.outside; member = decode C l.member; is_member = l.is_member; feeds = to-feeds L H l.feeds }

    module _ {leaves : List Copy} (w : IsLeaves N cone leaves) where
      pub lists : Lists (graph_of C) Member (map (encode C) leaves)
      lists y l = in_equal (sym (encode-decode C y)) (in_map (encode C) (w.complete (decode C y) (graph-leaf l)))

      -- With f units each separation has at least f leaves.
      pub at_least : {t : List ℕ} {f : ℕ} → Loopless N → Flowing C t f → f ≤ length leaves
      at_least loopless g =
          let d = duality g.state (λ x. member? (decode C x) cone) separation (order L H loopless) g.rooted lists in
          omega (arith, d, g.count, length-map leaves (encode C))

module _ {C : Circuit} {N : Net} {t l : List ℕ} {k r : ℕ} (L : Layout C) (H : Holds C N) (R : Ranked N) (loopless : Loopless N) (room : length t ≡ total C) (o : CutTold C t l k r) where
  -- More than k units: no separation has at most k leaves.
  pub none-few : k < r → {cone leaves : List Copy} → Separates C N cone → IsLeaves N cone leaves → k < length leaves
  none-few h s w = omega (arith, h, at_least L H s w loopless o.flowing)

  pub fewest : {cone leaves : List Copy} → Separates C N cone → IsLeaves N cone leaves → r ≤ length leaves
  fewest s w = at_least L H s w loopless o.flowing

  module _ (few : r ≤ k) where
    done : Closed (graph_of C) (view_of t)
    done = capped-closed (copies L H R) (lawful L) (o.capped few) (order L H loopless) o.flowing.state (omega (arith, o.flowing.count))

    found-inner : (x : ℕ) → Found (graph_of C) (view_of t) x → ending C x ≡ 0
    found-inner x f = sym (terminal-is C x) ∙ (found-separation (lawful L) done).free x f

    member_of : {c : Copy} → c ∈ cone_of C t → (x : ℕ) × Found (graph_of C) (view_of t) x × (c ≡ decode C x)
    member_of h = cone_of_in C t h

    pub found-separates : Separates C N (cone_of C t)
    found-separates = record {
      gates = λ c h. let m = member_of h in subst (λ (b : Copy). IsGate N b.node) (sym m.2) (inner-gate L H m.0 (found-inner m.0 m.1));
      border = λ c h. let m = member_of h in subst (λ (b : Copy). b.back ≤ C.border) (sym m.2) (omega (arith, found-inner m.0 m.1));
      forced = λ x h. in_cone_of t L room x (inl (subst (λ (n : ℕ). 0 < n) (sym (forced-is C x)) h));
    }

    -- a leaf of the set found, by its number
    leaf-number : {c : Copy} → Leaf N (cone_of C t) c → Graphs.Leaf (graph_of C) (Found (graph_of C) (view_of t)) (encode C c) × (c.back < C.width)
    leaf-number {c} w =
        let m = member_of w.is_member in
        let n = from-feeds L H (found-inner m.0 m.1) (subst (λ (b : Copy). Feeds N c b) m.2 w.feeds) in (
          record {
            outside = λ f. w.outside (in_equal (sym (decode-encode C c n.back)) (in_cone_of t L room (encode C c) f));
            member = m.0;
            is_member = m.1;
            feeds = n.feeding;
          },
          n.back,
        )

    number-leaf : {y : ℕ} → Graphs.Leaf (graph_of C) (Found (graph_of C) (view_of t)) y → Leaf N (cone_of C t) (decode C y)
    number-leaf {y} w = record {
      outside = λ h. w.outside (in_cone_of-found t L room y h);
      member = decode C w.member;
      is_member = in_cone_of t L room w.member w.is_member;
      feeds = to-feeds L H w.feeds;
    }

    -- The set found has r leaves.
    pub found-count : {leaves : List Copy} → IsLeaves N (cone_of C t) leaves → length leaves ≡ r
    found-count {leaves} w =
        let d : Distinct (map (encode C) leaves) = distinct-map-on (encode C) (λ a b p q e. sym (decode-encode C a (leaf-number (w.sound a p)).1) ∙ (ap (decode C) e ∙ decode-encode C b (leaf-number (w.sound b q)).1)) (leaves-distinct w) in
        let n = few-leaves (lawful L) done (order L H loopless) o.flowing.state d (λ y h. leaf_in_lem y h) in
        le_antisymm (omega (arith, n, o.flowing.count, length-map leaves (encode C))) (fewest found-separates w)
      where
        leaf_in_lem : (y : ℕ) → y ∈ map (encode C) leaves → Graphs.Leaf (graph_of C) (Found (graph_of C) (view_of t)) y
        leaf_in_lem y h =
            let m = map_in (encode C) leaves h in
            subst (Graphs.Leaf (graph_of C) (Found (graph_of C) (view_of t))) (sym m.2) (leaf-number (w.sound m.0 m.1)).0

    -- It lies inside each separation with at most r leaves.
    pub found-smallest : {cone leaves : List Copy} → Separates C N cone → IsLeaves N cone leaves → length leaves ≤ r → Within (cone_of C t) cone
    found-smallest {cone} {leaves} s w h c i =
        let m = member_of i in
        let e : length (map (encode C) leaves) ≤ length o.flowing.entries = omega (arith, h, o.flowing.count, length-map leaves (encode C)) in
        in_equal m.2 (smallest (lawful L) done (order L H loopless) o.flowing.state o.flowing.rooted (λ x. member? (decode C x) cone) (separation L H s) (lists L H s w) e m.0 m.1)

    module _ {v : ℕ} {S : List Copy} (F : ForcedLeads C N v S) where
      graph-leads : {c : Copy} → Leads N S (copy v 0) c → (x : ℕ) → c ≡ decode C x → Graphs.Leads (graph_of C) (Found (graph_of C) (view_of t)) (encode C (copy v 0)) x
      graph-leads (Leads.stop e) x p = Graphs.Leads.stop (sym (encode-decode C x) ∙ (ap (encode C) (sym p) ∙ ap (encode C) e))
      graph-leads {c} (Leads.step b i f w) x p =
          let m = F.within b i in
          let g : Found (graph_of C) (view_of t) m.0 = inl (subst (λ (n : ℕ). 0 < n) (sym (forced-is C m.0)) m.1) in
          let n = from-feeds L H (found-inner m.0 g) (subst (λ (a : Copy). Feeds N c a) m.2 f) in
          Graphs.Leads.step m.0 g (subst (λ (y : ℕ). Feeding (graph_of C) y m.0) (ap (encode C) p ∙ encode-decode C x) n.feeding) (graph-leads w m.0 m.2)

      net-leads : {x : ℕ} → Graphs.Leads (graph_of C) (Found (graph_of C) (view_of t)) (encode C (copy v 0)) x → Leads N (cone_of C t) (copy v 0) (decode C x)
      net-leads (Graphs.Leads.stop e) = Leads.stop (ap (decode C) e ∙ decode-encode C (copy v 0) (wide-positive L))
      net-leads (Graphs.Leads.step x f g w) = Leads.step (decode C x) (in_cone_of t L room x f) (to-feeds L H g) (net-leads w)

      forced-leads : (x : ℕ) → 0 < (graph_of C).forced x → Graphs.Leads (graph_of C) (Found (graph_of C) (view_of t)) (encode C (copy v 0)) x
      forced-leads x h = graph-leads (F.leads x (subst (λ (n : ℕ). 0 < n) (forced-is C x) h)) x refl

      -- The set found is a cone of v.
      pub found-cone : IsCone N v (cone_of C t)
      found-cone = record {
        gates = found-separates.gates;
        root = in_equal (sym (decode-encode C (copy v 0) (wide-positive L))) (found-separates.forced (encode C (copy v 0)) F.root);
        leads = λ c h.
            let m = member_of h in
            subst (Leads N (cone_of C t) (copy v 0)) (sym m.2) (net-leads (found-leads (lawful L) done (order L H loopless) o.flowing.state o.flowing.rooted forced-leads m.0 m.1));
      }

    -- ---- its leaves, collected
    mark-leaf : (y : ℕ) → LeafMark t y → Graphs.Leaf (graph_of C) (Found (graph_of C) (view_of t)) y
    mark-leaf y m = out-leaf (lawful L) done y m.out m.inn

    leaf-mark : {y : ℕ} → Graphs.Leaf (graph_of C) (Found (graph_of C) (view_of t)) y → LeafMark t y
    leaf-mark w = record { out = leaf-out (lawful L) done w; inn = (leaf_apart (lawful L) done w).1 }

    -- a leaf of the set found is marked, by its number
    pub leaf-marked : {c : Copy} → Leaf N (cone_of C t) c → LeafMark t (encode C c) × (c ≡ decode C (encode C c))
    leaf-marked {c} w = let n = leaf-number w in (leaf-mark n.0, sym (decode-encode C c n.1))

    -- There are at most r of them.
    pub few-marks : (M : List ℕ) → Distinct M → ((y : ℕ) → y ∈ M → LeafMark t y) → length M ≤ r
    few-marks M d f = omega (arith, few-leaves (lawful L) done (order L H loopless) o.flowing.state d (λ y h. mark-leaf y (f y h)), o.flowing.count)

    pub collect_asked : {nodes backs : List ℕ} → r ≤ length nodes → r ≤ length backs → CollectAsked C.width t l nodes backs
    collect_asked p q = record {
      wide = wide-positive L;
      touched = o.touched;
      few = λ M d f. let n = few-marks M d f in omega (arith, n, p, q);
    }

    module _ {nodes backs : List ℕ} {m : ℕ} (w : CollectTold C.width t nodes backs m) where
      pub collected-leaves : IsLeaves N (cone_of C t) (copies_from nodes backs 0 m)
      collected-leaves = record {
        rising = rising-copies_from nodes backs 0 m (λ i j a b e.
            number-before C.width (get_or nodes i 0) (get_or backs i 0) (get_or nodes j 0) (get_or backs j 0) (w.back i (omega (arith, b, e))) (w.back j (omega (arith, e))) (w.rising i j b (omega (arith, e))));
        sound = sound;
        complete = complete;
      }
        where
          at_place : (i : ℕ) → i < m → decode C (number_at C.width nodes backs i) ≡ copy (get_or nodes i 0) (get_or backs i 0)
          at_place i h = decode-encode C (copy (get_or nodes i 0) (get_or backs i 0)) (w.back i h)

          sound : (y : Copy) → y ∈ copies_from nodes backs 0 m → Leaf N (cone_of C t) y
          sound y h =
              let q = copies_from_in nodes backs 0 m y h in
              let i : q.0 < m = omega (arith, q.2) in
              subst (Leaf N (cone_of C t)) (at_place q.0 i ∙ sym q.3) (number-leaf (mark-leaf (number_at C.width nodes backs q.0) (w.mark q.0 i)))

          complete : (y : Copy) → Leaf N (cone_of C t) y → y ∈ copies_from nodes backs 0 m
          complete y h =
              let n = leaf-marked h in
              let q = w.all (encode C y) n.0 in
              in_equal (n.1 ∙ (ap (decode C) (sym q.2) ∙ at_place q.0 q.1)) (in_copies_from nodes backs 0 m q.0 (omega arith) (omega (arith, q.1)))

      pub collected-count : m ≡ r
      collected-count = sym (length-copies_from nodes backs 0 m) ∙ found-count collected-leaves
