-- Laws of the choice of roots.
use Rattle.std.specs.Prelude.{◌≡◌, refl, false, Option, Some, None, IfSome, List, [], ℕ, ◌+◌, ◌-◌, ◌*◌, ◌≤◌, ◌<◌, ℤ, length, drop}
use Rattle.std.proofs.Common.{sym, subst, ◌∙◌, zero-add, arith}
use Rattle.std.proofs.Math.Path.{ap}
use Rattle.std.proofs.lemmas.Bool.{false≢true}
use Rattle.std.specs.Option.{is_some}
use Rattle.std.proofs.Math.Decide.{ℕ_discrete, dec_lt}
use Rattle.std.proofs.Math.ListN.{get_or, set, length-set}
use Rattle.std.proofs.Math.Seq.{get_or-set_same, get_or-set_other, get_or-drop}
use Rattle.sequences.specs.Member.{◌∈◌, in_equal}
use Rattle.sequences.specs.Stored.{Stored as StoredAt}
use Rattle.net_model.specs.Net.{Pin}
use Rattle.net_model.specs.Copies.{Copy}
use Rattle.net_model.specs.Arrays.{stride, copy_at, copies_from}
use Rattle.net_model.specs.ArrayLaws.{pin_at, pins_in_in, in_pins_in, copies_from_in, in_copies_from}
use Rattle.net_model.specs.PackedNetLaws.{part_same}
use Rattle.cover_theory.specs.Key.{Root, source, leaf}
use Rattle.cover_period.specs.KeyOf.{root-gate}
use Rattle.cut_circuit.specs.Circuit.{Circuit}
use Rattle.cover_records.specs.Rows.{sizes_in, nodes_in, backs_in, row_room}
use Rattle.cover_roots.specs.Choosing.{Chooses, Keyed, Reads, RootsTold}
use Rattle.cover_roots.specs.RootMarks.{IsAt, Among, Marks, left}
use Rattle.cover_roots.specs.RootMarksLaws.{left-falls, marks-none, marks-behind}
use Rattle.cut_circuit.specs.Bridge.{gate-of}
use Rattle.cover_roots.specs.KeyCut.{told-few, told-leaves, copies-same}
use Rattle.cover_roots.specs.RootRounds.{CutWritten, Beside, LeavesKept, RowKept, LeafGate, Stored, Taken, Done, Choosing}
use Rattle.signed.specs.Range.{label_in}
use Rattle.cut_question.specs.Question.{Decides, Written}
use Rattle.label_theory.specs.Labels.{Mode}
use Rattle.label_aim.specs.Aims.{Bordering}
use Rattle.label_aim.specs.AimLaws.{bordering_is}
use Rattle.cut_circuit.specs.Packed.{packed_of}
use Rattle.cut_circuit.specs.declared.Extent.{Extent}

-- ---- what one root adds

pub cut-written : {M : Mode} {s e : Extent} {net slots : List ℕ} {ls : List ℤ} {φ k : ℕ} (g : ℕ) {h : ℤ} {found : Option ℕ} {nodes backs : List ℕ} → g < s.gates → Bordering M φ h s e
    → Decides (packed_of e net slots) ls φ k g h (is_some found) → IfSome found (λ r. r ≤ k) → IfSome found (λ r. Written (packed_of e net slots) ls φ k g h nodes backs r) → h ≡ label_in ls (s.inputs + g)
    → CutWritten M (packed_of s net []) ls φ k g nodes backs found
cut-written {M} {s} {e} {net} {slots} {ls} {φ} {k} g {h} {found = None} l B a few w z =
    let a' = subst (λ (x : Extent). Decides (packed_of x net slots) ls φ k g h false) (bordering_is B) a in
    record { leaves = λ c. absurd (false≢true (told-few s net slots e.border g l c z B.border a')) }
cut-written {M} {s} {e} {net} {slots} {ls} {φ} {k} g {h} {found = Some r} {nodes} {backs} l B a few w z =
    let w' = subst (λ (x : Extent). Written (packed_of x net slots) ls φ k g h nodes backs r) (bordering_is B) w in
    record { leaves = λ c. (r, refl, few, told-leaves s net slots e.border g l c z B.border few w') }

-- no leaves
pub stored-none : {I G g : ℕ} {nodes backs rows : List ℕ} → g < G → row_room G ≤ length rows → Stored I G g nodes backs None rows (set rows g 2)
stored-none {G = G} {g = g} {rows = rows} l room = record {
  mid = set rows g 2;
  closed = record {
    mark = get_or-set_same rows g 2 0 (omega (arith, l, room));
    marks = λ u z n. other u n;
    sizes = λ u z n. part_same rows (set rows g 2) G u (other (G + u) (omega (arith, l)));
    beside_nodes = record { before = λ i m. node i; behind = λ i m z. node i };
    beside_backs = record { before = λ i m. back i; behind = λ i m z. back i };
  };
  leaves = tt;
  marking = marks-none (set rows g 2) (λ u p. absurd p);
}
  where
    other : (u : ℕ) → ¬ (u ≡ g) → get_or (set rows g 2) u 0 ≡ get_or rows u 0
    other u n = get_or-set_other rows g u 2 0 n

    node : (i : ℕ) → get_or (nodes_in G (set rows g 2)) i 0 ≡ get_or (nodes_in G rows) i 0
    node i = part_same rows (set rows g 2) (2 * G) i (other (2 * G + i) (omega (arith, l)))

    back : (i : ℕ) → get_or (backs_in G (set rows g 2)) i 0 ≡ get_or (backs_in G rows) i 0
    back i = part_same rows (set rows g 2) ((2 + stride) * G) i (other ((2 + stride) * G + i) (omega (arith, l)))

pub stored_some : {I G g r : ℕ} {nodes backs rows mid new : List ℕ} → RowKept G g r nodes backs rows mid → Marks (Among I G nodes 0 r) mid new → Stored I G g nodes backs (Some r) rows new
stored_some {mid = mid} w a = record { mid = mid; closed = w.closed; leaves = w.leaves; marking = a }

-- a leaf that is marked is a gate
leaf_in : (I G u : ℕ) (nodes : List ℕ) (found : Option ℕ) → LeafGate I G nodes found u → u < G
leaf_in I G u nodes None p = absurd p
leaf_in I G u nodes (Some r) p = p.is_at.gate

-- a mark, a number of leaves, their nodes and their d
module _ (G g r : ℕ) (old : List ℕ) {nodes backs mid new : List ℕ} (h : g < G) (few : r ≤ stride) (room : row_room G ≤ length old)
    (a : StoredAt (set (set old g 2) (G + g) r) (2 * G + stride * g) nodes r mid) (b : StoredAt mid ((2 + stride) * G + stride * g) backs r new) where
  one : List ℕ
  one = set old g 2

  two : List ℕ
  unfolding one
  two = set one (G + g) r

  long-one : length one ≡ length old
  unfolding one
  long-one = length-set old g 2

  -- a place that is neither of the two
  other : (p : ℕ) → ¬ (p ≡ g) → ¬ (p ≡ G + g) → get_or two p 0 ≡ get_or old p 0
  unfolding one two
  other p x y = get_or-set_other one (G + g) p r 0 y ∙ get_or-set_other old g p 2 0 x

  -- a place before the leaves, and one behind their nodes
  first : (p : ℕ) → p < 2 * G + stride * g → get_or new p 0 ≡ get_or two p 0
  unfolding one two
  first p l = b.below p (omega (arith, l, h)) ∙ a.below p l

  later : (p : ℕ) → 2 * G + stride * g + r ≤ p → p < (2 + stride) * G + stride * g → get_or new p 0 ≡ get_or old p 0
  unfolding one two
  later p l m = b.below p m ∙ a.above p l ∙ other p (omega (arith, l, h)) (omega (arith, l, h))

  last : (p : ℕ) → (2 + stride) * G + stride * g + r ≤ p → get_or new p 0 ≡ get_or old p 0
  unfolding one two
  last p l = b.above p l ∙ a.above p (omega (arith, l, h, few)) ∙ other p (omega (arith, l, h)) (omega (arith, l, h))

  pub row_kept : RowKept G g r nodes backs old new
  unfolding one two
  row_kept = record {
    closed = record {
      mark = first g (omega (arith, h)) ∙ get_or-set_other one (G + g) g r 0 (omega (arith, h)) ∙ get_or-set_same old g 2 0 (omega (arith, h, room));
      marks = λ u l n. first u (omega (arith, l)) ∙ other u n (omega (arith, l));
      sizes = λ u l n. part_same old new G u (first (G + u) (omega (arith, l)) ∙ other (G + u) (omega (arith, h)) (omega (arith, n)));
      beside_nodes = record {
        before = λ i l. part_same old new (2 * G) i (first (2 * G + i) (omega (arith, l)) ∙ other (2 * G + i) (omega (arith, h)) (omega (arith, h)));
        behind = λ i l m. part_same old new (2 * G) i (later (2 * G + i) (omega (arith, l, few)) (omega (arith, m)));
      };
      beside_backs = record {
        before = λ i l. part_same old new ((2 + stride) * G) i (later ((2 + stride) * G + i) (omega (arith, h, few)) (omega (arith, l)));
        behind = λ i l m. part_same old new ((2 + stride) * G) i (last ((2 + stride) * G + i) (omega (arith, l, few)));
      };
    };
    leaves = record {
      size = get_or-drop G new g 0 ∙ first (G + g) (omega (arith, h)) ∙ get_or-set_same one (G + g) r 0 (omega (arith, h, room, long-one));
      node = λ i l. get_or-drop (2 * G) new (stride * g + i) 0 ∙ ap (λ (x : ℕ). get_or new x 0) (omega arith) ∙ b.below (2 * G + stride * g + i) (omega (arith, l, few, h)) ∙ a.here i l;
      back = λ i l. get_or-drop ((2 + stride) * G) new (stride * g + i) 0 ∙ ap (λ (x : ℕ). get_or new x 0) (omega arith) ∙ b.here i l;
    };
  }

-- ---- between two roots

-- a leaf that is a gate
leaf-marked : {I G k u : ℕ} {L : List Copy} {rows : List ℕ} {y : Copy} → Done I G k u L rows → y ∈ L → (g : ℕ) → IsAt I G y.node g → ¬ (get_or rows g 0 ≡ 0)
leaf-marked {G = G} {u = u} {rows = rows} {y} d m g p =
    let i = copies_from_in (nodes_in G rows) (backs_in G rows) (stride * u) (get_or (sizes_in G rows) u 0) y (subst (λ (L : List Copy). y ∈ L) (sym d.leaves) m) in
    d.closed g (record {
      place = i.0;
      low = i.1;
      high = i.2;
      is_at = record { node = sym (ap (λ (x : Copy). x.node) i.3) ∙ p.node; gate = p.gate };
    })

-- the outputs' sources are marked
pub choosing_first : {M : Mode} {C : Circuit} {ls : List ℤ} {os : List ℕ} {n φ k : ℕ} {rows marks' : List ℕ} → Chooses C ls φ k rows
    → Marks (Among C.inputs C.gates os 0 n) rows marks' → Choosing M C ls os n φ k marks'
choosing_first {M} {C} {ls} {os} {n} {φ} {k} {marks' = marks'} a m = record {
  most = λ g h. most g h (ℕ_discrete (get_or marks' g 0) 0);
  sources = m.marked;
  root = root;
  done = λ c g h e. absurd (two g h e);
}
  where
    most : (g : ℕ) → g < C.gates → Dec (get_or marks' g 0 ≡ 0) → get_or marks' g 0 ≤ 2
    most g h (yes z) = omega arith
    most g h (no z) = let r = m.new g (a.unmarked g h) z in omega (arith, r.0)

    two : (g : ℕ) → g < C.gates → get_or marks' g 0 ≡ 2 → ⊥
    two g h e = let r = m.new g (a.unmarked g h) (λ z. omega (arith, e, z)) in omega (arith, r.0, e)

    root : (c : Keyed M C ls φ k) → Reads c.net os n → (g : ℕ) → g < C.gates → ¬ (get_or marks' g 0 ≡ 0) → Root c.net c.key.leaves (C.inputs + g)
    root c (oc, e) g h z =
        let p = (m.new g (a.unmarked g h) z).1 in
        source (pin_at os oc p.place) (subst (λ (l : List Pin). pin_at os oc p.place ∈ l) (sym e) (in_equal (ap (pin_at os oc) (sym (zero-add p.place))) (in_pins_in os oc 0 n p.place p.high)))
        p.is_at.node (gate-of c.holds g h)

module _ {M : Mode} {C : Circuit} {ls : List ℤ} {φ k g : ℕ} {rows rows' : List ℕ} (h : g < C.gates) (one : get_or rows g 0 ≡ 1) (t : Taken M C ls φ k g rows rows') where
  abbrev G : ℕ
  G = C.gates

  abbrev mid : List ℕ
  mid = t.stored.mid

  marking : Marks (LeafGate C.inputs G t.nodes t.found) mid rows'
  marking = t.stored.marking

  after-g : get_or rows' g 0 ≡ 2
  after-g = let e = t.stored.closed.mark in marking.kept g (λ z. omega (arith, e, z)) ∙ e

  -- a gate that is not g: its mark stays, or is new
  after-other : (u : ℕ) → u < G → ¬ (u ≡ g) → ¬ (get_or rows u 0 ≡ 0) → get_or rows' u 0 ≡ get_or rows u 0
  after-other u l n z = let e = t.stored.closed.marks u l n in marking.kept u (λ w. z (sym e ∙ w)) ∙ e

  after-new : (u : ℕ) → u < G → ¬ (u ≡ g) → get_or rows u 0 ≡ 0 → ¬ (get_or rows' u 0 ≡ 0) → (get_or rows' u 0 ≡ 1) × LeafGate C.inputs G t.nodes t.found u
  after-new u l n z w = marking.new u (t.stored.closed.marks u l n ∙ z) w

  -- the places behind the marks
  after-behind : (a i : ℕ) → G ≤ a → get_or (drop a rows') i 0 ≡ get_or (drop a mid) i 0
  after-behind a i l = part_same mid rows' a i (marks-behind marking (λ u p. leaf_in C.inputs G u t.nodes t.found p) (a + i) (omega (arith, l)))

  after-size : (u : ℕ) → get_or (sizes_in G rows') u 0 ≡ get_or (sizes_in G mid) u 0
  after-size u = after-behind G u (omega arith)

  after-node : (i : ℕ) → get_or (nodes_in G rows') i 0 ≡ get_or (nodes_in G mid) i 0
  after-node i = after-behind (2 * G) i (omega arith)

  after-back : (i : ℕ) → get_or (backs_in G rows') i 0 ≡ get_or (backs_in G mid) i 0
  after-back i = after-behind ((2 + stride) * G) i (omega arith)

  stays : (u : ℕ) → u < G → ¬ (get_or rows u 0 ≡ 0) → ¬ (get_or rows' u 0 ≡ 0)
  stays u l z = go (ℕ_discrete u g)
    where
      go : Dec (u ≡ g) → ¬ (get_or rows' u 0 ≡ 0)
      go (yes e) w = omega (arith, after-g, sym (ap (λ (x : ℕ). get_or rows' x 0) e) ∙ w)
      go (no n) w = z (sym (after-other u l n z) ∙ w)

  rises : (u : ℕ) → u < G → get_or rows u 0 ≤ get_or rows' u 0
  rises u l = go (ℕ_discrete u g) (ℕ_discrete (get_or rows u 0) 0)
    where
      go : Dec (u ≡ g) → Dec (get_or rows u 0 ≡ 0) → get_or rows u 0 ≤ get_or rows' u 0
      go (yes e) d = omega (arith, ap (λ (x : ℕ). get_or rows x 0) e ∙ one, ap (λ (x : ℕ). get_or rows' x 0) e ∙ after-g)
      go (no n) (yes z) = omega (arith, z)
      go (no n) (no z) = omega (arith, after-other u l n z)

  -- **What is left falls with each root.**
  pub taken-less : left rows' G < left rows G
  taken-less = left-falls rows rows' G g h rises (omega (arith, one)) (omega (arith, one, after-g))

  -- other gates' leaves are as they were
  other-done : {L : List Copy} (u : ℕ) → u < G → ¬ (u ≡ g) → k ≤ stride → Done C.inputs G k u L rows → Done C.inputs G k u L rows'
  other-done {L} u l n few d =
      let e = after-size u ∙ t.stored.closed.sizes u l n in
      let s = d.size in
      record {
        size = omega (arith, e, s);
        leaves = ap (copies_from (nodes_in G rows') (backs_in G rows') (stride * u)) e
            ∙ copies-same (nodes_in G rows') (backs_in G rows') (nodes_in G rows) (backs_in G rows) (stride * u) (stride * u) (get_or (sizes_in G rows) u 0)
            (λ i m. node (stride * u + i) (omega arith) (omega (arith, m, s, few))) (λ i m. back (stride * u + i) (omega arith) (omega (arith, m, s, few)))
            ∙ d.leaves;
        closed = λ v p. stays v p.is_at.gate (d.closed v (moved p (omega (arith, p.high, e)) (omega (arith, p.high, e, s, few))));
      }
    where
      kept : {xs ys : List ℕ} → Beside (stride * g) (stride * G) xs ys → (i : ℕ) → stride * u ≤ i → i < stride * u + stride → Dec (u < g) → get_or ys i 0 ≡ get_or xs i 0
      kept b i lo hi (yes m) = b.before i (omega (arith, hi, m))
      kept b i lo hi (no m) = b.behind i (omega (arith, lo, m, n)) (omega (arith, hi, l))

      node : (i : ℕ) → stride * u ≤ i → i < stride * u + stride → get_or (nodes_in G rows') i 0 ≡ get_or (nodes_in G rows) i 0
      node i lo hi = after-node i ∙ kept t.stored.closed.beside_nodes i lo hi (dec_lt u g)

      back : (i : ℕ) → stride * u ≤ i → i < stride * u + stride → get_or (backs_in G rows') i 0 ≡ get_or (backs_in G rows) i 0
      back i lo hi = after-back i ∙ kept t.stored.closed.beside_backs i lo hi (dec_lt u g)

      moved : {v to : ℕ} (p : Among C.inputs G (nodes_in G rows') (stride * u) to v) → p.place < stride * u + get_or (sizes_in G rows) u 0 → p.place < stride * u + stride
          → Among C.inputs G (nodes_in G rows) (stride * u) (stride * u + get_or (sizes_in G rows) u 0) v
      moved {v} p m hi = record {
        place = p.place;
        low = p.low;
        high = m;
        is_at = subst (λ (x : ℕ). IsAt C.inputs G x v) (node p.place p.low hi) p.is_at;
      }

  module _ {os : List ℕ} {n : ℕ} (few : k ≤ stride) (a : Choosing M C ls os n φ k rows) where
    next-most : (u : ℕ) → u < G → get_or rows' u 0 ≤ 2
    next-most u l = go (ℕ_discrete u g) (ℕ_discrete (get_or rows u 0) 0) (ℕ_discrete (get_or rows' u 0) 0)
      where
        go : Dec (u ≡ g) → Dec (get_or rows u 0 ≡ 0) → Dec (get_or rows' u 0 ≡ 0) → get_or rows' u 0 ≤ 2
        go (yes e) d f = omega (arith, ap (λ (x : ℕ). get_or rows' x 0) e ∙ after-g)
        go (no m) (no z) f = omega (arith, after-other u l m z, a.most u l)
        go (no m) (yes z) (yes w) = omega (arith, w)
        go (no m) (yes z) (no w) = omega (arith, (after-new u l m z w).0)

    next-root : (c : Keyed M C ls φ k) → Reads c.net os n → (u : ℕ) → u < G → ¬ (get_or rows' u 0 ≡ 0) → Root c.net c.key.leaves (C.inputs + u)
    next-root c o u l w = go (ℕ_discrete u g) (ℕ_discrete (get_or rows u 0) 0)
      where
        go : Dec (u ≡ g) → Dec (get_or rows u 0 ≡ 0) → Root c.net c.key.leaves (C.inputs + u)
        go d (no z) = a.root c o u l z
        go (yes e) (yes z) = absurd (omega (arith, sym (ap (λ (x : ℕ). get_or rows x 0) e) ∙ z, one))
        go (no m) (yes z) =
            let x = t.cut.leaves c in
            let p = subst (λ (f : Option ℕ). LeafGate C.inputs G t.nodes f u) x.1 (after-new u l m z w).1 in
            leaf (C.inputs + g) (copy_at t.nodes t.backs p.place) (a.root c o g h (λ q. omega (arith, q, one)))
            (subst (λ (L : List Copy). copy_at t.nodes t.backs p.place ∈ L) x.3 (in_copies_from t.nodes t.backs 0 x.0 p.place p.low (omega (arith, p.high))))
            p.is_at.node (gate-of c.holds u l)

    next-done : (c : Keyed M C ls φ k) → (u : ℕ) → u < G → get_or rows' u 0 ≡ 2 → Done C.inputs G k u (c.key.leaves (C.inputs + u)) rows'
    next-done c u l w = go (ℕ_discrete u g) (ℕ_discrete (get_or rows u 0) 0)
      where
        found : t.found ≡ Some (t.cut.leaves c).0
        found = (t.cut.leaves c).1

        r : (t.cut.leaves c).0 ≤ k
        r = (t.cut.leaves c).2

        kept : LeavesKept G g (t.cut.leaves c).0 t.nodes t.backs mid
        kept = subst (λ (f : Option ℕ). IfSome f (λ r. LeavesKept G g r t.nodes t.backs mid)) found t.stored.leaves

        e : get_or (sizes_in G rows') g 0 ≡ (t.cut.leaves c).0
        e = after-size g ∙ kept.size

        node : (i : ℕ) → i < (t.cut.leaves c).0 → get_or (nodes_in G rows') (stride * g + i) 0 ≡ get_or t.nodes i 0
        node i m = after-node (stride * g + i) ∙ kept.node i m

        back : (i : ℕ) → i < (t.cut.leaves c).0 → get_or (backs_in G rows') (stride * g + i) 0 ≡ get_or t.backs i 0
        back i m = after-back (stride * g + i) ∙ kept.back i m

        -- a gate leaf in its place is one of those that were written
        written : (v : ℕ) → Among C.inputs G (nodes_in G rows') (stride * g) (stride * g + get_or (sizes_in G rows') g 0) v → Among C.inputs G t.nodes 0 (t.cut.leaves c).0 v
        written v p =
            let i = p.place - stride * g in
            let m : i < (t.cut.leaves c).0 = omega (arith, p.low, p.high, e) in
            record {
              place = i;
              low = omega arith;
              high = m;
              is_at = subst (λ (x : ℕ). IsAt C.inputs G x v) (ap (λ (x : ℕ). get_or (nodes_in G rows') x 0) (omega (arith, p.low)) ∙ node i m) p.is_at;
            }

        leaves : copies_from t.nodes t.backs 0 (t.cut.leaves c).0 ≡ c.key.leaves (C.inputs + g)
        leaves = (t.cut.leaves c).3

        this : Done C.inputs G k g (c.key.leaves (C.inputs + g)) rows'
        this = record {
          size = omega (arith, e, r);
          leaves = ap (copies_from (nodes_in G rows') (backs_in G rows') (stride * g)) e
              ∙ copies-same (nodes_in G rows') (backs_in G rows') t.nodes t.backs (stride * g) 0 (t.cut.leaves c).0
              (λ i m. node i m ∙ ap (λ (x : ℕ). get_or t.nodes x 0) (sym (zero-add i))) (λ i m. back i m ∙ ap (λ (x : ℕ). get_or t.backs x 0) (sym (zero-add i)))
              ∙ leaves;
          closed = λ v p. marking.marked v (subst (λ (f : Option ℕ). LeafGate C.inputs G t.nodes f v) (sym found) (written v p));
        }

        go : Dec (u ≡ g) → Dec (get_or rows u 0 ≡ 0) → Done C.inputs G k u (c.key.leaves (C.inputs + u)) rows'
        go (yes e) d = subst (λ (x : ℕ). Done C.inputs G k x (c.key.leaves (C.inputs + x)) rows') (sym e) this
        go (no m) (yes z) = absurd (omega (arith, w, (after-new u l m z (λ q. omega (arith, q, w))).0))
        go (no m) (no z) = other-done u l m few (a.done c u l (sym (after-other u l m z) ∙ w))

    pub choosing_next : Choosing M C ls os n φ k rows'
    choosing_next = record { most = next-most; sources = λ u p. stays u p.is_at.gate (a.sources u p); root = next-root; done = next-done }

-- ---- the end

module _ {M : Mode} {C : Circuit} {ls : List ℤ} {os : List ℕ} {n φ k : ℕ} {rows : List ℕ} (a : Choosing M C ls os n φ k rows)
    (none : (g : ℕ) → g < C.gates → ¬ (get_or rows g 0 ≡ 1)) where
  is-done : (c : Keyed M C ls φ k) → (g : ℕ) → g < C.gates → ¬ (get_or rows g 0 ≡ 0) → Done C.inputs C.gates k g (c.key.leaves (C.inputs + g)) rows
  is-done c g h z = let m = a.most g h in let o = none g h in a.done c g h (omega (arith, m, o, z))

  root-marked : (c : Keyed M C ls φ k) → Reads c.net os n → {v : ℕ} → Root c.net c.key.leaves v → (g : ℕ) → IsAt C.inputs C.gates v g → ¬ (get_or rows g 0 ≡ 0)
  root-marked c (oc, e) (source o i s gate) g p =
      let r = pins_in_in os oc 0 n o (subst (λ (l : List Pin). o ∈ l) e i) in
      a.sources g (record {
        place = r.0;
        low = omega arith;
        high = r.1;
        is_at = record { node = ap (λ (x : ℕ). get_or os x 0) (sym (zero-add r.0)) ∙ sym (ap (λ (q : Pin). q.src) r.2) ∙ s ∙ p.node; gate = p.gate };
      })
  root-marked c o (leaf u y r m s gate) g p =
      let q = root-gate c.net c.key.leaves r in
      let w : IsAt C.inputs C.gates u (u - C.inputs) = record { node = omega (arith, q.low, c.holds.inputs); gate = omega (arith, q.low, q.high, c.holds.inputs, c.holds.gates) } in
      let d = is-done c (u - C.inputs) w.gate (root-marked c o r (u - C.inputs) w) in
      leaf-marked d (subst (λ (L : List Copy). y ∈ L) (ap c.key.leaves w.node) m) g (record { node = s ∙ p.node; gate = p.gate })

  -- **No root is pending: the marked gates are the chosen roots.**
  pub choosing_last : RootsTold M C ls os n φ k rows (sizes_in C.gates rows) (nodes_in C.gates rows) (backs_in C.gates rows)
  choosing_last = record {
    root = a.root;
    all = λ c o g h r. root-marked c o r g (record { node = refl; gate = h });
    leaves = λ c g h z. (is-done c g h z).leaves;
    size = λ c g h z. (is-done c g h z).size;
  }
