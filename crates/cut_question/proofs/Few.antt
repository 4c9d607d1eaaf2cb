-- A forced set whose pins read few copies outside it is a cut by itself: its leaves are among the copies read.
use Rattle.std.specs.Prelude.{true, ◌≡◌, refl, List, [], map, ◌⊎◌, ℕ, ◌+◌, ◌<◌, ℤ, get_or, take}
use Rattle.std.proofs.Common.{sym, ap, subst, ◌∙◌, inl, inr, arith}
use Rattle.std.proofs.lemmas.List.{length-map}
use Rattle.sequences.specs.Member.{◌∈◌, in_equal, in_map}
use Rattle.sequences.specs.Distinct.{pigeonhole}
use Rattle.std.proofs.lemmas.Bool.{false≢true}
use Rattle.net_model.specs.Net.{Net, IsGate}
use Rattle.net_model.specs.Copies.{Copy, copy, Feeds, Leaf}
use Rattle.cone_theory.specs.Basics.{leaves_of, leaves-distinct}
use Rattle.label_theory.specs.Forced.{ForcedSet, Separation, Forced}
use Rattle.cut_circuit.specs.Circuit.{Circuit, feeder, pins_of}
use Rattle.cut_circuit.specs.Bridge.{Holds, decode, decode-encode, inner-gate}
use Rattle.cut_forced.specs.Slots.{marked, Inner}
use Rattle.cut_forced.specs.SlotLaws.{marked-inner}
use Rattle.cut_forced.specs.Forcing.{wires_of, target, LowOf, Growing, AllSettled}
use Rattle.cut_forced.specs.Outside.{FewAsked, FewTold}
use Rattle.cut_forced.specs.AddLaws.{copies_of, copies_in_lem}
use Rattle.cut_forced.specs.ForcedPinLaws.{feeds-pin}
use Rattle.cut_forced.specs.GrowLaws.{part_length, part_at}
use Rattle.cut_forced.specs.ForcedLaws.{in_copies, forced-set, forced-leads}
use Rattle.cut_question.specs.Question.{Resting, Asks, Decides}
use Rattle.cut_question.proofs.RestLaws.{holds-filled, layout-slotted, ground-of}

module _ {C : Circuit} {ls : List ℤ} {φ k g : ℕ} {h : ℤ} {members₀ : List ℕ} (a : Resting C members₀) (q : Asks C ls φ k g) {slots members : List ℕ} {m : ℕ}
    (G : Growing (wires_of C) (target ls φ (C.inputs + g) h) k slots members m) where
  pub few-asked : FewAsked (wires_of C) slots (take m members)
  few-asked = record {
    each = λ i b.
        let j : i < m = omega (arith, b, part_length G) in
        record {
          labels = ls;
          phi = φ;
          k = k;
          grounded = ground-of a q;
          places = G.slotted.places;
          held = λ u p. omega (arith, G.slotted.held u p, q.limit);
          inner = subst (Inner (wires_of C)) (sym (part_at G i j)) (marked-inner (wires_of C) slots (get_or members i 0) (G.listed i j));
        };
  }

  module _ (closed : (x : ℕ) → 0 < marked (wires_of C) slots x → AllSettled (wires_of C) (target ls φ (C.inputs + g) h) x slots) (f : FewTold (wires_of C) slots (take m members) k) where
    read : (x : ℕ) → 0 < marked (wires_of C) slots x → (j : ℕ) → j < pins_of (wires_of C) x → (0 < marked (wires_of C) slots (feeder (wires_of C) x j)) ⊎ (feeder (wires_of C) x j ∈ f.outside.others)
    read x p j b =
        let r = G.all x p in
        let e = part_at G r.0 r.1 ∙ r.2 in
        subst (λ (z : ℕ). (0 < marked (wires_of C) slots (feeder (wires_of C) z j)) ⊎ (feeder (wires_of C) z j ∈ f.outside.others)) e
        (f.outside.all r.0 (omega (arith, r.1, part_length G)) j (subst (λ (z : ℕ). j < pins_of (wires_of C) z) (sym e) b))

    module _ {N : Net} (H : Holds C N) where
      -- the leaves of the forced set are among the copies read
      among : (y : Copy) → Leaf N (copies_of G) y → y ∈ map (decode (wires_of C)) f.outside.others
      among y w =
          let z = copies_in_lem G w.is_member in
          let r = feeds-pin (holds-filled [] H) (ground-of a q) (marked-inner (wires_of C) slots z.0 z.1) (subst (Feeds N y) z.2 w.feeds) in
          go z.0 r.0 (ap (decode (wires_of C)) r.2 ∙ decode-encode (wires_of C) y r.3) (read z.0 z.1 r.0 r.1)
        where
          go : (x j : ℕ) → decode (wires_of C) (feeder (wires_of C) x j) ≡ y → (0 < marked (wires_of C) slots (feeder (wires_of C) x j)) ⊎ (feeder (wires_of C) x j ∈ f.outside.others)
              → y ∈ map (decode (wires_of C)) f.outside.others
          go x j e (inl p) = absurd (w.outside (in_equal (sym e) (in_copies (ground-of a q) G closed (holds-filled [] H) (feeder (wires_of C) x j) p)))
          go x j e (inr i) = in_equal (sym e) (in_map (decode (wires_of C)) i)

      forced : ForcedSet N (C.inputs + g) (LowOf (target ls φ (C.inputs + g) h)) (copies_of G)
      forced = forced-set (ground-of a q) G closed (holds-filled [] H)

      by_itself : Separation N (C.inputs + g) (copies_of G) C.border (copies_of G)
      by_itself = record {
        is_cone = record {
          gates = λ c i.
              let z = copies_in_lem G i in
              let n = marked-inner (wires_of C) slots z.0 z.1 in
              subst (λ (u : ℕ). IsGate N u) (sym (ap (λ (b : Copy). b.node) z.2))
              (inner-gate (layout-slotted a.layout G.slotted) (holds-filled slots H) z.0 (omega (arith, n.below, n.ends)));
          root = forced.complete (copy (C.inputs + g) 0) (Forced.root refl);
          leads = λ c i. forced-leads (ground-of a q) G closed (holds-filled [] H) (forced.sound c i);
        };
        contains = λ c i. i;
        near = λ c i.
            let z = copies_in_lem G i in
            let n = marked-inner (wires_of C) slots z.0 z.1 in
            omega (arith, n.ends, ap (λ (b : Copy). b.back) z.2);
      }

    -- **A forced set that reads at most k copies outside it is a k-cut.**
    pub decides_few : Decides C ls φ k g h true
    decides_few = record {
      none = λ N H R loopless M b near p. absurd (false≢true (sym p));
      some = λ N H R loopless p.
          let L = leaves_of N (copies_of G) in
          record {
            set = copies_of G;
            cone = copies_of G;
            leaves = L.0;
            forced = forced H;
            separation = by_itself H;
            is_leaves = L.1;
            few = omega (arith, pigeonhole (leaves-distinct L.1) (λ y i. among H y (L.1.sound y i)), length-map f.outside.others (decode (wires_of C)), f.outside.count, f.few);
          };
    }
