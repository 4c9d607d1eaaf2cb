-- From the forced set and its minimum cut to the answer: what `min_cut` found is a separation of the forced set of each net with this wiring.
use Rattle.std.specs.Prelude.{◌≡◌, refl, Bool, true, false, Option, None, Some, IfSome, is_some, unwrap_or, List, [], ℕ, ◌+◌, ◌*◌, ◌≤◌, ◌<◌, ℤ, length, take}
use Rattle.std.proofs.Common.{sym, subst, ◌∙◌, inl, mul-le-mul_right, arith}
use Rattle.std.proofs.Math.Decide.{dec_lt}
use Rattle.std.proofs.lemmas.Bool.{false≢true}
use Rattle.limits.specs.Limits.{most_k}
use Rattle.sequences.specs.Member.{in_equal}
use Rattle.net_model.specs.Net.{Net}
use Rattle.net_model.specs.Checks.{Loopless}
use Rattle.net_model.specs.Copies.{Copy, IsLeaves, Cut}
use Rattle.net_model.specs.Arrays.{copies_from}
use Rattle.cone_theory.specs.Ranks.{Ranked}
use Rattle.cone_theory.specs.Reach.{reach_of}
use Rattle.cone_theory.specs.Basics.{leaves_of}
use Rattle.label_theory.specs.Labels.{Low, Mode, Inside}
use Rattle.label_theory.specs.Modes.{Bordered}
use Rattle.label_theory.specs.Forced.{ForcedSet, Separation, no_cut_lem}
use Rattle.signed.specs.Range.{label_in}
use Rattle.cut_circuit.specs.Circuit.{Circuit, Layout, total}
use Rattle.cut_search.specs.Steps.{Members}
use Rattle.cut_least.specs.CutRounds.{Cleared, Sized, CutAsked, CutTold}
use Rattle.cut_circuit.specs.Bridge.{Holds, decode, encode}
use Rattle.cut_least.specs.CutAnswer.{Separates, ForcedLeads, cone_of, none-few, fewest, found-separates, found-count, found-smallest, found-cone, leaf-marked, collect_asked, collected-leaves, collected-count}
use Rattle.cut_least.specs.Collect.{LeafMark}
use Rattle.cut_forced.specs.Slots.{marked, Unmarked}
use Rattle.cut_forced.specs.Forcing.{filled, wires_of, Target, target, LowOf, Growing, AllSettled, SameFrom}
use Rattle.cut_forced.specs.AddLaws.{copies_of, copies_in_lem}
use Rattle.cut_forced.specs.GrowLaws.{part-inside, part_length, part_at, growing-same}
use Rattle.cut_forced.specs.ForcedLaws.{in_copies, forced-set, forced-leads}
use Rattle.cut_kept.specs.KeptCuts.{ConeAmong, unbordered, KeptCuts}
use Rattle.cut_kept.specs.Keeping.{RowAsked, RowKept}
use Rattle.cut_kept.specs.KeptLaws.{kept_same, kept_row}
use Rattle.cut_question.specs.Question.{Resting, Asks, Separated, Decides, Takes, Written}
use Rattle.cut_question.specs.Separating.{AtRest, SeparateAsked, LeavesAsked, LeavesTold}
use Rattle.cut_question.proofs.RestLaws.{holds-filled, layout-slotted, chains-filled, ground-of, resting-again}

-- ---- leaves, where there are few
pub leaves-asked : {C : Circuit} {t l nodes backs : List ℕ} {k r : ℕ} → Layout C → Takes C k nodes backs → length t ≡ total C → CutTold C t l k r
    → LeavesAsked C.width k r t l nodes backs
leaves-asked L a room o few = collect_asked L a.holds a.ranked a.loopless room o few (omega (arith, few, a.at_nodes)) (omega (arith, few, a.at_backs))

-- ---- after `force`
members-of : (C : Circuit) {T : Target} {k : ℕ} {slots members : List ℕ} {m : ℕ} → Growing (wires_of C) T k slots members m → Members (filled C slots) (take m members)
members-of C {slots = slots} {m = m} G = record {
  forced = λ i h. let j : i < m = omega (arith, h, part_length G) in subst (λ (x : ℕ). 0 < marked (wires_of C) slots x) (sym (part_at G i j)) (G.listed i j);
  all = λ x h. let r = G.all x h in (r.0, omega (arith, r.1, part_length G), part_at G r.0 r.1 ∙ r.2);
  once = λ i j p h e.
      let b : j < m = omega (arith, h, part_length G) in
      let a : i < m = omega (arith, p, b) in
      G.once i j p b (sym (part_at G i a) ∙ (e ∙ part_at G j b));
}

sized-filled : {C : Circuit} {t l stk cnt t' l' stk' cnt' : List ℕ} (slots : List ℕ) → Sized C t l stk cnt → length t' ≡ length t → length l' ≡ length l → length stk' ≡ length stk → length cnt' ≡ length cnt
    → Sized (filled C slots) t' l' stk' cnt'
sized-filled slots z p q r s = record {
  room = p ∙ z.room;
  counters = omega (arith, s, z.counters);
  deep = omega (arith, r, z.deep);
  short = omega (arith, r, z.short);
  long = omega (arith, q, z.long);
  brief = omega (arith, q, z.brief);
}

pub cut-asked : {C : Circuit} {T : Target} {k : ℕ} {slots members : List ℕ} {m : ℕ} {t l stk cnt members₀ : List ℕ} {ls : List ℤ} {φ g : ℕ} → AtRest C t l stk cnt members₀ → Asks C ls φ k g
    → Growing (wires_of C) T k slots members m → CutAsked (filled C slots) (take m members) t l stk cnt k
cut-asked {C} {slots = slots} a q G = record {
  fixed = record { layout = layout-slotted a.resting.layout G.slotted; chains = chains-filled slots a.resting.chains; small = q.fits };
  sized = sized-filled slots a.sized refl refl refl refl;
  roots = members-of C G;
  cleared = a.cleared;
  most = q.limit;
}

pub separate_asked : {C : Circuit} {T : Target} {k : ℕ} {slots members : List ℕ} {m : ℕ} {t l stk cnt members₀ : List ℕ} {ls : List ℤ} {φ g : ℕ} → AtRest C t l stk cnt members₀ → Asks C ls φ k g
    → length members ≡ length members₀ → Growing (wires_of C) T k slots members m → SeparateAsked (filled C slots) members m t l stk cnt k g
separate_asked a q long G = record { part = part-inside G; cut = cut-asked a q G; gate = q.gate; rows = omega (arith, long, a.kept.room) }

-- what is asked of the row of gate g
pub row-asked : {C : Circuit} {members t l stk cnt t' l' : List ℕ} {f k g r : ℕ} → SeparateAsked C members f t l stk cnt k g → length t' ≡ length t → CutTold C t' l' k r
    → RowAsked C.gates t' l' members g C.border
row-asked {C} a long o =
    let fits = a.cut.fixed.small in
    let wide = a.cut.fixed.layout.wide in
    let some : C.width ≤ total C = let m = mul-le-mul_right {m = 1} {n = C.inputs + C.gates} C.width (let h = a.gate in omega (arith, h)) in omega (arith, m) in
    record { touched = o.touched; close = record { gate = a.gate; room = a.rows; near = omega (arith, some, wide, fits) }; small = omega (arith, long, a.cut.sized.room, fits) }

-- at rest again
pub rest-again : {C : Circuit} {t l stk cnt members slots t' l' stk' cnt' members' : List ℕ} → AtRest C t l stk cnt members → length slots ≡ length C.slots → Unmarked C.gates slots
    → length t' ≡ length t → length l' ≡ length l → length stk' ≡ length stk → length cnt' ≡ length cnt → Cleared t' l' → length members' ≡ length members → KeptCuts (unbordered C) members'
    → AtRest (filled C slots) t' l' stk' cnt' members'
rest-again {slots = slots} a p z q s u v c f kept = record { resting = resting-again a.resting p z f; sized = sized-filled slots a.sized q s u v; cleared = c; kept = kept }

-- the rows after `force`
pub rows-forced : {C : Circuit} {t l stk cnt members members' : List ℕ} {ls : List ℤ} {φ k g : ℕ} → AtRest C t l stk cnt members → Asks C ls φ k g → length members' ≡ length members
    → SameFrom (k * C.gates) members members' → KeptCuts (unbordered C) members'
rows-forced {C} {members' = members'} {k = k} a q long e =
    kept_same members' a.kept long (λ j h. e j (let m = mul-le-mul_right {m = k} {n = most_k} C.gates q.limit in omega (arith, h, m)))

-- the members after a row was written
pub members_kept : {W : Circuit} {T : Target} {slots members members' t : List ℕ} {k g b m r : ℕ} → length members' ≡ length members → RowKept W.gates t members members' g b k r
    → Growing W T k slots members m → Growing W T k slots members' m
members_kept {W} {T} {slots} {members} {members'} {t} {k} {g} {b} {m} {r} long o G = go (dec_lt k r)
  where
    go : Dec (k < r) → Growing W T k slots members' m
    go (yes h) = subst (λ (l : List ℕ). Growing W T k slots l m) (sym (o.many h)) G
    go (no n) =
        growing-same (omega (arith, long, G.space))
        (λ i h. (o.row (omega (arith, n))).same i (inl (let z = mul-le-mul_right {m = k} {n = most_k} W.gates G.slotted.limit in omega (arith, h, z)))) G

-- ---- a number of leaves, where they are at most k
pub count-few : {k : ℕ} (r : Option ℕ) → IfSome r (λ n. n ≤ k) → is_some r ≡ true → unwrap_or r (k + 1) ≤ k
count-few None f e = absurd (false≢true e)
count-few (Some n) f e = f

pub count-many : {k : ℕ} (r : Option ℕ) → is_some r ≡ false → k < unwrap_or r (k + 1)
count-many None e = omega arith
count-many (Some n) e = absurd (false≢true (sym e))

-- ---- the answer
module _ {C : Circuit} {ls : List ℤ} {φ k g : ℕ} {h : ℤ} {members₀ : List ℕ} (a : Resting C members₀) (q : Asks C ls φ k g) {slots members : List ℕ} {m : ℕ}
    (G : Growing (wires_of C) (target ls φ (C.inputs + g) h) k slots members m)
    (closed : (x : ℕ) → 0 < marked (wires_of C) slots x → AllSettled (wires_of C) (target ls φ (C.inputs + g) h) x slots)
    {t l : List ℕ} {r : ℕ} (room : length t ≡ total C) (o : CutTold (filled C slots) t l k r) where
  abbrev T : Target
  T = target ls φ (C.inputs + g) h

  slotted-layout : Layout (filled C slots)
  slotted-layout = layout-slotted a.layout G.slotted

  module _ (N : Net) (H : Holds C N) (R : Ranked N) (loopless : Loopless N) where
    set-of : ForcedSet N (C.inputs + g) (LowOf T) (copies_of G)
    set-of = forced-set (ground-of a q) G closed (holds-filled [] H)

    separates : {D : List Copy} → Separation N (C.inputs + g) (copies_of G) C.border D → Separates (filled C slots) N D
    separates s = record {
      gates = s.is_cone.gates;
      border = s.near;
      forced = λ x p. s.contains (decode C x) (in_copies (ground-of a q) G closed (holds-filled [] H) x p);
    }

    none_of : (M : Mode) (b : ℤ) → Bordered (Inside M φ b) (k * reach_of N) C.border → k < r → ¬ Cut N k (C.inputs + g) (Low φ (label_in ls) h) (Inside M φ b)
    none_of M b near p = no_cut_lem R C.border near set-of (λ D L s w. none-few slotted-layout (holds-filled slots H) R loopless room o p (separates s) w)

    module _ (few : r ≤ k) where
      leads-of : ForcedLeads (filled C slots) N (C.inputs + g) (copies_of G)
      leads-of = record {
        within = λ c i. copies_in_lem G i;
        leads = λ x p. forced-leads (ground-of a q) G closed (holds-filled [] H) (G.forced x p N (holds-filled [] H));
        root = subst (λ (x : ℕ). 0 < marked (wires_of C) slots x) (omega arith) G.root;
      }

      found : Separates (filled C slots) N (cone_of (filled C slots) t)
      found = found-separates slotted-layout (holds-filled slots H) R loopless room o few

      -- with its leaves, listed in whatever way
      separated_by : {L : List Copy} → IsLeaves N (cone_of (filled C slots) t) L
          → (s : Separated N (C.inputs + g) φ (label_in ls) h C.border k r) × (s.parted.leaves ≡ L)
      separated_by {L} w = (
        record {
          parted = record {
            set = copies_of G;
            cone = cone_of (filled C slots) t;
            leaves = L;
            forced = set-of;
            separation = record {
              is_cone = found-cone slotted-layout (holds-filled slots H) R loopless room o few leads-of;
              contains = λ c i. let z = copies_in_lem G i in in_equal z.2 (found.forced z.0 z.1);
              near = found.border;
            };
            is_leaves = w;
            few = omega (arith, found-count slotted-layout (holds-filled slots H) R loopless room o few w, few);
          };
          count = found-count slotted-layout (holds-filled slots H) R loopless room o few w;
          fewest = λ D M s v. fewest slotted-layout (holds-filled slots H) R loopless room o (separates s) v;
          smallest = λ D M s v e. found-smallest slotted-layout (holds-filled slots H) R loopless room o few (separates s) v (omega (arith, e));
        },
        refl,
      )

  -- **A row written from that table is a cut of each net with this wiring.**
  pub kept-found : {members₁ members₂ : List ℕ} → KeptCuts (unbordered C) members₁ → length members₂ ≡ length members₁ → RowKept C.gates t members₁ members₂ g C.border k r
      → KeptCuts (unbordered C) members₂
  kept-found {members₁} {members₂} w long p = go (dec_lt k r)
    where
      found_among : r ≤ k → (N : Net) → Holds (unbordered C) N → Ranked N → Loopless N → ConeAmong N (C.inputs + g) C.width C.border (LeafMark t)
      found_among few N H₀ R loopless =
          let H : Holds C N = record { inputs = H₀.inputs; gates = H₀.gates; lists = H₀.lists } in
          record {
            cone = cone_of (filled C slots) t;
            is_cone = found-cone slotted-layout (holds-filled slots H) R loopless room o few (leads-of N H R loopless few);
            near = (found N H R loopless few).border;
            leaves = λ y m. let n = leaf-marked slotted-layout (holds-filled slots H) R loopless room o few m in (encode C y, n.0, n.1);
          }

      go : Dec (k < r) → KeptCuts (unbordered C) members₂
      go (yes h) = subst (KeptCuts (unbordered C)) (sym (p.many h)) w
      go (no n) = let few : r ≤ k = omega (arith, n) in kept_row members₂ w long q.gate room (p.row few) (found_among few)

  -- **What the result of `min_cut` on the forced set means.**
  pub decides_found : (answer : Bool) → (answer ≡ true → r ≤ k) → (answer ≡ false → k < r) → Decides C ls φ k g h answer
  decides_found answer few many = record {
    none = λ N H R loopless M b near p. none_of N H R loopless M b near (many p);
    some = λ N H R loopless p. (separated_by N H R loopless (few p) (leaves_of N (cone_of (filled C slots) t)).1).0.parted;
  }

  -- **What the leaves written are.**
  pub written-found : {nodes backs : List ℕ} → LeavesTold C.width k r t nodes backs → Written C ls φ k g h nodes backs r
  written-found {nodes} {backs} f = record {
    leaves = λ N H R loopless p.
        let w = f p in
        let e = collected-count slotted-layout (holds-filled slots H) R loopless room o p w.1 in
        separated_by N H R loopless p
        (subst (λ (n : ℕ). IsLeaves N (cone_of (filled C slots) t) (copies_from nodes backs 0 n)) e (collected-leaves slotted-layout (holds-filled slots H) R loopless room o p w.1));
  }

pub written-some : {C : Circuit} {ls : List ℤ} {φ k g : ℕ} {h : ℤ} {nodes backs : List ℕ} (r : Option ℕ) → Written C ls φ k g h nodes backs (unwrap_or r (k + 1)) → IfSome r (λ n. Written C ls φ k g h nodes backs n)
written-some None w = tt
written-some (Some n) w = w
