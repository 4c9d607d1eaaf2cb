-- One step of the search, and all of them: laws of `step` and `run`.
use Rattle.std.specs.Prelude.{◌≡◌, refl, Bool, true, false, ◌⊎◌, List, ◌∷◌, map, ℕ, zero, suc, ◌+◌, ◌-◌, ◌*◌, ◌/◌, ◌%◌, ◌^◌, ◌≤◌, ◌<◌, length, get_or, set}
use Rattle.std.proofs.Common.{sym, ap, subst, ◌∙◌, inl, inr, arith, length-set}
use Rattle.std.proofs.lemmas.Bool.{false≢true}
use Rattle.std.proofs.Math.Decide.{ℕ_discrete}
use Rattle.std.proofs.lemmas.List.{length-map}
use Rattle.limits.specs.Limits.{most_pins}
use Rattle.sequences.specs.Member.{◌∈◌, here, there, map_in}
use Rattle.sequences.specs.Decide.{up_to, up_to_in, length_up_to}
use Rattle.sequences.specs.Distinct.{Distinct, distinct_cons, distinct_up_to, distinct-map-on}
use Rattle.cut_flow.specs.State.{State}
use Rattle.cut_flow.specs.Search.{View, MarkedOut, PinPassed}
use Rattle.cut_flow.specs.Stack.{Frame, frame, Way, by-pin, by-self, WayPassed, Come, Stacked, Hanging, Unwinding}
use Rattle.cut_flow.specs.StackLaws.{stacked-turned, stacked-popped, hang}
use Rattle.cut_flow.specs.StackBounds.{touched-few}
use Rattle.cut_circuit.specs.Circuit.{Circuit, graph_of, ending, unless, forced_in, feeder, pins_of}
use Rattle.cut_circuit.specs.CircuitLaws.{lawful, source_is, forced-is, pin-below, unless-zero, unless-positive}
use Rattle.cut_circuit.specs.Packed.{GateAsked}
use Rattle.cut_search.specs.SearchTable.{view_of, Live, listed, listed_in, left_in}
use Rattle.cut_search.specs.SearchTableLaws.{left-marked-out}
use Rattle.cut_search.specs.SearchParts.{ListRoom, MarkedOutTold, WayPlace, WayTo, WayBarred}
use Rattle.cut_search.specs.Stacks.{frames_at, frames_of, turn_at, turns_of, turn_is, last-is, first_of, node_of, StackedIn, HangingIn, owing}
use Rattle.cut_search.specs.StacksLaws.{length-frames_at, frames-top, frames-popped, frames-raised, owing-is, owed_more}
use Rattle.cut_search.specs.CopyLaws.{nodes_of, length-nodes_of, inner-total, inner-pins, inner-few, inner_first, pins-asked, first-asked, way-place, come-ends, come-node, stack_few}
use Rattle.cut_search.specs.Steps.{Fixed, Load, Won, LeaveAsked, LeaveTold, RunAsked, StepAsked, StepTold, RunTold, Running}

-- the way of a turn is itself or a pin
pub turn-few : (n f i : ℕ) → f < n → turn_at n f i ≤ n
turn-few n f zero h = omega (arith, h)
turn-few n f (suc i) h = go (suc i - n) refl
  where
    go : (k : ℕ) → suc i - n ≡ k → unless (suc i - n) (suc i) ≤ n
    go zero q = omega (arith, q, unless-zero (suc i - n) (suc i) q)
    go (suc k) q = omega (arith, unless-positive (suc i - n) (suc i) (omega (arith, q)))

-- a success from the same flow
unwinding-from : (C : Circuit) {X : List ℕ} {v₀ v₁ v : View} {b : Frame} {fs : List Frame} → v₁.flow ≡ v₀.flow → Unwinding (graph_of C) (turns_of C) X v₁ v b fs
    → Unwinding (graph_of C) (turns_of C) X v₀ v b fs
unwinding-from C q o = record {
  to = o.to;
  waits = λ E s. o.waits E (subst (λ (g : ℕ → ℕ). State (graph_of C) g E) (sym q) s);
  led = o.led;
  trail = o.trail;
  distinct = o.distinct;
  load = o.load;
  inside = o.inside;
  found = o.found;
}

pub won-from : {C : Circuit} {f : ℕ} {v₀ v₁ : View} {t' stk' W : List ℕ} → v₁.flow ≡ v₀.flow → Won C f v₁ t' stk' W → Won C f v₀ t' stk' W
won-from {C} q u = record {
  X = u.X;
  few = u.few;
  deep = u.deep;
  unwinding = record {
    top = u.unwinding.top;
    rest = u.unwinding.rest;
    frames = u.unwinding.frames;
    unwinding = unwinding-from C q u.unwinding.unwinding;
  };
}

pub load_same : (t t' W : List ℕ) → (view_of t').flow ≡ (view_of t).flow → Load t W → Load t' W
load_same t t' W q k z p = k z (omega (arith, p, ap (λ (g : ℕ → ℕ). g z) q))

module _ {C : Circuit} {f : ℕ} {t l stk cnt : List ℕ} (a : RunAsked C f t l stk cnt) where
  -- the depth is inside the stack
  pub depth-inside : get_or stk 0 0 < length stk
  depth-inside =
      let l = stack_few a.fixed a.stacked.core a.store.carriers a.store.load in
      omega (arith, l, a.store.deep, length-frames_at stk (get_or stk 0 0))

module _ {C : Circuit} {f : ℕ} {t l stk cnt : List ℕ} (a : StepAsked C f t l stk cnt) where
  abbrev depth : ℕ
  depth = get_or stk 0 0

  abbrev top : ℕ
  top = get_or stk depth 0

  abbrev x : ℕ
  x = top / 16

  abbrev i : ℕ
  i = top % 16

  abbrev rest : List Frame
  rest = frames_at stk (depth - 1)

  abbrev F : Fixed C
  F = a.asked.fixed

  on-top : {R : List ℕ} → StackedIn C f R t stk cnt
      → Stacked (graph_of C) (turns_of C) (node_of C) f (view_of t).flow (λ z. z ∈ R) (view_of t) (λ u. get_or cnt u 0) (frame x i ∷ rest)
  on-top {R} s = subst (Stacked (graph_of C) (turns_of C) (node_of C) f (view_of t).flow (λ z. z ∈ R) (view_of t) (λ u. get_or cnt u 0)) (frames-top stk a.begun) s

  come-top : Come (λ z. z ∈ a.asked.R) (view_of t) x
  come-top = (on-top a.asked.stacked).core.found (frame x i) (here refl)

  pub top-ends : ending C x ≡ 0
  top-ends = come-ends F a.asked.stacked.core come-top

  pub top-inside : depth < length stk
  top-inside = depth-inside a.asked

  pub top-pins : GateAsked C C.pins x
  top-pins = pins-asked F x top-ends

  pub top-firsts : GateAsked C C.first x
  top-firsts = first-asked F x top-ends

  pub top-few : pins_of C x ≤ most_pins
  top-few = inner-few F x top-ends

  pub top-first : first_of C x < pins_of C x
  top-first = inner_first F x top-ends

  pub top-way : WayPlace C t x (turn_at (pins_of C x) (first_of C x) i)
  top-way = way-place F x top-ends (turn_at (pins_of C x) (first_of C x) i) a.asked.store.room (turn-few (pins_of C x) (first_of C x) i top-first)

  pub top-fits : i < 15 → top + 1 < 2 ^ 32
  top-fits h =
      let b = inner-total F x top-ends in
      omega (arith, h, b, a.asked.fixed.small)

  -- ---- the last turn is over
  pub step-popped : pins_of C x + 1 < i → StepTold C f t stk cnt t l (set stk 0 (depth - 1)) cnt false
  step-popped h = record {
    noted = a.asked.noted;
    same = λ q. refl;
    less = λ q. omega (arith, owing-is t (set stk 0 (depth - 1)) popped, owing-is t stk (frames-top stk a.begun), owed_more x i rest);
    more = λ q R s. subst (Stacked (graph_of C) (turns_of C) (node_of C) f (view_of t).flow (λ z. z ∈ R) (view_of t) (λ u. get_or cnt u 0)) (sym popped)
        (stacked-popped (lawful F.layout) (on-top s) (omega (arith, h, last-is C x)));
    won = λ q. absurd (false≢true q);
  }
    where
      popped : frames_of (set stk 0 (depth - 1)) ≡ rest
      popped = frames-popped stk a.begun (omega (arith, top-inside))

  -- ---- a turn
  module _ (early : i ≤ pins_of C x + 1) where
    small : i < 15
    small = omega (arith, early, top-few)

    abbrev raised : List ℕ
    raised = set stk depth (top + 1)

    pub raised-frames : frames_of raised ≡ frame x (i + 1) ∷ rest
    raised-frames = frames-raised stk a.begun top-inside small

    abbrev w : ℕ
    w = turn_at (pins_of C x) (first_of C x) i

    fewer : (t' : List ℕ) → left_in t' ≤ left_in t → owing t' raised < owing t stk
    fewer t' h = omega (arith, h, owing-is t' raised raised-frames, owing-is t stk (frames-top stk a.begun), owed_more x i rest, owed_more x (i + 1) rest, early, top-few)

    -- the way is barred
    pub step-barred : WayBarred C t x w → StepTold C f t stk cnt t l raised cnt false
    step-barred o = record {
      noted = a.asked.noted;
      same = λ q. refl;
      less = λ q. fewer t (omega arith);
      more = λ q R s. subst (Stacked (graph_of C) (turns_of C) (node_of C) f (view_of t).flow (λ z. z ∈ R) (view_of t) (λ u. get_or cnt u 0)) (sym raised-frames)
          (stacked-turned (on-top s) (subst (WayPassed (graph_of C) (view_of t) x) (sym (turn_is C x i)) passed));
      won = λ q. absurd (false≢true q);
    }
      where
        barred : (j : ℕ) → w ≡ suc j → PinPassed (graph_of C) (view_of t) x j
        barred j q =
            let e : w - 1 ≡ j = omega (arith, q) in
            subst (λ (z : ℕ). (0 < (graph_of C).forced z) ⊎ (0 < (view_of t).out z)) (ap (feeder C x) e ∙ sym (source_is C x j))
            (go (o.barred (omega (arith, q))))
          where
            go : (0 < forced_in C (feeder C x (w - 1))) ⊎ (0 < (view_of t).out (feeder C x (w - 1))) → (0 < (graph_of C).forced (feeder C x (w - 1))) ⊎ (0 < (view_of t).out (feeder C x (w - 1)))
            go (inl p) = inl (subst (λ (n : ℕ). 0 < n) (sym (forced-is C (feeder C x (w - 1)))) p)
            go (inr p) = inr p

        passed : WayPassed (graph_of C) (view_of t) x w
        passed = record { pin = barred; self = λ q. o.bare q }

    -- the way leads to y
    module _ {y : ℕ} (o : WayTo C t x w y) where
      pub step-fresh : (view_of t).out y ≡ 0
      step-fresh = o.fresh

      way : Way (graph_of C) (view_of t).flow x ((turns_of C).turn x i) y
      way = subst (λ (n : ℕ). Way (graph_of C) (view_of t).flow x n y) (sym (turn_is C x i)) (go w refl)
        where
          go : (n : ℕ) → w ≡ n → Way (graph_of C) (view_of t).flow x w y
          go zero q = let r = o.self q in by-self q (sym r.0) r.1
          go (suc j) q =
              let r = o.pin (omega (arith, q)) in
              let e : w - 1 ≡ j = omega (arith, q) in
              let k = turn-few (pins_of C x) (first_of C x) i top-first in
              by-pin j q (omega (arith, inner-pins F x top-ends, k, q)) (source_is C x j ∙ (ap (feeder C x) (sym e) ∙ sym r.0)) (forced-is C y ∙ r.1)

      -- marked out, in whatever view
      hang-at : {v' : View} {R : List ℕ} → MarkedOut (view_of t) v' y → StackedIn C f R t stk cnt
          → Hanging (graph_of C) (turns_of C) (node_of C) f (view_of t).flow (λ z. z ∈ R) v' (λ u. get_or cnt u 0) (frame x (i + 1)) rest y
      hang-at m s = hang (on-top s) way m

      -- there is room for y in the list
      pub step_room : ListRoom t l y
      step_room new =
          let c = (hang-at {v' = seen} marked a.asked.stacked).core in
          let b = touched-few c (nodes_of C) (come-node F c) a.asked.store.carriers a.asked.store.load most_pins few distinct alive in
          let g = subst (λ (n : ℕ). length (y ∷ map (listed l) (up_to (get_or l 0 0))) ≤ n * suc f * most_pins + length a.asked.store.carriers) (length-nodes_of C) b in
          omega (arith, g, a.asked.long, length-map (up_to (get_or l 0 0)) (listed l), length_up_to (get_or l 0 0))
        where
          at : (z : ℕ) → Dec (z ≡ y) → ℕ
          at z (yes q) = 1
          at z (no n) = (view_of t).out z

          at_yes : (z : ℕ) (d : Dec (z ≡ y)) → z ≡ y → at z d ≡ 1
          at_yes z (yes q) p = refl
          at_yes z (no n) p = absurd (n p)

          at_no : (z : ℕ) (d : Dec (z ≡ y)) → ¬ (z ≡ y) → at z d ≡ (view_of t).out z
          at_no z (yes q) p = absurd (p q)
          at_no z (no n) p = refl

          seen : View
          seen = record { flow = (view_of t).flow; inn = (view_of t).inn; out = λ z. at z (ℕ_discrete z y) }

          marked : MarkedOut (view_of t) seen y
          marked = record { flow = refl; inn = refl; out = record { at = at_yes y (ℕ_discrete y y) refl; other = λ z n. at_no z (ℕ_discrete z y) n } }

          few : (z : ℕ) → (graph_of C).pins z ≤ most_pins
          few z = pins-few z ((graph_of C).pins z) refl
            where
              pins-few : (z n : ℕ) → (graph_of C).pins z ≡ n → (graph_of C).pins z ≤ most_pins
              pins-few z zero q = omega (arith, q)
              pins-few z (suc n) q =
                  let r = pin-below C z 0 (omega (arith, q)) in
                  omega (arith, inner-pins F z r.0, inner-few F z r.0)

          unlisted : ¬ (y ∈ map (listed l) (up_to (get_or l 0 0)))
          unlisted k =
              let r = map_in (listed l) (up_to (get_or l 0 0)) k in
              omega (arith, new, subst (λ (z : ℕ). 0 < listed_in (get_or t z 0)) (sym r.2) (a.asked.noted.touched.flagged r.0 (up_to_in r.1)))

          distinct : Distinct (y ∷ map (listed l) (up_to (get_or l 0 0)))
          distinct = distinct_cons unlisted (distinct-map-on (listed l) (λ b c p q. a.asked.noted.touched.once b c (up_to_in p) (up_to_in q)) (distinct_up_to (get_or l 0 0)))

          still : (z : ℕ) → Live t z → Dec (z ≡ y) → (0 < (view_of t).flow z) ⊎ ((0 < seen.out z) ⊎ (0 < seen.inn z))
          still z k (yes q) = inr (inl (omega (arith, at_yes z (ℕ_discrete z y) q)))
          still z (inl p) (no n) = inl p
          still z (inr (inl p)) (no n) = inr (inl (omega (arith, p, at_no z (ℕ_discrete z y) n)))
          still z (inr (inr p)) (no n) = inr (inr p)

          alive : (z : ℕ) → z ∈ y ∷ map (listed l) (up_to (get_or l 0 0)) → (0 < (view_of t).flow z) ⊎ ((0 < seen.out z) ⊎ (0 < seen.inn z))
          alive z (here q) = inr (inl (omega (arith, at_yes z (ℕ_discrete z y) q)))
          alive z (there k) =
              let r = map_in (listed l) (up_to (get_or l 0 0)) k in
              still z (subst (Live t) (sym r.2) (a.asked.noted.live r.0 (up_to_in r.1))) (ℕ_discrete z y)

      module _ {t₁ l₁ : List ℕ} (m : MarkedOutTold t t₁ l₁ y) (e : length t₁ ≡ length t) where
        hanging-after : (R : List ℕ) → StackedIn C f R t stk cnt → HangingIn C f R t₁ raised cnt y
        hanging-after R s = record {
          top = frame x (i + 1);
          rest = rest;
          frames = raised-frames;
          hanging = subst (λ (g : ℕ → ℕ). Hanging (graph_of C) (turns_of C) (node_of C) f g (λ z. z ∈ R) (view_of t₁) (λ u. get_or cnt u 0) (frame x (i + 1)) rest y) (sym m.marked.flow) (hang-at m.marked s);
        }

        pub step_leave : LeaveAsked C f t₁ raised cnt y
        step_leave = record {
          fixed = F;
          store = record {
            room = e ∙ a.asked.store.room;
            counters = a.asked.store.counters;
            units = a.asked.store.units;
            carriers = a.asked.store.carriers;
            load = load_same t t₁ a.asked.store.carriers m.marked.flow a.asked.store.load;
            deep = omega (arith, a.asked.store.deep, length-set stk depth (top + 1));
            short = omega (arith, a.asked.store.short, length-set stk depth (top + 1));
          };
          R = a.asked.R;
          hanging = hanging-after a.asked.R a.asked.stacked;
        }

        pub step_left : {t' stk' cnt' : List ℕ} {r : Bool} → LeaveTold C f t₁ raised cnt t' stk' cnt' y r → StepTold C f t stk cnt t' l₁ stk' cnt' r
        step_left {t'} {stk'} {cnt'} {r} k = record {
          noted = k.keeps l₁ m.noted;
          same = λ q. k.same q ∙ m.marked.flow;
          less = λ q. let n = left-marked-out t t₁ m.marked e o.inside step-fresh in omega (arith, k.less q, fewer t₁ (omega (arith, n)));
          more = λ q R s. k.more q R (hanging-after R s);
          won = λ p W load. won-from m.marked.flow (k.won p a.asked.R (hanging-after a.asked.R a.asked.stacked) W (load_same t t₁ W m.marked.flow load));
        }

-- ---- all steps
module _ {C : Circuit} {f : ℕ} {t₀ stk₀ cnt₀ : List ℕ} where
  pub running_start : {l₀ : List ℕ} → RunAsked C f t₀ l₀ stk₀ cnt₀ → Running C f t₀ stk₀ cnt₀ t₀ l₀ stk₀ cnt₀
  running_start a = record { asked = a; same = refl; more = λ R s. s }

  module _ {t l stk cnt : List ℕ} (w : Running C f t₀ stk₀ cnt₀ t l stk cnt) where
    pub running_step : {t' l' stk' cnt' : List ℕ} {r : Bool} → StepTold C f t stk cnt t' l' stk' cnt' r → r ≡ false → length t' ≡ length t → length l' ≡ length l → length stk' ≡ length stk → length cnt' ≡ length cnt
        → Running C f t₀ stk₀ cnt₀ t' l' stk' cnt'
    running_step {t'} {l'} {stk'} {cnt'} o z p q r s = record {
      asked = record {
        fixed = w.asked.fixed;
        store = record {
          room = p ∙ w.asked.store.room;
          counters = omega (arith, s, w.asked.store.counters);
          units = w.asked.store.units;
          carriers = w.asked.store.carriers;
          load = load_same t t' w.asked.store.carriers (o.same z) w.asked.store.load;
          deep = omega (arith, r, w.asked.store.deep);
          short = omega (arith, r, w.asked.store.short);
        };
        noted = o.noted;
        long = omega (arith, q, w.asked.long);
        brief = omega (arith, q, w.asked.brief);
        R = w.asked.R;
        stacked = o.more z w.asked.R w.asked.stacked;
      };
      same = o.same z ∙ w.same;
      more = λ R k. o.more z R (w.more R k);
    }

    pub running_won : {t' l' stk' cnt' : List ℕ} {r : Bool} → StepTold C f t stk cnt t' l' stk' cnt' r → r ≡ true → RunTold C f t₀ stk₀ cnt₀ t' l' stk' cnt' true
    running_won o h = record {
      noted = o.noted;
      same = λ q. absurd (false≢true (sym q));
      empty = λ q. absurd (false≢true (sym q));
      more = λ q. absurd (false≢true (sym q));
      won = λ p W load. won-from w.same (o.won h W (load_same t₀ t W w.same load));
    }

    pub running_end : get_or stk 0 0 ≤ 0 → RunTold C f t₀ stk₀ cnt₀ t l stk cnt false
    running_end h = record {
      noted = w.asked.noted;
      same = λ q. w.same;
      empty = λ q. omega (arith, h);
      more = λ q. w.more;
      won = λ q. absurd (false≢true q);
    }
