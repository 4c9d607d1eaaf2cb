-- The search comes to a copy, or leaves it: laws of `come` and `leave`.
use Rattle.std.specs.Prelude.{◌≡◌, true, false, None, Some, ◌⊎◌, List, ◌∷◌, ◌++◌, ℕ, suc, ◌+◌, ◌*◌, ◌/◌, ◌^◌, ◌≤◌, ◌<◌, length, get_or, set}
use Rattle.std.proofs.Math.Path.{refl}
use Rattle.std.proofs.Common.{sym, ap, subst, ◌∙◌, inl, inr, arith, length-set, get_or-set_same, get_or-set_other}
use Rattle.std.proofs.lemmas.Bool.{false≢true}
use Rattle.limits.specs.Limits.{most_pins}
use Rattle.sequences.specs.Member.{◌∈◌}
use Rattle.cut_flow.specs.State.{Stored}
use Rattle.cut_flow.specs.Search.{MarkedIn, PassedOut, positive_or_zero, reached-apart}
use Rattle.cut_flow.specs.Stack.{Frame, frame, Comes, itself, successor, Stacked}
use Rattle.cut_flow.specs.StackLaws.{comes-passed, last-passed, settled}
use Rattle.cut_flow.specs.StackEnter.{entered_counted, entered_carried, entered_bare, hit}
use Rattle.cut_flow.specs.StackBounds.{owed}
use Rattle.cut_circuit.specs.Circuit.{Circuit, graph_of, ending, ending_at, pins_of}
use Rattle.cut_circuit.specs.CircuitLaws.{lawful, terminal-is, node-below, wide-positive}
use Rattle.cut_search.specs.SearchTable.{view_of, with_in, with_flow}
use Rattle.cut_search.specs.SearchTableLaws.{with_in_lem, with_flow_lem, noted_in, noted-flow, live-flagged, left-marked_in, out_below}
use Rattle.cut_search.specs.SearchParts.{EntryTold}
use Rattle.cut_search.specs.Stacks.{frames_of, turns_of, last-is, node_of, StackedIn, HangingIn, owing}
use Rattle.cut_search.specs.StackParts.{Pushed}
use Rattle.cut_search.specs.StacksLaws.{length-frames_at, owing-is, owed_more}
use Rattle.cut_search.specs.CopyLaws.{inner-total, inner-few, comes-inner, stack_few, load-few, seek_next, seek_none}
use Rattle.cut_search.specs.Steps.{Keeps, ComeAsked, ComeTold, LeaveAsked, LeaveTold}

-- a counter raised
pub count-stored : (cnt : List ℕ) (g : ℕ) → g < length cnt → Stored (λ (u : ℕ). get_or cnt u 0) (λ (u : ℕ). get_or (set cnt g (get_or cnt g 0 + 1)) u 0) g (suc (get_or cnt g 0))
count-stored cnt g h = record { at = get_or-set_same cnt g (get_or cnt g 0 + 1) 0 h ∙ omega arith; other = λ z n. get_or-set_other cnt g z (get_or cnt g 0 + 1) 0 n }

module _ {C : Circuit} {f : ℕ} {t stk cnt : List ℕ} {e : ℕ} (a : ComeAsked C f t stk cnt e) where
  pub come-ends : ending C e ≡ 0
  come-ends = comes-inner a.fixed a.comes

  pub come-inside : e < length t
  come-inside = omega (arith, inner-total a.fixed e come-ends, a.store.room)

  pub come-wide : 0 < C.width
  come-wide = wide-positive a.fixed.layout

  pub come-node : e / C.width < length cnt
  come-node = omega (arith, node-below e C.width (C.inputs + C.gates) come-wide (inner-total a.fixed e come-ends), a.store.counters)

  pub come-frame-fits : (i : ℕ) → i < 16 → e * 16 + i < 2 ^ 32
  come-frame-fits i h = omega (arith, h, inner-total a.fixed e come-ends, a.fixed.small)

  pub come-pins : pins_of C e ≤ most_pins
  come-pins = inner-few a.fixed e come-ends

  marked : MarkedIn (view_of t) (view_of (with_in t e)) e
  marked = with_in_lem t e come-inside a.fresh

  abbrev counts : ℕ → ℕ
  counts u = get_or cnt u 0

  abbrev raised : List ℕ
  raised = set cnt (e / C.width) (get_or cnt (e / C.width) 0 + 1)

  -- what is told whatever is pushed
  keeps : Keeps t (with_in t e)
  keeps l n = noted_in n e come-inside a.fresh (live-flagged n.touched e (alive a.comes))
    where
      alive : Comes (graph_of C) (view_of t).flow a.y e → (0 < (view_of t).flow e) ⊎ ((0 < (view_of t).out e) ⊎ (0 < (view_of t).inn e))
      alive (itself q h z o) = inr (inl (subst (λ (z : ℕ). 0 < (view_of t).out z) (sym q) a.hanging.hanging.marked))
      alive (successor n o) = inl (omega (arith, n.fed.pin))

  less-left : (stk' : List ℕ) {fs : List Frame} → frames_of stk' ≡ fs → owed 8 fs ≤ 9 + owed 8 (frames_of stk) → owing (with_in t e) stk' ≤ owing t stk
  unfolding with_in
  less-left stk' q h =
      let l = left-marked_in t (with_in t e) marked (length-set t e (get_or t e 0 + 8)) come-inside a.fresh in
      omega (arith, owing-is (with_in t e) stk' q, owing-is t stk refl, h, l)

  module _ (stk' : List ℕ) (i : ℕ) (q : frames_of stk' ≡ frame e i ∷ frames_of stk) where
    less-pushed : owing (with_in t e) stk' ≤ owing t stk
    less-pushed = less-left stk' q (omega (arith, owed_more e i (frames_of stk)))

    pushed_at : {R : List ℕ} {y : ℕ} (h : HangingIn C f R t stk cnt y) (cnt' : List ℕ)
        → Stacked (graph_of C) (turns_of C) (node_of C) f (view_of t).flow (λ z. z ∈ R) (view_of (with_in t e)) (λ u. get_or cnt' u 0) (frame e i ∷ h.top ∷ h.rest)
        → StackedIn C f R (with_in t e) stk' cnt'
    pushed_at {R} h cnt' s =
        subst (λ (g : ℕ → ℕ). Stacked (graph_of C) (turns_of C) (node_of C) f g (λ z. z ∈ R) (view_of (with_in t e)) (λ u. get_or cnt' u 0) (frames_of stk')) (sym marked.flow)
        (subst (Stacked (graph_of C) (turns_of C) (node_of C) f (view_of t).flow (λ z. z ∈ R) (view_of (with_in t e)) (λ u. get_or cnt' u 0)) (sym (q ∙ ap (λ (fs : List Frame). frame e i ∷ fs) h.frames)) s)

  -- room for one more frame
  room_for : (i : ℕ) {cnt' : ℕ → ℕ} → Stacked (graph_of C) (turns_of C) (node_of C) f (view_of t).flow (λ z. z ∈ a.R) (view_of (with_in t e)) cnt' (frame e i ∷ a.hanging.top ∷ a.hanging.rest)
      → get_or stk 0 0 + 1 < length stk
  room_for i s =
      let l = stack_few a.fixed s.core a.store.carriers a.store.load in
      omega (arith, l, a.store.deep, length-frames_at stk (get_or stk 0 0), ap length a.hanging.frames)

  -- counted, and all its turns to come
  counted-at : {R : List ℕ} {y : ℕ} (h : HangingIn C f R t stk cnt y) → Comes (graph_of C) (view_of t).flow y e → get_or cnt (e / C.width) 0 ≤ f
      → Stacked (graph_of C) (turns_of C) (node_of C) f (view_of t).flow (λ z. z ∈ R) (view_of (with_in t e)) (λ u. get_or raised u 0) (frame e 0 ∷ h.top ∷ h.rest)
  counted-at h k l = entered_counted h.hanging k a.fresh marked l (count-stored cnt (e / C.width) come-node)

  pub counted-room : get_or cnt (e / C.width) 0 ≤ f → get_or stk 0 0 + 1 < length stk
  counted-room l = room_for 0 (counted-at a.hanging a.comes l)

  pub come-counted : get_or cnt (e / C.width) 0 ≤ f → (stk' : List ℕ) → frames_of stk' ≡ frame e 0 ∷ frames_of stk → ComeTold C f t stk cnt (with_in t e) stk' raised e
  come-counted l stk' q = record {
    keeps = keeps;
    same = marked.flow;
    less = less-pushed stk' 0 q;
    more = λ R y h k. pushed_at stk' 0 q h raised (counted-at h k l);
  }

  -- its node is full, but it carries
  carried-at : {R : List ℕ} {y : ℕ} (h : HangingIn C f R t stk cnt y) → Comes (graph_of C) (view_of t).flow y e → f < get_or cnt (e / C.width) 0 → 0 < (view_of t).flow e
      → Stacked (graph_of C) (turns_of C) (node_of C) f (view_of t).flow (λ z. z ∈ R) (view_of (with_in t e)) (λ u. get_or cnt u 0) (frame e (suc (pins_of C e)) ∷ h.top ∷ h.rest)
  carried-at {R} h k l c =
      subst (λ (i : ℕ). Stacked (graph_of C) (turns_of C) (node_of C) f (view_of t).flow (λ z. z ∈ R) (view_of (with_in t e)) (λ u. get_or cnt u 0) (frame e i ∷ h.top ∷ h.rest)) (last-is C e)
      (entered_carried h.hanging k a.fresh marked l c)

  flow-now : 0 < (view_of (with_in t e)).flow e → 0 < (view_of t).flow e
  flow-now h = omega (arith, h, ap (λ (g : ℕ → ℕ). g e) marked.flow)

  pub carried-room : f < get_or cnt (e / C.width) 0 → 0 < (view_of (with_in t e)).flow e → get_or stk 0 0 + 1 < length stk
  carried-room l c = room_for (suc (pins_of C e)) (carried-at a.hanging a.comes l (flow-now c))

  pub come-carried : f < get_or cnt (e / C.width) 0 → 0 < (view_of (with_in t e)).flow e → (stk' : List ℕ) → frames_of stk' ≡ frame e (suc (pins_of C e)) ∷ frames_of stk
      → ComeTold C f t stk cnt (with_in t e) stk' cnt e
  come-carried l c stk' q = record {
    keeps = keeps;
    same = marked.flow;
    less = less-pushed stk' (suc (pins_of C e)) q;
    more = λ R y h k. pushed_at stk' (suc (pins_of C e)) q h cnt (carried-at h k l (flow-now c));
  }

  -- its node is full, and there is nothing to try
  pub come-bare : f < get_or cnt (e / C.width) 0 → (view_of (with_in t e)).flow e ≤ 0 → ComeTold C f t stk cnt (with_in t e) stk cnt e
  come-bare l c = record { keeps = keeps; same = marked.flow; less = less-left stk refl (omega arith); more = more }
    where
      more : (R : List ℕ) (y : ℕ) → HangingIn C f R t stk cnt y → Comes (graph_of C) (view_of t).flow y e → StackedIn C f R (with_in t e) stk cnt
      more R y h k =
          subst (λ (g : ℕ → ℕ). Stacked (graph_of C) (turns_of C) (node_of C) f g (λ z. z ∈ R) (view_of (with_in t e)) (λ u. get_or cnt u 0) (frames_of stk)) (sym marked.flow)
          (subst (Stacked (graph_of C) (turns_of C) (node_of C) f (view_of t).flow (λ z. z ∈ R) (view_of (with_in t e)) (λ u. get_or cnt u 0)) (sym h.frames)
          (entered_bare h.hanging k a.fresh marked l (omega (arith, c, ap (λ (g : ℕ → ℕ). g e) marked.flow))))

  -- the same, with the stores by their equations
  pub told-counted : {t' stk' cnt' : List ℕ} {n : ℕ} → t' ≡ with_in t e → n ≡ get_or cnt (e / C.width) 0 → n ≤ f → cnt' ≡ set cnt (e / C.width) (n + 1) → Pushed stk stk' e 0
      → ComeTold C f t stk cnt t' stk' cnt' e
  told-counted {t'} {stk'} {cnt'} {n} p q h k u =
      subst (λ (m : List ℕ). ComeTold C f t stk cnt m stk' cnt' e) (sym p)
      (subst (λ (m : List ℕ). ComeTold C f t stk cnt (with_in t e) stk' m e) (sym (k ∙ ap (λ (j : ℕ). set cnt (e / C.width) (j + 1)) q)) (come-counted (omega (arith, q, h)) stk' u.frames))

  pub told-carried : {t' stk' : List ℕ} {n m : ℕ} → t' ≡ with_in t e → n ≡ get_or cnt (e / C.width) 0 → f < n → m ≡ pins_of C e → 0 < (view_of t').flow e → Pushed stk stk' e (m + 1)
      → ComeTold C f t stk cnt t' stk' cnt e
  told-carried {t'} {stk'} {n} {m} p q h z k u =
      let c = subst (λ (g : List ℕ). 0 < (view_of g).flow e) p k in
      subst (λ (g : List ℕ). ComeTold C f t stk cnt g stk' cnt e) (sym p)
      (come-carried (omega (arith, q, h)) c stk' (u.frames ∙ ap (λ (j : ℕ). frame e j ∷ frames_of stk) (omega (arith, z))))

  pub told-carried-room : {t' : List ℕ} {n : ℕ} → t' ≡ with_in t e → n ≡ get_or cnt (e / C.width) 0 → f < n → 0 < (view_of t').flow e → get_or stk 0 0 + 1 < length stk
  told-carried-room {t'} p q h k = carried-room (omega (arith, q, h)) (subst (λ (g : List ℕ). 0 < (view_of g).flow e) p k)

  pub told-bare : {t' : List ℕ} {n : ℕ} → t' ≡ with_in t e → n ≡ get_or cnt (e / C.width) 0 → f < n → (view_of t').flow e ≤ 0 → ComeTold C f t stk cnt t' stk cnt e
  told-bare {t'} {n} p q h k =
      subst (λ (g : List ℕ). ComeTold C f t stk cnt g stk cnt e) (sym p) (come-bare (omega (arith, q, h)) (subst (λ (g : List ℕ). (view_of g).flow e ≤ 0) p k))

some_same : {x y : ℕ} → Some x ≡ Some y → x ≡ y
some_same e = cc

none_apart : {y : ℕ} → None ≡ Some y → ⊥
none_apart e = cc

-- ---- out of y
module _ {C : Circuit} {f : ℕ} {t stk cnt : List ℕ} {y : ℕ} (a : LeaveAsked C f t stk cnt y) where
  pub leave_inside : y < length t
  leave_inside = out_below t y a.hanging.hanging.marked

  pub leave_wide : 0 < C.width
  leave_wide = wide-positive a.fixed.layout

  -- an open terminal takes a unit from outside
  pub leave_open : (view_of t).flow y ≡ 0 → 0 < ending_at C.inputs C.width C.border y → LeaveTold C f t stk cnt (with_flow t y 7) stk cnt y true
  leave_open z e = record {
    keeps = λ l n. noted-flow n y 7 leave_inside (omega arith) (live-flagged n.touched y (inr (inl a.hanging.hanging.marked))) (inl (omega arith));
    same = λ q. absurd (false≢true (sym q));
    less = λ q. absurd (false≢true (sym q));
    more = λ q. absurd (false≢true (sym q));
    won = λ p R h W load. record {
      X = y ∷ (h.hanging.core.list ++ W);
      few = load-few a.fixed h.hanging.core W load y;
      deep = depth;
      unwinding = record {
        top = h.top;
        rest = h.rest;
        frames = h.frames;
        unwinding = hit (view_of t) W (lawful a.fixed.layout) h.hanging refl z (omega (arith, terminal-is C y, e)) (omega arith) (with_flow_lem t y 7 leave_inside (omega arith)) load;
      };
    };
  }
    where
      depth : get_or stk 0 0 < length stk
      depth =
          let l = stack_few a.fixed a.hanging.hanging.core a.store.carriers a.store.load in
          omega (arith, l, a.store.deep, length-frames_at stk (get_or stk 0 0), ap length a.hanging.frames)

  -- y has passed its mark on
  passed : PassedOut (graph_of C) (view_of t) y → LeaveTold C f t stk cnt t stk cnt y false
  passed p = record {
    keeps = λ l n. n;
    same = λ q. refl;
    less = λ q. omega arith;
    more = λ q R h. subst (Stacked (graph_of C) (turns_of C) (node_of C) f (view_of t).flow (λ z. z ∈ R) (view_of t) (λ u. get_or cnt u 0)) (sym h.frames) (settled h.hanging p);
    won = λ q. absurd (false≢true q);
  }

  abbrev flow_of : ℕ → ℕ
  flow_of = (view_of t).flow

  -- where the search comes to from y
  entry-comes : {r : ℕ} → EntryTold C.inputs C.width C.border C.sources C.counts C.heads C.nexts t y (Some r) → (flow_of y ≡ 0 → ending_at C.inputs C.width C.border y ≡ 0)
      → Comes (graph_of C) flow_of y r
  entry-comes {r} o inner = go (positive_or_zero (flow_of y))
    where
      apart : (graph_of C).forced y ≡ 0
      apart = reached-apart a.hanging.hanging.core.ready.state a.hanging.hanging.reached

      go : (0 < flow_of y) ⊎ (flow_of y ≡ 0) → Comes (graph_of C) flow_of y r
      go (inr z) =
          let q = some_same (o.empty z) in
          itself q (ap flow_of q ∙ z) (ap (graph_of C).terminal q ∙ (terminal-is C y ∙ omega (arith, inner z, leave_inside, a.store.room))) (ap (graph_of C).forced q ∙ apart)
      go (inl p) =
          let n = seek_next a.fixed t y a.store.room leave_inside a.hanging.hanging.core.ready.state (o.carried p) in
          successor n (a.hanging.hanging.core.ready.state.apart r (omega (arith, n.fed.pin)))

  -- nowhere
  pub leave_last : EntryTold C.inputs C.width C.border C.sources C.counts C.heads C.nexts t y None → LeaveTold C f t stk cnt t stk cnt y false
  leave_last o = passed (go (positive_or_zero (flow_of y)))
    where
      go : (0 < flow_of y) ⊎ (flow_of y ≡ 0) → PassedOut (graph_of C) (view_of t) y
      go (inr z) = absurd (none_apart (o.empty z))
      go (inl p) = last-passed p (seek_none a.fixed t y a.store.room leave_inside (o.carried p))

  -- where the search comes to is in the table
  pub leave_entry : {r : ℕ} → EntryTold C.inputs C.width C.border C.sources C.counts C.heads C.nexts t y (Some r) → r < length t
  leave_entry {r} o = go (positive_or_zero (flow_of y))
    where
      go : (0 < flow_of y) ⊎ (flow_of y ≡ 0) → r < length t
      go (inr z) = omega (arith, some_same (o.empty z), leave_inside)
      go (inl p) = (o.carried p).0

  module _ {r : ℕ} (o : EntryTold C.inputs C.width C.border C.sources C.counts C.heads C.nexts t y (Some r)) (inner : flow_of y ≡ 0 → ending_at C.inputs C.width C.border y ≡ 0) where
    -- to a copy marked in
    pub leave_met : 0 < (view_of t).inn r → LeaveTold C f t stk cnt t stk cnt y false
    leave_met i = passed (comes-passed a.hanging.hanging.core.ready.state (entry-comes o inner) i)

    -- to a copy not marked in
    pub leave_asked : (view_of t).inn r ≤ 0 → ComeAsked C f t stk cnt r
    leave_asked i = record {
      fixed = a.fixed;
      store = a.store;
      R = a.R;
      y = y;
      hanging = a.hanging;
      comes = entry-comes o inner;
      fresh = omega (arith, i);
    }

    pub leave_come : {t' stk' cnt' : List ℕ} → ComeTold C f t stk cnt t' stk' cnt' r → LeaveTold C f t stk cnt t' stk' cnt' y false
    leave_come k = record {
      keeps = k.keeps;
      same = λ q. k.same;
      less = λ q. k.less;
      more = λ q R g. k.more R y g (entry-comes o inner);
      won = λ q. absurd (false≢true q);
    }
