-- The stack taken down after a success: laws of `unwind`.
use Rattle.std.specs.Prelude.{◌≡◌, refl, List, [], ◌∷◌, ℕ, ◌-◌, ◌/◌, ◌%◌, ◌≤◌, ◌<◌, length, get_or, set}
use Rattle.std.proofs.Common.{sym, ap, subst, ◌∙◌, inr, arith, length-set, get_or-set_same}
use Rattle.cut_flow.specs.Search.{View, FlowSet}
use Rattle.cut_flow.specs.Stack.{Frame, Unwinding}
use Rattle.cut_flow.specs.Unwind.{unwound, unwinding_in, unwound-all}
use Rattle.cut_circuit.specs.Circuit.{Circuit, graph_of, ending, pins_of}
use Rattle.cut_circuit.specs.CircuitLaws.{pin-below}
use Rattle.cut_circuit.specs.Packed.{GateAsked}
use Rattle.cut_search.specs.SearchTable.{view_of, Noted, with_flow}
use Rattle.cut_search.specs.SearchTableLaws.{with_flow_lem, noted-flow, live-flagged, in_below}
use Rattle.cut_search.specs.Stacks.{frame_in, frames_at, turn_at, turns_of, turn_is, first_of, UnwindingIn}
use Rattle.cut_search.specs.StacksLaws.{length-frames_at, frames-top, frames-popped}
use Rattle.cut_search.specs.CopyLaws.{inner-few, inner_first, pins-asked, first-asked}
use Rattle.cut_search.specs.StepLaws.{turn-few}
use Rattle.cut_search.specs.Steps.{UnwindAsked, UnwindTold, Descending}

-- the top of a stack of two frames or more
record Above (C : Circuit) (X : List ℕ) (v₀ : View) (t stk : List ℕ) : Type 0 where
  below : Frame
  rest : List Frame
  frames : frames_at stk (get_or stk 0 0 - 1) ≡ below ∷ rest
  unwinding : Unwinding (graph_of C) (turns_of C) X v₀ (view_of t) (frame_in (get_or stk (get_or stk 0 0) 0)) (below ∷ rest)

abbrev head : Frame → List Frame → Frame
head b [] = b
head b (c ∷ fs) = c

abbrev tail : List Frame → List Frame
tail [] = []
tail (c ∷ fs) = fs

above : {C : Circuit} {X : List ℕ} {v₀ : View} {t stk : List ℕ} → UnwindingIn C X v₀ t stk → 1 < get_or stk 0 0 → Above C X v₀ t stk
above {C} {X} {v₀} {t} {stk} u h = go u.rest refl
  where
    both : u.top ∷ u.rest ≡ frame_in (get_or stk (get_or stk 0 0) 0) ∷ frames_at stk (get_or stk 0 0 - 1)
    both = sym u.frames ∙ frames-top stk (omega (arith, h))

    first : u.top ≡ frame_in (get_or stk (get_or stk 0 0) 0)
    first = ap (head u.top) both

    others : u.rest ≡ frames_at stk (get_or stk 0 0 - 1)
    others = ap tail both

    go : (fs : List Frame) → u.rest ≡ fs → Above C X v₀ t stk
    go [] e = absurd (omega (arith, h, length-frames_at stk (get_or stk 0 0 - 1), ap length (sym others ∙ e)))
    go (c ∷ fs) e = record {
      below = c;
      rest = fs;
      frames = sym others ∙ e;
      unwinding = subst (λ (b : Frame). Unwinding (graph_of C) (turns_of C) X v₀ (view_of t) b (c ∷ fs)) first
          (subst (Unwinding (graph_of C) (turns_of C) X v₀ (view_of t) u.top) e u.unwinding);
    }

module _ {C : Circuit} {t stk : List ℕ} (a : UnwindAsked C t stk) (h : 1 < get_or stk 0 0) where
  abbrev depth : ℕ
  depth = get_or stk 0 0

  abbrev x : ℕ
  x = get_or stk depth 0 / 16

  abbrev i : ℕ
  i = get_or stk depth 0 % 16

  marked : (0 < (view_of t).inn x) × (0 < (graph_of C).pins x)
  marked = unwinding_in (above a.unwinding h).unwinding

  ends : ending C x ≡ 0
  ends = (pin-below C x 0 marked.1).0

  pub unwind_inside : x < length t
  unwind_inside = in_below t x marked.0

  pub unwind_pins : GateAsked C C.pins x
  unwind_pins = pins-asked a.fixed x ends

  pub unwind_firsts : GateAsked C C.first x
  unwind_firsts = first-asked a.fixed x ends

  pub unwind_first : first_of C x < pins_of C x
  unwind_first = inner_first a.fixed x ends

  pub unwind_begun : 0 < i
  unwind_begun = (above a.unwinding h).unwinding.led.begun

  abbrev w : ℕ
  w = turn_at (pins_of C x) (first_of C x) (i - 1)

  pub unwind_small : w < 8
  unwind_small = omega (arith, turn-few (pins_of C x) (first_of C x) (i - 1) unwind_first, inner-few a.fixed x ends)

  keeps-one : (l : List ℕ) → Noted t l → Noted (with_flow t x w) l
  keeps-one l n = noted-flow n x w unwind_inside unwind_small (live-flagged n.touched x (inr (inr marked.0))) (inr marked.0)

  step-one : (v₀ : View) (X : List ℕ) → UnwindingIn C X v₀ t stk → UnwindingIn C X v₀ (with_flow t x w) (set stk 0 (depth - 1))
  step-one v₀ X u =
      let b = above u h in
      record {
        top = b.below;
        rest = b.rest;
        frames = frames-popped stk (omega (arith, h)) (omega (arith, a.deep)) ∙ b.frames;
        unwinding = unwound b.unwinding (subst (FlowSet (view_of t) (view_of (with_flow t x w)) x) (sym (turn_is C x (i - 1))) (with_flow_lem t x w unwind_inside unwind_small));
      }

  pub unwind_step : {t₀ stk₀ : List ℕ} → Descending C t₀ stk₀ t stk → length (with_flow t x w) ≡ length t → Descending C t₀ stk₀ (with_flow t x w) (set stk 0 (depth - 1))
  unwind_step d e = record {
    asked = record {
      fixed = a.fixed;
      room = e ∙ a.room;
      short = omega (arith, a.short, length-set stk 0 (depth - 1));
      deep = omega (arith, a.deep, length-set stk 0 (depth - 1), get_or-set_same stk 0 (depth - 1) 0 (omega (arith, a.deep)));
      X = a.X;
      v₀ = a.v₀;
      unwinding = step-one a.v₀ a.X a.unwinding;
    };
    keeps = λ l n. keeps-one l (d.keeps l n);
    kept = λ v₀ X u. step-one v₀ X (d.kept v₀ X u);
  }

pub unwind_start : {C : Circuit} {t stk : List ℕ} → UnwindAsked C t stk → Descending C t stk t stk
unwind_start a = record { asked = a; keeps = λ l n. n; kept = λ v₀ X u. u }

pub unwind_end : {C : Circuit} {t₀ stk₀ t stk : List ℕ} → Descending C t₀ stk₀ t stk → get_or stk 0 0 ≤ 1 → UnwindTold C t₀ stk₀ t
unwind_end {C} {t₀} {stk₀} {t} {stk} d h = record {
  keeps = d.keeps;
  gains = λ v₀ X u. let k = d.kept v₀ X u in unwound-all (subst (Unwinding (graph_of C) (turns_of C) X v₀ (view_of t) k.top) (alone k k.rest refl) k.unwinding);
  load = λ v₀ X u. (d.kept v₀ X u).unwinding.load;
}
  where
    alone : {X : List ℕ} {v₀ : View} (k : UnwindingIn C X v₀ t stk) (fs : List Frame) → k.rest ≡ fs → k.rest ≡ []
    alone k [] e = e
    alone k (c ∷ fs) e = absurd (omega (arith, h, length-frames_at stk (get_or stk 0 0), ap length k.frames, ap length e))

-- ---- the same for what the program reads
module _ {C : Circuit} {t stk : List ℕ} (a : UnwindAsked C t stk) (h : 1 < get_or stk 0 0) {d n : ℕ} (p : d ≡ get_or stk 0 0) (q : n ≡ get_or stk d 0) where
  same : n ≡ get_or stk (get_or stk 0 0) 0
  same = q ∙ ap (λ (k : ℕ). get_or stk k 0) p

  pub down-depth : d < length stk
  down-depth = omega (arith, p, a.deep)

  pub down-inside : n / 16 < length t
  down-inside = subst (λ (k : ℕ). k / 16 < length t) (sym same) (unwind_inside a h)

  pub down-pins : GateAsked C C.pins (n / 16)
  down-pins = subst (λ (k : ℕ). GateAsked C C.pins (k / 16)) (sym same) (unwind_pins a h)

  pub down-firsts : GateAsked C C.first (n / 16)
  down-firsts = subst (λ (k : ℕ). GateAsked C C.first (k / 16)) (sym same) (unwind_firsts a h)

  pub down-begun : 0 < n % 16
  down-begun = subst (λ (k : ℕ). 0 < k % 16) (sym same) (unwind_begun a h)

  module _ {m v : ℕ} (u : m ≡ pins_of C (n / 16)) (k : v ≡ first_of C (n / 16)) where
    pub down-first : v < m
    down-first =
        omega (arith, u ∙ ap (λ (j : ℕ). pins_of C (j / 16)) same, k ∙ ap (λ (j : ℕ). first_of C (j / 16)) same, unwind_first a h)

    module _ {w : ℕ} (z : w ≡ turn_at m v (n % 16 - 1)) where
      way_same : w ≡ turn_at (pins_of C (get_or stk (get_or stk 0 0) 0 / 16)) (first_of C (get_or stk (get_or stk 0 0) 0 / 16)) (get_or stk (get_or stk 0 0) 0 % 16 - 1)
      way_same =
          z ∙ (ap (λ (j : ℕ). turn_at j v (n % 16 - 1)) (u ∙ ap (λ (j : ℕ). pins_of C (j / 16)) same)
          ∙ (ap (λ (j : ℕ). turn_at (pins_of C (get_or stk (get_or stk 0 0) 0 / 16)) j (n % 16 - 1)) (k ∙ ap (λ (j : ℕ). first_of C (j / 16)) same)
          ∙ ap (λ (j : ℕ). turn_at (pins_of C (get_or stk (get_or stk 0 0) 0 / 16)) (first_of C (get_or stk (get_or stk 0 0) 0 / 16)) (j % 16 - 1)) same))

      pub down-small : w < 8
      down-small = omega (arith, way_same, unwind_small a h)

      pub down_step : {t₀ stk₀ t' stk' : List ℕ} → Descending C t₀ stk₀ t stk → t' ≡ with_flow t (n / 16) w → length t' ≡ length t → stk' ≡ set stk 0 (d - 1) → Descending C t₀ stk₀ t' stk'
      down_step {t₀} {stk₀} {t'} {stk'} g e l s =
          let f : t' ≡ with_flow t (get_or stk (get_or stk 0 0) 0 / 16) (turn_at (pins_of C (get_or stk (get_or stk 0 0) 0 / 16)) (first_of C (get_or stk (get_or stk 0 0) 0 / 16)) (get_or stk (get_or stk 0 0) 0 % 16 - 1))
          = e ∙ (ap (λ (j : ℕ). with_flow t (j / 16) w) same ∙ ap (with_flow t (get_or stk (get_or stk 0 0) 0 / 16)) way_same) in
          subst (λ (j : List ℕ). Descending C t₀ stk₀ j stk') (sym f)
          (subst (Descending C t₀ stk₀ (with_flow t (get_or stk (get_or stk 0 0) 0 / 16) (turn_at (pins_of C (get_or stk (get_or stk 0 0) 0 / 16)) (first_of C (get_or stk (get_or stk 0 0) 0 / 16)) (get_or stk (get_or stk 0 0) 0 % 16 - 1))))
          (sym (s ∙ ap (λ (j : ℕ). set stk 0 (j - 1)) p)) (unwind_step a h g (ap length (sym f) ∙ l)))
