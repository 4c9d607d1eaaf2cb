-- The same laws of a step for what the program reads: the depth d, the top frame n, its pins m, its first pin v and its way w.
use Rattle.std.specs.Prelude.{◌≡◌, Bool, false, Option, None, Some, List, ℕ, ◌+◌, ◌-◌, ◌/◌, ◌%◌, ◌^◌, ◌≤◌, ◌<◌, length, get_or, set}
use Rattle.std.proofs.Common.{sym, ap, subst, ◌∙◌, arith}
use Rattle.limits.specs.Limits.{most_pins}
use Rattle.cut_circuit.specs.Circuit.{Circuit, pins_of}
use Rattle.cut_circuit.specs.Packed.{GateAsked}
use Rattle.cut_search.specs.SearchTable.{view_of}
use Rattle.cut_search.specs.SearchParts.{ListRoom, MarkedOutTold, WayPlace, WayTo, WayBarred, WayTold}
use Rattle.cut_search.specs.Stacks.{turn_at, first_of}
use Rattle.cut_search.specs.StepLaws.{top-inside, top-pins, top-firsts, top-few, top-first, top-way, top-fits, step-popped, step-barred, step_room, step_leave, step_left}
use Rattle.cut_search.specs.Steps.{LeaveAsked, LeaveTold, StepAsked, StepTold}

module _ {C : Circuit} {f : ℕ} {t l stk cnt : List ℕ} (a : StepAsked C f t l stk cnt) {d n : ℕ} (p : d ≡ get_or stk 0 0) (q : n ≡ get_or stk d 0) where
  same : n ≡ get_or stk (get_or stk 0 0) 0
  same = q ∙ ap (λ (k : ℕ). get_or stk k 0) p

  pub read-depth : d < length stk
  read-depth = omega (arith, p, top-inside a)

  pub read-pins : GateAsked C C.pins (n / 16)
  read-pins = subst (λ (k : ℕ). GateAsked C C.pins (k / 16)) (sym same) (top-pins a)

  pub read_firsts : GateAsked C C.first (n / 16)
  read_firsts = subst (λ (k : ℕ). GateAsked C C.first (k / 16)) (sym same) (top-firsts a)

  module _ {m : ℕ} (u : m ≡ pins_of C (n / 16)) where
    pins-same : m ≡ pins_of C (get_or stk (get_or stk 0 0) 0 / 16)
    pins-same = u ∙ ap (λ (k : ℕ). pins_of C (k / 16)) same

    turn-same : n % 16 ≡ get_or stk (get_or stk 0 0) 0 % 16
    turn-same = ap (λ (k : ℕ). k % 16) same

    pub read-few : m ≤ most_pins
    read-few = omega (arith, pins-same, top-few a)

    pub read_first : {v : ℕ} → v ≡ first_of C (n / 16) → v < m
    read_first k = omega (arith, k ∙ ap (λ (j : ℕ). first_of C (j / 16)) same, pins-same, top-first a)

    pub read-popped : {stk' : List ℕ} → m + 1 < n % 16 → stk' ≡ set stk 0 (d - 1) → StepTold C f t stk cnt t l stk' cnt false
    read-popped {stk'} h e =
        subst (λ (s : List ℕ). StepTold C f t stk cnt t l s cnt false) (sym (e ∙ ap (λ (k : ℕ). set stk 0 (k - 1)) p)) (step-popped a (omega (arith, h, pins-same, turn-same)))

    pub read_fits : n % 16 ≤ m + 1 → n + 1 < 2 ^ 32
    read_fits h = omega (arith, same, top-fits a (omega (arith, h, pins-same, turn-same, top-few a)))

    module _ (h : n % 16 ≤ m + 1) {v w : ℕ} (k : v ≡ first_of C (n / 16)) (z : w ≡ turn_at m v (n % 16)) where
      early : get_or stk (get_or stk 0 0) 0 % 16 ≤ pins_of C (get_or stk (get_or stk 0 0) 0 / 16) + 1
      early = omega (arith, h, pins-same, turn-same)

      first-same : v ≡ first_of C (get_or stk (get_or stk 0 0) 0 / 16)
      first-same = k ∙ ap (λ (j : ℕ). first_of C (j / 16)) same

      way_same : w ≡ turn_at (pins_of C (get_or stk (get_or stk 0 0) 0 / 16)) (first_of C (get_or stk (get_or stk 0 0) 0 / 16)) (get_or stk (get_or stk 0 0) 0 % 16)
      way_same =
          z ∙ (ap (λ (j : ℕ). turn_at j v (n % 16)) pins-same
          ∙ (ap (λ (j : ℕ). turn_at (pins_of C (get_or stk (get_or stk 0 0) 0 / 16)) j (n % 16)) first-same
          ∙ ap (turn_at (pins_of C (get_or stk (get_or stk 0 0) 0 / 16)) (first_of C (get_or stk (get_or stk 0 0) 0 / 16))) turn-same))

      pub read-way : WayPlace C t (n / 16) w
      read-way = subst (λ (j : ℕ). WayPlace C t (j / 16) w) (sym same) (subst (WayPlace C t (get_or stk (get_or stk 0 0) 0 / 16)) (sym way_same) (top-way a))

      raised-same : set stk d (n + 1) ≡ set stk (get_or stk 0 0) (get_or stk (get_or stk 0 0) 0 + 1)
      raised-same = ap (λ (j : ℕ). set stk j (n + 1)) p ∙ ap (λ (j : ℕ). set stk (get_or stk 0 0) (j + 1)) same

      told : (r : Option ℕ) → WayTold C t (n / 16) w r → WayTold C t (get_or stk (get_or stk 0 0) 0 / 16) (turn_at (pins_of C (get_or stk (get_or stk 0 0) 0 / 16)) (first_of C (get_or stk (get_or stk 0 0) 0 / 16)) (get_or stk (get_or stk 0 0) 0 % 16)) r
      told r o = subst (λ (j : ℕ). WayTold C t (get_or stk (get_or stk 0 0) 0 / 16) j r) way_same (subst (λ (j : ℕ). WayTold C t (j / 16) w r) same o)

      pub read-barred : {stk' : List ℕ} → WayBarred C t (n / 16) w → stk' ≡ set stk d (n + 1) → StepTold C f t stk cnt t l stk' cnt false
      read-barred o e = subst (λ (s : List ℕ). StepTold C f t stk cnt t l s cnt false) (sym (e ∙ raised-same)) (step-barred a early (told None o))

      module _ {y : ℕ} (o : WayTo C t (n / 16) w y) where
        pub read-fresh : (view_of t).out y ≡ 0
        read-fresh = o.fresh

        pub read-room : ListRoom t l y
        read-room = step_room a early (told (Some y) o)

        module _ {t₁ l₁ stk₁ : List ℕ} (m₁ : MarkedOutTold t t₁ l₁ y) (e : length t₁ ≡ length t) (s : stk₁ ≡ set stk d (n + 1)) where
          pub read_leave : LeaveAsked C f t₁ stk₁ cnt y
          read_leave = subst (λ (j : List ℕ). LeaveAsked C f t₁ j cnt y) (sym (s ∙ raised-same)) (step_leave a early (told (Some y) o) m₁ e)

          pub read_left : {t' stk' cnt' : List ℕ} {r : Bool} → LeaveTold C f t₁ stk₁ cnt t' stk' cnt' y r → StepTold C f t stk cnt t' l₁ stk' cnt' r
          read_left {t'} {stk'} {cnt'} {r} g = step_left a early (told (Some y) o) m₁ e (subst (λ (j : List ℕ). LeaveTold C f t₁ j cnt t' stk' cnt' y r) (s ∙ raised-same) g)
