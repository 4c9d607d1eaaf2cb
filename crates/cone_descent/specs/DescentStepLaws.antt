-- Laws of the steps of the walk.
use Rattle.std.specs.Prelude.{◌≡◌, refl, List, ℕ, zero, suc, ◌+◌, ◌-◌, ◌*◌, ◌≤◌, ◌<◌, length, get_or, set, drop, Option, Some, None}
use Rattle.std.proofs.Common.{sym, ap, ◌∙◌, subst, inl, inr, not-suc-le-zero, suc-mul, arith, length-set, get_or-set_same, get_or-set_other}
use Rattle.std.proofs.Math.Decide.{ℕ_discrete}
use Rattle.sequences.specs.Member.{◌∈◌}
use Rattle.net_model.specs.Arrays.{stride, copy_at}
use Rattle.net_model.specs.Copies.{Copy, copy}
use Rattle.net_model.specs.PackedNet.{sources_at, counts_at}
use Rattle.cone_copies.specs.CopyLists.{copies_in}
use Rattle.cone_copies.specs.CopyListLaws.{length-copies_in, get_or_copies_in, missing}
use Rattle.sequences.specs.Tests.{First}
use Rattle.cone_descent.specs.declared.Met.{Met}
use Rattle.cone_descent.specs.declared.Met.TheVariants as met
use Rattle.cone_descent.specs.Descent.{nobody, place, Inside, Field, pin_of, pins_of, Known, State, Wiped, seat_mark}
use Rattle.cone_descent.specs.TrailLaws.{place-below, marked-met, copy_at_other}
use Rattle.cone_descent.specs.PinRead.{source-inside, count-inside, source-read}
use Rattle.cone_descent.specs.DescentLaws.{inside-gate, state-turn, state_touch, state_push, push_known, state_pop}
use Rattle.cone_descent.specs.DescentEnds.{denied-input, denied-beyond, denied-full}
use Rattle.cone_descent.specs.DescentSteps.{Meet, Leaves, TopPin, rest, work, Advanced, Advances, Turn, Ran}

-- ---- what is left to do

rest-same : (ts : List ℕ) (k x d : ℕ) → d ≤ k → rest (set ts k x) d ≡ rest ts d
unfolding rest
rest-same ts k x zero h = refl
rest-same ts k x (suc d) h = omega (arith, rest-same ts k x d (omega arith), get_or-set_other ts k d x 0 (λ e. bad h e))
  where
    bad : suc d ≤ k → d ≡ k → ⊥
    bad h e = omega arith

rest-suc : (ts : List ℕ) (d : ℕ) → rest ts (suc d) ≡ rest ts d + (suc stride - get_or ts d 0)
unfolding rest
rest-suc ts d = refl

rest-top : (ts : List ℕ) (d : ℕ) → rest ts (d + 1) ≡ rest ts d + (suc stride - get_or ts d 0)
rest-top ts d = ap (rest ts) {x = d + 1} {y = suc d} (omega arith) ∙ rest-suc ts d

-- a pin passed
pub work-turn : (room size : ℕ) (ts : List ℕ) (d j : ℕ) → d < length ts → get_or ts d 0 ≡ j → j < stride → work room size (set ts d (j + 1)) (d + 1) < work room size ts (d + 1)
work-turn room size ts d j h e few =
    omega (arith, rest-top ts d, rest-top (set ts d (j + 1)) d, rest-same ts d (j + 1) d (omega arith), get_or-set_same ts d (j + 1) 0 h)

-- a copy opened
pub work_push : (room size : ℕ) (ts : List ℕ) (d j : ℕ) → d + 1 < length ts → get_or ts d 0 ≡ j → j < stride → size < room
    → work room (size + 1) (set (set ts (d + 1) 0) d (j + 1)) (d + 1 + 1) < work room size ts (d + 1)
work_push room size ts d j h e few g =
    let us = set ts (d + 1) 0 in
    let long = length-set ts (d + 1) 0 in
    let m : (room - size) * (stride + 2) ≡ (room - (size + 1)) * (stride + 2) + (stride + 2) = ap (λ (z : ℕ). z * (stride + 2)) {x = room - size} {y = suc (room - (size + 1))} (omega arith) ∙
    omega (arith, suc-mul (room - (size + 1)) (stride + 2)) in
    let a : get_or (set us d (j + 1)) (d + 1) 0 ≡ 0 = get_or-set_other us d (d + 1) (j + 1) 0 (λ (z : d + 1 ≡ d). omega (arith, z)) ∙ get_or-set_same ts (d + 1) 0 0 h in
    omega (
      arith,
      m,
      rest-top ts d,
      rest-top (set us d (j + 1)) (d + 1),
      rest-top (set us d (j + 1)) d,
      rest-same us d (j + 1) d (omega arith),
      rest-same ts (d + 1) 0 d (omega arith),
      a,
      get_or-set_same us d (j + 1) 0 (omega (arith, long)),
    )

-- a copy left
pub work_pop : (room len : ℕ) (ts : List ℕ) (d : ℕ) → get_or ts d 0 ≤ stride → work room (len + 1 + d) ts d < work room (len + (d + 1)) ts (d + 1)
work_pop room len ts d h = omega (arith, rest-top ts d, ap (λ (z : ℕ). (room - z) * (stride + 2)) {x = len + 1 + d} {y = len + (d + 1)} (omega arith))

-- ---- a copy met

module _ (I border room size : ℕ) (ln lb : List ℕ) (n : ℕ) (y : Copy) (mark : ℕ) (seen : List ℕ) (i : ℕ) (f : First (λ j. copy_at ln lb j ≡ y) n i) where
  pub meet-leaf : i < n → Meet I border room size (copies_in ln lb n) y mark seen met.Known (set seen i 1)
  meet-leaf h = Meet.leaf refl i (omega (arith, h, length-copies_in ln lb n)) (get_or_copies_in ln lb n i nobody h ∙ f.found h) refl

  pub meet-input : n ≤ i → y.node < I → Meet I border room size (copies_in ln lb n) y mark seen met.NoCut seen
  meet-input h low = Meet.input refl refl (missing ln lb n i y f h) low

  pub meet-beyond : n ≤ i → I ≤ y.node → border < y.back → Meet I border room size (copies_in ln lb n) y mark seen met.NoCut seen
  meet-beyond h low far = Meet.beyond refl refl (missing ln lb n i y f h) low far

  pub meet-full : n ≤ i → I ≤ y.node → mark ≡ 0 → room ≤ size → Meet I border room size (copies_in ln lb n) y mark seen met.NoCut seen
  meet-full h low z full = Meet.full refl refl (missing ln lb n i y f h) low z full

  pub meet-fresh : n ≤ i → I ≤ y.node → y.back ≤ border → mark ≡ 0 → size < room → Meet I border room size (copies_in ln lb n) y mark seen met.New seen
  meet-fresh h low near z free = Meet.fresh refl refl (missing ln lb n i y f h) low near z free

none_known : {r : Met} → r ≡ met.NoCut → r ≡ met.Known → ⊥
none_known z e = cc

none_new : {r : Met} → r ≡ met.NoCut → r ≡ met.New → ⊥
none_new z e = cc

known-new : {r : Met} → r ≡ met.Known → r ≡ met.New → ⊥
known-new z e = cc

-- ---- a pin passed

-- the pin in the net's slice
module _ (G : ℕ) (net : List ℕ) {I width room len : ℕ} {hs bs ts : List ℕ} {d : ℕ} {marks : List ℕ}
    (t : TopPin I width room len (drop (sources_at G) net) (drop (counts_at G) net) hs bs ts d marks) where
  abbrev at : ℕ
  at = stride * (get_or hs d 0 - I) + get_or ts d 0

  abbrev source : Copy
  source = copy (get_or net (sources_at G + at) 0) (get_or bs d 0 + get_or net (counts_at G + at) 0)

  pub pin-source : sources_at G + at < length net
  pin-source = source-inside G net t.source

  pub pin-count : counts_at G + at < length net
  pin-count = count-inside G net t.count

  pub pin-read : source ≡ pin_of I (drop (sources_at G) net) (drop (counts_at G) net) (copy_at hs bs d) (get_or ts d 0)
  pin-read = source-read G net (get_or hs d 0 - I) (get_or bs d 0) (get_or ts d 0)

  pub pin-table : place width source < length marks
  pin-table = subst (λ (y : Copy). place width y < length marks) (sym pin-read) t.table

pub leaves-long : {ln lb : List ℕ} {n : ℕ} {seen : List ℕ} → Leaves ln lb n seen → length (copies_in ln lb n) ≤ length seen
leaves-long {ln} {lb} {n} l = omega (arith, l.touched, length-copies_in ln lb n)

module _ {I width border room : ℕ} {so co : List ℕ} {L : List Copy} {len : ℕ} {hs bs ts : List ℕ} {d : ℕ} {marks seen seen' : List ℕ} {r : Met} (t : TopPin I width room len so co hs bs ts d marks)
    (long : length L ≤ length seen)
    {y : Copy} (this : y ≡ pin_of I so co (copy_at hs bs d) (get_or ts d 0)) (m : Meet I border room (len + (d + 1)) L y (get_or marks (place width y) 0) seen r seen') where
  module _ (G v : ℕ) (ps us ds : List ℕ) (field : Field I G width border ps so co marks) (limit : length L * G ≤ room) (few : get_or ts d 0 < pins_of I ps (copy_at hs bs d)) (s : State I G width
      border ps so co L v us ds len hs bs ts (d + 1) marks seen) where
    top-met : copy_at hs bs d ∈ s.met
    top-met = s.trail.stacked d (omega arith)

    gate : get_or hs d 0 - I < G
    gate = inside-gate (copy_at hs bs d) (s.trail.inside (copy_at hs bs d) top-met)

    small : get_or ts d 0 < stride
    small = omega (arith, few, field.wires.pins (get_or hs d 0 - I) gate)

    high : y.node < I + G
    high = omega (arith, ap (λ (c : Copy). c.node) this, field.wires.node (get_or hs d 0 - I) (get_or ts d 0) gate few)

    near : y.back < width
    near = omega (arith, ap (λ (c : Copy). c.back) this, field.near (get_or hs d 0 - I) (get_or ts d 0) gate few, (s.trail.inside (copy_at hs bs d) top-met).near)

    same-state : seen' ≡ seen → State I G width border ps so co L v us ds len hs bs ts (d + 1) marks seen'
    same-state e = subst (State I G width border ps so co L v us ds len hs bs ts (d + 1) marks) (sym e) s

    none : r ≡ met.NoCut → Meet I border room (len + (d + 1)) L y (get_or marks (place width y) 0) seen r seen' → Advanced I G width border room ps so co L v us ds len ts (d + 1) None hs bs ts marks seen'
    none z (Meet.leaf e i h q w) = absurd (none_known z e)
    none z (Meet.input e w a low) = Advanced.denied refl (denied-input s (copy_at hs bs d) top-met (get_or ts d 0) few y this a low) (same-state w)
    none z (Meet.beyond e w a low far) = Advanced.denied refl (denied-beyond s (copy_at hs bs d) top-met (get_or ts d 0) few y this a low high far) (same-state w)
    none z (Meet.known e w n) = absurd (none_known z e)
    none z (Meet.full e w a low f full) = Advanced.denied refl (denied-full s (copy_at hs bs d) top-met (get_or ts d 0) few y this a low high f (omega (arith, limit, full))) (same-state w)
    none z (Meet.fresh e w a low b f g) = absurd (none_new z e)

    abbrev Passed : Type 0
    Passed = Advanced I G width border room ps so co L v us ds len ts (d + 1) (Some (d + 1)) hs bs (set ts d (get_or ts d 0 + 1)) marks seen'

    pass : (s' : State I G width border ps so co L v us ds len hs bs ts (d + 1) marks seen') → Known L seen' s'.met (pin_of I so co (copy_at hs bs d) (get_or ts d 0)) → Passed
    pass s' k = Advanced.moved (d + 1) refl t.fits (work-turn room (len + (d + 1)) ts d (get_or ts d 0) (omega (arith, t.fits, t.turns)) refl small)
        (state-turn us ds len hs bs ts (d + 1) marks seen' s' d (get_or ts d 0) (omega arith) (omega (arith, t.fits, t.turns)) refl few k)

    touched : (i : ℕ) → i < length L → get_or L i nobody ≡ y → Advanced I G width border room ps so co L v us ds len ts (d + 1) (Some (d + 1)) hs bs (set ts d (get_or ts d 0 + 1)) marks (set seen i 1)
    touched i h q =
        let lit : i < length seen = omega (arith, h, long) in
        Advanced.moved (d + 1) refl t.fits (work-turn room (len + (d + 1)) ts d (get_or ts d 0) (omega (arith, t.fits, t.turns)) refl small)
        (state-turn us ds len hs bs ts (d + 1) marks (set seen i 1) (state_touch us ds len hs bs ts (d + 1) marks seen s i h lit (copy_at hs bs d) top-met (get_or ts d 0) few (sym this ∙ sym q)) d
        (get_or ts d 0) (omega arith) (omega (arith, t.fits, t.turns)) refl few
        (inr (i, h, q ∙ this, λ z. bad (get_or-set_same seen i 1 0 lit) z)))
      where
        bad : {a : ℕ} → a ≡ 1 → a ≡ 0 → ⊥
        bad e z = omega arith

    one : r ≡ met.Known → Meet I border room (len + (d + 1)) L y (get_or marks (place width y) 0) seen r seen' → Passed
    one z (Meet.leaf e i h q w) = subst (λ (x : List ℕ). Advanced I G width border room ps so co L v us ds len ts (d + 1) (Some (d + 1)) hs bs (set ts d (get_or ts d 0 + 1)) marks x) (sym w) (touched i h q)
    one z (Meet.input e w a low) = absurd (none_known e z)
    one z (Meet.beyond e w a low far) = absurd (none_known e z)
    one z (Meet.known e w n) = subst (λ (x : List ℕ). Advanced I G width border room ps so co L v us ds len ts (d + 1) (Some (d + 1)) hs bs (set ts d (get_or ts d 0 + 1)) marks x) (sym w)
        (known-passed (subst (λ (c : Copy). c ∈ s.met) this (marked-met s.trail field.wide y near n)))
      where
        known-passed : pin_of I so co (copy_at hs bs d) (get_or ts d 0) ∈ s.met → Advanced I G width border room ps so co L v us ds len ts (d + 1) (Some (d + 1)) hs bs (set ts d (get_or ts d 0 + 1)) marks seen
        known-passed k = Advanced.moved (d + 1) refl t.fits (work-turn room (len + (d + 1)) ts d (get_or ts d 0) (omega (arith, t.fits, t.turns)) refl small)
            (state-turn us ds len hs bs ts (d + 1) marks seen s d (get_or ts d 0) (omega arith) (omega (arith, t.fits, t.turns)) refl few (inl k))
    one z (Meet.full e w a low f full) = absurd (none_known e z)
    one z (Meet.fresh e w a low b f g) = absurd (known-new z e)

    abbrev Pushed : List ℕ → Type 0
    Pushed x = Advanced I G width border room ps so co L v us ds len ts (d + 1) (Some (d + 1 + 1)) (set hs (d + 1) y.node) (set bs (d + 1) y.back) (set (set ts (d + 1) 0) d (get_or ts d 0 + 1)) (set
        marks (place width y) 1) x

    pushed : ¬ (y ∈ L) → I ≤ y.node → y.back ≤ border → get_or marks (place width y) 0 ≡ 0 → len + (d + 1) < room → Pushed seen
    pushed a low b f g =
        let inside : Inside I G border y = record { low = low; high = high; near = b } in
        let room' : place width y < length marks = omega (arith, place-below width (I + G) y high near, field.table) in
        let ht : d + 1 < length ts = omega (arith, g, t.turns) in
        let hh : d + 1 < length hs = omega (arith, g, t.nodes) in
        let hb : d + 1 < length bs = omega (arith, g, t.backs) in
        let p = state_push us ds len hs bs ts (d + 1) marks seen s d refl (get_or ts d 0) few y this inside a f room' hh hb ht in
        let k = push_known us ds len hs bs ts (d + 1) marks seen s d refl (get_or ts d 0) few y this inside a f room' hh hb ht in
        let other : ¬ (d ≡ d + 1) = λ (z : d ≡ d + 1). omega (arith, z) in
        let old = copy_at_other hs bs (d + 1) y.node y.back d other in
        Advanced.moved (d + 1 + 1) refl (omega arith) (subst (λ (z : ℕ). work room z (set (set ts (d + 1) 0) d (get_or ts d 0 + 1)) (d + 1 + 1) < work room (len + (d + 1)) ts (d + 1))
        {x = len + (d + 1) + 1} {y = len + (d + 1 + 1)} (omega arith) (work_push room (len + (d + 1)) ts d (get_or ts d 0) ht refl small g))
        (state-turn us ds len (set hs (d + 1) y.node) (set bs (d + 1) y.back) (set ts (d + 1) 0) (d + 1 + 1) (set marks (place width y) 1) seen p d (get_or ts d 0) (omega arith)
        (omega (arith, ht, length-set ts (d + 1) 0)) (get_or-set_other ts (d + 1) d 0 0 other) (omega (arith, few, ap (pins_of I ps) old)) k)

    two : r ≡ met.New → Meet I border room (len + (d + 1)) L y (get_or marks (place width y) 0) seen r seen' → Pushed seen'
    two n (Meet.leaf e i h q w) = absurd (known-new e n)
    two n (Meet.input e w a low) = absurd (none_new e n)
    two n (Meet.beyond e w a low far) = absurd (none_new e n)
    two n (Meet.known e w z) = absurd (known-new e n)
    two n (Meet.full e w a low f full) = absurd (none_new e n)
    two n (Meet.fresh e w a low b f g) = subst Pushed (sym w) (pushed a low b f g)

  pub advance_denied : r ≡ met.NoCut → Advances I width border room so co L len hs bs ts d marks seen None hs bs ts marks seen'
  advance_denied z G v ps us ds field limit few s = none G v ps us ds field limit few s z m

  pub advance_known : r ≡ met.Known → Advances I width border room so co L len hs bs ts d marks seen (Some (d + 1)) hs bs (set ts d (get_or ts d 0 + 1)) marks seen'
  advance_known z G v ps us ds field limit few s = one G v ps us ds field limit few s z m

  pub advance_fresh : r ≡ met.New
      → Advances I width border room so co L len hs bs ts d marks seen (Some (d + 1 + 1)) (set hs (d + 1) y.node) (set bs (d + 1) y.back) (set (set ts (d + 1) 0) d (get_or ts d 0 + 1)) (set marks
      (place width y) 1) seen'
  advance_fresh n G v ps us ds field limit few s = two G v ps us ds field limit few s n m

  pub fresh-free : r ≡ met.New → len + (d + 1) < room
  fresh-free n = go m
    where
      go : Meet I border room (len + (d + 1)) L y (get_or marks (place width y) 0) seen r seen' → len + (d + 1) < room
      go (Meet.leaf e i h q w) = absurd (known-new e n)
      go (Meet.input e w a low) = absurd (none_new e n)
      go (Meet.beyond e w a low far) = absurd (none_new e n)
      go (Meet.known e w z) = absurd (known-new e n)
      go (Meet.full e w a low f full) = absurd (none_new e n)
      go (Meet.fresh e w a low b f g) = g

  pub advance_pushed : {hs' bs' ts' marks' : List ℕ} → r ≡ met.New → hs' ≡ set hs (d + 1) y.node → bs' ≡ set bs (d + 1) y.back → ts' ≡ set ts (d + 1) 0
      → marks' ≡ set marks (place width y) 1
      → Advances I width border room so co L len hs bs ts d marks seen (Some (d + 1 + 1)) hs' bs' (set ts' d (get_or ts d 0 + 1)) marks' seen'
  advance_pushed {hs'} {bs'} {ts'} {marks'} n a b e f =
      subst (λ (x : List ℕ). Advances I width border room so co L len hs bs ts d marks seen (Some (d + 1 + 1)) x bs' (set ts' d (get_or ts d 0 + 1)) marks' seen') (sym a)
      (subst (λ (x : List ℕ). Advances I width border room so co L len hs bs ts d marks seen (Some (d + 1 + 1)) (set hs (d + 1) y.node) x (set ts' d (get_or ts d 0 + 1)) marks' seen') (sym b)
      (subst (λ (x : List ℕ). Advances I width border room so co L len hs bs ts d marks seen (Some (d + 1 + 1)) (set hs (d + 1) y.node) (set bs (d + 1) y.back) (set x d (get_or ts d 0 + 1)) marks'
      seen') (sym e)
      (subst (λ (x : List ℕ). Advances I width border room so co L len hs bs ts d marks seen (Some (d + 1 + 1)) (set hs (d + 1) y.node) (set bs (d + 1) y.back) (set (set ts (d + 1) 0) d
      (get_or ts d 0 + 1)) x seen') (sym f)
      (advance_fresh n))))

-- ---- the run

none-some : {r : Option ℕ} {k : ℕ} → r ≡ None → r ≡ Some k → ⊥
none-some z e = cc

some-same : {r : Option ℕ} {j k : ℕ} → r ≡ Some j → r ≡ Some k → j ≡ k
some-same z e = cc

pub field-more : {I G width border : ℕ} {ps so co marks marks' : List ℕ} → length marks' ≡ length marks → Field I G width border ps so co marks → Field I G width border ps so co marks'
field-more e f = record { wires = f.wires; wide = f.wide; near = f.near; table = omega (arith, e, f.table) }

pub leaves-more : {ln lb : List ℕ} {n : ℕ} {seen seen' : List ℕ} → length seen' ≡ length seen → Leaves ln lb n seen → Leaves ln lb n seen'
leaves-more e l = record { nodes = l.nodes; backs = l.backs; touched = omega (arith, e, l.touched); rising = l.rising }

module _ {I G width border room : ℕ} {ps so co ln lb : List ℕ} {n v : ℕ} {us ds : List ℕ} {len : ℕ} {hs bs ts : List ℕ} {depth : ℕ} {seen marks : List ℕ}
    (t : Turn I G width border room ps so co ln lb n v us ds len hs bs ts depth seen marks) (some : 1 ≤ depth) where
  top-state : State I G width border ps so co (copies_in ln lb n) v us ds len hs bs ts (depth - 1 + 1) marks seen
  top-state = subst (λ (z : ℕ). State I G width border ps so co (copies_in ln lb n) v us ds len hs bs ts z marks seen) {x = depth} {y = depth - 1 + 1} (omega arith) t.state

  inside-top : Inside I G border (copy_at hs bs (depth - 1))
  inside-top = t.state.trail.inside (copy_at hs bs (depth - 1)) (t.state.trail.stacked (depth - 1) (omega arith))

  pub top-low : I ≤ get_or hs (depth - 1) 0
  top-low = inside-top.low

  pub top-gate : get_or hs (depth - 1) 0 - I < length ps
  top-gate = omega (arith, inside-gate (copy_at hs bs (depth - 1)) inside-top, t.field.wires.sizes)

  pub top_below : depth - 1 < room
  top_below = omega (arith, t.fits)

  pub top-table : get_or hs (depth - 1) 0 * width + get_or bs (depth - 1) 0 < length marks
  top-table = omega (arith, place-below width (I + G) (copy_at hs bs (depth - 1)) inside-top.high (omega (arith, inside-top.near, t.field.wide)), t.field.table)

  limit-leaves : length (copies_in ln lb n) * G ≤ room
  limit-leaves = subst (λ (z : ℕ). z * G ≤ room) (sym (length-copies_in ln lb n)) t.limit

  pub top-pin : get_or ts (depth - 1) 0 < get_or ps (get_or hs (depth - 1) 0 - I) 0 → TopPin I width room len so co hs bs ts (depth - 1) marks
  top-pin few =
      let g : get_or hs (depth - 1) 0 - I < G = inside-gate (copy_at hs bs (depth - 1)) inside-top in
      let w = t.field.wires in
      let j = get_or ts (depth - 1) 0 in
      let a = w.pins (get_or hs (depth - 1) 0 - I) g in
      record {
        fits = omega (arith, t.fits);
        nodes = t.nodes;
        backs = t.backs;
        turns = t.turns;
        low = top-low;
        source = omega (arith, a, g, few, w.room);
        count = omega (arith, a, g, few, w.room');
        table = omega (
          arith,
          place-below width (I + G) (pin_of I so co (copy_at hs bs (depth - 1)) (get_or ts (depth - 1) 0)) (w.node (get_or hs (depth - 1) 0 - I) (get_or ts (depth - 1) 0) g few)
              (omega (arith, t.field.near (get_or hs (depth - 1) 0 - I) (get_or ts (depth - 1) 0) g few, inside-top.near)),
          t.field.table,
        );
      }

  module _ (r : Option ℕ) (hs' bs' ts' marks' seen' : List ℕ) (few : get_or ts (depth - 1) 0 < get_or ps (get_or hs (depth - 1) 0 - I) 0)
      (step : Advances I width border room so co (copies_in ln lb n) len hs bs ts (depth - 1) marks seen r hs' bs' ts' marks' seen')
      (eh : length hs' ≡ length hs) (eb : length bs' ≡ length bs) (et : length ts' ≡ length ts) (em : length marks' ≡ length marks) (es : length seen' ≡ length seen) where
    stepped : Advanced I G width border room ps so co (copies_in ln lb n) v us ds len ts (depth - 1 + 1) r hs' bs' ts' marks' seen'
    stepped = step G v ps us ds t.field limit-leaves few top-state

    turned : (depth' : ℕ) → len + depth' ≤ room → State I G width border ps so co (copies_in ln lb n) v us ds len hs' bs' ts' depth' marks' seen'
        → Turn I G width border room ps so co ln lb n v us ds len hs' bs' ts' depth' seen' marks'
    turned depth' fits s = record {
      field = field-more em t.field;
      leaves = leaves-more es t.leaves;
      limit = t.limit;
      list_nodes = t.list_nodes;
      list_backs = t.list_backs;
      nodes = eh ∙ t.nodes;
      backs = eb ∙ t.backs;
      turns = et ∙ t.turns;
      fits = fits;
      state = s;
    }

    pub run_moved : (k : ℕ) → r ≡ Some k → Turn I G width border room ps so co ln lb n v us ds len hs' bs' ts' k seen' marks' × (work room (len + k) ts' k < work room (len + depth) ts depth)
    run_moved k z = go stepped
      where
        go : Advanced I G width border room ps so co (copies_in ln lb n) v us ds len ts (depth - 1 + 1) r hs' bs' ts' marks' seen'
            → Turn I G width border room ps so co ln lb n v us ds len hs' bs' ts' k seen' marks' × (work room (len + k) ts' k < work room (len + depth) ts depth)
        go (Advanced.denied e a s) = absurd (none-some e z)
        go (Advanced.moved j o fits less s) =
            let same : j ≡ k = some-same o z in
            subst (λ (i : ℕ). Turn I G width border room ps so co ln lb n v us ds len hs' bs' ts' i seen' marks' × (work room (len + i) ts' i < work room (len + depth) ts depth)) same
            (turned j fits s, subst (λ (q : ℕ). work room (len + j) ts' j < work room (len + q) ts q) {x = depth - 1 + 1} {y = depth} (omega arith) less)

    pub run-denied : r ≡ None → Ran I G width border room ps so co ln lb n v us ds len hs' bs' ts' depth seen' marks'
    run-denied z = go stepped
      where
        go : Advanced I G width border room ps so co (copies_in ln lb n) v us ds len ts (depth - 1 + 1) r hs' bs' ts' marks' seen'
            → Ran I G width border room ps so co ln lb n v us ds len hs' bs' ts' depth seen' marks'
        go (Advanced.denied e a s) = record {
          turn = turned depth t.fits (subst (λ (q : ℕ). State I G width border ps so co (copies_in ln lb n) v us ds len hs' bs' ts' q marks' seen') {x = depth - 1 + 1} {y = depth} (omega arith) s);
          denied = λ h. a;
        }
        go (Advanced.moved j o fits less s) = absurd (none-some z o)

  -- the top copy has no pin left
  module _ (full : get_or ps (get_or hs (depth - 1) 0 - I) 0 ≤ get_or ts (depth - 1) 0) {us' ds' marks' : List ℕ} (eu : us' ≡ set us len (get_or hs (depth - 1) 0)) (ed : ds' ≡ set ds len
      (get_or bs (depth - 1) 0))
      (em : marks' ≡ set marks (get_or hs (depth - 1) 0 * width + get_or bs (depth - 1) 0) (seat_mark len)) where
    left : State I G width border ps so co (copies_in ln lb n) v (set us len (get_or hs (depth - 1) 0)) (set ds len (get_or bs (depth - 1) 0)) (len + 1) hs bs ts (depth - 1)
        (set marks (get_or hs (depth - 1) 0 * width + get_or bs (depth - 1) 0) (seat_mark len)) seen
    left = state_pop us ds len hs bs ts (depth - 1) marks seen top-state t.field.wide full (copy_at hs bs (depth - 1)) refl top-table (omega (arith, t.fits, t.list_nodes)) (omega
        (arith, t.fits, t.list_backs))

    pub run-left : Turn I G width border room ps so co ln lb n v us' ds' (len + 1) hs bs ts (depth - 1) seen marks'
    run-left = record {
      field = field-more (ap length em ∙ length-set marks (get_or hs (depth - 1) 0 * width + get_or bs (depth - 1) 0) (seat_mark len)) t.field;
      leaves = t.leaves;
      limit = t.limit;
      list_nodes = ap length eu ∙ length-set us len (get_or hs (depth - 1) 0) ∙ t.list_nodes;
      list_backs = ap length ed ∙ length-set ds len (get_or bs (depth - 1) 0) ∙ t.list_backs;
      nodes = t.nodes;
      backs = t.backs;
      turns = t.turns;
      fits = omega (arith, t.fits);
      state =
          subst (λ (x : List ℕ). State I G width border ps so co (copies_in ln lb n) v x ds' (len + 1) hs bs ts (depth - 1) marks' seen) (sym eu)
          (subst (λ (x : List ℕ). State I G width border ps so co (copies_in ln lb n) v (set us len (get_or hs (depth - 1) 0)) x (len + 1) hs bs ts (depth - 1) marks' seen) (sym ed)
          (subst (λ (x : List ℕ). State I G width border ps so co (copies_in ln lb n) v (set us len (get_or hs (depth - 1) 0)) (set ds len (get_or bs (depth - 1) 0)) (len + 1) hs bs ts (depth - 1) x
          seen) (sym em) left));
    }

  pub work-left : work room (len + 1 + (depth - 1)) ts (depth - 1) < work room (len + depth) ts depth
  work-left =
      let g : get_or hs (depth - 1) 0 - I < G = inside-gate (copy_at hs bs (depth - 1)) inside-top in
      let a : get_or ts (depth - 1) 0 ≤ stride = omega (arith, t.state.few (depth - 1) (omega arith), t.field.wires.pins (get_or hs (depth - 1) 0 - I) g) in
      subst (λ (q : ℕ). work room (len + 1 + (depth - 1)) ts (depth - 1) < work room (len + q) ts q) {x = depth - 1 + 1} {y = depth} (omega arith) (work_pop room len ts (depth - 1) a)

-- the stack is empty
pub run-done : {I G width border room : ℕ} {ps so co ln lb : List ℕ} {n v : ℕ} {us ds : List ℕ} {len : ℕ} {hs bs ts : List ℕ} {depth : ℕ} {seen marks : List ℕ}
    → Turn I G width border room ps so co ln lb n v us ds len hs bs ts depth seen marks → depth ≤ 0 → Ran I G width border room ps so co ln lb n v us ds len hs bs ts 0 seen marks
run-done {I} {G} {width} {border} {room} {ps} {so} {co} {ln} {lb} {n} {v} {us} {ds} {len} {hs} {bs} {ts} {depth} {seen} {marks} t h = record {
  turn = subst (λ (z : ℕ). Turn I G width border room ps so co ln lb n v us ds len hs bs ts z seen marks) {x = depth} {y = 0} (omega arith) t;
  denied = λ z. absurd (not-suc-le-zero z);
}

-- ---- marks that go

pub wiped-none : (width : ℕ) (us ds marks : List ℕ) → Wiped width us ds 0 marks marks
wiped-none width us ds marks = record { each = λ q n. (refl, λ p h. absurd (not-suc-le-zero h)) }

pub wiped-more : (width : ℕ) (us ds : List ℕ) (p : ℕ) (marks marks' : List ℕ) → place width (copy_at us ds p) < length marks' → Wiped width us ds p marks marks'
    → Wiped width us ds (p + 1) marks (set marks' (place width (copy_at us ds p)) 0)
wiped-more width us ds p marks marks' room w = record { each = λ q n. go q n (ℕ_discrete q (place width (copy_at us ds p))) }
  where
    go : (q : ℕ) → ¬ (get_or (set marks' (place width (copy_at us ds p)) 0) q 0 ≡ 0) → Dec (q ≡ place width (copy_at us ds p))
        → (get_or (set marks' (place width (copy_at us ds p)) 0) q 0 ≡ get_or marks q 0) × ((i : ℕ) → i < p + 1 → ¬ (place width (copy_at us ds i) ≡ q))
    go q n (yes e) = absurd (n (ap (λ (x : ℕ). get_or (set marks' (place width (copy_at us ds p)) 0) x 0) e ∙ get_or-set_same marks' (place width (copy_at us ds p)) 0 0 room))
    go q n (no m) =
        let o = get_or-set_other marks' (place width (copy_at us ds p)) q 0 0 m in
        let b = w.each q (λ z. n (o ∙ z)) in
        (o ∙ b.0, λ i h z. each i h z (ℕ_discrete i p) b.1)
      where
        each : (i : ℕ) → i < p + 1 → place width (copy_at us ds i) ≡ q → Dec (i ≡ p) → ((i : ℕ) → i < p → ¬ (place width (copy_at us ds i) ≡ q)) → ⊥
        each i h z (yes e) f = m (sym z ∙ ap (λ (x : ℕ). place width (copy_at us ds x)) e)
        each i h z (no o) f = f i (omega arith) z

pub wiped-all : (width : ℕ) (us ds : List ℕ) (p len : ℕ) (marks marks' : List ℕ) → len ≤ p → Wiped width us ds p marks marks' → Wiped width us ds len marks marks'
wiped-all width us ds p len marks marks' h w = record { each = λ q n. ((w.each q n).0, λ i g. (w.each q n).1 i (omega arith)) }
