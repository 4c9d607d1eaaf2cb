-- What the whole walk asks, and its ways out.
use Rattle.std.specs.Prelude.{◌≡◌, List, ℕ, ◌+◌, ◌*◌, ◌≤◌, ◌<◌, length, get_or, set}
use Rattle.std.proofs.Common.{sym, ap, ◌∙◌, subst, mul-le-mul, arith, length-set}
use Rattle.sequences.specs.Tests.{First}
use Rattle.net_model.specs.Arrays.{copy_at}
use Rattle.net_model.specs.Copies.{Copy, copy}
use Rattle.cone_copies.specs.CopyLists.{copies_in}
use Rattle.cone_copies.specs.CopyListLaws.{length-copies_in, found_in, missing}
use Rattle.cone_walk.specs.Walking.{refuted-root, refuted-cut}
use Rattle.cone_descent.specs.Descent.{Clear, Inside, State, Denied, Wiped, ToldNone, ToldCut, place}
use Rattle.cone_descent.specs.TrailLaws.{place-below}
use Rattle.cone_descent.specs.DescentLaws.{state-start}
use Rattle.cone_descent.specs.DescentEnds.{seated-clear, trail-clear, trail-seated, told-cut, denied-untouched}
use Rattle.cone_descent.specs.DescentSteps.{Turn, Ran, Asked}
use Rattle.cone_descent.specs.DescentStepLaws.{field-more}

module _ {I G width border room : ℕ} {ps so co ln lb : List ℕ} {n g : ℕ} {us ds hs bs ts seen marks : List ℕ} (a : Asked I G width border room ps so co ln lb n g us ds hs bs ts seen marks) where
  pub root-table : (I + g) * width < length marks
  root-table = omega (arith, place-below width (I + G) (copy (I + g) 0) (omega (arith, a.root)) (omega (arith, a.field.wide)), a.field.table)

  pub root-fits : I + g < length marks
  root-fits =
      let one : (I + g) * 1 ≤ (I + g) * width = mul-le-mul one_le one-wide in
      omega (arith, root-table, one)
    where
      one_le : I + g ≤ I + g
      one_le = omega arith

      one-wide : 1 ≤ width
      one-wide = omega (arith, a.field.wide)

  -- the root is opened
  pub start-turn : (i : ℕ) {hs' bs' ts' marks' : List ℕ} → First (λ j. copy_at ln lb j ≡ copy (I + g) 0) n i → n ≤ i
      → hs' ≡ set hs 0 (I + g) → bs' ≡ set bs 0 0 → ts' ≡ set ts 0 0 → marks' ≡ set marks ((I + g) * width) 1
      → Turn I G width border room ps so co ln lb n (I + g) us ds 0 hs' bs' ts' 1 seen marks'
  start-turn i {hs'} {bs'} {ts'} {marks'} f h eh eb et em = record {
    field = field-more (ap length em ∙ length-set marks ((I + g) * width) 1) a.field;
    leaves = a.leaves;
    limit = a.limit;
    list_nodes = a.list_nodes;
    list_backs = a.list_backs;
    nodes = ap length eh ∙ length-set hs 0 (I + g) ∙ a.nodes;
    backs = ap length eb ∙ length-set bs 0 0 ∙ a.backs;
    turns = ap length et ∙ length-set ts 0 0 ∙ a.turns;
    fits = a.some;
    state =
        subst (λ (x : List ℕ). State I G width border ps so co (copies_in ln lb n) (I + g) us ds 0 x bs' ts' 1 marks' seen) (sym eh)
        (subst (λ (x : List ℕ). State I G width border ps so co (copies_in ln lb n) (I + g) us ds 0 (set hs 0 (I + g)) x ts' 1 marks' seen) (sym eb)
        (subst (λ (x : List ℕ). State I G width border ps so co (copies_in ln lb n) (I + g) us ds 0 (set hs 0 (I + g)) (set bs 0 0) x 1 marks' seen) (sym et)
        (subst (λ (x : List ℕ). State I G width border ps so co (copies_in ln lb n) (I + g) us ds 0 (set hs 0 (I + g)) (set bs 0 0) (set ts 0 0) 1 x seen) (ap (λ (q : ℕ). set marks q 1) at ∙ sym
        em) first)));
  }
    where
      at : (I + g) * width + 0 ≡ (I + g) * width
      at = omega arith

      first : State I G width border ps so co (copies_in ln lb n) (I + g) us ds 0 (set hs 0 (I + g)) (set bs 0 0) (set ts 0 0) 1 (set marks ((I + g) * width + 0) 1) seen
      first = state-start us ds hs bs ts marks seen (omega arith) (omega (arith, a.root)) (missing ln lb n i (copy (I + g) 0) f h) a.clear a.unseen (omega (arith, root-table))
          (omega (arith, a.some, a.nodes)) (omega (arith, a.some, a.backs)) (omega (arith, a.some, a.turns))

module _ {I G border : ℕ} {ps so co : List ℕ} {L : List Copy} {v : ℕ} where
  -- no cut
  pub told_none : (marks : List ℕ) → Clear marks → Denied I G border ps so co L v → ToldNone I G border ps so co L v marks
  told_none marks clear den = record { none = λ N w R b k. refuted-cut (den N w R b) k; clear = clear }

pub denied-root : {I G border : ℕ} {ps so co : List ℕ} (ln lb : List ℕ) (n v i : ℕ) → First (λ j. copy_at ln lb j ≡ copy v 0) n i → i < n → Denied I G border ps so co (copies_in ln lb n) v
denied-root ln lb n v i f h N w R b = refuted-root (found_in ln lb n i (copy v 0) f h)

module _ {I G width border room : ℕ} {ps so co ln lb : List ℕ} {n v : ℕ} {us ds : List ℕ} {len : ℕ} {hs bs ts : List ℕ} {depth : ℕ} {seen marks : List ℕ}
    (r : Ran I G width border room ps so co ln lb n v us ds len hs bs ts depth seen marks) where
  inside-table : (c : Copy) → Inside I G border c → place width c < length marks
  inside-table c i = omega (arith, place-below width (I + G) c i.high (omega (arith, i.near, r.turn.field.wide)), r.turn.field.table)

  pub list-table : (p : ℕ) → p < len → place width (copy_at us ds p) < length marks
  list-table p h = inside-table (copy_at us ds p) (r.turn.state.trail.inside (copy_at us ds p) (r.turn.state.trail.written p h))

  pub stack_table : (k : ℕ) → k < depth → place width (copy_at hs bs k) < length marks
  stack_table k h = inside-table (copy_at hs bs k) (r.turn.state.trail.inside (copy_at hs bs k) (r.turn.state.trail.stacked k h))

  -- the walk stopped before the stack was empty
  pub told-stop : (marks' marks'' : List ℕ) → 1 ≤ depth → Wiped width us ds len marks marks' → Wiped width hs bs depth marks' marks'' → Clear marks'' × Denied I G border ps so co (copies_in ln lb n) v
  told-stop marks' marks'' h a b = (trail-clear r.turn.state.trail marks' marks'' a b, r.denied h)

  -- a leaf is not touched
  pub told-some : (marks' : List ℕ) (i : ℕ) → depth ≡ 0 → i < n → get_or seen i 0 ≡ 0 → Wiped width us ds len marks marks' → ToldNone I G border ps so co (copies_in ln lb n) v marks'
  told-some marks' i e h z a = told_none marks' (seated-clear width us ds len marks marks' (trail-seated r.turn.state.trail e) a)
      (denied-untouched r.turn.state e r.turn.leaves.rising i (omega (arith, h, length-copies_in ln lb n)) z)

  -- each leaf is
  pub told-all : depth ≡ 0 → ¬ ((i : ℕ) × (i < n) × (get_or seen i 0 ≡ 0)) → ToldCut I G width border ps so co (copies_in ln lb n) v us ds marks len
  told-all e f = told-cut r.turn.state e r.turn.leaves.rising (λ k l z. f (k, omega (arith, l, length-copies_in ln lb n), z)) (omega (arith, r.turn.fits, r.turn.list_nodes))
