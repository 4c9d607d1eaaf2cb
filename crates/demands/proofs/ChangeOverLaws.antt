-- Laws of document 02, E7: with a contents area the call is E6's with another start; without one it is 1, 2 or 3.
use mathlib.Core.Path.{◌≡◌, refl, sym, ap, ◌∙◌}
use Rattle.std.specs.Prelude.{List, ◌++◌, Bool, ◌⊎◌, ◌↔◌, ℕ, zero, suc, ◌+◌, ◌≤◌, ◌<◌, length}
use Rattle.std.proofs.Common.{inl, inr, arith}
use Rattle.std.proofs.Math.Decide.{ℕ_discrete}
use Rattle.limits.specs.Limits.{most_count, scratch_area}
use Rattle.limits.specs.Courses.{long}
use Rattle.net_model.specs.Net.{IsInput}
use Rattle.net_model.specs.Copies.{Copy}
use Rattle.net_bytes.specs.Walk.{Drawn}
use Rattle.run_theory.specs.Bench.{value_at, Keeps}
use Rattle.run_theory.specs.BenchBytes.{section_in, pairs_in, kept_after}
use Rattle.run_theory.proofs.BenchLaws.{bench}
use Rattle.run_theory.proofs.StepLaws.{keeps-before}
use Rattle.board_theory.specs.Contents.{contents_bytes, contents_of, board_shows, net_shows}
use Rattle.board_theory.proofs.ContentsLaws.{change-over}
use Rattle.board_theory.proofs.ContentsNear.{contents-near}
use Rattle.cover_records.specs.ChangeLaws.{wanting_none, change-lent, change-beside, change-first}
use Rattle.cover_records.specs.ChangeOutcome.{contents_wanting, change_outcome}
use Rattle.cover_records.specs.CoverBytes.{Record}
use Rattle.cover_records.specs.ForwardLaws.{forward-early, forward-small, entries-tabled}
use Rattle.cover_records.specs.ForwardOutcome.{ForwardOutcome, contents_short}
use Rattle.cover_records.specs.LoaderOutcome.{LoaderOutcome}
use Rattle.cover_records.specs.Outcomes.{Answer, accepted, turned_back, cleared, map_sizes, written}
use Rattle.job_sizes.specs.Sizes.{sizes_of}
use Rattle.job_sizes.specs.SizeLaws.{map-sizes_are}
use Rattle.demands.specs.BenchRun.{IsDrawn}
use Rattle.demands.proofs.CallLaws.{turned-not, turned_same}
use Rattle.demands.proofs.Demand3.{map-fit}
use Rattle.demands.specs.Endings.{Said, fits, said1, said2, said3}
use Rattle.demands.proofs.OrderLaws.{sizes_said, net-range}
use Rattle.demands.specs.ForwardMap.{ForwardCall, forward_done, ForwardFails, turn, FirstInTurn, Read, cover_in, tables_in}
use Rattle.demands.proofs.ForwardTurns.{turn_20, turn_low, turn-high, first_one}
use Rattle.demands.proofs.ForwardEnds.{Start, refusing, done}
use Rattle.demands.proofs.ForwardMapLaws.{number_of, accepts-of, left, contents-at, near-counts, sure, begins}
use Rattle.demands.specs.ChangeOver.{ChangeCall, change_done, step_of, ChangeFails, ChangeOver}

module _ (c : ChangeCall) where
  abbrev call : ForwardCall
  call = c.call

  abbrev start : Start
  start = kept_after c.pairs

  -- with a contents area it is E6's call from another start; without one 1, 2 or 3 is told, and all keeps its bytes
  data Ways : Type 0 where
    lent : 0 < length call.contents → change_done c ≡ done call start → Ways
    unlent : length call.contents ≡ 0 → (n : ℕ) → n ≤ 3 → FirstInTurn (ChangeFails c) n → change_done c ≡ refusing call start n call.scratch → Ways

  abbrev sizes : ℕ
  sizes = map_sizes long call.k call.target call.area call.scratch

  -- ---- no contents area
  module _ (none : length call.contents ≡ 0) where
    -- E6 tells 1 to 3 in the same way
    soon : (n : ℕ) → suc n ≤ 3 → sizes ≡ suc n → Ways
    unfolding change_outcome
    soon n h e =
        unlent none (suc n) h (record { fails = ChangeFails.forward first.fails; none = before })
        (forward-early long (contents_wanting call.contents) start call.net call.k call.target call.area call.scratch call.loader call.contents n e)
      where
        first : FirstInTurn (ForwardFails call) (suc n)
        first =
            (number_of call start (suc n)).0
            (ap (λ (o : ForwardOutcome). o.answer) (forward-early long (contents_short call.contents) start call.net call.k call.target call.area call.scratch call.loader call.contents n e))

        before : (m : ℕ) → turn m < turn (suc n) → ¬ ChangeFails c m
        before m l (ChangeFails.forward f) = first.none m l f
        before m l (ChangeFails.missing z q) = omega (arith, turn_low m (omega (arith, q)), turn_low (suc n) (omega (arith, h)))

    -- 3
    at-three : sizes ≡ 0 → Ways
    unfolding change_outcome
    at-three z =
        unlent none 3 (omega arith) (record { fails = ChangeFails.missing none refl; none = before })
        (forward-small long (contents_wanting call.contents) start call.net call.k call.target call.area call.scratch call.loader call.contents z (wanting_none call.contents none))
      where
        three : turn 3 ≡ 6
        three = turn_low 3 (omega arith)

        before : (m : ℕ) → turn m < turn 3 → ¬ ChangeFails c m
        before m l (ChangeFails.missing e q) = omega (arith, three, turn_low m (omega (arith, q)))
        before m l (ChangeFails.forward (ForwardFails.outside f q)) = let t = map-fit call.k call.target call.area call.scratch z in f (t.low, t.high)
        before m l (ChangeFails.forward (ForwardFails.above f q)) = let t = (map-fit call.k call.target call.area call.scratch z).near in omega arith
        before m l (ChangeFails.forward (ForwardFails.room f q)) = omega (arith, three, turn_low m (omega (arith, q)))
        before m l (ChangeFails.forward (ForwardFails.space f q)) = omega (arith, three, turn_low m (omega (arith, q)))
        before m l (ChangeFails.forward (ForwardFails.of_net f)) = let r = net-range call.k call.net m f in omega (arith, three, r.0, turn_low m (omega (arith, r.1)))
        before m l (ChangeFails.forward (ForwardFails.small f g q)) = omega (arith, three, turn_low m (omega (arith, q)))
        before m l (ChangeFails.forward (ForwardFails.load f g q)) = omega (arith, three, turn_20, ap turn q)
        before m l (ChangeFails.forward (ForwardFails.sectionless f x i y q)) = omega (arith, three, turn-high m (omega (arith, q)))
        before m l (ChangeFails.forward (ForwardFails.unmet N i t f q)) = omega (arith, three, turn-high m (omega (arith, q)))

    without : Ways
    without = go (sizes_said call.k call.target (length call.area) (length call.scratch))
      where
        same : {n : ℕ} → sizes_of long call.k call.target (length call.area) (length call.scratch) ≡ n → sizes ≡ n
        same e = map-sizes_are long call.k call.target call.area call.scratch ∙ e

        go : Said call.k call.target (length call.area) (length call.scratch) (sizes_of long call.k call.target (length call.area) (length call.scratch)) → Ways
        go (said1 e f) = soon 0 (omega arith) (same e)
        go (said2 e l h f) = soon 1 (omega arith) (same e)
        go (said3 e l h n f) = soon 2 (omega arith) (same e)
        go (fits e f) = at-three (same e)

  ways : Ways
  ways = go (ℕ_discrete (length call.contents) 0)
    where
      go : Dec (length call.contents ≡ 0) → Ways
      go (yes e) = without e
      go (no n) =
          let h : 0 < length call.contents = omega (arith, n) in
          lent h (change-lent long call.net call.k call.target c.pairs call.area call.scratch call.loader call.contents h)

  -- ---- refusals

  -- with a contents area E6's checks alone fail
  only : 0 < length call.contents → {m : ℕ} → ChangeFails c m → ForwardFails call m
  only h (ChangeFails.forward f) = f
  only h (ChangeFails.missing z q) = absurd (omega arith)

  first-only : 0 < length call.contents → {n : ℕ} → FirstInTurn (ForwardFails call) n ↔ FirstInTurn (ChangeFails c) n
  first-only h = (
    λ f. record { fails = ChangeFails.forward f.fails; none = λ m l g. f.none m l (only h g) },
    λ f. record { fails = only h f.fails; none = λ m l g. f.none m l (ChangeFails.forward g) },
  )

  abbrev answering : ForwardOutcome → Answer
  answering o = o.answer

  number_is : (n : ℕ) → ((change_done c).answer ≡ turned_back n) ↔ FirstInTurn (ChangeFails c) n
  number_is n = go ways
    where
      go : Ways → ((change_done c).answer ≡ turned_back n) ↔ FirstInTurn (ChangeFails c) n
      go (lent h q) = (
        λ e. (first-only h).0 ((number_of call start n).0 (sym (ap answering q) ∙ e)),
        λ f. ap answering q ∙ (number_of call start n).1 ((first-only h).1 f),
      )
      go (unlent z m h f q) = (
        λ e. mathlib.Core.Path.subst (FirstInTurn (ChangeFails c)) (turned_same (sym (ap answering q) ∙ e)) f,
        λ g. ap answering q ∙ ap turned_back (first_one f g),
      )

  accepts-is : ((n : ℕ) × ((change_done c).answer ≡ accepted n)) ↔ ((m : ℕ) → ¬ ChangeFails c m)
  accepts-is = go ways
    where
      go : Ways → ((n : ℕ) × ((change_done c).answer ≡ accepted n)) ↔ ((m : ℕ) → ¬ ChangeFails c m)
      go (lent h q) = (
        λ e m f. (accepts-of call start).0 (e.0, sym (ap answering q) ∙ e.1) m (only h f),
        λ f. let a = (accepts-of call start).1 (λ m g. f m (ChangeFails.forward g)) in (a.0, ap answering q ∙ a.1),
      )
      go (unlent z m h f q) = (λ e. absurd (turned-not (sym (ap answering q) ∙ e.1)), λ g. absurd (g m f.fails))

  -- what a refusal leaves
  record Stays (n : ℕ) : Type 0 where
    area : (change_done c).area ≡ call.area
    loader : (change_done c).loader ≡ call.loader
    contents : (change_done c).contents ≡ call.contents
    kept : n ≤ 3 → (change_done c).scratch ≡ call.scratch
    wiped : 3 < n → (change_done c).scratch ≡ cleared scratch_area call.scratch

  stays : (n : ℕ) → (change_done c).answer ≡ turned_back n → Stays n
  stays n e = go ways
    where
      go : Ways → Stays n
      go (lent h q) =
          let l = left call start n (sym (ap answering q) ∙ e) in
          record {
            area = ap (λ (o : ForwardOutcome). o.area) q ∙ l.area;
            loader = ap (λ (o : ForwardOutcome). o.loader) q ∙ l.loader;
            contents = ap (λ (o : ForwardOutcome). o.contents) q ∙ l.contents;
            kept = λ s. ap (λ (o : ForwardOutcome). o.scratch) q ∙ l.kept s;
            wiped = λ s. ap (λ (o : ForwardOutcome). o.scratch) q ∙ l.wiped s;
          }
      go (unlent z m h f q) =
          let s : m ≡ n = turned_same (sym (ap answering q) ∙ e) in
          record {
            area = ap (λ (o : ForwardOutcome). o.area) q;
            loader = ap (λ (o : ForwardOutcome). o.loader) q;
            contents = ap (λ (o : ForwardOutcome). o.contents) q;
            kept = λ l. ap (λ (o : ForwardOutcome). o.scratch) q;
            wiped = λ l. absurd (omega (arith, s, h, l));
          }

  -- ---- accepted calls

  lent_is : (n : ℕ) → (change_done c).answer ≡ accepted n → 0 < length call.contents
  lent_is n e = go ways
    where
      go : Ways → 0 < length call.contents
      go (lent h q) = h
      go (unlent z m h f q) = absurd (turned-not (sym (ap answering q) ∙ e))

  beside : 0 < length call.contents → (part : LoaderOutcome → List ℕ) → part (record { answer = (change_done c).answer; area = (change_done c).area; scratch = (change_done c).scratch; loader = (change_done c).loader })
      ≡ part (record { answer = (forward_done call).answer; area = (forward_done call).area; scratch = (forward_done call).scratch; loader = (forward_done call).loader })
  beside h part = ap part (change-beside long call.net call.k call.target c.pairs call.area call.scratch call.loader call.contents h)

  same-is : 0 < length call.contents
      → ((change_done c).answer ≡ (forward_done call).answer) × ((change_done c).area ≡ (forward_done call).area) × ((change_done c).scratch ≡ (forward_done call).scratch)
      × ((change_done c).loader ≡ (forward_done call).loader)
  same-is h = (
    ap (λ (o : LoaderOutcome). o.answer) (change-beside long call.net call.k call.target c.pairs call.area call.scratch call.loader call.contents h),
    beside h (λ o. o.area),
    beside h (λ o. o.scratch),
    beside h (λ o. o.loader),
  )

  -- a record read is one of the call from this start
  module _ {n : ℕ} (d : Drawn) (x : IsDrawn call.k call.net d) (r : Record) (t : Read call (change_done c) n d.net r) where
    h : 0 < length call.contents
    h = lent_is n t.told

    is : change_done c ≡ done call start
    is = change-lent long call.net call.k call.target c.pairs call.area call.scratch call.loader call.contents h

    read : Read call (done call start) n d.net r
    read = mathlib.Core.Path.subst (λ (o : ForwardOutcome). Read call o n d.net r) is t

    contents-is : (three : ℕ → ℕ → Bool) → Keeps d.net most_count (section_in d.section) (value_at d.net (section_in d.section) (pairs_in c.pairs)) three (step_of c)
        → (change_done c).contents ≡ written (contents_of d.net (cover_in d.net r) three) call.contents
    contents-is three keeps =
        let y = sure call start n d.net r read in
        ap (λ (o : ForwardOutcome). o.contents) is ∙ contents-at call start n d x r read h
        ∙ ap (λ (l : List ℕ). written l call.contents)
        (contents-near y.right.is_cover y.forward y.passed.sound y.passed.loopless (near-counts call start t.is_net).0 (λ v j i l. sym (keeps v j i l)))

    continues-is : (contents : ℕ → Copy → ℕ → Bool) (last : ℕ → ℕ → Bool) (rest : List ℕ) → (change_done c).contents ≡ contents_bytes d.net (cover_in d.net r) contents last ++ rest
        → (inputs : ℕ → ℕ → Bool) → ((u s : ℕ) → IsInput d.net u → s < step_of c → inputs u s ≡ pairs_in c.pairs u s)
        → (o : ℕ) → o < length d.net.outputs → (s : ℕ)
        → board_shows d.net (cover_in d.net r) r.period (tables_in r) contents last (λ u i. inputs u (i + step_of c)) o s ≡ net_shows d.net (section_in d.section) inputs o (s + step_of c)
    continues-is contents last rest e inputs given =
        let y = sure call start n d.net r read in
        let section = section_in d.section in
        change-over y.right.is_cover y.forward y.passed.sound y.passed.loopless r.period y.positive y.right.meets (entries-tabled y.passed y.right.tables) contents last
        (near-counts call start t.is_net).0 section inputs (start d.net d.section) (step_of c)
        (keeps-before y.passed.sound y.passed.loopless (bench y.passed.sound y.passed.loopless section (pairs_in c.pairs)) (bench y.passed.sound y.passed.loopless section inputs) most_count (step_of c)
        (λ u s i l. sym (given u s i l)))
        (begins call start n d x r read h contents last rest (sym (ap (λ (o : ForwardOutcome). o.contents) is) ∙ e))

-- **All of it is proved.**
pub change-over-map : ChangeOver
change-over-map = record {
  number = number_is;
  accepts = accepts-is;
  kept = λ c n e. let s = stays c n e in (s.area, s.loader, s.contents);
  early = λ c n e. (stays c n e).kept;
  late = λ c n e. (stays c n e).wiped;
  same = same-is;
  zero = λ c h z. change-first long c.call.net c.call.k c.call.target c.pairs c.call.area c.call.scratch c.call.loader c.call.contents h z;
  lent = lent_is;
  contents = λ c n d x r t. contents-is c d x r t;
  continues = λ c n d x r t. continues-is c d x r t;
}
