-- How a call of map in forward mode ends, whatever its board starts from.
use Rattle.std.specs.Prelude.{◌≡◌, refl, List, ℕ, zero, suc, ◌*◌, ◌≤◌, ◌<◌, eqb, length}
use Rattle.std.proofs.Common.{sym, subst, ap, ◌∙◌, inl, inr, arith, lt-ltb, ltb-true, eqb-true, eq-eqb}
use mathlib.Core.Bool.{Bool, true, false, cond}
use Rattle.limits.specs.Limits.{contents_area, loader_area, most_period, scratch_area}
use Rattle.limits.specs.Courses.{long}
use Rattle.net_model.specs.Net.{Net}
use Rattle.net_model.specs.Checks.{Passed}
use Rattle.net_bytes.specs.Reading.{Result, got, refused}
use Rattle.net_bytes.specs.Readers.{got-value, refused-not-got}
use Rattle.net_bytes.specs.Stages.{net_of, net_stages}
use Rattle.net_bytes.specs.Walk.{Drawn, drawn_reader}
use Rattle.label_theory.specs.Labels.{forward}
use Rattle.cover_theory.specs.Forward.{ForwardMet, LeastForwardPeriod}
use Rattle.cover_period.specs.Joined.{forward-key-meets, forward-reachable}
use Rattle.cover_theory.specs.Key.{KeyIn, entries, as_cover}
use Rattle.cover_period.specs.KeyOf.{key_of}
use Rattle.cover_period.specs.Period.{least_forward_period_is}
use Rattle.board_theory.specs.Contents.{contents_of}
use Rattle.cover_records.specs.CoverBytes.{cover_bytes}
use Rattle.cover_records.specs.Found.{Found, found}
use Rattle.cover_records.specs.ForwardLaws.{forward-early, forward-small, forward-loader, forward-fails, forward-lacking, forward-unmet, forward-written, section-read}
use Rattle.cover_records.specs.ForwardOutcome.{ForwardOutcome, contents_short, section_of, lacking, outcome_from}
use Rattle.cover_records.specs.LoaderImage.{is_lent, loaded}
use Rattle.cover_records.specs.LoaderOutcome.{too_short}
use Rattle.cover_records.specs.Outcomes.{accepted, turned_back, passes, fails, check_net, cleared, written, map_sizes}
use Rattle.job_sizes.specs.Sizes.{Fit, sizes_of}
use Rattle.job_sizes.specs.SizeLaws.{map-sizes_are}
use Rattle.demands.specs.TurnedBack.{IsNet, NetFails, Outside}
use Rattle.demands.specs.Endings.{Said, fits, said1, said2, said3, NetEnds, stops, goes}
use Rattle.demands.proofs.OrderLaws.{sizes_said, one-net, net-range, net-ends}
use Rattle.demands.proofs.Demand3.{map-fit}
use Rattle.demands.specs.BenchRun.{IsDrawn}
use Rattle.demands.specs.ForwardMap.{ForwardCall, ForwardFails, turn, FirstInTurn, ForwardAsked}
use Rattle.demands.proofs.ForwardTurns.{turn_20, turn_low, turn-high, first_of, both_true, lent-short, short-lent, Short, least, none_of}

-- what a call starts from: the values of a net's nodes before the board's first step, by the net and its section
abbrev pub Start : Type 0
Start = Net → List ℕ → ℕ → ℕ → Bool

module _ (c : ForwardCall) (start : Start) where
  abbrev pub refusing : ℕ → List ℕ → ForwardOutcome
  refusing n s = record { answer = turned_back n; area = c.area; scratch = s; loader = c.loader; contents = c.contents }

  abbrev pub sizes : ℕ
  sizes = map_sizes long c.k c.target c.area c.scratch

  abbrev pub section : List ℕ
  section = section_of long c.k c.net

  abbrev pub done : ForwardOutcome
  done = outcome_from forward long (contents_short c.contents) start c.net c.k c.target c.area c.scratch c.loader c.contents

  -- what an accepted call leaves, for the key K
  abbrev pub leaving : (N : Net) (φ : ℕ) → KeyIn forward N c.k φ → ForwardOutcome
  leaving N φ K = record {
    answer = accepted (length (cover_bytes long φ (entries K)));
    area = written (cover_bytes long φ (entries K)) c.area;
    scratch = cleared scratch_area c.scratch;
    loader = loaded (entries K) c.loader;
    contents = cond (is_lent c.contents) (written (contents_of N (as_cover N (entries K)) (start N section)) c.contents) c.contents;
  }

  pub data Ends : Type 0 where
    early : (n : ℕ) → n ≤ 3 → FirstInTurn (ForwardFails c) n → done ≡ refusing n c.scratch → Ends
    late : (n : ℕ) → 3 < n → FirstInTurn (ForwardFails c) n → done ≡ refusing n (cleared scratch_area c.scratch) → Ends
    wrote : (N : Net) (P : Passed N c.k) (φ : ℕ) (K : KeyIn forward N c.k φ) → sizes ≡ 0 → check_net long c.k c.net ≡ passes N P → IsNet c.k c.net N
        → ((m : ℕ) → ¬ ForwardFails c m) → ForwardAsked c N φ → done ≡ leaving N φ K → Ends

  -- the walk's net and the drawn one
  pub read-drawn : {N : Net} → IsNet c.k c.net N → (d : Drawn) × IsDrawn c.k c.net d × (d.net ≡ N)
  read-drawn {N} i = go (drawn_reader long c.k c.net) refl (sym (net_stages long c.k c.net) ∙ i.1)
    where
      go : (x : Result Drawn) → drawn_reader long c.k c.net ≡ x → Rattle.net_bytes.specs.Reading.and_then x net_of ≡ got N i.0
          → (d : Drawn) × IsDrawn c.k c.net d × (d.net ≡ N)
      go (got d rest) e q = (d, (rest, e), got-value d.net rest N i.0 q)
      go (refused n) e q = absurd (refused-not-got n N i.0 q)

  pub section-is : (d : Drawn) → IsDrawn c.k c.net d → section ≡ d.section
  section-is d x = section-read long c.k c.net d x.0 x.1

  module _ (z : sizes ≡ 0) where
    abbrev fitting : Fit long c.k c.target (length c.area) (length c.scratch)
    fitting = map-fit c.k c.target c.area c.scratch z

    inside : (t : ℕ) → Outside c.k → t ≤ 2
    inside t f = absurd (f (fitting.low, fitting.high))

    near : (t : ℕ) → most_period < c.target → t ≤ 4
    near t f = absurd (let a = fitting.near in omega arith)

    wide : (t : ℕ) → Short c → t ≤ 6
    wide t (inl f) = absurd (let a = fitting.room in omega arith)
    wide t (inr f) = absurd (let a = fitting.space in omega arith)

    net-low : (t : ℕ) → t ≤ 8 → (m : ℕ) → NetFails c.k c.net m → t ≤ 2 * m
    net-low t h m f = let r = net-range c.k c.net m f in omega (arith, r.0, h)

    contents-small : contents_short c.contents ≡ true → Ends
    contents-small e =
        let t = lent-short c.contents contents_area e in
        early 3 (omega arith)
        (first_of (ForwardFails.small t.0 t.1 refl)
        (least c (turn 3) (inside (turn 3)) (near (turn 3)) (wide (turn 3)) (λ a b. three) (λ a b. omega (arith, three)) (net-low (turn 3) (omega (arith, three))) (λ a d x l. omega (arith, three)) (λ N i a b. omega (arith, three))))
        (forward-small long (contents_short c.contents) start c.net c.k c.target c.area c.scratch c.loader c.contents z e)
      where
        three : turn 3 ≤ 6
        three = omega (arith, turn_low 3 (omega arith))

    module _ (s : contents_short c.contents ≡ false) where
      large : (t : ℕ) → 0 < length c.contents → length c.contents < contents_area → t ≤ 6
      large t a b = absurd (mathlib.Core.Bool.true≢false (sym (short-lent c.contents contents_area a b) ∙ s))

      loader-small : too_short c.loader ≡ true → Ends
      loader-small e =
          let t = lent-short c.loader loader_area e in
          late 20 (omega arith)
          (first_of (ForwardFails.load t.0 t.1 refl)
          (least c (turn 20) (inside (turn 20)) (near (turn 20)) (wide (turn 20)) (large (turn 20)) (λ a b. omega (arith, turn_20)) (net-low (turn 20) (omega (arith, turn_20))) (λ a d x l. omega (arith, turn_20))
          (λ N i a b. omega (arith, turn_20))))
          (forward-loader long (contents_short c.contents) start c.net c.k c.target c.area c.scratch c.loader c.contents z s e)

      module _ (l : too_short c.loader ≡ false) where
        loaded-well : (t : ℕ) → 0 < length c.loader → length c.loader < loader_area → t ≤ 7
        loaded-well t a b = absurd (mathlib.Core.Bool.true≢false (sym (short-lent c.loader loader_area a b) ∙ l))

        net-stops : (n : ℕ) → check_net long c.k c.net ≡ fails n → NetFails c.k c.net n → ((m : ℕ) → NetFails c.k c.net m → n ≤ m) → Ends
        net-stops n e f first =
            late n (omega (arith, r.0))
            (first_of (ForwardFails.of_net f)
            (least c (turn n) (inside (turn n)) (near (turn n)) (wide (turn n)) (large (turn n)) (loaded-well (turn n)) (λ m g. omega (arith, t, first m g)) (λ a d x q. omega (arith, t, r.1)) (λ N i a b. omega (arith, t, r.1))))
            (forward-fails long (contents_short c.contents) start c.net c.k c.target c.area c.scratch c.loader c.contents z s l n e)
          where
            r : (4 ≤ n) × (n ≤ 11)
            r = net-range c.k c.net n f

            t : turn n ≡ 2 * n
            t = turn_low n (omega (arith, r.1))

        module _ (N : Net) (P : Passed N c.k) (p : check_net long c.k c.net ≡ passes N P) (i : IsNet c.k c.net N) (none : (m : ℕ) → ¬ NetFails c.k c.net m) where
          section_lacks : lacking c.contents section ≡ true → Ends
          section_lacks e =
              let t = both_true (is_lent c.contents) (eqb (length section) 0) e in
              let d = read-drawn i in
              late 21 (omega arith)
              (first_of (ForwardFails.sectionless (ltb-true 0 (length c.contents) t.0) d.0 d.1 (sym (ap length (section-is d.0 d.1)) ∙ eqb-true (length section) 0 t.1) refl)
              (least c (turn 21) (inside (turn 21)) (near (turn 21)) (wide (turn 21)) (large (turn 21)) (loaded-well (turn 21)) (λ m g. absurd (none m g)) (λ a x y q. omega (arith, turn-high 21 (omega arith)))
              (λ M j a b. omega (arith, turn-high 21 (omega arith)))))
              (forward-lacking long (contents_short c.contents) start c.net c.k c.target c.area c.scratch c.loader c.contents z s l N P p e)

          module _ (g : lacking c.contents section ≡ false) where
            has-section : (t : ℕ) → 0 < length c.contents → (d : Drawn) → IsDrawn c.k c.net d → length d.section ≡ 0 → t ≤ 42
            has-section t a d x q =
                absurd (mathlib.Core.Bool.true≢false (sym both ∙ g))
              where
                both : lacking c.contents section ≡ true
                both = rw (lt-ltb 0 (length c.contents) a) (eq-eqb (length section) 0 (ap length (section-is d x) ∙ q))

            by_key : Found forward P c.target → Ends
            by_key (Found.none t n e) =
                late 22 (omega arith)
                (first_of (ForwardFails.unmet N i t (λ m. n (key_of P (forward-reachable P (some c.target t) m))) refl)
                (least c (turn 22) (inside (turn 22)) (near (turn 22)) (wide (turn 22)) (large (turn 22)) (loaded-well (turn 22)) (λ m f. absurd (none m f)) (has-section (turn 22))
                (λ M j a b. omega (arith, turn-high 22 (omega arith)))))
                (forward-unmet long (contents_short c.contents) start c.net c.k c.target c.area c.scratch c.loader c.contents z s l N P p g e)
              where
                some : (n : ℕ) → ¬ (n ≡ 0) → 1 ≤ n
                some zero t = absurd (t refl)
                some (suc n) t = omega arith
            by_key (Found.some φ K o t e) =
                wrote N P φ K z p i
                (none_of c (least c 45 (inside 45) (near 45) (wide 45) (large 45) (loaded-well 45) (λ m f. absurd (none m f)) (has-section 45) (λ M j a b. absurd (b (subst (λ (x : Net). ForwardMet x c.k c.target) (one-net c.k c.net i j) (meet a))))))
                (t, λ q. subst (LeastForwardPeriod N c.k) (sym (o q)) (least_forward_period_is P))
                (forward-written long (contents_short c.contents) start c.net c.k c.target c.area c.scratch c.loader c.contents z s l N P p g φ K e)
              where
                meet : ¬ (c.target ≡ 0) → ForwardMet N c.k c.target
                meet a = subst (ForwardMet N c.k) (t a) (forward-key-meets P (positive c.target a (t a)) K)
                  where
                    positive : (n : ℕ) → ¬ (n ≡ 0) → φ ≡ n → 1 ≤ φ
                    positive zero a q = absurd (a refl)
                    positive (suc n) a q = omega arith

          by-section : (b : Bool) → lacking c.contents section ≡ b → Ends
          by-section true e = section_lacks e
          by-section false e = by_key e (found forward P c.target)

        by-net : NetEnds c.k c.net (check_net long c.k c.net) → Ends
        by-net (stops n e f first) = net-stops n e f first
        by-net (goes N P e i none) = by-section N P e i none (lacking c.contents section) refl

      by-loader : (b : Bool) → too_short c.loader ≡ b → Ends
      by-loader true e = loader-small e
      by-loader false e = by-net e (net-ends c.k c.net)

    by-contents : (b : Bool) → contents_short c.contents ≡ b → Ends
    by-contents true e = contents-small e
    by-contents false e = by-loader e (too_short c.loader) refl

  pub ends : Ends
  ends = go (sizes_said c.k c.target (length c.area) (length c.scratch))
    where
      same : {n : ℕ} → sizes_of long c.k c.target (length c.area) (length c.scratch) ≡ n → sizes ≡ n
      same e = map-sizes_are long c.k c.target c.area c.scratch ∙ e

      back : (n : ℕ) → sizes ≡ suc n → done ≡ refusing (suc n) c.scratch
      back n e = forward-early long (contents_short c.contents) start c.net c.k c.target c.area c.scratch c.loader c.contents n e

      nets : (t : ℕ) → t ≤ 8 → (m : ℕ) → NetFails c.k c.net m → t ≤ 2 * m
      nets t h m f = let r = net-range c.k c.net m f in omega (arith, r.0, h)

      -- none comes before 1; where k is right none before 2; where the target is, too, none before 3
      all : (t : ℕ) → t ≤ 6 → (Outside c.k → t ≤ 2) → (most_period < c.target → t ≤ 4) → (m : ℕ) → ForwardFails c m → t ≤ turn m
      all t h a b = least c t a b (λ f. h) (λ f g. h) (λ f g. omega (arith, h)) (nets t (omega (arith, h))) (λ f d x q. omega (arith, h)) (λ N i f g. omega (arith, h))

      go : Said c.k c.target (length c.area) (length c.scratch) (sizes_of long c.k c.target (length c.area) (length c.scratch)) → Ends
      go (said1 e f) =
          let t = turn_low 1 (omega arith) in
          early 1 (omega arith) (first_of (ForwardFails.outside f refl) (all (turn 1) (omega (arith, t)) (λ g. omega (arith, t)) (λ g. omega (arith, t)))) (back 0 (same e))
      go (said2 e l h f) =
          let t = turn_low 2 (omega arith) in
          early 2 (omega arith) (first_of (ForwardFails.above f refl) (all (turn 2) (omega (arith, t)) (λ g. absurd (g (l, h))) (λ g. omega (arith, t)))) (back 1 (same e))
      go (said3 e l h n f) =
          let t = turn_low 3 (omega arith) in
          early 3 (omega arith) (first_of (small f) (all (turn 3) (omega (arith, t)) (λ g. absurd (g (l, h))) (λ g. absurd (omega arith)))) (back 2 (same e))
        where
          small : Short c → ForwardFails c 3
          small (inl g) = ForwardFails.room g refl
          small (inr g) = ForwardFails.space g refl
      go (fits e f) = by-contents (same e) (contents_short c.contents) refl
