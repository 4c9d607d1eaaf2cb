-- Laws of document 02, E6, and of every call that differs from it in its start alone.
use Rattle.std.specs.Prelude.{◌≡◌, refl, Bool, false, ◌↔◌, ℕ, zero, suc, ◌*◌, ◌≤◌, ◌<◌, take, drop}
use Rattle.std.proofs.Common.{sym, ◌∙◌, arith, lt-ltb, take_at}
use Rattle.std.proofs.Math.Path.{subst, ap}
use Rattle.std.proofs.Math.Bool.{true, cond}
use mathlib.Core.List.{List, [], ◌++◌}
use native.Mathlib.Decide.{ℕ_discrete}
use Rattle.std.proofs.Math.ListN.{length}
use Rattle.limits.specs.Limits.{contents_area, cover_area, most_count, most_outputs, most_period, scratch_area}
use Rattle.limits.specs.Courses.{long, is-long}
use Rattle.net_model.specs.Net.{Net}
use Rattle.net_model.specs.Checks.{Passed}
use Rattle.net_model.specs.Copies.{Copy}
use Rattle.net_bytes.specs.Reading.{got}
use Rattle.net_bytes.specs.Readers.{got-value}
use Rattle.net_bytes.specs.Walk.{Drawn}
use Rattle.net_bytes.specs.Sound.{walk-facts, walk-gate}
use Rattle.run_theory.specs.Bench.{value_at, Counts}
use Rattle.run_theory.specs.BenchBytes.{section_in}
use Rattle.label_theory.specs.Labels.{forward}
use Rattle.cover_theory.specs.Forward.{Forward, ForwardMet, LeastForwardPeriod}
use Rattle.cover_period.specs.Joined.{key-suited}
use Rattle.cover_theory.specs.Key.{KeyIn, entries, as_cover}
use Rattle.cover_period.specs.KeyUnique.{entries_unique}
use Rattle.cover_period.specs.Period.{least_forward_period_is, least_forward_period_unique, least_period_in-bound}
use Rattle.cover_period.specs.Written.{luts-as_cover}
use Rattle.board_theory.specs.BoardLaws.{boarded, boarded_unique}
use Rattle.board_theory.specs.Boards.{Boarded, board_at, leaf_contents, output_contents}
use Rattle.board_theory.specs.Contents.{contents_bytes, quiet, contents_of, board_shows, net_shows}
use Rattle.board_theory.proofs.ContentsLaws.{bytes-front, bytes_bits, first-contents}
use Rattle.cover_records.specs.CoverBytes.{Record, cover_bytes, cover_reader}
use Rattle.cover_records.specs.Found.{found}
use Rattle.cover_records.specs.ForwardLaws.{entries-tabled, contents-length}
use Rattle.cover_records.specs.ForwardOutcome.{ForwardOutcome, forward_outcome}
use Rattle.cover_records.specs.KeyRecord.{roomy, WithinLimits, key_back, key-length}
use Rattle.cover_records.specs.LoaderImage.{is_lent, image_bytes, loaded}
use Rattle.cover_records.specs.LoaderLaws.{not-lent}
use Rattle.cover_records.specs.Outcomes.{Answer, accepted, turned_back, passes, fails, check_net, cleared, written}
use Rattle.job_sizes.specs.SizeLaws.{mark-sizes_are, size_none}
use Rattle.demands.specs.TurnedBack.{IsNet, IsRecord}
use Rattle.demands.specs.Calls.{mark_done}
use Rattle.demands.proofs.CallLaws.{turned-not, accepted-not, turned_same}
use Rattle.demands.proofs.OrderLaws.{one-net, net-range}
use Rattle.demands.specs.Right.{RightRecord, KeyRead}
use Rattle.demands.proofs.Demand2.{key_right, key-accepted}
use Rattle.demands.proofs.Demand3.{wrote-key, limits, map-fit}
use Rattle.demands.specs.BenchRun.{IsDrawn}
use Rattle.demands.specs.ForwardMap.{ForwardCall, forward_done, ForwardFails, turn, FirstInTurn, ForwardNet, ForwardAsked, ForwardWrote, Read, cover_in, tables_in, ForwardMap}
use Rattle.demands.proofs.ForwardTurns.{turn-high, turn_one, first_one, range, turned}
use Rattle.demands.proofs.ForwardEnds.{Start, refusing, sizes, section, done, leaving, Ends, early, late, wrote, read-drawn, section-is, ends}

-- what the board's theorems ask of a record: it is right, its cover is a forward cover
pub record Sure (N : Net) (k : ℕ) (r : Record) : Type 0 where
  pub passed : Passed N k
  pub right : RightRecord N k r
  pub forward : Forward N (cover_in N r)
  pub positive : 1 ≤ r.period

module _ (c : ForwardCall) (start : Start) where
  -- ---- what the answer tells

  abbrev Told : Answer → Type 0
  Told (accepted n) = (m : ℕ) → ¬ ForwardFails c m
  Told (turned_back n) = FirstInTurn (ForwardFails c) n

  told : Told (done c start).answer
  told = go (ends c start)
    where
      go : Ends c start → Told (done c start).answer
      go (early n h f e) = subst (λ (o : ForwardOutcome). Told o.answer) (sym e) f
      go (late n h f e) = subst (λ (o : ForwardOutcome). Told o.answer) (sym e) f
      go (wrote N P φ K z p i none a e) = subst (λ (o : ForwardOutcome). Told o.answer) (sym e) none

  pub number_of : (n : ℕ) → ((done c start).answer ≡ turned_back n) ↔ FirstInTurn (ForwardFails c) n
  number_of n = (λ e. subst Told e told, λ f. go (done c start).answer told f)
    where
      go : (a : Answer) → Told a → FirstInTurn (ForwardFails c) n → a ≡ turned_back n
      go (accepted m) t f = absurd (t n f.fails)
      go (turned_back m) t f = ap turned_back (first_one t f)

  pub accepts-of : ((n : ℕ) × ((done c start).answer ≡ accepted n)) ↔ ((m : ℕ) → ¬ ForwardFails c m)
  accepts-of = (λ e. subst Told e.1 told, λ f. go (done c start).answer told f)
    where
      go : (a : Answer) → Told a → ((m : ℕ) → ¬ ForwardFails c m) → (n : ℕ) × (a ≡ accepted n)
      go (accepted m) t f = (m, refl)
      go (turned_back m) t f = absurd (f m t.fails)

  -- a refusal keeps the three areas; the scratch by its number
  pub record Left (n : ℕ) : Type 0 where
    pub area : (done c start).area ≡ c.area
    pub loader : (done c start).loader ≡ c.loader
    pub contents : (done c start).contents ≡ c.contents
    pub kept : n ≤ 3 → (done c start).scratch ≡ c.scratch
    pub wiped : 3 < n → (done c start).scratch ≡ cleared scratch_area c.scratch

  pub left : (n : ℕ) → (done c start).answer ≡ turned_back n → Left n
  left n e = go (ends c start)
    where
      same : {m : ℕ} {s : List ℕ} → done c start ≡ refusing c start m s → m ≡ n
      same q = turned_same (sym (ap (λ (o : ForwardOutcome). o.answer) q) ∙ e)

      leaves_all : {m : ℕ} {s : List ℕ} → done c start ≡ refusing c start m s → (n ≤ 3 → s ≡ c.scratch) → (3 < n → s ≡ cleared scratch_area c.scratch) → Left n
      leaves_all q a b = record {
        area = ap (λ (o : ForwardOutcome). o.area) q;
        loader = ap (λ (o : ForwardOutcome). o.loader) q;
        contents = ap (λ (o : ForwardOutcome). o.contents) q;
        kept = λ h. ap (λ (o : ForwardOutcome). o.scratch) q ∙ a h;
        wiped = λ h. ap (λ (o : ForwardOutcome). o.scratch) q ∙ b h;
      }

      go : Ends c start → Left n
      go (early m h f q) = leaves_all q (λ l. refl) (λ l. absurd (let s = same q in omega arith))
      go (late m h f q) = leaves_all q (λ l. absurd (let s = same q in omega arith)) (λ l. refl)
      go (wrote N P φ K z p i none a q) = absurd (accepted-not (sym (ap (λ (o : ForwardOutcome). o.answer) q) ∙ e))

  -- ---- accepted calls

  -- what it found and wrote
  record Made (n : ℕ) : Type 0 where
    net : Net
    passed : Passed net c.k
    period : ℕ
    key : KeyIn forward net c.k period
    size : n ≡ length (cover_bytes long period (entries key))
    fit : sizes c start ≡ 0
    checked : check_net long c.k c.net ≡ passes net passed
    is_net : IsNet c.k c.net net
    fine : (m : ℕ) → ¬ ForwardFails c m
    asked : ForwardAsked c net period
    left : done c start ≡ leaving c start net period key

  made : (n : ℕ) → (done c start).answer ≡ accepted n → Made n
  made n e = go (ends c start)
    where
      accepted-same : {m n : ℕ} → accepted m ≡ accepted n → m ≡ n
      accepted-same e = cc

      go : Ends c start → Made n
      go (early m h f q) = absurd (turned-not (sym (ap (λ (o : ForwardOutcome). o.answer) q) ∙ e))
      go (late m h f q) = absurd (turned-not (sym (ap (λ (o : ForwardOutcome). o.answer) q) ∙ e))
      go (wrote N P φ K z p i none a q) = record {
        net = N;
        passed = P;
        period = φ;
        key = K;
        size = sym (accepted-same (sym (ap (λ (o : ForwardOutcome). o.answer) q) ∙ e));
        fit = z;
        checked = p;
        is_net = i;
        fine = none;
        asked = a;
        left = q;
      }

  module _ {n : ℕ} (w : Made n) where
    abbrev bytes : List ℕ
    bytes = cover_bytes long w.period (entries w.key)

    abbrev recorded : Record
    recorded = record { period = w.period; entries = entries w.key }

    positive : 1 ≤ w.period
    positive = go (ℕ_discrete c.target 0)
      where
        some : (t : ℕ) → ¬ (t ≡ 0) → w.period ≡ t → 1 ≤ w.period
        some zero z e = absurd (z refl)
        some (suc t) z e = omega arith

        go : Dec (c.target ≡ 0) → 1 ≤ w.period
        go (yes z) = (w.asked.1 z).positive
        go (no z) = some c.target z (w.asked.0 z)

    within : WithinLimits long w.net c.k
    within = limits c.net c.k w.net w.passed (map-fit c.k c.target c.area c.scratch w.fit).high w.checked

    short-period : w.period ≤ most_period
    short-period = go (ℕ_discrete c.target 0)
      where
        go : Dec (c.target ≡ 0) → w.period ≤ most_period
        go (yes z) =
            let l = within in
            let e = least_forward_period_unique (w.asked.1 z) (least_forward_period_is w.passed) in
            let b = least_period_in-bound w.passed forward l.gate in
            let g = l.gates in
            omega arith
        go (no z) = let e = w.asked.0 z in let f = (map-fit c.k c.target c.area c.scratch w.fit).near in omega arith

    area-is : (done c start).area ≡ written bytes c.area
    area-is = ap (λ (o : ForwardOutcome). o.area) w.left

    front : take n (done c start).area ≡ bytes
    front = ap (take n) area-is ∙ take_at bytes (drop (length bytes) c.area) n (sym w.size)

    back : cover_reader long w.net c.k bytes ≡ got recorded []
    back = key_back (roomy is-long) w.passed within positive w.key short-period

    right : RightRecord w.net c.k recorded
    right = key_right w.passed positive w.key

    suited : Forward w.net (as_cover w.net (entries w.key))
    suited = key-suited w.passed positive w.key

    as_written : ForwardWrote w.net c.k w.period c.area (done c start).area n
    unfolding wrote-key
    as_written =
        subst (λ (m : ℕ). ForwardWrote w.net c.k w.period c.area (done c start).area m) (sym w.size)
        (subst (λ (l : List ℕ). ForwardWrote w.net c.k w.period c.area l (length bytes)) (sym area-is)
        (record { wrote = wrote-key w.passed within positive short-period w.key c.area; forward = suited; tables = right.tables }))

    -- any net and record that are read are those made
    as_made : (X : Net → Record → Type 0) → X w.net recorded → (N : Net) (r : Record) → IsNet c.k c.net N → IsRecord N c.k (take n (done c start).area) r → X N r
    as_made X x N r i q = subst (X N) record_same (subst (λ (M : Net). X M recorded) net-same x)
      where
        net-same : w.net ≡ N
        net-same = one-net c.k c.net w.is_net i

        record_same : recorded ≡ r
        record_same = got-value recorded [] r q.0 (sym back ∙ ap (λ (M : Net). cover_reader long M c.k bytes) net-same ∙ ap (cover_reader long N c.k) (sym front) ∙ q.1)

  leaves_of : (n : ℕ) → (done c start).answer ≡ accepted n
      → (n ≤ cover_area) × ((N : Net) × (φ : ℕ) × ForwardNet c N × ForwardAsked c N φ × ForwardWrote N c.k φ c.area (done c start).area n)
      × ((done c start).scratch ≡ cleared scratch_area c.scratch)
  leaves_of n e =
      let w = made n e in
      let l = key-length (roomy is-long) w.passed (within w) (positive w) w.key in
      let s = w.size in (
        omega arith,
        (
          w.net,
          w.period,
          (w.is_net, λ m h. w.fine m),
          w.asked,
          as_written w,
        ),
        ap (λ (o : ForwardOutcome). o.scratch) w.left,
      )

  reads_of : (n : ℕ) → (done c start).answer ≡ accepted n → (N : Net) → IsNet c.k c.net N → (r : Record) × Read c (done c start) n N r
  reads_of n e N i =
      let w = made n e in
      (recorded w, record { told = e; is_net = i; reads = subst (λ (M : Net). IsRecord M c.k (take n (done c start).area) (recorded w)) (one-net c.k c.net w.is_net i) ([], ap (cover_reader long w.net c.k) (front w) ∙ back w) })

  keys_of : (n : ℕ) → (done c start).answer ≡ accepted n → (N : Net) → IsNet c.k c.net N → (φ : ℕ) → ForwardAsked c N φ
      → KeyIn forward N c.k φ
      × ((K : KeyIn forward N c.k φ) → (n ≡ length (cover_bytes long φ (entries K))) × ((done c start).area ≡ written (cover_bytes long φ (entries K)) c.area))
  keys_of n e N i φ a = subst (Holds N) (same (ℕ_discrete c.target 0)) (subst (λ (M : Net). Holds M w.period) net-same here)
    where
      Holds : Net → ℕ → Type 0
      Holds M ψ =
          KeyIn forward M c.k ψ × ((K : KeyIn forward M c.k ψ) → (n ≡ length (cover_bytes long ψ (entries K))) × ((done c start).area ≡ written (cover_bytes long ψ (entries K)) c.area))

      w : Made n
      w = made n e

      net-same : w.net ≡ N
      net-same = one-net c.k c.net w.is_net i

      here : Holds w.net w.period
      here = (w.key, λ K. rw (entries_unique w.passed K w.key) (w.size, area-is w))

      same : Dec (c.target ≡ 0) → w.period ≡ φ
      same (yes z) = least_forward_period_unique (subst (λ (M : Net). LeastForwardPeriod M c.k w.period) net-same (w.asked.1 z)) (a.1 z)
      same (no z) = w.asked.0 z ∙ sym (a.0 z)

  own_of : (n : ℕ) → (done c start).answer ≡ accepted n → (scratch : List ℕ) → scratch_area ≤ length scratch
      → (x : ℕ) × ((mark_done (record { net = c.net; k = c.k; bytes = take n (done c start).area; scratch = scratch })).answer ≡ accepted x)
  own_of n e scratch h =
      let w = made n e in
      let f = map-fit c.k c.target c.area c.scratch w.fit in
      let sizes = mark-sizes_are long c.k scratch ∙ sym (size_none long c.k 0 cover_area (length scratch) f.low f.high (omega arith) (omega arith) h) in (
        _,
        ap (λ (b : List ℕ). (mark_done (record { net = c.net; k = c.k; bytes = b; scratch = scratch })).answer) (front w)
            ∙ key-accepted c.net c.area c.scratch scratch c.k w.net w.passed sizes w.checked (positive w) (short-period w) w.key,
      )

  -- a call whose checks before 22 pass is accepted where the target is met
  meets-of : (N : Net) → ForwardNet c N → (¬ (c.target ≡ 0) → ForwardMet N c.k c.target)
      → (n φ : ℕ) × ((done c start).answer ≡ accepted n) × ForwardAsked c N φ × ForwardWrote N c.k φ c.area (done c start).area n
  meets-of N t m =
      let a = accepts-of.1 fine in
      let w = made a.0 a.1 in
      let s = one-net c.k c.net w.is_net t.0 in
      (a.0, w.period, a.1, subst (λ (M : Net). ForwardAsked c M w.period) s w.asked, subst (λ (M : Net). ForwardWrote M c.k w.period c.area (done c start).area a.0) s (as_written w))
    where
      last : (b : ℕ) → ForwardFails c b → ¬ (turn b < turn 22) → b ≡ 22
      last b f h = turn_one b 22 (omega (arith, turned c b f, turn-high 22 (omega arith), h))

      at_22 : ForwardFails c 22 → ⊥
      at_22 (ForwardFails.outside f q) = omega arith
      at_22 (ForwardFails.above f q) = omega arith
      at_22 (ForwardFails.room f q) = omega arith
      at_22 (ForwardFails.space f q) = omega arith
      at_22 (ForwardFails.of_net f) = let r = net-range c.k c.net 22 f in omega (arith, r.1)
      at_22 (ForwardFails.small f g q) = omega arith
      at_22 (ForwardFails.load f g q) = omega arith
      at_22 (ForwardFails.sectionless f x i z q) = omega arith
      at_22 (ForwardFails.unmet M i z f q) = f (subst (λ (X : Net). ForwardMet X c.k c.target) (one-net c.k c.net t.0 i) (m z))

      fine : (b : ℕ) → ¬ ForwardFails c b
      fine b f = go (native.Mathlib.Decide.dec_lt (turn b) (turn 22))
        where
          go : Dec (turn b < turn 22) → ⊥
          go (yes h) = t.1 b h f
          go (no h) = at_22 (subst (ForwardFails c) (last b f h) f)

  unreached : ((done c start).answer ≡ turned_back 22) ↔ ((N : Net) × ForwardNet c N × (¬ (c.target ≡ 0)) × (¬ ForwardMet N c.k c.target))
  unreached = (λ e. let f = (number_of 22).0 e in only f.fails f.none, λ u. (number_of 22).1 (record { fails = ForwardFails.unmet u.0 u.1.0 u.2 u.3 refl; none = u.1.1 }))
    where
      only : ForwardFails c 22 → ((m : ℕ) → turn m < turn 22 → ¬ ForwardFails c m) → (N : Net) × ForwardNet c N × (¬ (c.target ≡ 0)) × (¬ ForwardMet N c.k c.target)
      only (ForwardFails.outside f q) none = absurd (omega arith)
      only (ForwardFails.above f q) none = absurd (omega arith)
      only (ForwardFails.room f q) none = absurd (omega arith)
      only (ForwardFails.space f q) none = absurd (omega arith)
      only (ForwardFails.of_net f) none = absurd (let r = net-range c.k c.net 22 f in omega (arith, r.1))
      only (ForwardFails.small f g q) none = absurd (omega arith)
      only (ForwardFails.load f g q) none = absurd (omega arith)
      only (ForwardFails.sectionless f x i z q) none = absurd (omega arith)
      only (ForwardFails.unmet N i t f q) none = (N, (i, none), t, f)

  -- ---- the loader area

  image-of : (n : ℕ) (N : Net) (r : Record) → Read c (done c start) n N r
      → (0 < length c.loader → (done c start).loader ≡ written (image_bytes r.entries) c.loader) × (length c.loader ≡ 0 → (done c start).loader ≡ c.loader)
  unfolding loaded
  image-of n N r t =
      let w = made n t.told in
      as_made w
      (λ (M : Net) (q : Record). (0 < length c.loader → (done c start).loader ≡ written (image_bytes q.entries) c.loader) × (length c.loader ≡ 0 → (done c start).loader ≡ c.loader))
      (λ h. ap (λ (o : ForwardOutcome). o.loader) w.left ∙ lent (entries w.key) (lt-ltb 0 (length c.loader) h), λ h. ap (λ (o : ForwardOutcome). o.loader) w.left ∙ unlent (entries w.key) (not-lent c.loader h))
      N r t.is_net t.reads
    where
      lent : (es : List Rattle.cover_theory.specs.Key.Entry) → is_lent c.loader ≡ true → loaded es c.loader ≡ written (image_bytes es) c.loader
      lent es e = ap (λ (b : Bool). cond b (written (image_bytes es) c.loader) c.loader) e

      unlent : (es : List Rattle.cover_theory.specs.Key.Entry) → is_lent c.loader ≡ false → loaded es c.loader ≡ c.loader
      unlent es e = ap (λ (b : Bool). cond b (written (image_bytes es) c.loader) c.loader) e

  -- ---- the contents area

  pub none-of_it : length c.contents ≡ 0 → (done c start).contents ≡ c.contents
  none-of_it z = go (ends c start)
    where
      go : Ends c start → (done c start).contents ≡ c.contents
      go (early n h f e) = ap (λ (o : ForwardOutcome). o.contents) e
      go (late n h f e) = ap (λ (o : ForwardOutcome). o.contents) e
      go (wrote N P φ K s p i none a e) =
          ap (λ (o : ForwardOutcome). o.contents) e
          ∙ ap (λ (b : Bool). cond b (written (contents_of N (as_cover N (entries K)) (start N (section c start))) c.contents) c.contents) (not-lent c.contents z)

  section-of : (n : ℕ) → (done c start).answer ≡ accepted n → 0 < length c.contents → (d : Drawn) × IsDrawn c.k c.net d × (0 < length d.section)
  section-of n e h =
      let w = made n e in
      let d = read-drawn c start w.is_net in
      (d.0, d.1, some (length d.0.section) (λ z. w.fine 21 (ForwardFails.sectionless h d.0 d.1 z refl)))
    where
      some : (l : ℕ) → ¬ (l ≡ 0) → 0 < l
      some zero z = absurd (z refl)
      some (suc l) z = omega arith

  -- the contents of the net that was made, whatever it is called
  pub contents-at : (n : ℕ) (d : Drawn) → IsDrawn c.k c.net d → (r : Record) → Read c (done c start) n d.net r → 0 < length c.contents
      → (done c start).contents ≡ written (contents_of d.net (cover_in d.net r) (start d.net d.section)) c.contents
  contents-at n d x r t h =
      let w = made n t.told in
      as_made w (λ (M : Net) (q : Record). (done c start).contents ≡ written (contents_of M (cover_in M q) (start M (section c start))) c.contents)
      (ap (λ (o : ForwardOutcome). o.contents) w.left
      ∙ ap (λ (b : Bool). cond b (written (contents_of w.net (as_cover w.net (entries w.key)) (start w.net (section c start))) c.contents) c.contents) (lt-ltb 0 (length c.contents) h))
      d.net r t.is_net t.reads
      ∙ ap (λ (l : List ℕ). written (contents_of d.net (cover_in d.net r) (start d.net l)) c.contents) (section-is c start d x)

  -- no pin and no output reads more than three steps back, and there are few outputs
  pub near-counts : {N : Net} → IsNet c.k c.net N → Counts N most_count × (length N.outputs ≤ most_outputs)
  near-counts {N} i =
      let f = (walk-facts long c.k c.net N i.0 i.1).0 in (
        record { pin = λ v g p m. ((walk-gate long c.k c.net N i.0 i.1 v g).pin p m).count; output = λ o m. (f.output o m).count },
        f.outputs-high,
      )

  enough-of : (n : ℕ) (N : Net) (r : Record) → Read c (done c start) n N r → (section : ℕ → ℕ → Bool) → length (contents_of N (cover_in N r) section) ≤ contents_area
  enough-of n N r t section =
      let w = made n t.told in
      let f = near-counts w.is_net in
      as_made w (λ (M : Net) (q : Record). length (contents_of M (cover_in M q) section) ≤ contents_area) (contents-length w.passed (within w) (positive w) w.key f.0 f.1 section)
      N r t.is_net t.reads

  -- ---- the board

  board-of : (n : ℕ) (N : Net) (r : Record) → Read c (done c start) n N r → (contents : ℕ → Copy → ℕ → Bool) (inputs : ℕ → ℕ → Bool)
      → Boarded N (cover_in N r) (tables_in r) contents inputs (board_at N (cover_in N r) r.period (tables_in r) contents inputs)
      × ((board : ℕ → ℕ → Bool) → Boarded N (cover_in N r) (tables_in r) contents inputs board
      → (i t : ℕ) → i < length r.entries → board i t ≡ board_at N (cover_in N r) r.period (tables_in r) contents inputs i t)
  board-of n N r t contents inputs = as_made w Holds here N r t.is_net t.reads
    where
      w : Made n
      w = made n t.told

      Holds : Net → Record → Type 0
      Holds M q =
          Boarded M (cover_in M q) (tables_in q) contents inputs (board_at M (cover_in M q) q.period (tables_in q) contents inputs)
          × ((board : ℕ → ℕ → Bool) → Boarded M (cover_in M q) (tables_in q) contents inputs board
          → (i t : ℕ) → i < length q.entries → board i t ≡ board_at M (cover_in M q) q.period (tables_in q) contents inputs i t)

      here : Holds w.net (recorded w)
      here =
          let e = luts-as_cover w.net (entries w.key) in (
            boarded w.passed.sound (right w).is_cover w.period (positive w) (right w).meets (tables_in (recorded w)) contents inputs,
            λ board b i s h. boarded_unique w.passed.sound (right w).is_cover w.period (positive w) (right w).meets (tables_in (recorded w)) contents inputs b i s (omega (arith, e, h)),
          )

  -- the record that is read is the key's
  pub forward-key : (n : ℕ) (N : Net) (r : Record) → Read c (done c start) n N r → KeyRead forward N c.k r
  forward-key n N r t =
      let w = made n t.told in
      as_made w (λ (M : Net) (q : Record). KeyRead forward M c.k q) (record { passed = w.passed; positive = positive w; key = w.key; same = refl }) N r t.is_net t.reads

  -- what the board's theorems ask of the record that is read
  pub sure : (n : ℕ) (N : Net) (r : Record) → Read c (done c start) n N r → Sure N c.k r
  sure n N r t =
      let w = made n t.told in
      as_made w (λ (M : Net) (q : Record). Sure M c.k q) (record { passed = w.passed; right = right w; forward = suited w; positive = positive w }) N r t.is_net t.reads

  -- an area that begins with the bytes of some contents begins with those of the call
  pub begins : (n : ℕ) (d : Drawn) → IsDrawn c.k c.net d → (r : Record) → Read c (done c start) n d.net r → 0 < length c.contents
      → (contents : ℕ → Copy → ℕ → Bool) (last : ℕ → ℕ → Bool) (rest : List ℕ) → (done c start).contents ≡ contents_bytes d.net (cover_in d.net r) contents last ++ rest
      → contents_bytes d.net (cover_in d.net r) contents last ≡ contents_of d.net (cover_in d.net r) (start d.net d.section)
  begins n d x r t h contents last rest e =
      let past = start d.net d.section in
      bytes-front d.net (cover_in d.net r) contents (leaf_contents d.net (cover_in d.net r) past (value_at d.net past quiet)) last (output_contents d.net (cover_in d.net r) past (value_at d.net past quiet)) rest
      (drop (length (contents_of d.net (cover_in d.net r) past)) c.contents) (sym e ∙ contents-at n d x r t h)

-- ---- E6: the board starts from the section

abbrev pub first : Start
first N section = section_in section

first-is : (c : ForwardCall) → forward_done c ≡ done c first
unfolding forward_outcome
first-is c = refl

wakes-of : (c : ForwardCall) (n : ℕ) (d : Drawn) → IsDrawn c.k c.net d → (r : Record) → Read c (forward_done c) n d.net r → 0 < length c.contents
    → (contents : ℕ → Copy → ℕ → Bool) (last : ℕ → ℕ → Bool) (rest : List ℕ) → (forward_done c).contents ≡ contents_bytes d.net (cover_in d.net r) contents last ++ rest
    → (inputs : ℕ → ℕ → Bool) (o : ℕ) → o < length d.net.outputs → (t : ℕ)
    → board_shows d.net (cover_in d.net r) r.period (tables_in r) contents last inputs o t ≡ net_shows d.net (section_in d.section) inputs o t
unfolding forward_outcome
wakes-of c n d x r t h contents last rest e inputs =
    let y = sure c first n d.net r t in
    first-contents y.right.is_cover y.forward y.passed.sound y.passed.loopless r.period y.positive y.right.meets (entries-tabled y.passed y.right.tables) contents last
    (section_in d.section) inputs (begins c first n d x r t h contents last rest e)

-- **All of it is proved.**
pub forward-map : ForwardMap
unfolding forward_outcome
forward-map = record {
  number = λ c. number_of c first;
  accepts = λ c. accepts-of c first;
  numbers = λ c n e. range c n ((number_of c first n).0 e).fails;
  kept = λ c n e. let l = left c first n e in (l.area, l.loader, l.contents);
  early = λ c n e. (left c first n e).kept;
  late = λ c n e. (left c first n e).wiped;
  unreachable = λ c. unreached c first;
  meets = λ c. meets-of c first;
  leaves = λ c. leaves_of c first;
  reads = λ c. reads_of c first;
  keys = λ c. keys_of c first;
  own = λ c. own_of c first;
  image = λ c. image-of c first;
  none = λ c. none-of_it c first;
  section = λ c. section-of c first;
  first = λ c. contents-at c first;
  bits = λ N K contents last. bytes_bits N K contents last;
  enough = λ c. enough-of c first;
  board = λ c. board-of c first;
  wakes = wakes-of;
}
