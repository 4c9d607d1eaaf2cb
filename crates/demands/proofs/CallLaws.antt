-- Laws of calls: what the certificate says of map and mark, one law for each field or two.
use Rattle.std.specs.Prelude.{◌≡◌, Bool, List, [], ◌↔◌, ℕ, zero, suc, ◌+◌, ◌-◌, ◌≤◌, ◌<◌, length, get_or, take, drop}
use Rattle.std.proofs.Math.Path.{refl, sym, subst, ap}
use Rattle.std.proofs.Common.{◌∙◌, arith, take_at}
use Rattle.limits.specs.Limits.{cover_area, scratch_area, most_period}
use Rattle.limits.specs.Courses.{long, is-long}
use Rattle.net_model.specs.Net.{Net}
use Rattle.net_model.specs.Checks.{Passed}
use Rattle.net_model.specs.Runs.{Run}
use Rattle.cover_theory.specs.Covers.{Met, LeastPeriod}
use Rattle.cover_theory.specs.Board.{Satisfied}
use Rattle.cover_theory.specs.Key.{Key, entries, as_cover}
use Rattle.cover_period.specs.KeyUnique.{entries_unique}
use Rattle.cover_period.specs.Joined.{reachable-met, met-reachable}
use Rattle.cover_period.specs.Period.{least_period, least_period-is, least_period_unique, least_period-bound}
use Rattle.cover_period.specs.Written.{no_entry}
use Rattle.net_bytes.specs.Reading.{got}
use Rattle.net_bytes.specs.Readers.{got-value}
use Rattle.label_theory.specs.Labels.{plain}
use Rattle.cover_records.specs.CoverBytes.{Record, cover_bytes, cover_reader}
use Rattle.cover_records.specs.KeyRecord.{roomy, WithinLimits, key_back, key-length}
use Rattle.cover_records.specs.Outcomes.{accepted, turned_back, passes, check_net, cleared, written, map_sizes, MapOutcome, map_written, map_outcome, mark_sizes, MarkOutcome, mark_outcome}
use Rattle.job_sizes.specs.Sizes.{Fit}
use Rattle.job_sizes.specs.SizeLaws.{size_none, mark-sizes_are}
use Rattle.demands.specs.TurnedBack.{IsNet, IsRecord, MapFails, First}
use Rattle.demands.specs.Calls.{MapCall, MarkCall, map_done, mark_done, MapBad, MarkBad, MapNet, MarkNet, Asked}
use Rattle.demands.proofs.OrderLaws.{told-first, told_none, one-net, net-range}
use Rattle.demands.specs.Endings as ends
use Rattle.demands.proofs.MapEndsLaws as map
use Rattle.demands.proofs.MarkEndsLaws as mark
use Rattle.demands.specs.Right.{RightRecord, KeyRead}
use Rattle.demands.proofs.Demand2.{accepts, accepted_if, right-runs, right-excess, period-stated, target-accepted, least-accepted}
use Rattle.demands.specs.Right.{Wrote}
use Rattle.demands.proofs.Demand3.{wrote-key, limits, map-fit, met-written, least-written}

pub turned-not : {m n : ℕ} → turned_back m ≡ accepted n → ⊥
turned-not e = let z : ◌≡◌ {A = ℕ} 0 1 = cc in omega arith

pub accepted-not : {m n : ℕ} → accepted m ≡ turned_back n → ⊥
accepted-not e = let z : ◌≡◌ {A = ℕ} 0 1 = cc in omega arith

accepted-same : {m n : ℕ} → accepted m ≡ accepted n → m ≡ n
accepted-same e = cc

pub turned_same : {m n : ℕ} → turned_back m ≡ turned_back n → m ≡ n
turned_same e = cc

-- a number is 0 or it is not
zero? : (n : ℕ) → Dec (n ≡ 0)
zero? zero = yes refl
zero? (suc n) = no (λ e. omega arith)

module _ (c : MapCall) where
  pub map-told : (n : ℕ) → ((map_done c).answer ≡ turned_back n) ↔ First (MapBad c) n
  map-told = told-first (map_done c).answer (map.map-told c.net c.k c.target c.area c.scratch)

  pub map-none : ((n : ℕ) × ((map_done c).answer ≡ accepted n)) ↔ ((m : ℕ) → ¬ MapBad c m)
  map-none = told_none (map_done c).answer (map.map-told c.net c.k c.target c.area c.scratch)

  abbrev Ends : MapOutcome → Type 0
  Ends o = ends.MapEnds c.net c.k c.target c.area c.scratch o

  ended : Ends (map_done c)
  ended = map.map-ends c.net c.k c.target c.area c.scratch

  pub untouched : (n : ℕ) → (map_done c).answer ≡ turned_back n
      → ((map_done c).area ≡ c.area) × (n ≤ 3 → (map_done c).scratch ≡ c.scratch) × (3 < n → (map_done c).scratch ≡ cleared scratch_area c.scratch)
  unfolding map_written
  untouched n e = go ended e
    where
      go : {o : MapOutcome} → Ends o → o.answer ≡ turned_back n
          → (o.area ≡ c.area) × (n ≤ 3 → o.scratch ≡ c.scratch) × (3 < n → o.scratch ≡ cleared scratch_area c.scratch)
      go (ends.MapEnds.early m h f q) e =
          let same : m ≡ n = turned_same (sym (ap (λ (o : MapOutcome). o.answer) q) ∙ e) in
          (ap (λ (o : MapOutcome). o.area) q, λ l. ap (λ (o : MapOutcome). o.scratch) q, λ l. absurd (omega arith))
      go (ends.MapEnds.late m h f q) e =
          let same : m ≡ n = turned_same (sym (ap (λ (o : MapOutcome). o.answer) q) ∙ e) in
          (ap (λ (o : MapOutcome). o.area) q, λ l. absurd (omega arith), λ l. ap (λ (o : MapOutcome). o.scratch) q)
      go (ends.MapEnds.wrote N P φ K s p i none z t q) e = absurd (accepted-not (sym (ap (λ (o : MapOutcome). o.answer) q) ∙ e))

  -- what an accepted call of map found and wrote
  record Made (n : ℕ) : Type 0 where
    net : Net
    passed : Passed net c.k
    period : ℕ
    key : Key net c.k period
    sizes : map_sizes long c.k c.target c.area c.scratch ≡ 0
    checked : check_net long c.k c.net ≡ passes net passed
    is_net : IsNet c.k c.net net
    fine : (m : ℕ) → ¬ MapBad c m
    asked : Asked c net period
    size : n ≡ length (cover_bytes long period (entries key))
    front : (map_done c).area ≡ written (cover_bytes long period (entries key)) c.area
    wiped : (map_done c).scratch ≡ cleared scratch_area c.scratch

  made : (n : ℕ) → (map_done c).answer ≡ accepted n → Made n
  unfolding map_written
  made n e = go ended refl
    where
      go : {o : MapOutcome} → Ends o → map_done c ≡ o → Made n
      go (ends.MapEnds.early m h f q) w = absurd (turned-not (sym (ap (λ (o : MapOutcome). o.answer) (w ∙ q)) ∙ e))
      go (ends.MapEnds.late m h f q) w = absurd (turned-not (sym (ap (λ (o : MapOutcome). o.answer) (w ∙ q)) ∙ e))
      go (ends.MapEnds.wrote N P φ K s p i none z t q) w = record {
        net = N;
        passed = P;
        period = φ;
        key = K;
        sizes = s;
        checked = p;
        is_net = i;
        fine = none;
        asked = (t, λ h. subst (LeastPeriod N c.k) (sym (z h)) (least_period-is P));
        size = sym (accepted-same (sym (ap (λ (o : MapOutcome). o.answer) (w ∙ q)) ∙ e));
        front = ap (λ (o : MapOutcome). o.area) (w ∙ q);
        wiped = ap (λ (o : MapOutcome). o.scratch) (w ∙ q);
      }

  -- the period made is 1 or more, and no limit is broken
  made-positive : {n : ℕ} (w : Made n) → 1 ≤ w.period
  made-positive w = go (zero? c.target)
    where
      go : Dec (c.target ≡ 0) → 1 ≤ w.period
      go (yes z) = (w.asked.1 z).positive
      go (no z) = let e = w.asked.0 z in omega arith

  made-limits : {n : ℕ} (w : Made n) → WithinLimits long w.net c.k
  made-limits w = limits c.net c.k w.net w.passed (map-fit c.k c.target c.area c.scratch w.sizes).high w.checked

  made-near : {n : ℕ} (w : Made n) → w.period ≤ most_period
  made-near w = go (zero? c.target)
    where
      go : Dec (c.target ≡ 0) → w.period ≤ most_period
      go (yes z) =
          let l = made-limits w in
          let e = least_period_unique (w.asked.1 z) (least_period-is w.passed) in
          let b = least_period-bound w.passed l.gate in
          let g = l.gates in
          omega arith
      go (no z) = let e = w.asked.0 z in let f = (map-fit c.k c.target c.area c.scratch w.sizes).near in omega arith

  as_written : {n : ℕ} (w : Made n) → Wrote w.net c.k w.period c.area (map_done c).area n
  as_written {n} w =
      subst (λ (m : ℕ). Wrote w.net c.k w.period c.area (map_done c).area m) (sym w.size)
      (subst (λ (l : List ℕ). Wrote w.net c.k w.period c.area l (length (cover_bytes long w.period (entries w.key)))) (sym w.front)
      (wrote-key w.passed (made-limits w) (made-positive w) (made-near w) w.key c.area))

  pub leaves : (n : ℕ) → (map_done c).answer ≡ accepted n
      → (n ≤ cover_area) × ((N : Net) × (φ : ℕ) × MapNet c N × Asked c N φ × Wrote N c.k φ c.area (map_done c).area n) × ((map_done c).scratch ≡ cleared scratch_area c.scratch)
  leaves n e =
      let w = made n e in
      let l = key-length (roomy is-long) w.passed (made-limits w) (made-positive w) w.key in
      let s = w.size in (
        omega arith,
        (
          w.net,
          w.period,
          (w.is_net, λ m h. w.fine m),
          w.asked,
          as_written w,
        ),
        w.wiped,
      )

  -- the record that is read is the key's
  pub read-key : (n : ℕ) → (map_done c).answer ≡ accepted n → (N : Net) → IsNet c.k c.net N → (r : Record) → IsRecord N c.k (take n (map_done c).area) r → KeyRead plain N c.k r
  read-key n e N i r q = subst (KeyRead plain N c.k) record_same (subst (λ (M : Net). KeyRead plain M c.k recorded) net-same here)
    where
      w : Made n
      w = made n e

      bytes : List ℕ
      bytes = cover_bytes long w.period (entries w.key)

      recorded : Record
      recorded = record { period = w.period; entries = entries w.key }

      net-same : w.net ≡ N
      net-same = one-net c.k c.net w.is_net i

      front : take n (map_done c).area ≡ bytes
      front = ap (take n) w.front ∙ take_at bytes (drop (length bytes) c.area) n (sym w.size)

      back : cover_reader long w.net c.k bytes ≡ got recorded []
      back = key_back (roomy is-long) w.passed (made-limits w) (made-positive w) w.key (made-near w)

      record_same : recorded ≡ r
      record_same = got-value recorded [] r q.0 (sym back ∙ ap (λ (M : Net). cover_reader long M c.k bytes) net-same ∙ ap (cover_reader long N c.k) (sym front) ∙ q.1)

      here : KeyRead plain w.net c.k recorded
      here = record { passed = w.passed; positive = made-positive w; key = w.key; same = refl }

  pub keyed : (n : ℕ) → (map_done c).answer ≡ accepted n → (N : Net) → IsNet c.k c.net N → (φ : ℕ) → Asked c N φ
      → Key N c.k φ × ((K : Key N c.k φ) → (n ≡ length (cover_bytes long φ (entries K))) × ((map_done c).area ≡ written (cover_bytes long φ (entries K)) c.area))
  keyed n e N i φ a = subst (Holds N) (same (zero? c.target)) (subst (λ (M : Net). Holds M w.period) net-same here)
    where
      Holds : Net → ℕ → Type 0
      Holds M ψ = Key M c.k ψ × ((K : Key M c.k ψ) → (n ≡ length (cover_bytes long ψ (entries K))) × ((map_done c).area ≡ written (cover_bytes long ψ (entries K)) c.area))

      w : Made n
      w = made n e

      net-same : w.net ≡ N
      net-same = one-net c.k c.net w.is_net i

      here : Holds w.net w.period
      here = (w.key, λ K. rw (entries_unique w.passed K w.key) (w.size, w.front))

      same : Dec (c.target ≡ 0) → w.period ≡ φ
      same (yes z) = least_period_unique (subst (λ (M : Net). LeastPeriod M c.k w.period) net-same (w.asked.1 z)) (a.1 z)
      same (no z) = w.asked.0 z ∙ sym (a.0 z)

  pub unreached : ((map_done c).answer ≡ turned_back 12) ↔ ((N : Net) × MapNet c N × (¬ (c.target ≡ 0)) × (¬ Met N c.k c.target))
  unreached = (λ e. let f = (map-told 12).0 e in only f.fails f.none, λ u. (map-told 12).1 (first u))
    where
      passed : (N : Net) → MapNet c N → Passed N c.k
      passed N t = (map.map-taken c.net c.k c.target c.area c.scratch N t.0 t.1).1.0

      positive : ¬ (c.target ≡ 0) → 1 ≤ c.target
      positive t = go c.target t
        where
          go : (n : ℕ) → ¬ (n ≡ 0) → 1 ≤ n
          go zero t = absurd (t refl)
          go (suc n) t = omega arith

      only : MapBad c 12 → ((m : ℕ) → m < 12 → ¬ MapBad c m) → (N : Net) × MapNet c N × (¬ (c.target ≡ 0)) × (¬ Met N c.k c.target)
      only (MapFails.outside f q) none = absurd (omega arith)
      only (MapFails.above f q) none = absurd (omega arith)
      only (MapFails.room f q) none = absurd (omega arith)
      only (MapFails.space f q) none = absurd (omega arith)
      only (MapFails.of_net f) none = absurd (let r = net-range c.k c.net 12 f in omega (arith, r.1))
      only (MapFails.unreachable N i t f q) none = (N, (i, none), t, λ m. f (met-reachable (passed N (i, none)) (positive t) m))

      first : (N : Net) × MapNet c N × (¬ (c.target ≡ 0)) × (¬ Met N c.k c.target) → First (MapBad c) 12
      first (N, t, z, u) = record { fails = MapFails.unreachable N t.0 z (λ r. u (reachable-met (passed N t) (positive z) r)) refl; none = t.1 }

-- a target that is not 0
pub met_at : (c : MapCall) (N : Net) → MapNet c N → ¬ (c.target ≡ 0) → Met N c.k c.target
    → (n : ℕ) × ((map_done c).answer ≡ accepted n) × Wrote N c.k c.target c.area (map_done c).area n
met_at c N t z m = let s = map.map-taken c.net c.k c.target c.area c.scratch N t.0 t.1 in go c.target z m s.0 s.1.0 s.1.1
  where
    go : (φ : ℕ) → ¬ (φ ≡ 0) → Met N c.k φ → map_sizes long c.k φ c.area c.scratch ≡ 0 → (P : Passed N c.k) → check_net long c.k c.net ≡ passes N P
        → (n : ℕ) × ((map_outcome long c.net c.k φ c.area c.scratch).answer ≡ accepted n) × Wrote N c.k φ c.area (map_outcome long c.net c.k φ c.area c.scratch).area n
    go zero z m s P p = absurd (z refl)
    go (suc φ) z m s P p = met-written c.net c.area c.scratch c.k φ N P s p m

pub least_at : (c : MapCall) (N : Net) → MapNet c N → c.target ≡ 0
    → (φ n : ℕ) × ((map_done c).answer ≡ accepted n) × Wrote N c.k φ c.area (map_done c).area n × LeastPeriod N c.k φ
least_at c N t z =
    let s = map.map-taken c.net c.k c.target c.area c.scratch N t.0 t.1 in
    subst Written (sym z)
    (least-written c.net c.area c.scratch c.k N s.1.0 (subst (λ (n : ℕ). map_sizes long c.k n c.area c.scratch ≡ 0) z s.0) s.1.1)
  where
    Written : ℕ → Type 0
    Written x =
        (φ n : ℕ) × ((map_outcome long c.net c.k x c.area c.scratch).answer ≡ accepted n)
        × Wrote N c.k φ c.area (map_outcome long c.net c.k x c.area c.scratch).area n × LeastPeriod N c.k φ

-- what map writes, mark accepts
pub owned : (c : MapCall) (n : ℕ) → (map_done c).answer ≡ accepted n → (scratch : List ℕ) → scratch_area ≤ length scratch
    → (x : ℕ) × ((mark_done (record { net = c.net; k = c.k; bytes = take n (map_done c).area; scratch = scratch })).answer ≡ accepted x) × (c.target ≡ 0 → x ≡ 0)
owned c n e scratch h = go c.target w.sizes e
  where
    w : Made c n
    w = made c n e

    fit : Fit long c.k c.target (length c.area) (length c.scratch)
    fit = map-fit c.k c.target c.area c.scratch w.sizes

    sizes : mark_sizes long c.k scratch ≡ 0
    sizes = mark-sizes_are long c.k scratch ∙ sym (size_none long c.k 0 cover_area (length scratch) fit.low fit.high (omega arith) (omega arith) h)

    go : (t : ℕ) → map_sizes long c.k t c.area c.scratch ≡ 0 → (map_outcome long c.net c.k t c.area c.scratch).answer ≡ accepted n
        → (x : ℕ) × ((mark_outcome long c.net c.k (take n (map_outcome long c.net c.k t c.area c.scratch).area) scratch).answer ≡ accepted x) × (t ≡ 0 → x ≡ 0)
    go zero s e = (0, least-accepted c.net c.area c.scratch scratch c.k w.net w.passed sizes w.checked n s e, λ z. refl)
    go (suc t) s e =
        (suc t - least_period w.passed, target-accepted c.net c.area c.scratch scratch c.k w.net w.passed sizes w.checked t n s e, λ z. absurd (omega arith))

module _ (c : MarkCall) where
  pub mark-told : (n : ℕ) → ((mark_done c).answer ≡ turned_back n) ↔ First (MarkBad c) n
  mark-told = told-first (mark_done c).answer (mark.mark-told c.net c.k c.bytes c.scratch)

  pub mark-none : ((n : ℕ) × ((mark_done c).answer ≡ accepted n)) ↔ ((m : ℕ) → ¬ MarkBad c m)
  mark-none = told_none (mark_done c).answer (mark.mark-told c.net c.k c.bytes c.scratch)

  pub mark-left : (n : ℕ) → ((mark_done c).answer ≡ accepted n → (mark_done c).scratch ≡ cleared scratch_area c.scratch)
      × ((mark_done c).answer ≡ turned_back n → (n ≤ 3 → (mark_done c).scratch ≡ c.scratch) × (3 < n → (mark_done c).scratch ≡ cleared scratch_area c.scratch))
  mark-left n = go (mark.mark-ends c.net c.k c.bytes c.scratch)
    where
      go : {o : MarkOutcome} → ends.MarkEnds c.net c.k c.bytes c.scratch o → (o.answer ≡ accepted n → o.scratch ≡ cleared scratch_area c.scratch)
          × (o.answer ≡ turned_back n → (n ≤ 3 → o.scratch ≡ c.scratch) × (3 < n → o.scratch ≡ cleared scratch_area c.scratch))
      go (ends.MarkEnds.early m h f q) = (
        λ e. absurd (turned-not (sym (ap (λ (o : MarkOutcome). o.answer) q) ∙ e)),
        λ e. let same : m ≡ n = turned_same (sym (ap (λ (o : MarkOutcome). o.answer) q) ∙ e) in (λ l. ap (λ (o : MarkOutcome). o.scratch) q, λ l. absurd (omega arith)),
      )
      go (ends.MarkEnds.late m h f q) = (
        λ e. absurd (turned-not (sym (ap (λ (o : MarkOutcome). o.answer) q) ∙ e)),
        λ e. let same : m ≡ n = turned_same (sym (ap (λ (o : MarkOutcome). o.answer) q) ∙ e) in (λ l. absurd (omega arith), λ l. ap (λ (o : MarkOutcome). o.scratch) q),
      )
      go (ends.MarkEnds.marked m s none q) = (λ e. ap (λ (o : MarkOutcome). o.scratch) q, λ e. absurd (accepted-not (sym (ap (λ (o : MarkOutcome). o.answer) q) ∙ e)))

  pub marked : (N : Net) → MarkNet c N → (x : ℕ)
      → ((mark_done c).answer ≡ accepted x) ↔ ((r : Record) × IsRecord N c.k c.bytes r × RightRecord N c.k r × ((l : ℕ) × LeastPeriod N c.k l × (r.period ≡ x + l)))
  marked N t x = (forth, back)
    where
      taken : (mark_sizes long c.k c.scratch ≡ 0) × ((P : Passed N c.k) × (check_net long c.k c.net ≡ passes N P))
      taken = mark.mark-taken c.net c.k c.bytes c.scratch N t.0 t.1

      P : Passed N c.k
      P = taken.1.0

      forth : (mark_done c).answer ≡ accepted x → (r : Record) × IsRecord N c.k c.bytes r × RightRecord N c.k r × ((l : ℕ) × LeastPeriod N c.k l × (r.period ≡ x + l))
      forth e =
          let a = accepts c.net c.bytes c.scratch c.k N P taken.0 taken.1.1 x e in
          let r = a.0 in
          let h = right-excess P r (period-stated N c.k c.bytes r a.1 a.2) a.3 in
          let d = a.4 in
          (r, (a.1, a.2), a.3, (least_period P, least_period-is P, omega arith))

      back : (r : Record) × IsRecord N c.k c.bytes r × RightRecord N c.k r × ((l : ℕ) × LeastPeriod N c.k l × (r.period ≡ x + l)) → (mark_done c).answer ≡ accepted x
      back (r, j, g, (l, L, q)) =
          let same : l ≡ least_period P = least_period_unique L (least_period-is P) in
          accepted_if c.net c.bytes c.scratch c.k N P taken.0 taken.1.1 r j.0 j.1 g ∙ ap accepted (omega arith)

  pub ran : (x : ℕ) → (mark_done c).answer ≡ accepted x → (N : Net) → IsNet c.k c.net N → (r : Record) → IsRecord N c.k c.bytes r
      → {value : ℕ → ℕ → Bool} → Run N value → (i : ℕ) → i < length r.entries → Satisfied N (as_cover N r.entries) value i (get_or r.entries i no_entry).table
  ran x e N i r j run n h =
      let none = mark-none.0 (x, e) in
      let t : MarkNet c N = (i, λ m l. none m) in
      let a = (marked N t x).0 e in
      let same : a.0 ≡ r = got-value a.0 a.1.0 r j.0 (sym a.1.1 ∙ j.1) in
      right-runs (mark.mark-taken c.net c.k c.bytes c.scratch N i (λ m l. none m)).1.0 r (subst (RightRecord N c.k) same a.2) run n h
