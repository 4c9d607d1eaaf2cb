-- Demand 2, about the outcome of mark: it accepts a record exactly if it is, in 01's layout, a cover of that net for that k whose lags meet its stated period,
-- with the tables of its LUTs; every run of the net, shifted by the lags, satisfies each LUT of an accepted record; every record that map writes is accepted.
use Rattle.std.specs.Prelude.{◌≡◌, Bool, ◌↔◌, length, get_or, take, drop}
use Rattle.std.proofs.Math.Path.{refl, subst, ap}
use Rattle.std.proofs.Common.{sym, ◌∙◌, le_trans, take_at}
use Rattle.std.proofs.Math.Bool.{false}
use mathlib.Core.List.{List, [], ◌∷◌, ◌++◌}
use Prim.Native.Nat.{ℕ, zero, suc, ◌+◌, ◌-◌, ◌≤◌, ◌<◌, suc-le-suc, zero-le}
use native.Mathlib.Omega.{arith}
use Rattle.sequences.specs.Member.{◌∈◌, get_or_in, in_get_or}
use Rattle.net_model.specs.Net.{Net, Pin, IsGate, size}
use Rattle.net_model.specs.Checks.{Passed}
use Rattle.net_model.specs.Copies.{Copy, copy, IsCut}
use Rattle.net_model.specs.Runs.{Run}
use Rattle.cone_theory.specs.Ranks.{ranked}
use Rattle.cover_theory.specs.Covers.{Lut, lut, output, IsCover, Meets, RootedAt}
use Rattle.cover_theory.specs.Board.{Satisfied}
use Rattle.label_theory.specs.Labels.{Mode}
use Rattle.cover_theory.specs.Key.{KeyIn, Key, Entry, HasLut, entries, place_of, as_lut, as_cover}
use Rattle.cover_period.specs.Joined.{key?, key-met}
use Rattle.cover_period.specs.KeyOf.{entries_in_lem, roots-gate, entry_of}
use Rattle.cover_period.specs.Period.{least_period, least_period-is, least_key, least_period-bound}
use Rattle.cover_period.specs.Written.{no_entry, lut-as_cover, luts-as_cover}
use Rattle.limits.specs.Limits.{most_period, most_luts, cover_area}
use Rattle.limits.specs.Courses.{long, is-long}
use Rattle.net_bytes.specs.Reading.{got, refused, Result, Reader, and_then, at_end, between}
use Rattle.net_bytes.specs.Readers.{refused-not-got, got-value, then-got, byte-got, at_end-got}
use Rattle.net_bytes.specs.Sound.{between-true}
use Rattle.cover_records.specs.CoverBytes.{Record, cover_bytes, cover_reader, cover_byte, luts_reader}
use Rattle.cover_records.specs.MarkingDecided.{cuts_right?, tables_right?, all_fed?, enough?, short_chains?}
use Rattle.cover_records.specs.KeyRecord.{roomy, WithinLimits, key_back}
use Rattle.cover_records.specs.Marking.{CutsRight, TableRight, TablesRight, AllFed, EnoughRegisters, ShortChains}
use Rattle.cover_records.specs.Accepted.{Covering, covering_cover, excess-is, accepted-runs}
use Rattle.cover_records.specs.Outcomes.{Answer, accepted, turned_back, Checked, passes, check_net, MarkOutcome, MapOutcome, map_sizes, written, for_target, map_written, mapped_in, map_outcome, mark_sizes, judged, mark_read, mark_checked, mark_sized, mark_outcome}
use Rattle.job_sizes.specs.SizeLaws.{fit, mark-sizes_are}
use Rattle.demands.specs.Right.{RightRecord}
use Rattle.demands.proofs.Demand3.{outcome-is, limits, map-fit}

module _ (N : Net) (k : ℕ) (es : List Entry) where
  -- the root of a cut is a gate
  root-gate : CutsRight N k es → (e : Entry) → e ∈ es → IsGate N e.root
  root-gate c e m = let t = c e m in t.is_cone.gates (copy e.root 0) t.is_cone.root

  pub covering_of : CutsRight N k es → AllFed N es → EnoughRegisters N es → Covering N k es
  covering_of a b c = record { roots = root-gate a; cuts = a; fed = b; enough = c }

  -- a cover's parts, entry by entry
  at_entry : (P : Lut → Type 0) → ((i : ℕ) → i < length (as_cover N es).luts → P (lut (as_cover N es) i)) → (e : Entry) → e ∈ es → P (as_lut e)
  at_entry P f e m =
      let t = get_or_in m in
      let n = luts-as_cover N es in
      subst (λ (x : Entry). P (as_lut x)) (t.2 no_entry) (subst P (lut-as_cover N es t.0) (f t.0 (omega (arith, t.1))))

  has-lut : (u : ℕ) → RootedAt (as_cover N es) u (place_of es u) → HasLut es u
  has-lut u r =
      let n = luts-as_cover N es in (
        get_or es (place_of es u) no_entry,
        in_get_or es (place_of es u) no_entry (omega (arith, r.listed)),
        sym (ap (λ (z : Lut). z.root) (lut-as_cover N es (place_of es u))) ∙ r.rooted,
      )

  pub cover-cuts : IsCover N k (as_cover N es) → CutsRight N k es
  cover-cuts c e m = at_entry (λ z. IsCut N k z.root z.leaves) c.cuts e m

  pub cover-fed : IsCover N k (as_cover N es) → AllFed N es
  cover-fed c = record {
    leaves = λ e m. at_entry (λ z. (y : Copy) → y ∈ z.leaves → IsGate N y.node → HasLut es y.node) (λ i h y k' g. has-lut y.node (c.fed i h y k' g)) e m;
    outputs = λ o m g. from o (get_or_in m) g;
  }
    where
      from : (o : Pin) → (n : ℕ) × (n < length N.outputs) × ((d : Pin) → get_or N.outputs n d ≡ o) → IsGate N o.src → HasLut es o.src
      from o t g =
          let e : output N t.0 ≡ o = t.2 (record { src = 0; count = 0 }) in
          subst (λ (p : Pin). IsGate N p.src → HasLut es p.src) e (λ h. has-lut (output N t.0).src (c.names t.0 t.1 h)) g

  pub cover-enough : IsCover N k (as_cover N es) → EnoughRegisters N es
  cover-enough c = record { leaves = λ i h y m. c.leaf_registers i (let n = luts-as_cover N es in omega arith) y m; outputs = c.output_registers }

-- ---- what mark says of a record that was read

module _ {N : Net} {k : ℕ} (P : Passed N k) (r : Record) where
  right_record : CutsRight N k r.entries → TablesRight N k r.entries → AllFed N r.entries → EnoughRegisters N r.entries → ShortChains N r.period r.entries → RightRecord N k r
  right_record a b c d e = record { tables = b; is_cover = covering_cover N k r.entries (covering_of N k r.entries a c d); meets = e }

  refusal-not : (m n : ℕ) → turned_back m ≡ accepted n → ⊥
  refusal-not m n e = let z : ◌≡◌ {A = ℕ} 0 1 = cc in omega arith

  judged-right : (a : Dec (CutsRight N k r.entries)) (b : Dec (TablesRight N k r.entries)) (c : Dec (AllFed N r.entries)) (d : Dec (EnoughRegisters N r.entries))
      (e : Dec (ShortChains N r.period r.entries)) (x n : ℕ) → judged N k r a b c d e x ≡ accepted n → RightRecord N k r × (n ≡ x)
  unfolding judged
  judged-right (no a) b c d e x n q = absurd (refusal-not 14 n q)
  judged-right (yes a) (no b) c d e x n q = absurd (refusal-not 15 n q)
  judged-right (yes a) (yes b) (no c) d e x n q = absurd (refusal-not 16 n q)
  judged-right (yes a) (yes b) (yes c) (no d) e x n q = absurd (refusal-not 17 n q)
  judged-right (yes a) (yes b) (yes c) (yes d) (no e) x n q = absurd (refusal-not 18 n q)
  judged-right (yes a) (yes b) (yes c) (yes d) (yes e) x n q = (right_record a b c d e, cc)

  right-judged : RightRecord N k r → (a : Dec (CutsRight N k r.entries)) (b : Dec (TablesRight N k r.entries)) (c : Dec (AllFed N r.entries))
      (d : Dec (EnoughRegisters N r.entries)) (e : Dec (ShortChains N r.period r.entries)) (x : ℕ) → judged N k r a b c d e x ≡ accepted x
  unfolding judged
  right-judged g (no a) b c d e x = absurd (a (cover-cuts N k r.entries g.is_cover))
  right-judged g (yes a) (no b) c d e x = absurd (b g.tables)
  right-judged g (yes a) (yes b) (no c) d e x = absurd (c (cover-fed N k r.entries g.is_cover))
  right-judged g (yes a) (yes b) (yes c) (no d) e x = absurd (d (cover-enough N k r.entries g.is_cover))
  right-judged g (yes a) (yes b) (yes c) (yes d) (no e) x = absurd (e g.meets)
  right-judged g (yes a) (yes b) (yes c) (yes d) (yes e) x = refl

-- ---- mark

module _ (net bytes scratch : List ℕ) (k : ℕ) (N : Net) (P : Passed N k) (sizes : mark_sizes long k scratch ≡ 0) (passed : check_net long k net ≡ passes N P) where
  pub answer-is : (mark_outcome long net k bytes scratch).answer ≡ mark_read N k P (cover_reader long N k bytes)
  unfolding mark_outcome mark_sized mark_checked
  answer-is =
      ap (λ (n : ℕ). (mark_sized long n k net bytes scratch).answer) sizes
      ∙ ap (λ (c : Checked k). mark_checked long k c bytes) passed

  -- **Mark accepts exactly the records of covers that meet their stated period**, in 01's layout and with right tables; the excess is the period less the least one.
  pub accepts : (n : ℕ) → (mark_outcome long net k bytes scratch).answer ≡ accepted n
      → (r : Record) × (rest : List ℕ) × (cover_reader long N k bytes ≡ got r rest) × RightRecord N k r × (n ≡ r.period - least_period P)
  accepts n e = go (cover_reader long N k bytes) refl (sym answer-is ∙ e)
    where
      go : (x : Result Record) → cover_reader long N k bytes ≡ x → mark_read N k P x ≡ accepted n
          → (r : Record) × (rest : List ℕ) × (cover_reader long N k bytes ≡ got r rest) × RightRecord N k r × (n ≡ r.period - least_period P)
      go (refused m) q a = absurd (refusal-not P (record { period = 0; entries = [] }) m n (unfold mark_read in a))
      go (got r rest) q a =
          let j = judged-right P r (cuts_right? (ranked P.reached) k r.entries) (tables_right? P r.entries) (all_fed? N r.entries) (enough? N r.entries)
          (short_chains? N r.period r.entries) (r.period - least_period P) n (unfold mark_read in a) in
          (r, rest, q, j.0, j.1)

  pub accepted_if : (r : Record) (rest : List ℕ) → cover_reader long N k bytes ≡ got r rest → RightRecord N k r
      → (mark_outcome long net k bytes scratch).answer ≡ accepted (r.period - least_period P)
  unfolding mark_read
  accepted_if r rest e g =
      answer-is ∙ ap (mark_read N k P) e
      ∙ right-judged P r g (cuts_right? (ranked P.reached) k r.entries) (tables_right? P r.entries) (all_fed? N r.entries) (enough? N r.entries)
      (short_chains? N r.period r.entries) (r.period - least_period P)

-- ---- runs, and map's own records

-- **Every run of the net, shifted by the lags, satisfies each LUT of an accepted record** at every step at which its values exist.
pub right-runs : {N : Net} {k : ℕ} (P : Passed N k) (r : Record) → RightRecord N k r → {value : ℕ → ℕ → Bool} → Run N value → (i : ℕ) → i < length r.entries
    → Satisfied N (as_cover N r.entries) value i (get_or r.entries i no_entry).table
right-runs P r g run i h = accepted-runs P {es = r.entries} g.tables run i h

-- a record that the layout reads states a period of 1 or more
pub period-stated : (N : Net) (k : ℕ) (bytes : List ℕ) (r : Record) (rest : List ℕ) → cover_reader long N k bytes ≡ got r rest → 1 ≤ r.period
period-stated N k bytes r rest e =
    let a = then-got (cover_byte (between 1 most_period) bytes) (λ period. behind N k period) r rest (unfold cover_reader in e) in
    let b = then-got (cover_byte (between 1 most_luts) a.1) (λ n. luts N k a.0 n) r rest a.3 in
    let c = then-got (luts_reader false (size N) k b.0 N.inputs b.1) (λ es. at_end 13 (record { period = a.0; entries = es })) r rest b.3 in
    let d = at_end-got 13 (record { period = a.0; entries = c.0 }) c.1 r rest c.3 in
    subst (λ (x : Record). 1 ≤ x.period) d.0 (between-true 1 most_period a.0 (byte-got 13 13 (between 1 most_period) bytes a.0 a.1 a.2)).0
  where
    luts : Net → ℕ → ℕ → ℕ → Reader Record
    luts N k period n s = and_then (luts_reader false (size N) k n N.inputs s) (λ es. at_end 13 (record { period = period; entries = es }))

    behind : Net → ℕ → ℕ → Reader Record
    behind N k period s = and_then (cover_byte (between 1 most_luts) s) (λ n. luts N k period n)

-- the excess of an accepted record is not cut off at 0
pub right-excess : {N : Net} {k : ℕ} (P : Passed N k) (r : Record) → 1 ≤ r.period → RightRecord N k r → least_period P ≤ r.period
right-excess {N} {k} P r h g =
    excess-is P {es = r.entries} h
    (covering_of N k r.entries (cover-cuts N k r.entries g.is_cover) (cover-fed N k r.entries g.is_cover) (cover-enough N k r.entries g.is_cover)) g.meets

module _ {M : Mode} {N : Net} {k φ : ℕ} (P : Passed N k) (h : 1 ≤ φ) (K : KeyIn M N k φ) where
  key-table : (e : Entry) → e ∈ entries K → TableRight N k e
  key-table e m = let t = entries_in_lem K m in subst (TableRight N k) (sym t.2) (right t.0 (roots-gate K t.0 t.1))
    where
      right : (v : ℕ) → IsGate N v → TableRight N k (entry_of K v)
      right v g =
          let c = K.cut v g in
          record {
            cut = record {
              cone = K.cone v;
              is_cone = rw (K.is_cone v g) c.is_cone;
              is_leaves = rw (K.is_cone v g) (rw (K.is_leaves v g) c.is_leaves);
              few = rw (K.is_leaves v g) c.few;
            };
            table = refl;
          }

  -- **Every record that map writes is right**, so mark accepts it.
  pub key_right : RightRecord N k (record { period = φ; entries = entries K })
  key_right = record { tables = key-table; is_cover = (key-met P h K).0; meets = (key-met P h K).1 }

module _ (net area scratch scratch' : List ℕ) (k : ℕ) (N : Net) (P : Passed N k) (sizes' : mark_sizes long k scratch' ≡ 0) (passed : check_net long k net ≡ passes N P) where
  within : WithinLimits long N k
  within = limits net k N P (fit long k 0 cover_area (length scratch') (sym (mark-sizes_are long k scratch') ∙ sizes')).high passed

  -- the record of a key is accepted
  pub key-accepted : {M : Mode} {φ : ℕ} → 1 ≤ φ → φ ≤ most_period → (K : KeyIn M N k φ) → (mark_outcome long net k (cover_bytes long φ (entries K)) scratch').answer ≡ accepted (φ - least_period P)
  key-accepted {M} {φ} h h' K =
      accepted_if net (cover_bytes long φ (entries K)) scratch' k N P sizes' passed (record { period = φ; entries = entries K }) [] (key_back (roomy is-long) P within h K h') (key_right P h K)

  -- the area's first n bytes are the record, where n is its length
  in_front : (bytes : List ℕ) (n : ℕ) → accepted (length bytes) ≡ accepted n → take n (written bytes area) ≡ bytes
  in_front bytes n e = take_at bytes (drop (length bytes) area) n (same e)
    where
      same : accepted (length bytes) ≡ accepted n → length bytes ≡ n
      same e = cc

  -- **Every record that map writes for a target is accepted**, with excess target less least period.
  pub target-accepted : (t n : ℕ) → map_sizes long k (suc t) area scratch ≡ 0 → (map_outcome long net k (suc t) area scratch).answer ≡ accepted n
      → (mark_outcome long net k (take n (map_outcome long net k (suc t) area scratch).area) scratch').answer ≡ accepted (suc t - least_period P)
  unfolding map_written mapped_in for_target
  target-accepted t n sizes e =
      let o = outcome-is net area scratch k (suc t) N P sizes passed in
      subst (λ (x : MapOutcome). x.answer ≡ accepted n → (mark_outcome long net k (take n x.area) scratch').answer ≡ accepted (suc t - least_period P)) (sym o) (go (key? P (suc-le-suc zero-le))) e
    where
      go : (d : Dec (Key N k (suc t))) → (map_written long (for_target N k (suc t) d) area scratch).answer ≡ accepted n
          → (mark_outcome long net k (take n (map_written long (for_target N k (suc t) d) area scratch).area) scratch').answer ≡ accepted (suc t - least_period P)
      go (yes K) q = ap (λ (bytes : List ℕ). (mark_outcome long net k bytes scratch').answer) (in_front (cover_bytes long (suc t) (entries K)) n q) ∙ key-accepted (suc-le-suc zero-le) (map-fit k (suc t) area scratch sizes).near K
      go (no m) q = absurd (refusal-not P (record { period = 0; entries = [] }) 12 n q)

  -- **With target 0 too**, with excess 0.
  pub least-accepted : (n : ℕ) → map_sizes long k 0 area scratch ≡ 0 → (map_outcome long net k 0 area scratch).answer ≡ accepted n
      → (mark_outcome long net k (take n (map_outcome long net k 0 area scratch).area) scratch').answer ≡ accepted 0
  unfolding map_written mapped_in
  least-accepted n sizes e =
      let o = outcome-is net area scratch k 0 N P sizes passed in
      subst (λ (x : MapOutcome). x.answer ≡ accepted n → (mark_outcome long net k (take n x.area) scratch').answer ≡ accepted 0) (sym o) right e
    where
      none : least_period P - least_period P ≡ 0
      none = omega arith

      right : accepted (length (cover_bytes long (least_period P) (entries (least_key P)))) ≡ accepted n
          → (mark_outcome long net k (take n (written (cover_bytes long (least_period P) (entries (least_key P))) area)) scratch').answer ≡ accepted 0
      right q =
          ap (λ (bytes : List ℕ). (mark_outcome long net k bytes scratch').answer) (in_front (cover_bytes long (least_period P) (entries (least_key P))) n q)
          ∙ key-accepted (least_period-is P).positive (le_trans (least_period-bound P within.gate) within.gates) (least_key P) ∙ ap accepted none
