-- A cover settled can be written, in each mode: its arrays are long enough, its numbers fit their bytes, its record fits the area.
use Rattle.std.specs.Prelude.{◌≡◌, refl, List, ◌∷◌, Bool, true, cond, ℕ, zero, suc, ◌+◌, ◌*◌, ◌≤◌, ◌<◌, eqb, ℤ, length, drop}
use Rattle.std.proofs.Common.{sym, ap, ◌∙◌, eqb-true, length-drop}
use Rattle.std.proofs.Math.Path.{subst}
use Rattle.std.proofs.Math.Bool.{false}
use Rattle.std.proofs.Math.Decide.{ℕ_discrete}
use native.Mathlib.Omega.{arith}
use Rattle.std.proofs.Math.ListN.{get_or}
use Rattle.integers.specs.Lag.{lag}
use Rattle.sequences.specs.Member.{◌∈◌, here, there, not_in_nil}
use Rattle.net_model.specs.Net.{Net, Pin, IsGate, pins, size}
use Rattle.net_model.specs.Arrays.{stride, net_in, copy_at}
use Rattle.net_model.specs.ArrayLaws.{in_copies_from}
use Rattle.net_model.specs.Wired.{Wired}
use Rattle.net_model.specs.WiredLaws.{net_in-wired, wired-gate, gate-wired, pin-wired}
use Rattle.net_model.specs.Checks.{Passed}
use Rattle.net_model.specs.PackedNet.{sources_at, counts_at}
use Rattle.limits.specs.Limits.{most_nodes, most_gates, most_pins, most_rows, most_period, cover_area}
use Rattle.limits.specs.Courses.{long, is-long}
use Rattle.label_theory.specs.Labels.{Mode}
use Rattle.cover_theory.specs.Key.{Entry}
use Rattle.cover_period.specs.Period.{least_period_in-bound}
use Rattle.cover_records.specs.CoverBytes.{cover_bytes}
use Rattle.cover_records.specs.Kept.{Kept, entry_at, entries_from, entries_in}
use Rattle.cover_records.specs.Rows.{kept_in}
use Rattle.cover_records.specs.RoundTrip.{SmallLag, AllWritable, none, next}
use Rattle.cover_records.specs.RoundTrip as trip
use Rattle.cover_records.specs.KeyRecord.{WithinLimits, roomy, key-lag, key-writable, key-length}
use Rattle.net_reader.specs.ReadAnswer.{arrays_of}
use Rattle.net_reader.specs.declared.NetSizes.{NetSizes}
use Rattle.cover_writer.specs.Writing.{ArraysHeld, LutHeld, Writable}
use Rattle.label_period.specs.PeriodSearchLaws.{first_unique}
use Rattle.job_plan.specs.Planned.{Covered}
use Rattle.job_settle.specs.Settling.{Settling}

-- the LUT of a marked gate is among all
pub entry_in : (a : Kept) (g n h : ℕ) → g ≤ h → h < g + n → ¬ (get_or a.marks h 0 ≡ 0) → entry_at a h ∈ entries_from a g n
unfolding entries_from
entry_in a g zero h p q m = absurd (empty p q)
  where
    empty : g ≤ h → h < g + 0 → ⊥
    empty p q = omega arith
entry_in a g (suc n) h p q m = go (λ d. entry_in a (suc g) n h (omega arith) (omega arith) m) (eqb (get_or a.marks g 0) 0) refl (ℕ_discrete h g)
  where
    go : (¬ (h ≡ g) → entry_at a h ∈ entries_from a (suc g) n) → (t : Bool) → eqb (get_or a.marks g 0) 0 ≡ t → Dec (h ≡ g)
        → entry_at a h ∈ cond t (entries_from a (suc g) n) (entry_at a g ∷ entries_from a (suc g) n)
    go later true z (yes e) = absurd (m (ap (λ (x : ℕ). get_or a.marks x 0) e ∙ eqb-true (get_or a.marks g 0) 0 z))
    go later true z (no d) = later d
    go later false z (yes e) = here (ap (entry_at a) e)
    go later false z (no d) = there (later d)

-- each LUT of a list that can be written can be
writable-at : {wide : Bool} {nodes k least : ℕ} {es : List Entry} {e : Entry} → AllWritable wide nodes k least es → e ∈ es → (l : ℕ) × trip.Writable wide nodes k l e
writable-at none m = absurd (not_in_nil m)
writable-at {wide} {nodes} {k} {least} (next w ws) (here e) = (least, subst (trip.Writable wide nodes k least) (sym e) w)
writable-at (next w ws) (there m) = writable-at ws m

-- the arrays are long enough
pub record Long (a : Kept) : Type 0 where
  pub at_labels : length a.labels ≡ most_nodes
  pub at_marks : a.gates ≤ length a.marks
  pub at_sizes : a.gates ≤ length a.sizes
  pub at_nodes : stride * a.gates ≤ length a.nodes
  pub at_backs : stride * a.gates ≤ length a.backs
  pub at_tables : length a.tables ≡ most_gates

pub rows_long : {I G φ : ℕ} {labels : List ℤ} {rows tables : List ℕ} → G ≤ most_gates → length labels ≡ most_nodes → length rows ≡ most_rows → length tables ≡ most_gates → Long (kept_in I G φ labels rows tables)
rows_long {G = G} {rows = rows} h e f t = record {
  at_labels = e;
  at_marks = omega (arith, h, f);
  at_sizes = omega (arith, h, f, length-drop G rows);
  at_nodes = omega (arith, h, f, length-drop (2 * G) rows);
  at_backs = omega (arith, h, f, length-drop ((2 + most_pins) * G) rows);
  at_tables = t;
}

module _ {M : Mode} {k target : ℕ} {z : NetSizes} {net ts : List ℕ} (s : Settling k target z net ts) {a : Kept} (i : a.inputs ≡ z.inputs) (g : a.gates ≡ z.gates) (l : Long a)
    (P : Passed (net_in (arrays_of z net ts)) k) (c : Covered M (net_in (arrays_of z net ts)) k target a) where
  abbrev N : Net
  N = net_in (arrays_of z net ts)

  wired : Wired N z.inputs z.gates net (drop (sources_at z.gates) net) (drop (counts_at z.gates) net)
  wired = net_in-wired (arrays_of z net ts)

  pub within : WithinLimits long N k
  within = record {
    gate = let e = wired.gates in let h = s.facts.gates-low in omega arith;
    gates = let e = wired.gates in let h = s.facts.gates-high in omega arith;
    counts = λ v x p m.
        let q = gate-wired wired v x in
        let t = pin-wired wired q.0 q.1 p (subst (λ (u : ℕ). p ∈ pins N u) q.2 m) in
        omega (arith, ap (λ (y : Pin). y.count) t.2, s.facts.count q.0 t.0 q.1 t.1);
    size = s.high;
  }

  -- the period fits
  period-small : a.period ≤ most_period
  period-small = go target refl
    where
      go : (t : ℕ) → target ≡ t → a.period ≤ most_period
      go zero e =
          let x = first_unique P (c.least e) in
          let b = least_period_in-bound P M within.gate in
          let d = within.gates in
          omega arith
      go (suc t) e = let x = c.given (omega arith) in let n = s.near in omega arith

  arrays : ArraysHeld a
  arrays = record {
    marks = l.at_marks;
    sizes = l.at_sizes;
    tables = let h = s.facts.gates-high in let e = l.at_tables in omega arith;
    nodes = l.at_nodes;
    backs = l.at_backs;
    labels = let h = s.facts.gates-high in let d = s.facts.inputs-high in let e = l.at_labels in omega arith;
    least = c.positive;
    period = let h = period-small in omega arith;
    roots = let h = s.facts.gates-high in let d = s.facts.inputs-high in omega arith;
    luts = let h = s.facts.gates-high in omega arith;
  }

  lut-held : (x : ℕ) → x < a.gates → ¬ (get_or a.marks x 0 ≡ 0) → LutHeld a x
  unfolding entry_at entries_in
  lut-held x h m =
      let all = subst (AllWritable false (size N) k N.inputs) c.same (key-writable (roomy is-long) P within c.positive c.key) in
      let t = (writable-at all (entry_in a 0 a.gates x (omega arith) (omega (arith, h)) m)).1 in
      let v : IsGate N (a.inputs + x) = subst (IsGate N) (ap (λ (n : ℕ). n + x) (sym i)) (wired-gate wired x (omega (arith, h, g))) in
      let in_at : (j : ℕ) → j < get_or a.sizes x 0 → copy_at a.nodes a.backs (stride * x + j) ∈ (entry_at a x).leaves
      = λ j q. in_copies_from a.nodes a.backs (stride * x) (get_or a.sizes x 0) (stride * x + j) (omega arith) (omega (arith, q)) in
      record {
        few = c.few x h m;
        nodes = record { each = λ j q. let b = t.inside (copy_at a.nodes a.backs (stride * x + j)) (in_at j q) in let e = wired.gates in let d = wired.inputs in let y = s.facts.gates-high in let x = s.facts.inputs-high in omega arith };
        backs = record { each = λ j q. t.depth (copy_at a.nodes a.backs (stride * x + j)) (in_at j q) };
        label = c.small x h;
        small_lag = subst (λ (l : ℤ). SmallLag false (lag a.period l)) (c.labels (a.inputs + x) v) (key-lag (roomy is-long) P within c.positive c.key (a.inputs + x) v);
      }

  pub cover-small : length (cover_bytes long a.period (entries_in a)) ≤ cover_area
  cover-small = let e = ap (λ (es : List Entry). length (cover_bytes long a.period es)) c.same in let b = key-length (roomy is-long) P within c.positive c.key in omega arith

  -- **the cover can be written**
  pub cover-writable : (area : List ℕ) → cover_area ≤ length area → Writable a area
  cover-writable area h = record {
    arrays = arrays;
    luts = record { each = lut-held };
    room = let b = cover-small in omega arith;
  }
