-- The contents of a cover settled can be written: it is a forward cover, its net can be run, and the area is long enough.
use Rattle.std.specs.Prelude.{◌≡◌, refl, Bool, true, false, cond, List, [], ℕ, ◌≤◌, ℤ, length}
use Rattle.std.proofs.Common.{sym, ap, subst, ◌∙◌, arith, lt-ltb, le-ltb}
use Rattle.std.proofs.lemmas.Bool.{false≢true}
use Rattle.net_model.specs.Net.{Net}
use Rattle.net_model.specs.Arrays.{net_in}
use Rattle.net_model.specs.ArrayLaws.{outputs-net_in, length-pins_in}
use Rattle.limits.specs.Limits.{contents_area, most_count, most_outputs, scratch_area}
use Rattle.run_theory.specs.Bench.{Counts}
use Rattle.run_theory.specs.BenchBytes.{kept_after}
use Rattle.run_values.specs.Sheets.{Runnable}
use Rattle.run_values.specs.RunnableLaws.{ordered-runnable}
use Rattle.run_values.specs.SheetLaws.{runnable-counts}
use Rattle.cover_theory.specs.Covers.{Cover, IsCover}
use Rattle.cover_theory.specs.Forward.{Forward}
use Rattle.cover_theory.specs.Key.{KeyIn, Entry, entries, as_cover}
use Rattle.cover_period.specs.Joined.{key-met, key-suited}
use Rattle.board_theory.specs.Contents.{contents_of}
use Rattle.cover_records.specs.Kept.{Kept, entries_in}
use Rattle.cover_records.specs.Rows.{kept_in, sizes_in, nodes_in, backs_in}
use Rattle.cover_records.specs.Outcomes.{written}
use Rattle.cover_records.specs.LoaderImage.{is_lent}
use Rattle.cover_records.specs.ForwardLaws.{contents-length}
use Rattle.cover_registers.specs.LagLaws.{leaves-held}
use Rattle.cover_contents.specs.TablesApart.{tables-apart}
use Rattle.cover_contents.specs.Traces.{Contenting}
use Rattle.net_reader.specs.ReadAnswer.{arrays_of}
use Rattle.net_reader.specs.declared.NetSizes.{NetSizes}
use Rattle.label_aim.specs.Aims.{mode_of}
use Rattle.job_settle.specs.Settling.{SettledNet, CoverSettled}
use Rattle.job_settle.specs.SettlingLaws.{settling-same}
use Rattle.job_settle.specs.declared.Call.{Call}
use Rattle.job_record.specs.Mapping.{filled, Mapping}
use Rattle.job_record.specs.Filling.{Filling}
use Rattle.job_record.specs.Recording.{Long, within, cover-writable}

-- ---- by whether a contents area is lent
pub filled_none : (N : Net) (es : List Entry) (kept : ℕ → ℕ → Bool) (contents : List ℕ) → length contents ≡ 0 → contents ≡ filled N es kept contents
filled_none N es kept contents e = sym (ap (λ (b : Bool). cond b (written (contents_of N (as_cover N es) kept) contents) contents) (le-ltb 0 (length contents) (omega (arith, e))))

pub filled-some : (N : Net) (es : List Entry) (kept : ℕ → ℕ → Bool) (contents : List ℕ) → ¬ (length contents ≡ 0) → written (contents_of N (as_cover N es) kept) contents ≡ filled N es kept contents
filled-some N es kept contents n =
    sym (ap (λ (b : Bool). cond b (written (contents_of N (as_cover N es) kept) contents) contents) (lt-ltb 0 (length contents) (omega (arith, n))))

-- ---- a cover settled
module _ {c : Call} {z : NetSizes} {net ts section area work loader contents : List ℕ} (m : Mapping c z net ts section area work loader contents)
    {net' : List ℕ} {r φ : ℕ} {labels : List ℤ} {rows luts : List ℕ} (n : SettledNet z net net' r) (zero : r ≤ 0)
    (u : CoverSettled (mode_of c.forward) c.lacks c.k c.target (net_in (arrays_of z net ts)) (kept_in z.inputs z.gates φ labels rows luts))
    (l : Long (kept_in z.inputs z.gates φ labels rows luts)) where
  abbrev N : Net
  N = net_in (arrays_of z net ts)

  abbrev kept₀ : Kept
  kept₀ = kept_in z.inputs z.gates φ labels rows []

  same : net_in (arrays_of z net' ts) ≡ N
  same = settling-same m.settling n.kept

  runnable : Runnable z net' ts
  runnable = ordered-runnable m.settling.facts m.settling.room n.kept u.passed.loopless (n.ordered (let e : r ≡ 0 = omega (arith, zero) in e))

  counts : Counts N most_count
  counts = subst (λ (X : Net). Counts X most_count) same (runnable-counts runnable)

  few : length N.outputs ≤ most_outputs
  few = omega (arith, ap length (outputs-net_in (arrays_of z net ts)), length-pins_in (arrays_of z net ts).out_sources (arrays_of z net ts).out_counts 0 z.outputs, m.settling.facts.outputs-high)

  -- the cover needs no tables
  cover-is : as_cover N (entries_in kept₀) ≡ as_cover N (entries u.cover.key)
  cover-is = tables-apart z.inputs z.gates φ labels rows luts N ∙ ap (as_cover N) (sym u.cover.same)

  -- in forward mode
  suited : (b : Bool) → b ≡ true → (K : KeyIn (mode_of b) N c.k φ) → Forward N (as_cover N (entries K))
  suited true e K = key-suited u.passed u.cover.positive K
  suited false e K = absurd (false≢true e)

  short : (b : Bool) → b ≡ true → (K : KeyIn (mode_of b) N c.k φ) → (past : ℕ → ℕ → Bool) → length (contents_of N (as_cover N (entries K)) past) ≤ contents_area
  short true e K past = contents-length u.passed (within m.settling refl refl l u.passed u.cover) u.cover.positive K counts few past
  short false e K past = absurd (false≢true e)

  -- where a contents area is lent
  cover_contenting : {work' known : List ℕ} → scratch_area ≤ length work' → z.gates ≤ length known → ¬ (length contents ≡ 0) → Contenting z net' ts section known kept₀ work' contents
  cover_contenting w s lent =
      let x = cover-writable m.settling refl refl l u.passed u.cover area m.room in
      let f = m.settling.facts in
      let a = m.ahead lent in
      let e = cover-is in
      let k = c.k in
      record {
        steps = record {
          runnable = runnable;
          room = m.whole lent u.sectioned;
          size = s;
        };
        gates = refl;
        leaves = leaves-held z.inputs z.gates φ labels rows (sizes_in z.gates rows) (nodes_in z.gates rows) (backs_in z.gates rows) luts x.arrays x.luts f.gates-high;
        k = k;
        cover = subst (λ (X : Net). IsCover X k (as_cover X (entries_in kept₀))) (sym same) (subst (IsCover N k) (sym e) (key-met u.passed u.cover.positive u.cover.key).0);
        forward = subst (λ (X : Net). Forward X (as_cover X (entries_in kept₀))) (sym same) (subst (Forward N) (sym e) (suited c.forward a u.cover.key));
        work_room = omega (arith, w);
        contents_room = λ past.
            subst (λ (X : Net). length (contents_of X (as_cover X (entries_in kept₀)) past) ≤ length contents) (sym same)
            (subst (λ (K : Cover). length (contents_of N K past) ≤ length contents) (sym e) (let h = short c.forward a u.cover.key past in let g = m.fill lent in omega (arith, h, g)));
      }

  -- **what the contents ask**
  pub cover_filling : {work' known : List ℕ} → scratch_area ≤ length work' → z.gates ≤ length known → Filling z net' ts section known kept₀ work' contents
  cover_filling w s = record { short = m.short; asks = cover_contenting w s }

  -- **and what was written is what the cover's contents are**
  pub filled_is : (pairs : List ℕ) → filled (net_in (arrays_of z net' ts)) (entries_in kept₀) (kept_after pairs (net_in (arrays_of z net' ts)) section) contents
      ≡ filled N (entries_in (kept_in z.inputs z.gates φ labels rows luts)) (kept_after pairs N section) contents
  filled_is pairs =
      ap (λ (X : Net). filled X (entries_in kept₀) (kept_after pairs X section) contents) same
      ∙ ap (λ (K : Cover). cond (is_lent contents) (written (contents_of N K (kept_after pairs N section)) contents) contents) (tables-apart z.inputs z.gates φ labels rows luts N)
