-- Laws of forward mode: one for each way a call ends, in the order 1 to 3, 20, the net's checks, 21, 22; the contents are within their area.
use Rattle.std.specs.Prelude.{◌≡◌, Bool, true, false, ◌&&◌, ℤ, pos, negsuc, neg_ℤ, length, get_or, ◌≤ℤ◌}
use Rattle.std.proofs.Math.Path.{refl, ap}
use Rattle.std.proofs.Common.{sym, subst, ◌∙◌, mul-le-mul, mul-le-mul_right, arith}
use Rattle.std.proofs.Math.Bool.{cond}
use mathlib.Core.List.{List}
use Prim.Native.Nat.{ℕ, zero, suc, ◌+◌, ◌*◌, ◌≤◌, ◌<◌}
use Rattle.std.proofs.Math.Decide.{dec_lt}
use Rattle.std.proofs.Math.Dec.{ltb, eqb}
use Rattle.std.proofs.Math.ListN.{get_or-eq_default}
use Rattle.integers.specs.Parts.{dn, ints, neg_parts}
use Rattle.integers.specs.Lag.{lag}
use Rattle.sequences.specs.Member.{◌∈◌, in_get_or}
use Rattle.limits.specs.Courses.{long, is-long}
use Rattle.limits.specs.Limits.{contents_area, most_count, most_k, most_outputs}
use Rattle.limits.specs.declared.Rules.{Rules}
use Rattle.net_model.specs.Net.{Net}
use Rattle.net_model.specs.Checks.{Passed}
use Rattle.net_model.specs.Copies.{Copy, IsCone, IsLeaves}
use Rattle.net_model.specs.Tables.{table_of}
use Rattle.net_bytes.specs.Reading.{got}
use Rattle.net_bytes.specs.Walk.{Drawn, drawn_reader}
use Rattle.run_theory.specs.Bench.{value_at, Counts}
use Rattle.label_theory.specs.Labels.{Mode, plain, forward}
use Rattle.cover_theory.specs.Covers.{Lut, Cover, lut, lag_of}
use Rattle.cover_period.specs.Joined.{key-met, key-suited}
use Rattle.cover_theory.specs.Key.{KeyIn, Entry, entries, as_cover}
use Rattle.cover_period.specs.KeyOf.{entries_in_lem, roots-gate}
use Rattle.cover_period.specs.Written.{no_entry, lut-as_cover, luts-as_cover}
use Rattle.board_theory.specs.Boards.{Tabled, leaf_contents, output_contents}
use Rattle.board_theory.specs.Contents.{quiet, contents_of}
use Rattle.board_theory.proofs.ContentsLaws.{bytes-few}
use Rattle.cover_records.specs.CoverBytes.{cover_bytes}
use Rattle.cover_records.specs.KeyRecord.{roomy, WithinLimits, key-lag-range, few-entries}
use Rattle.cover_records.specs.LoaderImage.{is_lent, loaded}
use Rattle.cover_records.specs.LoaderLaws.{not-lent}
use Rattle.cover_records.specs.LoaderOutcome.{beside, too_short, loader_written, loader_checked_in, loader_fit_in, loader_sized, loader_outcome}
use Rattle.cover_records.specs.Marking.{TablesRight}
use Rattle.cover_records.specs.MarkingDecided.{table_determined}
use Rattle.cover_records.specs.Outcomes.{accepted, turned_back, Checked, passes, fails, check_net, cleared, written, MappedIn, covered, unreachable, mapped_in, map_sizes, map_written, map_checked_in}
use Rattle.cover_records.specs.ForwardOutcome.{ForwardOutcome, with_contents, contents_short, sizes_with, section_from, section_of, lacking, sectioned, contents_written, contents_checked, outcome_fit, outcome_sized, outcome_from}

-- ---- the ways of a call

module _ (R : Rules) (short : Bool) (start : Net → List ℕ → ℕ → ℕ → Bool) (net : List ℕ) (k target : ℕ) (area scratch loader contents : List ℕ) where
  abbrev section : List ℕ
  section = section_of R k net

  abbrev whole : ForwardOutcome
  whole = outcome_from forward R short start net k target area scratch loader contents

  -- refusal n: the three areas keep their bytes
  abbrev refusing : ℕ → List ℕ → ForwardOutcome
  refusing n s = record { answer = turned_back n; area = area; scratch = s; loader = loader; contents = contents }

  abbrev wiped : List ℕ
  wiped = cleared R.scratch scratch

  -- the net's checks, 21 the last
  abbrev checks : Checked k
  checks = sectioned (lacking contents section) (check_net R k net)

  sized : ℕ → ForwardOutcome
  sized n = outcome_sized forward R n (λ N. start N section) k target checks area scratch loader contents

  -- **1 to 3 as map tells them**, whatever the contents area: all keeps its bytes
  pub forward-early : (n : ℕ) → map_sizes R k target area scratch ≡ suc n → whole ≡ refusing (suc n) scratch
  unfolding outcome_from outcome_sized sized
  forward-early n e = ap (λ (m : ℕ). sized (sizes_with short m)) e

  module _ (sizes : map_sizes R k target area scratch ≡ 0) where
    -- **3 of the contents area**
    pub forward-small : short ≡ true → whole ≡ refusing 3 scratch
    unfolding outcome_from outcome_sized sized
    forward-small s = ap (λ (m : ℕ). sized (sizes_with short m)) sizes ∙ ap (λ (b : Bool). sized (cond b 3 0)) s

    module _ (enough : short ≡ false) where
      abbrev fit : Bool → ForwardOutcome
      fit b = outcome_fit forward R b (λ N. start N section) k target checks area scratch loader contents

      fits : whole ≡ fit (too_short loader)
      unfolding outcome_from outcome_sized sized
      fits = ap (λ (m : ℕ). sized (sizes_with short m)) sizes ∙ ap (λ (b : Bool). sized (cond b 3 0)) enough

      -- **20**
      pub forward-loader : too_short loader ≡ true → whole ≡ refusing 20 wiped
      unfolding outcome_fit loader_fit_in
      forward-loader s = fits ∙ ap fit s

      module _ (load : too_short loader ≡ false) where
        abbrev behind : Checked k → ForwardOutcome
        behind c = outcome_fit forward R false (λ N. start N section) k target c area scratch loader contents

        -- **4 to 11**
        pub forward-fails : (n : ℕ) → check_net R k net ≡ fails n → whole ≡ refusing n wiped
        unfolding outcome_fit loader_fit_in map_checked_in loader_checked_in contents_checked sectioned
        forward-fails n e = fits ∙ ap fit load ∙ ap (λ (c : Checked k). behind (sectioned (lacking contents section) c)) e

        module _ (N : Net) (P : Passed N k) (passed : check_net R k net ≡ passes N P) where
          -- **21**, whatever the target
          pub forward-lacking : lacking contents section ≡ true → whole ≡ refusing 21 wiped
          unfolding outcome_fit loader_fit_in map_checked_in loader_checked_in contents_checked sectioned
          forward-lacking l =
              fits ∙ ap fit load ∙ ap (λ (c : Checked k). behind (sectioned (lacking contents section) c)) passed ∙ ap (λ (b : Bool). behind (sectioned b (passes N P))) l

          module _ (given : lacking contents section ≡ false) where
            abbrev made : MappedIn forward N k → ForwardOutcome
            made m = with_contents (beside (map_written R m area scratch) (loader_written m loader)) (contents_written (start N section) m contents)

            goes : whole ≡ made (mapped_in forward N k target P)
            unfolding outcome_fit loader_fit_in map_checked_in loader_checked_in contents_checked sectioned
            goes =
                fits ∙ ap fit load ∙ ap (λ (c : Checked k). behind (sectioned (lacking contents section) c)) passed ∙ ap (λ (b : Bool). behind (sectioned b (passes N P))) given

            -- **22, in place of 12**
            pub forward-unmet : mapped_in forward N k target P ≡ unreachable → whole ≡ refusing 22 wiped
            unfolding map_written loader_written contents_written
            forward-unmet e = goes ∙ ap made e

            -- **a forward cover**
            pub forward-written : (φ : ℕ) (K : KeyIn forward N k φ) → mapped_in forward N k target P ≡ covered φ K
                → whole ≡ record {
                  answer = accepted (length (cover_bytes R φ (entries K)));
                  area = written (cover_bytes R φ (entries K)) area;
                  scratch = wiped;
                  loader = loaded (entries K) loader;
                  contents = cond (is_lent contents) (written (contents_of N (as_cover N (entries K)) (start N section)) contents) contents;
                }
            unfolding map_written loader_written contents_written
            forward-written φ K e = goes ∙ ap made e

-- ---- the contents area

-- none lent: neither 3 nor 21
pub none-short : (contents : List ℕ) → length contents ≡ 0 → contents_short contents ≡ false
none-short contents e = ap (λ (b : Bool). b && ltb (length contents) contents_area) (not-lent contents e)

pub none-lacking : (contents section : List ℕ) → length contents ≡ 0 → lacking contents section ≡ false
none-lacking contents section e = ap (λ (b : Bool). b && eqb (length section) 0) (not-lent contents e)

-- the section of a record that is read
pub section-read : (R : Rules) (k : ℕ) (net : List ℕ) (d : Drawn) (rest : List ℕ) → drawn_reader R k net ≡ got d rest → section_of R k net ≡ d.section
unfolding section_of
section-read R k net d rest e = ap section_from e

-- ---- the board's tables

-- the tables of a record with right tables are those of its cuts
pub entries-tabled : {N : Net} {k : ℕ} → Passed N k → {es : List Entry} → TablesRight N k es → Tabled N (as_cover N es) (λ i. (get_or es i no_entry).table)
entries-tabled {N} {k} P {es} right i h =
    let e = get_or es i no_entry in
    let n = luts-as_cover N es in
    let r = right e (in_get_or es i no_entry (omega arith)) in
    subst (λ (z : Lut). (C : List Copy) → IsCone N z.root C → IsLeaves N C z.leaves → e.table ≡ table_of N z.root C z.leaves) (sym (lut-as_cover N es i))
    (λ C cone leaves. r.table ∙ table_determined P r.cut (record { cone = C; is_cone = cone; is_leaves = leaves; few = r.cut.few }))

-- ---- how many contents there are, under document 01's limits

module _ {N : Net} {k φ : ℕ} (P : Passed N k) (l : WithinLimits long N k) (positive : 1 ≤ φ) (K : KeyIn forward N k φ) (counts : Counts N most_count) (few : length N.outputs ≤ most_outputs) where
  abbrev cover : Cover
  cover = as_cover N (entries K)

  lag-deep : (z : ℤ) → neg_ℤ (pos (long.gates * most_count)) ≤ℤ z → dn z ≤ long.gates * most_count
  lag-deep (pos n) h = omega arith
  lag-deep (negsuc n) h = omega (arith, ints, neg_parts (pos (long.gates * most_count)), h)

  -- no lag is more than 96 below 0
  entry-deep : (e : Entry) → e ∈ entries K → dn e.lag ≤ long.gates * most_count
  entry-deep e m =
      let t = entries_in_lem K m in
      subst (λ (x : Entry). dn x.lag ≤ long.gates * most_count) (sym t.2)
      (lag-deep (lag φ (K.label t.0)) (key-lag-range (roomy is-long) P l positive K t.0 (roots-gate K t.0 t.1)).0)

  lut-deep : (i : ℕ) → dn (lut cover i).lag ≤ long.gates * most_count
  lut-deep i = subst (λ (x : Lut). dn x.lag ≤ long.gates * most_count) (sym (lut-as_cover N (entries K) i)) (go (dec_lt i (length (entries K))))
    where
      default : (es : List Entry) (i : ℕ) → ¬ (i < length es) → get_or es i no_entry ≡ no_entry
      default es i n = get_or-eq_default es no_entry {n = i} (omega arith)

      go : Dec (i < length (entries K)) → dn (get_or (entries K) i no_entry).lag ≤ long.gates * most_count
      go (yes h) = entry-deep (get_or (entries K) i no_entry) (in_get_or (entries K) i no_entry h)
      go (no n) = subst (λ (x : Entry). dn x.lag ≤ long.gates * most_count) (sym (default (entries K) i n)) (omega arith)

  lag-of-deep : (u i : ℕ) → dn (lag_of N cover u i) ≤ long.gates * most_count
  lag-of-deep u i = go (ltb u N.inputs)
    where
      go : (b : Bool) → dn (cond b (pos 0) (lut cover i).lag) ≤ long.gates * most_count
      go true = omega arith
      go false = lut-deep i

  -- **within 20,592 bytes**
  pub contents-length : (kept : ℕ → ℕ → Bool) → length (contents_of N cover kept) ≤ contents_area
  contents-length kept =
      let a = bytes-few (key-met P positive K).0 (key-suited P positive K) counts (long.gates * most_count) lag-of-deep
      (leaf_contents N cover kept (value_at N kept quiet)) (output_contents N cover kept (value_at N kept quiet)) in
      let b = luts-as_cover N (entries K) in
      let c = few-entries (roomy is-long) P l positive K in
      let n : length cover.luts ≤ long.gates = omega (arith, b, c, l.gates) in
      let d : length cover.luts * k ≤ long.gates * most_k = mul-le-mul n l.size in
      omega (arith, a, mul-le-mul_right (long.gates * most_count + most_count) (rows d))
    where
      rows : length cover.luts * k ≤ long.gates * most_k → length cover.luts * k + length N.outputs ≤ long.gates * most_k + most_outputs
      rows h = omega (arith, h, few)

-- ---- document 01's mode: no contents area is lent
module _ (contents : List ℕ) (none : length contents ≡ 0) where
  unlent : is_lent contents ≡ false
  unlent = not-lent contents none

  sectioned-none : (section : List ℕ) {k : ℕ} (c : Checked k) → sectioned (lacking contents section) c ≡ c
  unfolding sectioned
  sectioned-none section (fails n) = refl
  sectioned-none section (passes N p) = ap (λ (b : Bool). sectioned (b && eqb (length section) 0) (passes N p)) unlent

  contents-none : (M : Mode) (start : Net → ℕ → ℕ → Bool) (k target : ℕ) (c : Checked k) → contents_checked M start k target c contents ≡ contents
  unfolding contents_checked contents_written
  contents-none M start k target (fails n) = refl
  contents-none M start k target (passes N p) = go (mapped_in M N k target p)
    where
      go : (m : MappedIn M N k) → contents_written (start N) m contents ≡ contents
      go (covered φ K) = ap (λ (b : Bool). cond b (written (contents_of N (as_cover N (entries K)) (start N)) contents) contents) unlent
      go unreachable = refl

  cond_same : (b : Bool) {x y : List ℕ} → y ≡ x → cond b x y ≡ x
  cond_same true e = refl
  cond_same false e = e

  -- **the outcome is that of map with a loader area, for every input**
  pub plain-outcome : (R : Rules) (start : Net → List ℕ → ℕ → ℕ → Bool) (net : List ℕ) (k target : ℕ) (area scratch loader : List ℕ)
      → outcome_from plain R (contents_short contents) start net k target area scratch loader contents ≡ with_contents (loader_outcome R net k target area scratch loader) contents
  unfolding outcome_from loader_outcome outcome_sized loader_sized outcome_fit
  plain-outcome R start net k target area scratch loader =
      ap (λ (b : Bool). outcome_from plain R (b && ltb (length contents) contents_area) start net k target area scratch loader contents) unlent ∙ sized (map_sizes R k target area scratch)
    where
      section : List ℕ
      section = section_of R k net

      fit : (b : Bool) → outcome_fit plain R b (λ N. start N section) k target (check_net R k net) area scratch loader contents ≡ with_contents (loader_fit_in plain R b k target (check_net R k net) area scratch loader) contents
      fit b = ap (with_contents (loader_fit_in plain R b k target (check_net R k net) area scratch loader)) (cond_same b (contents-none plain (λ N. start N section) k target (check_net R k net)))

      sized : (n : ℕ) → outcome_sized plain R (sizes_with false n) (λ N. start N section) k target (sectioned (lacking contents section) (check_net R k net)) area scratch loader contents
          ≡ with_contents (loader_sized R n k target net area scratch loader) contents
      sized zero = ap (λ (c : Checked k). outcome_fit plain R (too_short loader) (λ N. start N section) k target c area scratch loader contents) (sectioned-none section (check_net R k net)) ∙ fit (too_short loader)
      sized (suc n) = refl
