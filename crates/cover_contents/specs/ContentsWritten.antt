-- What is read off the trace is the contents of the cover's registers at the step behind the pairs.
use Rattle.std.specs.Prelude.{◌≡◌, Bool, ℤ, pos, ◌-ℤ◌, length, get_or}
use Rattle.std.proofs.Math.Path.{refl, ap, ap₂}
use Rattle.std.proofs.Common.{sym, subst, ◌∙◌, zero-add, arith, length-drop}
use mathlib.Core.List.{List, [], ◌∷◌, ◌++◌, append_assoc, append-nil}
use Prim.Native.Nat.{ℕ, zero, suc, ◌+◌, ◌-◌, ◌*◌, ◌≤◌, ◌<◌}
use Rattle.limits.specs.Limits.{most_count, most_nodes, most_pins}
use Rattle.integers.specs.Parts.{up, dn, sub_parts, parts-≤, pos-up}
use Rattle.sequences.specs.Member.{◌∈◌, here, there, in_get_or, get_or_in}
use Rattle.net_model.specs.Net.{Net, IsNode, size}
use Rattle.net_model.specs.Arrays.{net_in}
use Rattle.net_model.specs.ArrayLaws.{size-net_in, outputs-net_in}
use Rattle.net_model.specs.Checks.{Sound}
use Rattle.net_model.specs.Copies.{Copy}
use Rattle.net_model.specs.Tables.{as_number}
use Rattle.net_reader.specs.ReadAnswer.{arrays_of}
use Rattle.net_reader.specs.declared.NetSizes.{NetSizes}
use Rattle.net_checks.specs.Graphs.{outs_of, delays_of}
use Rattle.run_theory.specs.Bench.{value_at, Counts}
use Rattle.run_theory.specs.BenchBytes.{section_in, steps_of, kept_after}
use Rattle.run_theory.proofs.AgoLaws.{ago-same}
use Rattle.run_values.specs.SheetLaws.{runnable-sound, runnable-counts}
use Rattle.run_step.specs.Stepping.{RunTo}
use Rattle.label_theory.specs.Lower.{leaf-node}
use Rattle.cover_theory.specs.Covers.{Lut, lut, lag_of, registers, output, output_registers, IsCover}
use Rattle.cover_theory.specs.Forward.{Forward}
use Rattle.cover_theory.specs.Key.{Entry, place_of, as_lut, as_cover}
use Rattle.cover_period.specs.Written.{no_entry, lut-as_cover, luts-as_cover}
use Rattle.cover_theory.specs.SharedRegisters.{Tap, gather, leaves_tapped, lut_tapped, output_tapped, cover_taps, Reader, leaf, outgoing}
use Rattle.cover_theory.proofs.SharedCovers.{tap_reader}
use Rattle.board_theory.specs.Boards.{held, leaf_contents, output_contents}
use Rattle.board_theory.specs.Contents.{cells, leaf_cells, lut_cells, output_cells, contents_bytes, quiet, contents_of}
use Rattle.board_theory.proofs.ContentsLaws.{leaf-late, output-late}
use Rattle.board_theory.proofs.ContentsNear.{contents-near}
use Rattle.cover_records.specs.Kept.{entries_in}
use Rattle.cover_records.specs.Rows.{kept_in, row_room, sizes_in, nodes_in, backs_in}
use Rattle.cover_records.specs.Listing.{lag_in}
use Rattle.cover_registers.specs.Counting.{marking, taps_of, LeavesHeld}
use Rattle.cover_registers.specs.LagLaws.{lags-same, taps_same}
use Rattle.cover_registers.specs.CoverTaps.{lag-is, taps_are}
use Rattle.cover_contents.specs.Traces.{Traced, Tracing, samples_to, MostSamples, cells_back, tap_cells, TapHeld, CellsAsked, RegistersAsked, Contenting}
use Rattle.cover_contents.specs.TraceLaws.{tracing_traced, most-all}
use Rattle.cover_contents.specs.CellLaws.{taps_one, taps_append}

-- ---- the registers of one connection

cells-last : (f : ℕ → Bool) (n : ℕ) → cells f (suc n) ≡ cells f n ++ (as_number (f n) ∷ [])
unfolding cells
cells-last f zero = refl
cells-last f (suc n) = ap (λ (l : List ℕ). as_number (f 0) ∷ l) (cells-last (λ j. f (suc j)) n)

cells-back : (trace : List ℕ) (u top : ℕ) (f : ℕ → Bool) (n : ℕ) → ((j : ℕ) → j < n → get_or trace (most_nodes * (top - suc j) + u) 0 ≡ as_number (f j)) → cells_back trace u top n ≡ cells f n
unfolding cells_back
cells-back trace u top f zero h = unfold cells in refl
cells-back trace u top f (suc n) h =
    ap₂ (λ (l : List ℕ) (x : ℕ). l ++ (x ∷ [])) (cells-back trace u top f n (λ j l. h j (omega arith))) (h n (omega arith)) ∙ sym (cells-last f n)

-- with lag q and n registers, none of which holds a value before the first sample
module _ (q : ℤ) (n : ℕ) (late : n + up q ≤ dn q + most_count) where
  pub samples-number : n ≤ samples_to q
  samples-number = omega (arith, sub_parts (pos most_count) q)

  samples_are : samples_to q + up q ≡ dn q + most_count
  samples_are =
      let e = sub_parts (pos most_count) q in
      omega (arith, ap dn (pos-up (pos most_count -ℤ q) (parts-≤ (pos 0) (pos most_count -ℤ q) (omega arith))))

  module _ {nodes m : ℕ} {section value : ℕ → ℕ → Bool} {trace : List ℕ} (traced : Traced nodes section value trace m) (u : ℕ) (h : u < nodes) (enough : samples_to q ≤ m) where
    pub cells-held : cells_back trace u (samples_to q) n ≡ cells (held section value u q) n
    cells-held = cells-back trace u (samples_to q) (held section value u q) n each
      where
        each : (j : ℕ) → j < n → get_or trace (most_nodes * (samples_to q - suc j) + u) 0 ≡ as_number (held section value u q j)
        each j l =
            let a = samples-number in
            let b = samples_are in
            let e : samples_to q - suc j + (up q + suc j) ≡ dn q + most_count = omega arith in
            traced.each (samples_to q - suc j) u (omega arith) h ∙ ap as_number (ago-same (section u) (value u) (samples_to q - suc j) most_count (dn q) (up q + suc j) e)

-- ---- connections and outputs

-- the lags alone count
taps_lags : (trace : List ℕ) (es fs : List Entry) → ((u : ℕ) → lag_in es u ≡ lag_in fs u) → (ts : List Tap) → tap_cells trace es ts ≡ tap_cells trace fs ts
unfolding tap_cells
taps_lags trace es fs s [] = refl
taps_lags trace es fs s (t ∷ ts) =
    ap₂ (λ (q : ℤ) (l : List ℕ). cells_back trace t.source (samples_to q) (up t.number) ++ l) (s t.source) (taps_lags trace es fs s ts)

gather-last : (f : ℕ → List Tap) (i n : ℕ) → gather f i (suc n) ≡ gather f i n ++ f (i + n)
unfolding gather
gather-last f i zero = let e : i + 0 ≡ i = omega arith in append-nil (f i) ∙ ap f (sym e)
gather-last f i (suc n) =
    let e : suc i + n ≡ i + suc n = omega arith in
    ap (λ (l : List Tap). f i ++ l) (gather-last f (suc i) n) ∙ sym (append_assoc (f i) (gather f (suc i) n) (f (suc i + n)))
    ∙ ap (λ (m : ℕ). (f i ++ gather f (suc i) n) ++ f m) e

module _ {N : Net} {k : ℕ} (es : List Entry) (cover : IsCover N k (as_cover N es)) (forward : Forward N (as_cover N es)) (sound : Sound N) (counts : Counts N most_count) where
  gates : (e : Entry) → e ∈ es → N.inputs ≤ e.root
  gates e m =
      let i = get_or_in m in
      let l = luts-as_cover N es in
      let q = lut-as_cover N es i.0 ∙ ap as_lut (i.2 no_entry) in
      subst (λ (x : Lut). N.inputs ≤ x.root) q (cover.gates i.0 (omega (arith, i.1))).low

  lags : (u : ℕ) → lag_in es u ≡ lag_of N (as_cover N es) u (place_of es u)
  lags = lag-is N es gates

  -- **no register holds a value before the first sample**
  taps_held : (t : Tap) → t ∈ cover_taps N (as_cover N es) → IsNode N t.source × (up t.number ≤ samples_to (lag_in es t.source))
  taps_held t m = go (tap_reader N (as_cover N es) m)
    where
      go : Reader N (as_cover N es) t → IsNode N t.source × (up t.number ≤ samples_to (lag_in es t.source))
      go (leaf i y h l e) =
          subst (λ (x : Tap). IsNode N x.source × (up x.number ≤ samples_to (lag_in es x.source))) (sym e) (
            leaf-node sound (cover.cuts i h).is_leaves l,
            subst (λ (q : ℤ). up (registers N (as_cover N es) i y) ≤ samples_to q) (sym (lags y.node)) (samples-number (lag_of N (as_cover N es) y.node (place_of es y.node)) (up (registers N (as_cover N es) i y)) (leaf-late cover forward counts i h y l)),
          )
      go (outgoing o h e) =
          subst (λ (x : Tap). IsNode N x.source × (up x.number ≤ samples_to (lag_in es x.source))) (sym e) (
            sound.output (output N o) (in_get_or N.outputs o (record { src = 0; count = 0 }) h),
            subst (λ (q : ℤ). up (output_registers N (as_cover N es) o) ≤ samples_to q) (sym (lags (output N o).src))
                (samples-number (lag_of N (as_cover N es) (output N o).src (place_of es (output N o).src)) (up (output_registers N (as_cover N es) o)) (output-late cover forward counts o h)),
          )

  module _ {m : ℕ} {section value : ℕ → ℕ → Bool} {trace : List ℕ} (traced : Traced (size N) section value trace m) (enough : (u : ℕ) → samples_to (lag_in es u) ≤ m) where
    one_written : (u n : ℕ) → IsNode N u → n + up (lag_of N (as_cover N es) u (place_of es u)) ≤ dn (lag_of N (as_cover N es) u (place_of es u)) + most_count
        → cells_back trace u (samples_to (lag_in es u)) n ≡ cells (held section value u (lag_of N (as_cover N es) u (place_of es u))) n
    one_written u n i late =
        let q = lag_of N (as_cover N es) u (place_of es u) in
        ap (λ (x : ℤ). cells_back trace u (samples_to x) n) (lags u) ∙ cells-held q n late traced u i (subst (λ (x : ℤ). samples_to x ≤ m) (lags u) (enough u))

    leaves-written : (i : ℕ) (h : i < length (as_cover N es).luts) (L : List Copy) → ((y : Copy) → y ∈ L → y ∈ (lut (as_cover N es) i).leaves)
        → tap_cells trace es (leaves_tapped N (as_cover N es) i L) ≡ leaf_cells N (as_cover N es) (leaf_contents N (as_cover N es) section value) i L
    unfolding tap_cells leaves_tapped leaf_cells
    leaves-written i h [] all = refl
    leaves-written i h (y ∷ L) all =
        ap₂ (λ (a b : List ℕ). a ++ b)
        (one_written y.node (up (registers N (as_cover N es) i y)) (leaf-node sound (cover.cuts i h).is_leaves (all y (here refl))) (leaf-late cover forward counts i h y (all y (here refl))))
        (leaves-written i h L (λ x l. all x (there l)))

    luts-written : (n : ℕ) → n ≤ length (as_cover N es).luts → tap_cells trace es (gather (lut_tapped N (as_cover N es)) 0 n) ≡ lut_cells N (as_cover N es) (leaf_contents N (as_cover N es) section value) n
    unfolding lut_cells
    luts-written zero h = unfold gather tap_cells in refl
    luts-written (suc n) h =
        ap (tap_cells trace es) (gather-last (lut_tapped N (as_cover N es)) 0 n) ∙ taps_append trace es (gather (lut_tapped N (as_cover N es)) 0 n) (lut_tapped N (as_cover N es) (0 + n))
        ∙ ap₂ (λ (a b : List ℕ). a ++ b) (luts-written n (omega arith)) (ap (λ (x : ℕ). tap_cells trace es (lut_tapped N (as_cover N es) x)) (zero-add n) ∙ leaves-written n h (lut (as_cover N es) n).leaves (λ y l. l))

    output-written : (o : ℕ) → o < length N.outputs
        → tap_cells trace es (output_tapped N (as_cover N es) o) ≡ cells (output_contents N (as_cover N es) section value o) (up (output_registers N (as_cover N es) o))
    output-written o h =
        sym (taps_one trace es (output N o).src (output_registers N (as_cover N es) o))
        ∙ one_written (output N o).src (up (output_registers N (as_cover N es) o)) (sound.output (output N o) (in_get_or N.outputs o (record { src = 0; count = 0 }) h)) (output-late cover forward counts o h)

    outputs-written : (n : ℕ) → n ≤ length N.outputs → tap_cells trace es (gather (output_tapped N (as_cover N es)) 0 n) ≡ output_cells N (as_cover N es) (output_contents N (as_cover N es) section value) n
    unfolding output_cells
    outputs-written zero h = unfold gather tap_cells in refl
    outputs-written (suc n) h =
        ap (tap_cells trace es) (gather-last (output_tapped N (as_cover N es)) 0 n) ∙ taps_append trace es (gather (output_tapped N (as_cover N es)) 0 n) (output_tapped N (as_cover N es) (0 + n))
        ∙ ap₂ (λ (a b : List ℕ). a ++ b) (outputs-written n (omega arith)) (ap (λ (x : ℕ). tap_cells trace es (output_tapped N (as_cover N es) x)) (zero-add n) ∙ output-written n h)

    -- **all of them**
    all-written : tap_cells trace es (cover_taps N (as_cover N es)) ≡ contents_bytes N (as_cover N es) (leaf_contents N (as_cover N es) section value) (output_contents N (as_cover N es) section value)
    unfolding contents_bytes cover_taps
    all-written =
        taps_append trace es (gather (lut_tapped N (as_cover N es)) 0 (length (as_cover N es).luts)) (gather (output_tapped N (as_cover N es)) 0 (length N.outputs))
        ∙ ap₂ (λ (a b : List ℕ). a ++ b) (luts-written (length (as_cover N es).luts) (omega arith)) (outputs-written (length N.outputs) (omega arith))

-- ---- the cover kept

-- its slice is long enough
pub rows-room : (I G φ : ℕ) (labels : List ℤ) (rows : List ℕ) → LeavesHeld (kept_in I G φ labels rows []) → row_room G ≤ length rows
rows-room I G φ labels rows h = omega (arith, h.backs, length-drop ((2 + most_pins) * G) rows)

module _ {z : NetSizes} {net tables pairs kept known : List ℕ} (I G φ : ℕ) (labels : List ℤ) (rows : List ℕ) {work contents : List ℕ}
    (q : Contenting z net tables kept known (kept_in I G φ labels rows []) work contents)
    {kept₁ known₁ kept₂ known₂ trace : List ℕ} {n : ℕ} (s : RunTo z net tables pairs kept known kept₁ known₁ (steps_of pairs)) (u : Tracing z net tables kept₁ known₁ work kept₂ known₂ trace n)
    (m : MostSamples (marking I G φ labels rows) G n) where
  sound : Sound (net_in (arrays_of z net tables))
  sound = runnable-sound q.steps.runnable

  lags_are : (v : ℕ) → lag_in (entries_in (kept_in I G φ labels rows [])) v ≡ lag_in (entries_in (marking I G φ labels rows)) v
  lags_are = lags-same I G φ labels rows (sizes_in G rows) (nodes_in G rows) (backs_in G rows) []

  enough : (v : ℕ) → samples_to (lag_in (entries_in (kept_in I G φ labels rows [])) v) ≤ n
  enough v = subst (λ (x : ℤ). samples_to x ≤ n) (sym (lags_are v)) (most-all m v)

  -- the connections and outputs of the arrays are those of the cover
  taps_all : taps_of (kept_in I G φ labels rows []) (outs_of z net) (delays_of z net) z.outputs ≡ cover_taps (net_in (arrays_of z net tables)) (as_cover (net_in (arrays_of z net tables)) (entries_in (kept_in I G φ labels rows [])))
  taps_all =
      sym (taps_same I G φ labels rows (sizes_in G rows) (nodes_in G rows) (backs_in G rows) [] (net_in (arrays_of z net tables)) (outs_of z net) (delays_of z net) z.outputs (outputs-net_in (arrays_of z net tables)))
      ∙ taps_are (net_in (arrays_of z net tables)) (entries_in (kept_in I G φ labels rows [])) (gates (entries_in (kept_in I G φ labels rows [])) q.cover q.forward sound (runnable-counts q.steps.runnable))

  -- **the bytes**
  pub contents_are : tap_cells trace (entries_in (marking I G φ labels rows)) (taps_of (kept_in I G φ labels rows []) (outs_of z net) (delays_of z net) z.outputs)
      ≡ contents_of (net_in (arrays_of z net tables)) (as_cover (net_in (arrays_of z net tables)) (entries_in (kept_in I G φ labels rows []))) (kept_after pairs (net_in (arrays_of z net tables)) kept)
  contents_are =
      sym (taps_lags trace (entries_in (kept_in I G φ labels rows [])) (entries_in (marking I G φ labels rows)) lags_are (taps_of (kept_in I G φ labels rows []) (outs_of z net) (delays_of z net) z.outputs))
      ∙ ap (tap_cells trace (entries_in (kept_in I G φ labels rows []))) taps_all
      ∙ all-written (entries_in (kept_in I G φ labels rows [])) q.cover q.forward sound (runnable-counts q.steps.runnable)
      (subst (λ (x : ℕ). Traced x (section_in kept₁) (value_at (net_in (arrays_of z net tables)) (section_in kept₁) quiet) trace n) (sym (size-net_in (arrays_of z net tables))) (tracing_traced u)) enough
      ∙ contents-near q.cover q.forward sound q.steps.runnable.loopless (runnable-counts q.steps.runnable) s.keeps

  cells-asked : CellsAsked trace (entries_in (marking I G φ labels rows)) (taps_of (kept_in I G φ labels rows []) (outs_of z net) (delays_of z net) z.outputs) contents
  cells-asked = record { each = each; room = omega (arith, q.contents_room (kept_after pairs (net_in (arrays_of z net tables)) kept), ap length contents_are) }
    where
      each : (t : Tap) → t ∈ taps_of (kept_in I G φ labels rows []) (outs_of z net) (delays_of z net) z.outputs → TapHeld trace (entries_in (marking I G φ labels rows)) t
      each t l =
          let h = taps_held (entries_in (kept_in I G φ labels rows [])) q.cover q.forward sound (runnable-counts q.steps.runnable) t (subst (λ (x : List Tap). t ∈ x) taps_all l) in
          record {
            node = omega (arith, h.0, size-net_in (arrays_of z net tables), q.steps.runnable.inputs, q.leaves.few, q.gates);
            number = subst (λ (x : ℤ). up t.number ≤ samples_to x) (lags_are t.source) h.1;
            samples = omega (arith, most-all m t.source, m.few, q.work_room, u.long);
          }

  pub registers-asked : RegistersAsked z net (kept_in I G φ labels rows []) trace contents
  registers-asked = record {
    leaves = q.leaves;
    packed = q.steps.runnable.rooms.packed;
    delays = record { each = λ o h. let e = ap (λ (i : ℕ). get_or (delays_of z net) i 0) (zero-add o) in omega (arith, q.steps.runnable.out_count o h) };
    cells = cells-asked;
  }
