-- The examples that document 01 marks [P], as one listed set with a single theorem.
use Rattle.std.specs.Prelude.{◌≡◌, refl, ℕ, ◌-◌, ◌≤◌, ◌<◌, ℤ, pos, negsuc, ◌≤ℤ◌}
use Rattle.std.proofs.Common.{sym, ◌∙◌, suc-le-suc, zero-le, arith, le-ltb}
use Rattle.std.proofs.Math.Path.{subst, ap}
use mathlib.Core.List.{List, [], ◌∷◌}
use Rattle.std.proofs.Math.Decide.{ℕ_discrete}
use Rattle.std.specs.Int.Count.{ones}
use Rattle.std.proofs.Math.ListN.{length}
use Rattle.integers.specs.Height.{height}
use Rattle.integers.specs.Lag.{lag}
use Rattle.integers.proofs.Lag.{lag_examples}
use Rattle.integers.specs.Order.{≤ℤ?}
use Rattle.sequences.specs.Decide.{all?, any?, below?, dec_map, dec-×, dec-→, dec-¬}
use Rattle.sequences.specs.Member.{◌∈◌, here, there, not_in_nil}
use Rattle.net_model.specs.Net.{Net, IsGate, gate}
use Rattle.net_model.specs.Checks.{Passed}
use Rattle.net_model.specs.Copies.{Copy, copy, IsCone, IsLeaves}
use Rattle.cone_theory.specs.Basics.{is_gate?, leaves_of}
use Rattle.cone_theory.specs.ChecksDecided.{passed?}
use Rattle.cone_theory.specs.Part.{is_cone?}
use Rattle.cone_theory.specs.Ranks.{ranked}
use Rattle.cone_theory.specs.Reach.{reach_of}
use Rattle.label_theory.specs.Labels.{plain, LowCut}
use Rattle.label_theory.specs.Lower.{replace}
use Rattle.label_bounds.specs.Bounds.{LowerBound, raise}
use Rattle.label_bounds.specs.LabelDecision.{start, starting, start-bound}
use Rattle.cover_theory.specs.Key.{Key, Entry, entries, place_of, source}
use Rattle.cover_period.specs.KeyOf.{entry_of, in_entries}
use Rattle.cover_period.specs.Period.{least_period}
use Rattle.cover_theory.specs.SharedRegisters.{longest, over_nodes, shared_count}
use Rattle.limits.specs.Limits.{scratch_area}
use Rattle.limits.specs.Courses.{long}
use Rattle.net_bytes.specs.Reading.{got, times}
use Rattle.net_bytes.specs.Walk.{net_reader, drawn_reader, body_reader, gate_reader, output_reader, pins_from, from_bytes}
use Rattle.cover_records.specs.CoverBytes.{Record, cover_bytes, all_lut_bytes, lut_bytes, depths, leaf_map, to_bytes, cover_reader, luts_reader, lut_reader, lut_body, depth_reader, leaves_from, rising_leaves}
use Rattle.cover_records.specs.MarkingDecided.{cuts_right?, tables_right?, all_fed?, enough?, short_chains?}
use Rattle.cover_records.specs.Marking.{CutsRight, TableRight, TablesRight, AllFed, EnoughRegisters, ShortChains}
use Rattle.cover_records.specs.Outcomes.{Answer, turned_back, Checked, cleared, judged, mark_read, mark_sizes, mark_sized, mark_checked, mark_outcome}
use Rattle.cover_records.specs.Listing.{register_count, entry_taps, lut_taps, leaf_taps, output_taps, lag_in}
use Rattle.demands.proofs.Demand2.{key_right}
use Rattle.examples.specs.Nets.{pin, through_b, bytes_a, net_a, bytes_b, net_b, bytes_b0, net_b0, bytes_c, net_c, bytes_d, net_d, bytes_e, net_e}
use Rattle.examples.specs.Statements.{lut, labels, Refuses, Maps, Tie}
use Rattle.examples.specs.Plan.{given, weaker?, weaken, by-input, by-pin, from-floor, no_cut?, outputs_met?, plan?, planned, refuses, maps, maps-all, net-passes}

-- ---- A

gate_a : (v : ℕ) → 2 ≤ v → v < 5 → IsGate net_a v
gate_a v a b = record { low = a; high = b }

-- at target 1: by its pins every gate has at least 1, for any k
bound_a : (k : ℕ) → Passed net_a k → LowerBound net_a k 1 (labels net_a (pos 1 ∷ pos 1 ∷ pos 1 ∷ []))
unfolding weaker? replace start is_gate? reach_of gate ℕ_discrete
bound_a k P =
    let b0 = start-bound P 1 plain (ranked P.reached) in
    let b2 = by-input P.sound b0 2 (pin 0 0) (gate_a 2 (omega arith) (omega arith)) (here refl) (omega arith) in
    let b3 = by-pin P.sound b2 3 (pin 2 0) (gate_a 3 (omega arith) (omega arith)) (here refl) in
    let b4 = by-pin P.sound b3 4 (pin 3 0) (gate_a 4 (omega arith) (omega arith)) (here refl) in
    weaken b4 (given (weaker? net_a _ (labels net_a (pos 1 ∷ pos 1 ∷ pos 1 ∷ []))) tt)

-- at k 2 gate 3 has no cut of height 1, so 3 and 4 have at least 2
bound_a2 : Passed net_a 2 → LowerBound net_a 2 1 (labels net_a (pos 1 ∷ pos 2 ∷ pos 2 ∷ []))
unfolding weaker? no_cut? replace gate ℕ_discrete
bound_a2 P =
    let R = ranked P.reached in
    let lo = labels net_a (pos 1 ∷ pos 1 ∷ pos 1 ∷ []) in
    let b3 = raise net_a 2 1 P.sound lo 3 (bound_a 2 P) (gate_a 3 (omega arith) (omega arith)) (given (no_cut? net_a 2 1 R lo 3) tt) in
    let b4 = by-pin P.sound b3 4 (pin 3 0) (gate_a 4 (omega arith) (omega arith)) (here refl) in
    weaken b4 (given (weaker? net_a _ (labels net_a (pos 1 ∷ pos 2 ∷ pos 2 ∷ []))) tt)

a_3 : Maps bytes_a net_a 3 1 (pos 1 ∷ pos 1 ∷ pos 1 ∷ []) (lut 4 (copy 0 0 ∷ copy 1 0 ∷ copy 4 1 ∷ []) (pos 0) 0x87 ∷ [])
unfolding plan? planned passed? gate net_reader drawn_reader body_reader gate_reader output_reader pins_from from_bytes times ones
a_3 = maps bytes_a net_a 0 _ ((copy 2 0 ∷ []) ∷ (copy 3 0 ∷ copy 2 0 ∷ []) ∷ (copy 4 0 ∷ copy 3 0 ∷ copy 2 0 ∷ []) ∷ []) _ 3 (bound_a 3) (λ R. tt, refl, (tt, refl, refl, refl))

-- ---- B

bound_b : (k : ℕ) → Passed net_b k → LowerBound net_b k 1 (labels net_b (pos 1 ∷ pos 1 ∷ []))
unfolding weaker? start starting is_gate? reach_of gate
bound_b k P = from-floor 1 P (pos 1 ∷ pos 1 ∷ []) tt

-- at k 2 gate 4 has no cut of height 1
bound_b2 : (w : ℕ) → Passed (through_b w) 2 → LowerBound (through_b w) 2 1 (labels (through_b w) (pos 1 ∷ pos 2 ∷ []))
unfolding weaker? no_cut? replace start starting is_gate? reach_of gate ℕ_discrete
bound_b2 w P =
    let R = ranked P.reached in
    let g : IsGate (through_b w) 4 = record { low = omega arith; high = omega arith } in
    let b4 = raise (through_b w) 2 1 P.sound (start P 1) 4 (start-bound P 1 plain R) g (given (no_cut? (through_b w) 2 1 R (start P 1) 4) tt) in
    weaken b4 (given (weaker? (through_b w) _ (labels (through_b w) (pos 1 ∷ pos 2 ∷ []))) tt)

b_2 : Maps bytes_b net_b 2 1 (pos 1 ∷ pos 2 ∷ []) (lut 3 (copy 0 0 ∷ copy 1 0 ∷ []) (pos 0) 8 ∷ lut 4 (copy 2 0 ∷ copy 3 0 ∷ []) (pos 1) 8 ∷ [])
unfolding plan? planned passed? gate net_reader drawn_reader body_reader gate_reader output_reader pins_from from_bytes times ones
b_2 = maps bytes_b net_b 0 _ ((copy 3 0 ∷ []) ∷ (copy 4 0 ∷ []) ∷ []) _ 2 (bound_b2 1) (λ R. tt, refl, (tt, refl, refl, refl))

b_2_registers : (K : Key net_b 2 1) → register_count net_b (entries K) ≡ 2
unfolding register_count shared_count over_nodes longest entry_taps lut_taps leaf_taps output_taps lag_in
b_2_registers K = ap (register_count net_b) (b_2.cover K)

-- ---- C

bound_c1 : (k : ℕ) → Passed net_c k → LowerBound net_c k 1 (labels net_c (pos 0 ∷ []))
unfolding weaker? start starting is_gate? reach_of gate
bound_c1 k P = from-floor 1 P (pos 0 ∷ []) tt

bound_c2 : (k : ℕ) → Passed net_c k → LowerBound net_c k 2 (labels net_c (negsuc 0 ∷ []))
unfolding weaker? start starting is_gate? reach_of gate
bound_c2 k P = from-floor 2 P (negsuc 0 ∷ []) tt

-- ---- one gate behind one input

bound_d : (k : ℕ) → Passed net_d k → LowerBound net_d k 1 (labels net_d (pos 1 ∷ []))
unfolding weaker? start starting is_gate? reach_of gate
bound_d k P = from-floor 1 P (pos 1 ∷ []) tt

bound_e : (k : ℕ) → Passed net_e k → LowerBound net_e k 1 (labels net_e (pos 1 ∷ []))
unfolding weaker? replace start starting is_gate? reach_of gate ℕ_discrete
bound_e k P =
    let b1 = by-input P.sound (start-bound P 1 plain (ranked P.reached)) 1 (pin 0 0) (record { low = omega arith; high = omega arith }) (here refl) (omega arith) in
    weaken b1 (given (weaker? net_e _ (labels net_e (pos 1 ∷ []))) tt)

-- ---- a tie

-- the cone that goes on to gate 4 one register back
tie_cone : List Copy
tie_cone = copy 4 0 ∷ copy 3 0 ∷ copy 2 0 ∷ copy 4 1 ∷ []

tie-cone : IsCone net_a 4 tie_cone
unfolding tie_cone is_cone? gate
tie-cone = given (is_cone? net_a 4 tie_cone) tt

tie-leaves : IsLeaves net_a tie_cone (copy 0 0 ∷ copy 1 0 ∷ copy 3 1 ∷ [])
unfolding tie_cone leaves_of gate
tie-leaves = (leaves_of net_a tie_cone).1

module _ (K : Key net_a 3 1) where
  g4 : IsGate net_a 4
  g4 = gate_a 4 (omega arith) (omega arith)

  label_4 : K.label 4 ≡ pos 1
  label_4 = a_3.label K 4 g4

  leaf-low : (y : Copy) (u d : ℕ) (z : ℤ) → y ≡ copy u d → K.label u ≡ z → height 1 z d ≤ℤ pos 1 → height 1 (K.label y.node) y.back ≤ℤ K.label 4
  leaf-low y u d z q e h = rw (q, e, label_4) h

  tie-low : (y : Copy) → y ∈ copy 0 0 ∷ copy 1 0 ∷ copy 3 1 ∷ [] → height 1 (K.label y.node) y.back ≤ℤ K.label 4
  tie-low y (here q) = leaf-low y 0 0 (pos 0) q (K.least.labelling.inputs 0 (omega arith)) (record { le = tt })
  tie-low y (there (here q)) = leaf-low y 1 0 (pos 0) q (K.least.labelling.inputs 1 (omega arith)) (record { le = tt })
  tie-low y (there (there (here q))) = leaf-low y 3 1 (pos 1) q (a_3.label K 3 (gate_a 3 (omega arith) (omega arith))) (record { le = tt })
  tie-low y (there (there (there h))) = absurd (not_in_nil h)

  tie_cut : LowCut net_a 3 1 K.label 4 (K.label 4)
  tie_cut = record {
    cone = tie_cone;
    leaves = copy 0 0 ∷ copy 1 0 ∷ copy 3 1 ∷ [];
    is_cone = tie-cone;
    is_leaves = tie-leaves;
    few = omega arith;
    allowed = tie-low;
    inside = λ x m. tt;
  }

  -- the chosen leaves, and 4:1 is one
  chosen-leaves : K.leaves 4 ≡ copy 0 0 ∷ copy 1 0 ∷ copy 4 1 ∷ []
  chosen-leaves = go (subst (λ (es : List Entry). entry_of K 4 ∈ es) (a_3.cover K) (in_entries K (K.all_roots 4 (source (pin 4 0) (here refl) refl g4))))
    where
      go : entry_of K 4 ∈ lut 4 (copy 0 0 ∷ copy 1 0 ∷ copy 4 1 ∷ []) (pos 0) 0x87 ∷ [] → K.leaves 4 ≡ copy 0 0 ∷ copy 1 0 ∷ copy 4 1 ∷ []
      go (here e) = ap (λ (x : Entry). x.leaves) e
      go (there h) = absurd (not_in_nil h)

  outside : ¬ (copy 4 1 ∈ K.cone 4)
  outside m = ((K.cut 4 g4).is_leaves.sound (copy 4 1) (subst (λ (L : List Copy). copy 4 1 ∈ L) (sym chosen-leaves ∙ K.is_leaves 4 g4) (there (there (here refl))))).outside
      (subst (λ (C : List Copy). copy 4 1 ∈ C) (K.is_cone 4 g4) m)

  a_3_tie : Tie K 4 (copy 0 0 ∷ copy 1 0 ∷ copy 3 1 ∷ [])
  unfolding tie_cut tie_cone
  a_3_tie = record {
    cut = tie_cut;
    leaves = refl;
    tie = ap length chosen-leaves;
    inside = λ x m. (K.chosen 4 g4).smallest tie_cut (ap length (sym chosen-leaves ∙ K.is_leaves 4 g4)) x (subst (λ (C : List Copy). x ∈ C) (K.is_cone 4 g4) m);
    larger = (copy 4 1, there (there (there (here refl))), outside);
  }

-- ---- mark: B with root 4's lag at 2

late : List Entry
late = lut 3 (copy 0 0 ∷ copy 1 0 ∷ []) (pos 0) 8 ∷ lut 4 (copy 2 0 ∷ copy 3 0 ∷ []) (pos 2) 8 ∷ []

module _ (P : Passed net_b 2) where
  -- tables and cuts are those of the written cover
  written-tables : TablesRight net_b 2 (lut 3 (copy 0 0 ∷ copy 1 0 ∷ []) (pos 0) 8 ∷ lut 4 (copy 2 0 ∷ copy 3 0 ∷ []) (pos 1) 8 ∷ [])
  written-tables = subst (TablesRight net_b 2) (b_2.cover b_2.key) (key_right P (suc-le-suc zero-le) b_2.key).tables

  late-tables : TablesRight net_b 2 late
  unfolding late
  late-tables e (here q) = subst (TableRight net_b 2) (sym q) (written-tables (lut 3 (copy 0 0 ∷ copy 1 0 ∷ []) (pos 0) 8) (here refl))
  late-tables e (there (here q)) =
      let t = written-tables (lut 4 (copy 2 0 ∷ copy 3 0 ∷ []) (pos 1) 8) (there (here refl)) in
      subst (TableRight net_b 2) (sym q) (record { cut = t.cut; table = t.table })
  late-tables e (there (there h)) = absurd (not_in_nil h)

late-fed : AllFed net_b late
unfolding late all_fed? dec_map dec-× dec-→ all? any? is_gate? ℕ_discrete
late-fed = given (all_fed? net_b late) tt

late-short : ¬ EnoughRegisters net_b late
unfolding late enough? dec-¬ dec_map dec-× below? all? ≤ℤ? place_of
late-short = given (dec-¬ (enough? net_b late)) tt

judged_17 : (N : Net) (k : ℕ) (r : Record) → CutsRight N k r.entries → TablesRight N k r.entries → AllFed N r.entries → ¬ EnoughRegisters N r.entries
    → (a : Dec (CutsRight N k r.entries)) (b : Dec (TablesRight N k r.entries)) (c : Dec (AllFed N r.entries)) (d : Dec (EnoughRegisters N r.entries))
    (e : Dec (ShortChains N r.period r.entries)) (x : ℕ) → judged N k r a b c d e x ≡ turned_back 17
unfolding judged
judged_17 N k r p q f n (no a) b c d e x = absurd (a p)
judged_17 N k r p q f n (yes a) (no b) c d e x = absurd (b q)
judged_17 N k r p q f n (yes a) (yes b) (no c) d e x = absurd (c f)
judged_17 N k r p q f n (yes a) (yes b) (yes c) (yes d) e x = absurd (n d)
judged_17 N k r p q f n (yes a) (yes b) (yes c) (no d) e x = refl

late-reads : cover_reader long net_b 2 (cover_bytes long 1 late) ≡ got (record { period = 1; entries = late }) []
unfolding late cover_bytes all_lut_bytes lut_bytes depths leaf_map to_bytes cover_reader luts_reader lut_reader lut_body depth_reader leaves_from rising_leaves times from_bytes ones
late-reads = refl

late-read : (P : Passed net_b 2) → mark_read net_b 2 P (cover_reader long net_b 2 (cover_bytes long 1 late)) ≡ turned_back 17
unfolding mark_read
late-read P =
    let r : Record = record { period = 1; entries = late } in
    ap (mark_read net_b 2 P) late-reads
    ∙ judged_17 net_b 2 r (λ e m. (late-tables P e m).cut) (late-tables P) late-fed late-short
    (cuts_right? (ranked P.reached) 2 late) (tables_right? P late) (all_fed? net_b late) (enough? net_b late) (short_chains? net_b 1 late) (1 - least_period P)

-- ---- the record that is turned back

marked_17 : (scratch : List ℕ) → scratch_area ≤ length scratch
    → mark_outcome long bytes_b 2 (cover_bytes long 1 (lut 3 (copy 0 0 ∷ copy 1 0 ∷ []) (pos 0) 8 ∷ lut 4 (copy 2 0 ∷ copy 3 0 ∷ []) (pos 2) 8 ∷ [])) scratch
    ≡ record { answer = turned_back 17; scratch = cleared scratch_area scratch }
unfolding late passed? gate mark_outcome mark_sizes mark_sized mark_checked
marked_17 scratch h =
    let r = net-passes bytes_b 2 net_b (given (passed? net_b 2) tt) b_2.reads in
    let sizes : mark_sizes long 2 scratch ≡ 0 = rw (le-ltb (length scratch) scratch_area h) refl in
    ap (λ (n : ℕ). mark_sized long n 2 bytes_b (cover_bytes long 1 late) scratch) sizes
    ∙ ap (λ (a : Answer). record { answer = a; scratch = cleared scratch_area scratch }) (ap (λ (c : Checked 2). mark_checked long 2 c (cover_bytes long 1 late)) r.1 ∙ late-read r.0)

-- ---- the theorem

-- The examples in document 01's words and order. Where it names no k, for every k.
pub record MarkedExamples : Type 0 where
  -- "A, k 2, target 1: 12."
  pub A-k2 : Refuses bytes_a 2 1 12
  -- "A, k 3, target 1: one LUT, root 4, label 1, leaves 0:0 1:0 4:1, table 87;"
  pub A-k3 : Maps bytes_a net_a 3 1 (pos 1 ∷ pos 1 ∷ pos 1 ∷ []) (lut 4 (copy 0 0 ∷ copy 1 0 ∷ copy 4 1 ∷ []) (pos 0) 0x87 ∷ [])
  -- "leaves 0:0 1:0 3:1 tie, with a larger cone."
  pub A-k3-tie : (K : Key net_a 3 1) → Tie K 4 (copy 0 0 ∷ copy 1 0 ∷ copy 3 1 ∷ [])
  -- "B: ... k 2, target 1: labels 1, 2, lags 0, 1, registers 2."
  pub B-k2 : Maps bytes_b net_b 2 1 (pos 1 ∷ pos 2 ∷ []) (lut 3 (copy 0 0 ∷ copy 1 0 ∷ []) (pos 0) 8 ∷ lut 4 (copy 2 0 ∷ copy 3 0 ∷ []) (pos 1) 8 ∷ [])
  pub B-k2-registers : (K : Key net_b 2 1) → register_count net_b (entries K) ≡ 2
  -- "k 3, target 1: table 80, lag 0."
  pub B-k3 : Maps bytes_b net_b 3 1 (pos 1 ∷ pos 1 ∷ []) (lut 4 (copy 0 0 ∷ copy 1 0 ∷ copy 2 0 ∷ []) (pos 0) 0x80 ∷ [])
  -- "Without the register, k 2, target 1: 12."
  pub B-without : Refuses bytes_b0 2 1 12
  -- "C: ... target 1: label 0, lag −1."
  pub C-1 : (k : ℕ) → 2 ≤ k → k ≤ 6 → Maps bytes_c net_c k 1 (pos 0 ∷ []) (lut 2 (copy 0 1 ∷ copy 1 1 ∷ []) (negsuc 0) 8 ∷ [])
  -- "target 2: label −1, lag −1."
  pub C-2 : (k : ℕ) → 2 ≤ k → k ≤ 6 → Maps bytes_c net_c k 2 (negsuc 0 ∷ []) (lut 2 (copy 0 1 ∷ copy 1 1 ∷ []) (negsuc 0) 8 ∷ [])
  -- "Lags at φ 2 for labels −2, 0, 2, 3: −2, −1, 0, 1."
  pub lags : (lag 2 (negsuc 1) ≡ negsuc 1) × (lag 2 (pos 0) ≡ negsuc 0) × (lag 2 (pos 2) ≡ pos 0) × (lag 2 (pos 3) ≡ pos 1)
  -- "A gate AND(0:0, 0:0): one leaf, table 2."
  pub one-leaf : (k : ℕ) → 2 ≤ k → k ≤ 6 → Maps bytes_d net_d k 1 (pos 1 ∷ []) (lut 1 (copy 0 0 ∷ []) (pos 0) 2 ∷ [])
  -- "AND(0:0, 0:1): two leaves."
  pub two-leaves : (k : ℕ) → 2 ≤ k → k ≤ 6 → Maps bytes_e net_e k 1 (pos 1 ∷ []) (lut 1 (copy 0 0 ∷ copy 0 1 ∷ []) (pos 0) 8 ∷ [])
  -- "B, k 2, period 1, lag of root 4 ... at 2: 17."
  pub B-mark : (scratch : List ℕ) → scratch_area ≤ length scratch
      → mark_outcome long bytes_b 2 (cover_bytes long 1 (lut 3 (copy 0 0 ∷ copy 1 0 ∷ []) (pos 0) 8 ∷ lut 4 (copy 2 0 ∷ copy 3 0 ∷ []) (pos 2) 8 ∷ [])) scratch
      ≡ record { answer = turned_back 17; scratch = cleared scratch_area scratch }

-- **The examples that document 01 marks [P].**
pub marked_examples : MarkedExamples
unfolding outputs_met? dec-¬ plan? planned passed? gate net_reader drawn_reader body_reader gate_reader output_reader pins_from from_bytes times ones
marked_examples = record {
  A-k2 = refuses bytes_a net_a 2 0 (pos 1 ∷ pos 2 ∷ pos 2 ∷ []) bound_a2 (tt, refl, refl, refl) tt;
  A-k3 = a_3;
  A-k3-tie = a_3_tie;
  B-k2 = b_2;
  B-k2-registers = b_2_registers;
  B-k3 = maps bytes_b net_b 0 _ ((copy 3 0 ∷ []) ∷ (copy 4 0 ∷ copy 3 0 ∷ []) ∷ []) _ 3 (bound_b 3) (λ R. tt, refl, (tt, refl, refl, refl));
  B-without = refuses bytes_b0 net_b0 2 0 (pos 1 ∷ pos 2 ∷ []) (bound_b2 0) (tt, refl, refl, refl) tt;
  C-1 = maps-all bytes_c net_c 0 _ ((copy 2 0 ∷ []) ∷ []) _ bound_c1 (λ R. tt, refl, (tt, refl, refl, refl)) (λ R. tt, refl, (tt, refl, refl, refl)) (λ R. tt, refl, (tt, refl, refl, refl))
      (λ R. tt, refl, (tt, refl, refl, refl)) (λ R. tt, refl, (tt, refl, refl, refl));
  C-2 = maps-all bytes_c net_c 1 _ ((copy 2 0 ∷ []) ∷ []) _ bound_c2 (λ R. tt, refl, (tt, refl, refl, refl)) (λ R. tt, refl, (tt, refl, refl, refl)) (λ R. tt, refl, (tt, refl, refl, refl))
      (λ R. tt, refl, (tt, refl, refl, refl)) (λ R. tt, refl, (tt, refl, refl, refl));
  lags = lag_examples;
  one-leaf = maps-all bytes_d net_d 0 _ ((copy 1 0 ∷ []) ∷ []) _ bound_d (λ R. tt, refl, (tt, refl, refl, refl)) (λ R. tt, refl, (tt, refl, refl, refl)) (λ R. tt, refl, (tt, refl, refl, refl))
      (λ R. tt, refl, (tt, refl, refl, refl)) (λ R. tt, refl, (tt, refl, refl, refl));
  two-leaves = maps-all bytes_e net_e 0 _ ((copy 1 0 ∷ []) ∷ []) _ bound_e (λ R. tt, refl, (tt, refl, refl, refl)) (λ R. tt, refl, (tt, refl, refl, refl)) (λ R. tt, refl, (tt, refl, refl, refl))
      (λ R. tt, refl, (tt, refl, refl, refl)) (λ R. tt, refl, (tt, refl, refl, refl));
  B-mark = marked_17;
}
