-- Laws of the bench's text: digit by digit, line by line.
use Rattle.std.specs.Prelude.{◌≡◌, Bool, ◌⊎◌, ℕ, zero, suc, ◌+◌, ◌*◌, ◌≤◌, ◌<◌, length, get_or}
use Rattle.std.proofs.Math.Path.{refl, sym, ap, ap₂}
use Rattle.std.proofs.Common.{◌∙◌, inl, inr, add-one, arith, length-append, get_or-drop}
use mathlib.Core.List.{List, [], ◌∷◌, ◌++◌, map}
use Rattle.std.proofs.Math.ListN.{get_or-append}
use Rattle.limits.specs.Limits.{most_steps}
use Rattle.sequences.specs.Listed.{Listed, listed_next}
use Rattle.net_model.specs.Net.{Net, Pin}
use Rattle.net_model.specs.Arrays.{net_in, pins_in}
use Rattle.net_model.specs.ArrayLaws.{pin_at, outputs-net_in}
use Rattle.net_model.specs.PackedNet.{outs_at, delays_at}
use Rattle.net_model.specs.Tables.{bit, as_number}
use Rattle.cone_values.specs.Values.{map_same}
use Rattle.cone_values.specs.Words.{as_number_small}
use Rattle.cover_records.specs.Listing.{newline}
use Rattle.net_reader.specs.ReadAnswer.{arrays_of}
use Rattle.net_reader.specs.declared.NetSizes.{NetSizes}
use Rattle.net_checks.specs.Graphs.{outs_of, delays_of}
use Rattle.run_theory.specs.Bench.{pin_from, value_at}
use Rattle.run_theory.specs.BenchBytes.{section_in, pair_at, pairs_in}
use Rattle.run_theory.proofs.AgoLaws.{ago-agree}
use Rattle.run_theory.proofs.BenchLaws.{bench, value_before}
use Rattle.run_theory.proofs.StepLaws.{step-pin}
use Rattle.run_values.specs.Sheets.{Runnable, Sheet, sheet, net_of, value_of, value_back, pin_of, StepReady, More, NodeAsked, NodeTold}
use Rattle.run_values.specs.SheetLaws.{runnable-sound, runnable-counts, sheet-bench}
use Rattle.run_step.specs.Stepping.{Valued, RunTo}
use Rattle.text_bench.specs.BenchText.{bit_digit, bench_digits, bench_line, bench_lines, bench_text, steps_shown}
use Rattle.text_bench.specs.BenchAsked.{first_digits}

-- ---- digit by digit

module _ (S : Sheet) where
  digits-listed : Listed (λ i. bit_digit (pin_of S (pin_at (outs_of S.sizes S.net) (delays_of S.sizes S.net) i)))
      (λ at n. map (λ (o : Pin). bit_digit (pin_of S o)) (pins_in (outs_of S.sizes S.net) (delays_of S.sizes S.net) at n))
  unfolding pins_in
  digits-listed = record { none = λ at. refl; more = λ at n. refl }

  pub digits-none : first_digits S 0 ≡ []
  unfolding first_digits pins_in
  digits-none = refl

  pub digits-all : first_digits S S.sizes.outputs ≡ bench_digits (net_of S) (section_in S.kept) (value_of S) 0
  unfolding first_digits bench_digits
  digits-all = ap (map (λ (o : Pin). bit_digit (pin_of S o))) (sym (outputs-net_in (arrays_of S.sizes S.net S.tables)))

-- output o
module _ {S : Sheet} {known : List ℕ} (r : StepReady S known) {o source count : ℕ} (h : o < S.sizes.outputs)
    (s : source ≡ get_or S.net (outs_at S.sizes.inputs S.sizes.gates + o) 0) (c : count ≡ get_or S.net (delays_at S.sizes.inputs S.sizes.gates S.sizes.outputs + o) 0) where
  source_is : source ≡ get_or (outs_of S.sizes S.net) o 0
  source_is = s ∙ sym (get_or-drop (outs_at S.sizes.inputs S.sizes.gates) S.net o 0)

  count-is : count ≡ get_or (delays_of S.sizes S.net) o 0
  count-is = c ∙ sym (get_or-drop (delays_at S.sizes.inputs S.sizes.gates S.sizes.outputs) S.net o 0)

  pub output-asks : NodeAsked S known source count
  output-asks = record { ready = r; node = omega (arith, source_is, r.net.out_node o h); count = omega (arith, count-is, r.net.out_count o h) }

  pub output-digit : {known' : List ℕ} {value : ℕ} → NodeTold S known known' source count value → first_digits S o ++ ((48 + value) ∷ []) ≡ first_digits S (o + 1)
  unfolding first_digits
  output-digit {known'} {value} t =
      ap (λ (x : ℕ). map (λ (p : Pin). bit_digit (pin_of S p)) (pins_in (outs_of S.sizes S.net) (delays_of S.sizes S.net) 0 o) ++ ((48 + x) ∷ []))
      (t.value ∙ ap₂ (λ (u b : ℕ). as_number (value_back S u b)) source_is count-is)
      ∙ sym (listed_next (digits-listed S) o)

pub value-small : {S : Sheet} {known known' : List ℕ} {v back r : ℕ} → NodeTold S known known' v back r → r ≤ 1
value-small {S} {v} {back} t = omega (arith, t.value, as_number_small (value_back S v back))

-- all values stay noted
pub valued_more : {S : Sheet} {known₀ known known' : List ℕ} → Valued S known₀ known → More S known known' → Valued S known₀ known'
valued_more {S} {known₀} {known} {known'} w m = record { long = m.long ∙ w.long; all = all }
  where
    by : {x y : ℕ} → (x ≡ 0) ⊎ (x ≡ y) → 1 ≤ x → x ≡ y
    by (inl e) k = absurd (omega arith)
    by (inr e) k = e

    all : (g : ℕ) → g < S.sizes.gates → get_or known' g 0 ≡ suc (as_number (value_of S (S.sizes.inputs + g) 0))
    all g h = by (m.ready.right g h) (m.stays g (omega (arith, w.all g h)))

-- ---- line by line

pub lines_none : (N : Net) (section value : ℕ → ℕ → Bool) → bench_lines N section value 0 ≡ []
unfolding bench_lines
lines_none N section value = refl

pub lines_next : (N : Net) (section value : ℕ → ℕ → Bool) (n : ℕ) → bench_lines N section value n ++ bench_line N section value n ≡ bench_lines N section value (n + 1)
unfolding bench_lines
lines_next N section value n = ap (bench_lines N section value) (sym (add-one n))

-- the line of step T, from what is kept
pub line_step : {z : NetSizes} {net tables pairs kept known kept' known' : List ℕ} {T : ℕ} → Runnable z net tables → RunTo z net tables pairs kept known kept' known' T
    → bench_line (net_in (arrays_of z net tables)) (section_in kept') (value_of (sheet z net tables kept' (pair_at pairs T))) 0
    ≡ bench_line (net_in (arrays_of z net tables)) (section_in kept) (value_at (net_in (arrays_of z net tables)) (section_in kept) (pairs_in pairs)) T
unfolding bench_digits
line_step {z} {net} {tables} {pairs} {kept} {known} {kept'} {known'} {T} r u =
    ap (λ (l : List ℕ). l ++ newline)
    (map_same (λ (o : Pin). bit_digit (pin_of S o)) (λ (o : Pin). bit_digit (pin_from (section_in kept) (value_at N (section_in kept) (pairs_in pairs)) T o)) N.outputs
    (λ o m. ap bit_digit (step-pin (runnable-sound r) r.loopless (runnable-counts r) (bench (runnable-sound r) r.loopless (section_in kept) (pairs_in pairs)) u.keeps (sheet-bench S r) (λ v h. refl)
    o ((runnable-sound r).output o m) ((runnable-counts r).output o m))))
  where
    N : Net
    N = net_in (arrays_of z net tables)

    S : Sheet
    S = sheet z net tables kept' (pair_at pairs T)

pub text-is : (N : Net) (section pairs : List ℕ) → bench_lines N (section_in section) (value_at N (section_in section) (pairs_in pairs)) (steps_shown pairs) ≡ bench_text N section pairs
unfolding bench_text
text-is N section pairs = refl

-- ---- later bytes unread

-- the lines of steps whose values are the same
lines_same : (N : Net) (section value value' : ℕ → ℕ → Bool) (n : ℕ) → ((v t : ℕ) → t < n → value v t ≡ value' v t) → bench_lines N section value n ≡ bench_lines N section value' n
unfolding bench_lines bench_digits
lines_same N section value value' zero h = refl
lines_same N section value value' (suc n) h =
    ap₂ (λ (a b : List ℕ). a ++ (b ++ newline)) (lines_same N section value value' n (λ v t l. h v t (omega arith)))
    (map_same (λ (o : Pin). bit_digit (pin_from section value n o)) (λ (o : Pin). bit_digit (pin_from section value' n o)) N.outputs
    (λ o m. ap bit_digit (ago-agree (section o.src) (section o.src) (value o.src) (value' o.src) n o.count (λ j l. refl) (λ s e. h o.src s (omega arith)))))

-- **bytes behind those of 65,535 steps change nothing**
pub text-unread : (N : Net) (section pairs rest : List ℕ) → 2 * most_steps ≤ length pairs → bench_text N section pairs ≡ bench_text N section (pairs ++ rest)
text-unread N section pairs rest h =
    sym (text-is N section pairs)
    ∙ lines_same N (section_in section) (value_at N (section_in section) (pairs_in pairs)) (value_at N (section_in section) (pairs_in (pairs ++ rest))) (steps_shown pairs)
    (λ v t l. value_before N (section_in section) (pairs_in pairs) (pairs_in (pairs ++ rest)) most_steps same v t (omega arith))
    ∙ ap (bench_lines N (section_in section) (value_at N (section_in section) (pairs_in (pairs ++ rest)))) steps
    ∙ text-is N section (pairs ++ rest)
  where
    steps : steps_shown pairs ≡ steps_shown (pairs ++ rest)
    steps = omega (arith, length-append pairs rest)

    front : (i : ℕ) → i < length pairs → get_or pairs i 0 ≡ get_or (pairs ++ rest) i 0
    front i l = sym (get_or-append pairs rest 0 i l)

    same : (v s : ℕ) → s < most_steps → pairs_in pairs v s ≡ pairs_in (pairs ++ rest) v s
    same v s l = ap₂ (λ (low high : ℕ). bit (low + 256 * high) v) (front (2 * s) (omega arith)) (front (2 * s + 1) (omega arith))
