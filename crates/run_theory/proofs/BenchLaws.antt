-- The run from a section exists and is one: recursion on the step, then on the registerless depth. It is a run in the sense of demand 2; from any step on it is
-- the run from a section taken there; sections count only as far back as pins reach, inputs only up to the step.
use Rattle.std.specs.Prelude.{◌≡◌, Bool, List, map, ltb, length}
use Rattle.std.proofs.Math.Path.{refl, ap₂}
use Rattle.std.proofs.Common.{sym, ap, ◌∙◌, suc-mul, mul-le-mul_right, arith, lt-ltb, le-ltb}
use Rattle.std.proofs.Math.Bool.{cond}
use Prim.Native.Nat.{ℕ, zero, suc, ◌+◌, ◌-◌, ◌*◌, ◌≤◌, ◌<◌}
use Rattle.std.proofs.Math.Decide.{dec_lt}
use Rattle.sequences.specs.Member.{◌∈◌}
use Rattle.net_model.specs.Net.{Net, Pin, IsNode, IsInput, IsGate, gate, pins}
use Rattle.net_model.specs.Checks.{Sound, Drives, Loopless}
use Rattle.net_model.specs.Tables.{apply}
use Rattle.net_model.specs.Runs.{Run}
use Rattle.cone_values.specs.Values.{map_same}
use Rattle.run_theory.specs.Bench.{ago, pin_from, gate_from, Bench, bench_rule, repeated, value_at, section_at, Counts}
use Rattle.run_theory.proofs.AgoLaws.{ago-agree, ago-now, ago-shift}
use Rattle.run_theory.specs.Rules.{Causal, solves, solved_once}
use Rattle.run_theory.specs.LevelOf.{level_of, level-rises, level-bound}

-- gates whose pins have the same values have the same value
pub pins-same : (N : Net) (section section' value value' : ℕ → ℕ → Bool) (v t t' : ℕ) → ((p : Pin) → p ∈ pins N v → pin_from section value t p ≡ pin_from section' value' t' p)
    → gate_from N section value v t ≡ gate_from N section' value' v t'
pins-same N section section' value value' v t t' h =
    ap (apply (gate N v).table) (map_same (pin_from section value t) (pin_from section' value' t') (pins N v) h)

-- the values at a step are a function of the inputs up to that step
module _ (N : Net) (section inputs inputs' : ℕ → ℕ → Bool) (T : ℕ) (same : (v s : ℕ) → s < T → inputs v s ≡ inputs' v s) where
  repeated-before : (n v t : ℕ) → t < T → repeated (bench_rule N section inputs) n v t ≡ repeated (bench_rule N section inputs') n v t
  unfolding repeated
  repeated-before zero v t h = refl
  repeated-before (suc n) v t h =
      ap₂ (λ (x y : Bool). cond (ltb v N.inputs) x y) (same v t h)
      (pins-same N section section (repeated (bench_rule N section inputs) n) (repeated (bench_rule N section inputs') n) v t t
      (λ p m. ago-agree (section p.src) (section p.src) (repeated (bench_rule N section inputs) n p.src) (repeated (bench_rule N section inputs') n p.src) t p.count (λ j l. refl)
      (λ s e. repeated-before n p.src s (omega arith))))

  pub value_before : (v t : ℕ) → t < T → value_at N section inputs v t ≡ value_at N section inputs' v t
  unfolding value_at
  value_before v t h = repeated-before (suc t * suc (length N.gates)) v t h

-- **a run in the sense of demand 2**
pub bench-run : {N : Net} {section inputs value : ℕ → ℕ → Bool} → Bench N section inputs value → Run N value
bench-run {section} {value} b = record {
  obeys = λ v t g exist.
      b.gate v t g
      ∙ ap (apply (gate _ v).table)
      (map_same (pin_from section value t) (λ (p : Pin). value p.src (t - p.count)) (pins _ v) (λ p m. ago-now (section p.src) (value p.src) t p.count (exist p m)));
}

-- **from step T on it is the run from the section taken there**
pub bench-later : {N : Net} {section inputs value : ℕ → ℕ → Bool} → Bench N section inputs value → (T : ℕ)
    → Bench N (section_at section value T) (λ u s. inputs u (s + T)) (λ u s. value u (s + T))
bench-later {N} {section} {value} b T = record {
  input = λ v t h. b.input v (t + T) h;
  gate = λ v t g.
      b.gate v (t + T) g
      ∙ pins-same N section (section_at section value T) value (λ u s. value u (s + T)) v (t + T) t (λ p m. sym (ago-shift (section p.src) (value p.src) T t p.count));
}

module _ {N : Net} (sound : Sound N) where
  -- **sections count as far back as pins reach**
  pub bench-near : {section section' inputs value : ℕ → ℕ → Bool} {w : ℕ} → Counts N w → ((v j : ℕ) → IsNode N v → j < w → section v j ≡ section' v j)
      → Bench N section inputs value → Bench N section' inputs value
  bench-near {section} {section'} {value} {w} counts near b = record {
    input = b.input;
    gate = λ v t g.
        b.gate v t g
        ∙ pins-same N section section' value value v t t
        (λ p m. ago-agree (section p.src) (section' p.src) (value p.src) (value p.src) t p.count
        (λ j h. near p.src j (sound.pin v g p m) (let c = counts.pin v g p m in omega arith)) (λ s e. refl));
  }

  module _ (loopless : Loopless N) where
    -- step, then registerless depth
    abbrev pub measure : ℕ → ℕ → ℕ
    measure v t = t * suc (length N.gates) + level_of N v

    measure-high : (v t : ℕ) → measure v t < suc t * suc (length N.gates)
    measure-high v t = omega (arith, suc-mul t (suc (length N.gates)), level-bound N v)

    -- what a pin reads has a smaller measure
    pub earlier : (v s t : ℕ) → IsGate N v → (p : Pin) → p ∈ pins N v → s + p.count ≡ t → measure p.src s < measure v t
    earlier v s t g p m e = go p.count refl
      where
        go : (c : ℕ) → p.count ≡ c → measure p.src s < measure v t
        go zero z =
            let same : s ≡ t = omega arith in
            omega (arith, ap (λ (x : ℕ). x * suc (length N.gates)) same, level-rises loopless (record { gate = g; pin = p; is_pin = m; source = refl; free = z }))
        go (suc c) z =
            let l : suc s ≤ t = omega arith in
            omega (arith, measure-high p.src s, mul-le-mul_right (suc (length N.gates)) l)

    gate_same : (section f g : ℕ → ℕ → Bool) (v t : ℕ) → IsGate N v → ((w s : ℕ) → IsNode N w → s ≤ t → measure w s < measure v t → f w s ≡ g w s)
        → gate_from N section f v t ≡ gate_from N section g v t
    gate_same section f g v t i h =
        pins-same N section section f g v t t
        (λ p m. ago-agree (section p.src) (section p.src) (f p.src) (g p.src) t p.count (λ j l. refl)
        (λ s e. h p.src s (sound.pin v i p m) (omega arith) (earlier v s t i p m e)))

    module _ (section inputs : ℕ → ℕ → Bool) where
      rule-input : (value : ℕ → ℕ → Bool) (v t : ℕ) → IsInput N v → bench_rule N section inputs value v t ≡ inputs v t
      rule-input value v t h = ap (λ (b : Bool). cond b (inputs v t) (gate_from N section value v t)) (lt-ltb v N.inputs h)

      rule-gate : (value : ℕ → ℕ → Bool) (v t : ℕ) → N.inputs ≤ v → bench_rule N section inputs value v t ≡ gate_from N section value v t
      rule-gate value v t h = ap (λ (b : Bool). cond b (inputs v t) (gate_from N section value v t)) (le-ltb v N.inputs h)

      causal : Causal (IsNode N) (bench_rule N section inputs) measure
      causal = record { same = same }
        where
          same : (f g : ℕ → ℕ → Bool) (v t : ℕ) → IsNode N v → ((w s : ℕ) → IsNode N w → measure w s < measure v t → f w s ≡ g w s)
              → bench_rule N section inputs f v t ≡ bench_rule N section inputs g v t
          same f g v t i h = go (dec_lt v N.inputs)
            where
              go : Dec (v < N.inputs) → bench_rule N section inputs f v t ≡ bench_rule N section inputs g v t
              go (yes l) = rule-input f v t l ∙ sym (rule-input g v t l)
              go (no n) =
                  let l : N.inputs ≤ v = omega arith in
                  rule-gate f v t l ∙ gate_same section f g v t (record { low = l; high = i }) (λ w s j b. h w s j) ∙ sym (rule-gate g v t l)

      abbrev fuel : ℕ → ℕ → ℕ
      fuel v t = suc t * suc (length N.gates)

      by-rule : (v t : ℕ) → IsNode N v → value_at N section inputs v t ≡ bench_rule N section inputs (value_at N section inputs) v t
      unfolding value_at
      by-rule v t i = solves causal fuel (λ u s j. measure-high u s) v t i

      -- **there is a run from every section with all inputs**
      pub bench : Bench N section inputs (value_at N section inputs)
      bench = record {
        input = λ v t h. by-rule v t (omega arith) ∙ rule-input (value_at N section inputs) v t h;
        gate = λ v t g. by-rule v t g.high ∙ rule-gate (value_at N section inputs) v t g.low;
      }

      obeys-rule : {value : ℕ → ℕ → Bool} → Bench N section inputs value → (v t : ℕ) → IsNode N v → value v t ≡ bench_rule N section inputs value v t
      obeys-rule {value} b v t i = go (dec_lt v N.inputs)
        where
          go : Dec (v < N.inputs) → value v t ≡ bench_rule N section inputs value v t
          go (yes l) = b.input v t l ∙ sym (rule-input value v t l)
          go (no n) =
              let l : N.inputs ≤ v = omega arith in
              b.gate v t (record { low = l; high = i }) ∙ sym (rule-gate value v t l)

      -- **and only one**
      pub bench_unique : {value : ℕ → ℕ → Bool} → Bench N section inputs value → (v t : ℕ) → IsNode N v → value v t ≡ value_at N section inputs v t
      unfolding value_at
      bench_unique {value} b v t i = solved_once causal fuel (λ u s j. measure-high u s) value (obeys-rule b) v t i

    -- **inputs count up to the step**
    module _ {section inputs inputs' value value' : ℕ → ℕ → Bool} (b : Bench N section inputs value) (b' : Bench N section inputs' value') (T : ℕ)
        (same : (v s : ℕ) → IsInput N v → s < T → inputs v s ≡ inputs' v s) where
      before-by : (n v t : ℕ) → IsNode N v → t < T → measure v t < n → value v t ≡ value' v t
      before-by zero v t i l h = absurd (omega arith)
      before-by (suc n) v t i l h = go (dec_lt v N.inputs) (λ w s j m k. before-by n w s j (omega arith) (omega arith))
        where
          go : Dec (v < N.inputs) → ((w s : ℕ) → IsNode N w → s ≤ t → measure w s < measure v t → value w s ≡ value' w s) → value v t ≡ value' v t
          go (yes k) rest = b.input v t k ∙ same v t k l ∙ sym (b'.input v t k)
          go (no m) rest =
              let g : IsGate N v = record { low = omega arith; high = i } in
              b.gate v t g ∙ gate_same section value value' v t g rest ∙ sym (b'.gate v t g)

      pub bench-before : (v t : ℕ) → IsNode N v → t < T → value v t ≡ value' v t
      bench-before v t i l = before-by (suc (measure v t)) v t i l (omega arith)
