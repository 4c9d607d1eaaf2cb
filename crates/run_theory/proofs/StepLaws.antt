-- A step of a program: from what is kept at step T and the inputs of that step, the values of step T and what is kept at step T + 1. The step is step 0 of the
-- run from what is kept.
use Rattle.std.specs.Prelude.{◌≡◌, refl, Bool}
use Rattle.std.proofs.Common.{sym, ap, ◌∙◌, zero-add, arith}
use Prim.Native.Nat.{ℕ, zero, suc, ◌+◌, ◌≤◌, ◌<◌}
use Rattle.net_model.specs.Net.{Net, Pin, IsNode, IsInput}
use Rattle.net_model.specs.Checks.{Sound, Loopless}
use Rattle.run_theory.proofs.AgoLaws.{ago-agree}
use Rattle.run_theory.specs.Bench.{ago, pin_from, Bench, section_at, Counts, Keeps}
use Rattle.run_theory.proofs.BenchLaws.{bench-later, bench-near, bench-before}

-- the section itself is kept at step 0
pub keeps-zero : (N : Net) (w : ℕ) (section value : ℕ → ℕ → Bool) → Keeps N w section value section 0
unfolding ago
keeps-zero N w section value v j i h = refl

-- **what is kept at step T is a matter of the inputs before it**
pub keeps-before : {N : Net} → Sound N → Loopless N → {section inputs inputs' value value' : ℕ → ℕ → Bool} → Bench N section inputs value → Bench N section inputs' value' → (w T : ℕ)
    → ((u s : ℕ) → IsInput N u → s < T → inputs u s ≡ inputs' u s) → Keeps N w section value' (section_at section value T) T
keeps-before sound loopless {section} {value = value} {value' = value'} b b' w T same v j i h =
    ago-agree (section v) (section v) (value v) (value' v) T (suc j) (λ m l. refl) (λ s e. bench-before sound loopless b b' T same v s i (omega arith))

module _ {N : Net} (sound : Sound N) (loopless : Loopless N) {w T : ℕ} (counts : Counts N w) {section inputs value kept inputs₀ value₀ : ℕ → ℕ → Bool}
    (b : Bench N section inputs value) (keeps : Keeps N w section value kept T) (b₀ : Bench N kept inputs₀ value₀)
    (given : (v : ℕ) → IsInput N v → inputs₀ v 0 ≡ inputs v T) where
  -- **the values of step T**
  pub step_value : (v : ℕ) → IsNode N v → value₀ v 0 ≡ value v T
  step_value v i =
      bench-before sound loopless b₀ (bench-near sound counts (λ u j n h. sym (keeps u j n h)) (bench-later b T)) 1 first v 0 i (omega arith) ∙ ap (value v) (zero-add T)
    where
      first : (u s : ℕ) → IsInput N u → s < 1 → inputs₀ u s ≡ inputs u (s + T)
      first u zero n h = given u n ∙ ap (inputs u) (sym (zero-add T))
      first u (suc s) n h = absurd (omega arith)

  -- **pins and outputs at step T**
  pub step-pin : (p : Pin) → IsNode N p.src → p.count ≤ w → pin_from kept value₀ 0 p ≡ pin_from section value T p
  unfolding ago
  step-pin p i h = go p.count h
    where
      go : (c : ℕ) → c ≤ w → ago (kept p.src) (value₀ p.src) 0 c ≡ ago (section p.src) (value p.src) T c
      go zero l = step_value p.src i
      go (suc c) l = keeps p.src c i l

  -- **what is kept at the next step**
  pub step_keeps : (kept' : ℕ → ℕ → Bool) → ((v : ℕ) → IsNode N v → kept' v 0 ≡ value₀ v 0) → ((v j : ℕ) → IsNode N v → suc j < w → kept' v (suc j) ≡ kept v j)
      → Keeps N w section value kept' (suc T)
  unfolding ago
  step_keeps kept' newest older v zero i h = newest v i ∙ step_value v i
  step_keeps kept' newest older v (suc j) i h = older v j i h ∙ keeps v j i (omega arith)
