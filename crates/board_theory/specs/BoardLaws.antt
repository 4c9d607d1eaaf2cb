-- The board of a cover that meets a period exists and is one: recursion on the step, then on the depth in the cover. It looks at no more contents than there are registers.
use Rattle.std.specs.Prelude.{◌≡◌, refl, Bool, cond, List, map, ◌⊎◌, ltb, ℤ, pos, length}
use Rattle.std.proofs.Common.{sym, ap, ◌∙◌, inl, inr, suc-mul, mul-le-mul_right, arith, lt-ltb, le-ltb}
use Prim.Native.Nat.{ℕ, zero, suc, ◌+◌, ◌*◌, ◌≤◌, ◌<◌}
use Rattle.integers.specs.Parts.{up, pos-up}
use Rattle.sequences.specs.Member.{◌∈◌}
use Rattle.net_model.specs.Net.{Net, IsInput, IsGate}
use Rattle.net_model.specs.Checks.{Sound}
use Rattle.net_model.specs.Copies.{Copy}
use Rattle.net_model.specs.Tables.{apply}
use Rattle.label_theory.specs.Lower.{input_or_gate, leaf-node}
use Rattle.cone_values.specs.Values.{map_same}
use Rattle.run_theory.proofs.AgoLaws.{ago-agree}
use Rattle.run_theory.specs.Bench.{ago}
use Rattle.run_theory.specs.Rules.{Causal, solves, solved_once}
use Rattle.cover_theory.specs.Covers.{Cover, lut, registers, IsCover, Meets}
use Rattle.cover_theory.specs.Depths.{depth, depth-high, depth-rises}
use Rattle.board_theory.specs.Boards.{source, brings, board_rule, Boarded, board_at}

-- what a connection is fed with, by the kind of its node
pub source-input : (N : Net) (inputs board : ℕ → ℕ → Bool) (u l t : ℕ) → IsInput N u → source N inputs board u l t ≡ inputs u t
source-input N inputs board u l t h = ap (λ (b : Bool). cond b (inputs u t) (board l t)) (lt-ltb u N.inputs h)

pub source-gate : (N : Net) (inputs board : ℕ → ℕ → Bool) (u l t : ℕ) → IsGate N u → source N inputs board u l t ≡ board l t
source-gate N inputs board u l t g = ap (λ (b : Bool). cond b (inputs u t) (board l t)) (le-ltb u N.inputs g.low)

-- LUTs whose leaves bring the same have the same value
pub leaves-same : (N : Net) (K : Cover) (table : ℕ → ℕ) (contents contents' : ℕ → Copy → ℕ → Bool) (inputs board board' : ℕ → ℕ → Bool) (i t : ℕ)
    → ((y : Copy) → y ∈ (lut K i).leaves → brings N K contents inputs board i t y ≡ brings N K contents' inputs board' i t y)
    → board_rule N K table contents inputs board i t ≡ board_rule N K table contents' inputs board' i t
leaves-same N K table contents contents' inputs board board' i t h =
    ap (apply (table i)) (map_same (brings N K contents inputs board i t) (brings N K contents' inputs board' i t) (lut K i).leaves h)

-- contents beyond the registers do not count
pub boarded-filled : {N : Net} {K : Cover} {table : ℕ → ℕ} {contents contents' : ℕ → Copy → ℕ → Bool} {inputs board : ℕ → ℕ → Bool}
    → ((i : ℕ) → i < length K.luts → (y : Copy) → y ∈ (lut K i).leaves → (j : ℕ) → j < up (registers N K i y) → contents i y j ≡ contents' i y j)
    → Boarded N K table contents inputs board → Boarded N K table contents' inputs board
boarded-filled {N} {K} {table} {contents} {contents'} {inputs} {board} same b = record {
  rule = λ i t h.
      b.rule i t h
      ∙ leaves-same N K table contents contents' inputs board board i t
      (λ y m. ago-agree (contents i y) (contents' i y) (source N inputs board y.node (K.feeder i y)) (source N inputs board y.node (K.feeder i y)) t (up (registers N K i y))
      (λ j l. same i h y m j (omega arith)) (λ s e. refl));
}

module _ {N : Net} (sound : Sound N) {k : ℕ} {K : Cover} (cover : IsCover N k K) (φ : ℕ) (positive : 1 ≤ φ) (meets : Meets N K φ) (table : ℕ → ℕ) (contents : ℕ → Copy → ℕ → Bool)
    (inputs : ℕ → ℕ → Bool) where
  abbrev Listed : ℕ → Type 0
  Listed i = i < length K.luts

  -- step, then depth in the cover
  abbrev measure : ℕ → ℕ → ℕ
  measure i t = t * suc φ + depth N K φ positive meets i

  measure-high : (i t : ℕ) → measure i t < suc t * suc φ
  measure-high i t = omega (arith, suc-mul t (suc φ), depth-high N K φ positive meets i)

  -- what a gate leaf brings comes from a smaller measure
  earlier : (i : ℕ) → Listed i → (y : Copy) → y ∈ (lut K i).leaves → IsGate N y.node → (s t : ℕ) → s + up (registers N K i y) ≡ t → measure (K.feeder i y) s < measure i t
  earlier i h y m g s t e = go (up (registers N K i y)) refl
    where
      go : (n : ℕ) → up (registers N K i y) ≡ n → measure (K.feeder i y) s < measure i t
      go zero z =
          let same : s ≡ t = omega arith in
          let none : registers N K i y ≡ pos 0 = sym (pos-up (registers N K i y) (cover.leaf_registers i h y m)) ∙ ap pos z in
          omega (arith, ap (λ (x : ℕ). x * suc φ) same, depth-rises N K φ positive meets i h y m g none)
      go (suc n) z =
          let l : suc s ≤ t = omega arith in
          omega (arith, measure-high (K.feeder i y) s, mul-le-mul_right (suc φ) l)

  causal : Causal Listed (board_rule N K table contents inputs) measure
  causal = record { same = same }
    where
      same : (f g : ℕ → ℕ → Bool) (i t : ℕ) → Listed i → ((j s : ℕ) → Listed j → measure j s < measure i t → f j s ≡ g j s)
          → board_rule N K table contents inputs f i t ≡ board_rule N K table contents inputs g i t
      same f g i t h less = leaves-same N K table contents contents inputs f g i t (λ y m. by y m (input_or_gate N y.node (leaf-node sound (cover.cuts i h).is_leaves m)))
        where
          by : (y : Copy) → y ∈ (lut K i).leaves → IsInput N y.node ⊎ IsGate N y.node → brings N K contents inputs f i t y ≡ brings N K contents inputs g i t y
          by y m kind =
              ago-agree (contents i y) (contents i y) (source N inputs f y.node (K.feeder i y)) (source N inputs g y.node (K.feeder i y)) t (up (registers N K i y)) (λ j l. refl) (fed kind)
            where
              fed : IsInput N y.node ⊎ IsGate N y.node → (s : ℕ) → s + up (registers N K i y) ≡ t
                  → source N inputs f y.node (K.feeder i y) s ≡ source N inputs g y.node (K.feeder i y) s
              fed (inl u) s e = source-input N inputs f y.node (K.feeder i y) s u ∙ sym (source-input N inputs g y.node (K.feeder i y) s u)
              fed (inr u) s e =
                  source-gate N inputs f y.node (K.feeder i y) s u ∙ less (K.feeder i y) s (cover.fed i h y m u).listed (earlier i h y m u s t e)
                  ∙ sym (source-gate N inputs g y.node (K.feeder i y) s u)

  -- **there is a board**
  pub boarded : Boarded N K table contents inputs (board_at N K φ table contents inputs)
  unfolding board_at
  boarded = record { rule = λ i t h. solves causal (λ j s. suc s * suc φ) (λ j s l. measure-high j s) i t h }

  -- **and only one**
  pub boarded_unique : {board : ℕ → ℕ → Bool} → Boarded N K table contents inputs board → (i t : ℕ) → i < length K.luts → board i t ≡ board_at N K φ table contents inputs i t
  unfolding board_at
  boarded_unique {board} b i t h = solved_once causal (λ j s. suc s * suc φ) (λ j s l. measure-high j s) board (λ j s l. b.rule j s l) i t h
