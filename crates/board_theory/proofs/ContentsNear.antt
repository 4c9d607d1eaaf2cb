-- First contents are a matter of the last values alone: two pasts that agree as far back as pins and outputs reach give the same bytes.
use Rattle.std.specs.Prelude.{◌≡◌, Bool, ℤ, length}
use Rattle.std.proofs.Math.Path.{refl, ap₂}
use mathlib.Core.List.{List, [], ◌∷◌, ◌++◌}
use Prim.Native.Nat.{ℕ, zero, suc, ◌+◌, ◌≤◌, ◌<◌}
use Rattle.std.proofs.Common.{arith}
use Rattle.integers.specs.Parts.{up, dn}
use Rattle.sequences.specs.Member.{◌∈◌, here, there, in_get_or}
use Rattle.net_model.specs.Net.{Net, IsNode}
use Rattle.net_model.specs.Checks.{Sound, Loopless}
use Rattle.net_model.specs.Copies.{Copy}
use Rattle.net_model.specs.Tables.{as_number}
use Rattle.label_theory.specs.Lower.{leaf-node}
use Rattle.run_theory.proofs.AgoLaws.{ago-agree}
use Rattle.run_theory.specs.Bench.{value_at, Counts}
use Rattle.run_theory.proofs.BenchLaws.{bench, bench-near, bench_unique}
use Rattle.cover_theory.specs.Covers.{Cover, lut, lag_of, registers, output, output_registers, IsCover}
use Rattle.cover_theory.specs.Forward.{Forward}
use Rattle.board_theory.specs.Boards.{held, leaf_contents, output_contents, Filled}
use Rattle.board_theory.specs.Contents.{cells, leaf_cells, lut_cells, output_cells, contents_bytes, quiet, contents_of}
use Rattle.board_theory.proofs.ContentsLaws.{leaf-late, output-late}

-- ---- registers that hold the same give the same bytes

cells_same : (f g : ℕ → Bool) (n : ℕ) → ((j : ℕ) → j < n → f j ≡ g j) → cells f n ≡ cells g n
unfolding cells
cells_same f g zero h = refl
cells_same f g (suc n) h = ap₂ (λ (a : Bool) (l : List ℕ). as_number a ∷ l) (h 0 (omega arith)) (cells_same (λ j. f (suc j)) (λ j. g (suc j)) n (λ j l. h (suc j) (omega arith)))

module _ (N : Net) (K : Cover) (contents contents' : ℕ → Copy → ℕ → Bool) where
  leaves-same : (i : ℕ) (L : List Copy) → ((y : Copy) → y ∈ L → (j : ℕ) → j < up (registers N K i y) → contents i y j ≡ contents' i y j) → leaf_cells N K contents i L ≡ leaf_cells N K contents' i L
  unfolding leaf_cells
  leaves-same i [] h = refl
  leaves-same i (y ∷ L) h =
      ap₂ (λ (a b : List ℕ). a ++ b) (cells_same (contents i y) (contents' i y) (up (registers N K i y)) (h y (here refl))) (leaves-same i L (λ z m. h z (there m)))

  luts-same : (n : ℕ) → ((i : ℕ) → i < n → (y : Copy) → y ∈ (lut K i).leaves → (j : ℕ) → j < up (registers N K i y) → contents i y j ≡ contents' i y j)
      → lut_cells N K contents n ≡ lut_cells N K contents' n
  unfolding lut_cells
  luts-same zero h = refl
  luts-same (suc n) h = ap₂ (λ (a b : List ℕ). a ++ b) (luts-same n (λ i l. h i (omega arith))) (leaves-same n (lut K n).leaves (h n (omega arith)))

outputs-same : (N : Net) (K : Cover) (last last' : ℕ → ℕ → Bool) (n : ℕ) → ((o : ℕ) → o < n → (j : ℕ) → j < up (output_registers N K o) → last o j ≡ last' o j)
    → output_cells N K last n ≡ output_cells N K last' n
unfolding output_cells
outputs-same N K last last' zero h = refl
outputs-same N K last last' (suc n) h =
    ap₂ (λ (a b : List ℕ). a ++ b) (outputs-same N K last last' n (λ o l. h o (omega arith))) (cells_same (last n) (last' n) (up (output_registers N K n)) (h n (omega arith)))

-- **the same contents, the same bytes**
pub filled-bytes : {N : Net} {K : Cover} {contents : ℕ → Copy → ℕ → Bool} {last section value : ℕ → ℕ → Bool} → Filled N K contents last section value
    → contents_bytes N K contents last ≡ contents_bytes N K (leaf_contents N K section value) (output_contents N K section value)
unfolding contents_bytes
filled-bytes {N} {K} {contents} {last} {section} {value} f =
    ap₂ (λ (a b : List ℕ). a ++ b) (luts-same N K contents (leaf_contents N K section value) (length K.luts) f.leaf)
    (outputs-same N K last (output_contents N K section value) (length N.outputs) f.out)

-- ---- two pasts

module _ {N : Net} {k : ℕ} {K : Cover} (cover : IsCover N k K) (forward : Forward N K) (sound : Sound N) (loopless : Loopless N) {w : ℕ} (counts : Counts N w)
    {past past' : ℕ → ℕ → Bool} (near : (v j : ℕ) → IsNode N v → j < w → past v j ≡ past' v j) where
  value-near : (v t : ℕ) → IsNode N v → value_at N past quiet v t ≡ value_at N past' quiet v t
  value-near v t i = bench_unique sound loopless past' quiet (bench-near sound counts near (bench sound loopless past quiet)) v t i

  -- n registers behind node u with lag q
  held-near : (u : ℕ) (q : ℤ) (n : ℕ) → IsNode N u → n + up q ≤ dn q + w → (j : ℕ) → j < n → held past (value_at N past quiet) u q j ≡ held past' (value_at N past' quiet) u q j
  held-near u q n i late j l =
      ago-agree (past u) (past' u) (value_at N past quiet u) (value_at N past' quiet u) (dn q) (up q + suc j) (λ m h. near u m i (omega arith)) (λ s e. value-near u s i)

  -- **the bytes are the same**
  pub contents-near : contents_of N K past ≡ contents_of N K past'
  contents-near = filled-bytes (record {
    leaf = λ i h y m j l. held-near y.node (lag_of N K y.node (K.feeder i y)) (up (registers N K i y)) (leaf-node sound (cover.cuts i h).is_leaves m) (leaf-late cover forward counts i h y m) j l;
    out = λ o h j l.
        held-near (output N o).src (lag_of N K (output N o).src (K.named o)) (up (output_registers N K o)) (sound.output (output N o) (in_get_or N.outputs o (record { src = 0; count = 0 }) h))
        (output-late cover forward counts o h) j l;
  })
