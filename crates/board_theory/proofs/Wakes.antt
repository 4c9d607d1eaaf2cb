-- **From step 0 on, for any inputs, the outputs of board and net agree for ever**: of a forward cover that meets a period, with the tables of its cuts and the first contents. The
-- same from a later step on, with contents from what the running net has kept.
use Rattle.std.specs.Prelude.{◌≡◌, refl, Bool, ◌⊎◌, ℕ, suc, ◌+◌, ◌≤◌, ◌<◌, length}
use Rattle.std.proofs.Common.{sym, ap, ◌∙◌, inl, inr, arith}
use Rattle.integers.specs.Parts.{up}
use Rattle.sequences.specs.Member.{◌∈◌, in_get_or}
use Rattle.net_model.specs.Net.{Net, IsInput, IsGate}
use Rattle.net_model.specs.Checks.{Sound, Loopless}
use Rattle.net_model.specs.Copies.{Copy}
use Rattle.label_theory.specs.Lower.{input_or_gate, leaf-node}
use Rattle.run_theory.proofs.AgoLaws.{ago-agree, ago-shift}
use Rattle.run_theory.specs.Bench.{ago, pin_from, Bench, section_at, Counts, Keeps}
use Rattle.run_theory.proofs.BenchLaws.{bench-later, bench-near}
use Rattle.cover_theory.specs.Covers.{Cover, lut, registers, output, output_registers, RootedAt, IsCover, Meets}
use Rattle.cover_theory.specs.Forward.{Forward}
use Rattle.board_theory.specs.Boards.{leaf_contents, output_contents, Filled, source, Boarded, shows, Tabled}
use Rattle.board_theory.specs.BoardLaws.{source-input, source-gate, boarded-filled, boarded_unique}
use Rattle.board_theory.proofs.RunBoards.{shifted, run_boards, run-shows}
use Rattle.board_theory.proofs.SameInputs.{held_same}

module _ {N : Net} {k : ℕ} {K : Cover} (cover : IsCover N k K) (forward : Forward N K) (sound : Sound N) (loopless : Loopless N) (φ : ℕ) (positive : 1 ≤ φ) (meets : Meets N K φ)
    {table : ℕ → ℕ} (tabled : Tabled N K table) where
  -- what feeds a leaf, and an output
  leaf-source : (i : ℕ) → i < length K.luts → (y : Copy) → y ∈ (lut K i).leaves → IsInput N y.node ⊎ (IsGate N y.node × RootedAt K y.node (K.feeder i y))
  leaf-source i h y m = by (input_or_gate N y.node (leaf-node sound (cover.cuts i h).is_leaves m))
    where
      by : IsInput N y.node ⊎ IsGate N y.node → IsInput N y.node ⊎ (IsGate N y.node × RootedAt K y.node (K.feeder i y))
      by (inl u) = inl u
      by (inr g) = inr (g, cover.fed i h y m g)

  out-source : (o : ℕ) → o < length N.outputs → IsInput N (output N o).src ⊎ (IsGate N (output N o).src × RootedAt K (output N o).src (K.named o))
  out-source o h = by (input_or_gate N (output N o).src (sound.output (output N o) (in_get_or N.outputs o (record { src = 0; count = 0 }) h)))
    where
      by : IsInput N (output N o).src ⊎ IsGate N (output N o).src → IsInput N (output N o).src ⊎ (IsGate N (output N o).src × RootedAt K (output N o).src (K.named o))
      by (inl u) = inl u
      by (inr g) = inr (g, cover.names o h g)

  -- the contents were taken from a run from the section, with any inputs
  module _ {contents : ℕ → Copy → ℕ → Bool} {last section inputs₀ value₀ : ℕ → ℕ → Bool} (b₀ : Bench N section inputs₀ value₀) (filled : Filled N K contents last section value₀)
      {inputs value board : ℕ → ℕ → Bool} (b : Bench N section inputs value) (d : Boarded N K table contents inputs board) where
    run-filled : Boarded N K table contents inputs (shifted K value)
    run-filled =
        boarded-filled (λ i h y m j l. held_same cover forward sound loopless b b₀ y.node (K.feeder i y) (leaf-source i h y m) j ∙ sym (filled.leaf i h y m j l))
        (run_boards cover forward sound loopless b tabled)

    -- **LUT i has at step t its root's value at step t − lag**
    pub wakes-lut : (i t : ℕ) → i < length K.luts → board i t ≡ shifted K value i t
    wakes-lut i t h =
        boarded_unique sound cover φ positive meets table contents inputs d i t h ∙ sym (boarded_unique sound cover φ positive meets table contents inputs run-filled i t h)

    -- **the outputs agree**
    pub wakes : (o : ℕ) → o < length N.outputs → (t : ℕ) → shows N K last inputs board o t ≡ pin_from section value t (output N o)
    wakes o h t =
        ago-agree (last o) (output_contents N K section value o) (source N inputs board (output N o).src (K.named o)) (source N inputs (shifted K value) (output N o).src (K.named o)) t (up (output_registers N K o))
        (λ j l. filled.out o h j (omega arith) ∙ held_same cover forward sound loopless b₀ b (output N o).src (K.named o) (out-source o h) j) (λ s e. by s (out-source o h))
        ∙ run-shows cover forward sound loopless b o h t
      where
        by : (s : ℕ) → IsInput N (output N o).src ⊎ (IsGate N (output N o).src × RootedAt K (output N o).src (K.named o))
            → source N inputs board (output N o).src (K.named o) s ≡ source N inputs (shifted K value) (output N o).src (K.named o) s
        by s (inl u) =
            source-input N inputs board (output N o).src (K.named o) s u ∙ sym (source-input N inputs (shifted K value) (output N o).src (K.named o) s u)
        by s (inr (g, r)) =
            source-gate N inputs board (output N o).src (K.named o) s g ∙ wakes-lut (K.named o) s r.listed
            ∙ sym (source-gate N inputs (shifted K value) (output N o).src (K.named o) s g)

  -- **From step T on the board's outputs go on as the net's**, where the contents come from the last w values of every node before step T.
  pub takes_over : {w : ℕ} → Counts N w → {contents : ℕ → Copy → ℕ → Bool} {last kept inputs₀ value₀ : ℕ → ℕ → Bool} → Bench N kept inputs₀ value₀ → Filled N K contents last kept value₀
      → {section inputs value : ℕ → ℕ → Bool} → Bench N section inputs value → (T : ℕ) → Keeps N w section value kept T
      → {board : ℕ → ℕ → Bool} → Boarded N K table contents (λ u s. inputs u (s + T)) board
      → (o : ℕ) → o < length N.outputs → (t : ℕ) → shows N K last (λ u s. inputs u (s + T)) board o t ≡ pin_from section value (t + T) (output N o)
  takes_over {w} counts {kept = kept} b₀ filled {section} {inputs} {value} b T keeps d o h t =
      let p = output N o in
      let node = sound.output p (in_get_or N.outputs o (record { src = 0; count = 0 }) h) in
      let few = counts.output p (in_get_or N.outputs o (record { src = 0; count = 0 }) h) in
      wakes b₀ filled (bench-near sound counts (λ u j n l. sym (keeps u j n l)) (bench-later b T)) d o h t
      ∙ ago-agree (kept p.src) (section_at section value T p.src) (λ s. value p.src (s + T)) (λ s. value p.src (s + T)) t p.count
      (λ j l. keeps p.src j node (omega arith)) (λ s e. refl)
      ∙ ago-shift (section p.src) (value p.src) T t p.count
