-- A run of the net, shifted by the lags, is a board of a forward cover: its registers hold the run's own values from before.
use Rattle.std.specs.Prelude.{◌≡◌, refl, Bool, List, map, ◌⊎◌, ℕ, suc, ◌+◌, ◌≤◌, ◌<◌, ℤ, pos, negsuc, ◌+ℤ◌, ◌-ℤ◌, length, ◌≤ℤ◌}
use Rattle.std.proofs.Common.{sym, ap, ap₂, subst, ◌∙◌, inl, inr, arith}
use Rattle.integers.specs.Parts.{up, dn, ints, +-parts, sub_parts, pos-up}
use Rattle.sequences.specs.Member.{◌∈◌, in_get_or}
use Rattle.net_model.specs.Net.{Net, Pin, IsInput, IsGate}
use Rattle.net_model.specs.Checks.{Sound, Loopless}
use Rattle.net_model.specs.Copies.{Copy, copy, IsCut}
use Rattle.net_model.specs.Tables.{apply, table_of}
use Rattle.label_theory.specs.Lower.{input_or_gate, leaf-node}
use Rattle.cone_values.specs.Values.{map_same}
use Rattle.run_theory.proofs.AgoLaws.{ago-same, ago-agree, ago-shift}
use Rattle.run_theory.specs.Bench.{ago, pin_from, Bench}
use Rattle.cover_theory.specs.Covers.{Cover, lut, lag_of, registers, output, output_registers, RootedAt, IsCover}
use Rattle.cover_theory.proofs.CoverLabels.{lag-gate, lag-input}
use Rattle.cover_theory.specs.Forward.{Forward}
use Rattle.board_theory.specs.Boards.{held, leaf_contents, output_contents, source, brings, board_rule, Boarded, shows, Tabled}
use Rattle.board_theory.specs.BoardLaws.{source-input, source-gate}
use Rattle.board_theory.specs.ConeRoot.{cone-root}

-- the value of LUT i at step t in a run: its root's at step t − lag
abbrev pub shifted : Cover → (ℕ → ℕ → Bool) → ℕ → ℕ → Bool
shifted K value i t = value (lut K i).root (t + dn (lut K i).lag)

-- a connection whose registers hold the past of its source
pub connection : (section value : ℕ → ℕ → Bool) (u : ℕ) (q : ℤ) (from : ℕ → Bool) → up q ≡ 0 → ((s : ℕ) → from s ≡ value u (s + dn q)) → (t n r d : ℕ) → n + r ≡ d + dn q
    → ago (held section value u q) from t n ≡ ago (section u) (value u) (t + r) d
connection section value u q from z f t n r d e =
    ago-agree (held section value u q) (λ j. ago (section u) (value u) (dn q) (suc j)) from (λ s. value u (s + dn q)) t n
    (λ j l. ap (λ (m : ℕ). ago (section u) (value u) (dn q) m) (omega arith)) (λ s l. f s)
    ∙ ago-shift (section u) (value u) (dn q) t n ∙ ago-same (section u) (value u) (t + dn q) n (t + r) d (omega arith)

module _ {N : Net} {k : ℕ} {K : Cover} (cover : IsCover N k K) (forward : Forward N K) where
  -- members are no further back than the lag is below 0
  pub member-late : (i : ℕ) (h : i < length K.luts) (x : Copy) → x ∈ (cover.cuts i h).cone → (up (lut K i).lag ≡ 0) × (x.back ≤ dn (lut K i).lag)
  member-late i h x m = parts (lut K i).lag (forward i h (cover.cuts i h).cone (cover.cuts i h).is_cone (cover.cuts i h).is_leaves x m)
    where
      parts : (z : ℤ) → (z +ℤ pos x.back) ≤ℤ pos 0 → (up z ≡ 0) × (x.back ≤ dn z)
      parts (pos n) l = (omega (arith, ints, +-parts (pos n) (pos x.back), l), omega (arith, ints, +-parts (pos n) (pos x.back), l))
      parts (negsuc n) l = (refl, omega (arith, ints, +-parts (negsuc n) (pos x.back), l))

  -- no lag is above 0
  pub lag-low : (i : ℕ) → i < length K.luts → up (lut K i).lag ≡ 0
  lag-low i h = (member-late i h (copy (lut K i).root 0) (cover.cuts i h).is_cone.root).0

  module _ (sound : Sound N) (loopless : Loopless N) {section inputs value : ℕ → ℕ → Bool} (b : Bench N section inputs value) where
    -- what feeds a connection, in the shifted run: the value of its node, as many steps on as the lag is below 0
    pub record Fed (u l : ℕ) : Type 0 where
      pub low : up (lag_of N K u l) ≡ 0
      pub ahead : (s : ℕ) → source N inputs (shifted K value) u l s ≡ value u (s + dn (lag_of N K u l))

    pub fed : (u l : ℕ) → IsInput N u ⊎ (IsGate N u × RootedAt K u l) → Fed u l
    fed u l (inl h) =
        let q = lag-input N K u l h in
        record {
          low = ap up q;
          ahead = λ s. source-input N inputs (shifted K value) u l s h ∙ sym (b.input u s h) ∙ ap (value u) (omega (arith, ap dn q));
        }
    fed u l (inr (g, r)) =
        let q = lag-gate N K u l g in
        record {
          low = ap up q ∙ lag-low l r.listed;
          ahead = λ s. source-gate N inputs (shifted K value) u l s g ∙ ap₂ (λ (v : ℕ) (z : ℤ). value v (s + dn z)) r.rooted (sym q);
        }

    leaf-fed : (i : ℕ) → i < length K.luts → (y : Copy) → y ∈ (lut K i).leaves → Fed y.node (K.feeder i y)
    leaf-fed i h y m = by (input_or_gate N y.node (leaf-node sound (cover.cuts i h).is_leaves m))
      where
        by : IsInput N y.node ⊎ IsGate N y.node → Fed y.node (K.feeder i y)
        by (inl u) = fed y.node (K.feeder i y) (inl u)
        by (inr g) = fed y.node (K.feeder i y) (inr (g, cover.fed i h y m g))

    -- a leaf brings its node's value, d steps before the root's step
    leaf-brings : (i : ℕ) (h : i < length K.luts) (y : Copy) (m : y ∈ (lut K i).leaves) (t : ℕ)
        → brings N K (leaf_contents N K section value) inputs (shifted K value) i t y ≡ ago (section y.node) (value y.node) (t + dn (lut K i).lag) y.back
    leaf-brings i h y m t =
        let q = lag_of N K y.node (K.feeder i y) in
        let f = leaf-fed i h y m in
        connection section value y.node q (source N inputs (shifted K value) y.node (K.feeder i y)) f.low f.ahead t (up (registers N K i y)) (dn (lut K i).lag) y.back
        (omega (arith, ap dn (pos-up (registers N K i y) (cover.leaf_registers i h y m)), sub_parts (pos y.back +ℤ (lut K i).lag) q, +-parts (pos y.back) (lut K i).lag, f.low, lag-low i h))

    -- **the shifted run is a board**
    pub run_boards : {table : ℕ → ℕ} → Tabled N K table → Boarded N K table (leaf_contents N K section value) inputs (shifted K value)
    run_boards {table} tabled = record { rule = rule }
      where
        rule : (i t : ℕ) → i < length K.luts → shifted K value i t ≡ board_rule N K table (leaf_contents N K section value) inputs (shifted K value) i t
        rule i t h =
            let c = cover.cuts i h in
            cone-root loopless b c.is_cone c.is_leaves (t + dn (lut K i).lag) (λ x m. let l = (member-late i h x m).1 in omega arith)
            ∙ ap₂ (λ (w : ℕ) (l : List Bool). apply w l) (sym (tabled i h c.cone c.is_cone c.is_leaves))
            (map_same (λ (y : Copy). ago (section y.node) (value y.node) (t + dn (lut K i).lag) y.back)
            (brings N K (leaf_contents N K section value) inputs (shifted K value) i t) (lut K i).leaves (λ y m. sym (leaf-brings i h y m t)))

    -- **and shows the net's outputs**
    pub run-shows : (o : ℕ) → o < length N.outputs → (t : ℕ) → shows N K (output_contents N K section value) inputs (shifted K value) o t ≡ pin_from section value t (output N o)
    run-shows o h t =
        let u = (output N o).src in
        let q = lag_of N K u (K.named o) in
        let f = out-fed in
        connection section value u q (source N inputs (shifted K value) u (K.named o)) f.low f.ahead t (up (output_registers N K o)) 0 (output N o).count
        (omega (arith, ap dn (pos-up (output_registers N K o) (cover.output_registers o h)), sub_parts (pos (output N o).count) q, f.low))
        ∙ ap (λ (s : ℕ). ago (section u) (value u) s (output N o).count) (omega arith)
      where
        by : IsInput N (output N o).src ⊎ IsGate N (output N o).src → Fed (output N o).src (K.named o)
        by (inl u) = fed (output N o).src (K.named o) (inl u)
        by (inr g) = fed (output N o).src (K.named o) (inr (g, cover.names o h g))

        out-fed : Fed (output N o).src (K.named o)
        out-fed = by (input_or_gate N (output N o).src (sound.output (output N o) (in_get_or N.outputs o (record { src = 0; count = 0 }) h)))
