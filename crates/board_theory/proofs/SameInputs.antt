-- What the registers of a forward cover hold at first comes from the section alone: no input from step 0 on matters. More generally, a LUT's root can be known as many
-- steps ahead as its lag is below 0.
use Rattle.std.specs.Prelude.{◌≡◌, refl, Bool, List, ◌⊎◌, ℕ, zero, suc, ◌+◌, ◌≤◌, ◌<◌, ℤ, pos, ◌+ℤ◌, ◌-ℤ◌, length}
use Rattle.std.proofs.Common.{sym, ap, subst, ◌∙◌, inl, inr, arith}
use Rattle.integers.specs.Parts.{up, dn, ints, +-parts, sub_parts, pos-up}
use Rattle.sequences.specs.Member.{◌∈◌}
use Rattle.net_model.specs.Net.{Net, Pin, IsInput, IsGate, pins}
use Rattle.net_model.specs.Checks.{Sound, Loopless}
use Rattle.net_model.specs.Copies.{Copy, copy, IsCut}
use Rattle.cone_theory.specs.Basics.{member?}
use Rattle.label_theory.specs.Lower.{input_or_gate}
use Rattle.run_theory.proofs.AgoLaws.{ago-agree}
use Rattle.run_theory.specs.Bench.{ago, pin_from, Bench}
use Rattle.run_theory.proofs.BenchLaws.{pins-same, measure, earlier}
use Rattle.cover_theory.specs.Covers.{Cover, lut, lag_of, registers, RootedAt, IsCover}
use Rattle.cover_theory.proofs.CoverLabels.{lag-gate, lag-input}
use Rattle.cover_theory.specs.Forward.{Forward}
use Rattle.board_theory.specs.Boards.{held}
use Rattle.board_theory.proofs.RunBoards.{lag-low}

module _ {N : Net} {k : ℕ} {K : Cover} (cover : IsCover N k K) (forward : Forward N K) (sound : Sound N) (loopless : Loopless N) where
  -- the step of a leaf's source, from that of a member's root: registers are 0 or more
  leaf-step : (i : ℕ) (h : i < length K.luts) (y : Copy) (m : y ∈ (lut K i).leaves) (T r : ℕ) → up (lag_of N K y.node (K.feeder i y)) ≡ 0
      → r + y.back < dn (lut K i).lag + T → r < dn (lag_of N K y.node (K.feeder i y)) + T
  leaf-step i h y m T r z l =
      let q = lag_of N K y.node (K.feeder i y) in
      omega (arith, ap dn (pos-up (registers N K i y) (cover.leaf_registers i h y m)), sub_parts (pos y.back +ℤ (lut K i).lag) q, +-parts (pos y.back) (lut K i).lag, lag-low cover forward i h)

  -- two runs from one section whose inputs agree below step T
  module _ {section inputs inputs' value value' : ℕ → ℕ → Bool} (b : Bench N section inputs value) (b' : Bench N section inputs' value') (T : ℕ)
      (same : (v s : ℕ) → IsInput N v → s < T → inputs v s ≡ inputs' v s) where
    -- members of LUT i's cone, as far ahead as its lag says
    abbrev Claim : ℕ → Type 0
    Claim n =
        (i : ℕ) (h : i < length K.luts) (x : Copy) → x ∈ (cover.cuts i h).cone → (s : ℕ) → s + x.back < dn (lut K i).lag + T
        → measure sound loopless x.node s < n → value x.node s ≡ value' x.node s

    step : (n : ℕ) → Claim n → Claim (suc n)
    step n claim i h x m s l less =
        b.gate x.node s (c.is_cone.gates x m) ∙ pins-same N section section value value' x.node s s pin ∙ sym (b'.gate x.node s (c.is_cone.gates x m))
      where
        c : IsCut N k (lut K i).root (lut K i).leaves
        c = cover.cuts i h

        leaf : (p : Pin) → p ∈ pins N x.node → (r : ℕ) → r + p.count ≡ s → (y : Copy) → y.node ≡ p.src → y.back ≡ x.back + p.count → y ∈ (lut K i).leaves
            → IsInput N p.src ⊎ IsGate N p.src → value p.src r ≡ value' p.src r
        leaf p q r e y en eb ym (inl u) =
            let in_y : IsInput N y.node = subst (IsInput N) (sym en) u in
            let z = lag-input N K y.node (K.feeder i y) in_y in
            let below = leaf-step i h y ym T r (ap up z) (omega arith) in
            b.input p.src r u ∙ same p.src r u (omega (arith, below, ap dn z)) ∙ sym (b'.input p.src r u)
        leaf p q r e y en eb ym (inr g) =
            let in_y : IsGate N y.node = subst (IsGate N) (sym en) g in
            let j = K.feeder i y in
            let rooted = cover.fed i h y ym in_y in
            let z = lag-gate N K y.node j in_y in
            let below = leaf-step i h y ym T r (ap up z ∙ lag-low cover forward j rooted.listed) (omega arith) in
            let root : (lut K j).root ≡ p.src = rooted.rooted ∙ en in
            subst (λ (v : ℕ). value v r ≡ value' v r) root
            (claim j rooted.listed (copy (lut K j).root 0) (cover.cuts j rooted.listed).is_cone.root r (omega (arith, below, ap dn z))
            (omega (arith, ap (λ (v : ℕ). measure sound loopless v r) root, earlier sound loopless x.node r s (c.is_cone.gates x m) p q e)))

        now : (p : Pin) → p ∈ pins N x.node → (r : ℕ) → r + p.count ≡ s → Dec (copy p.src (x.back + p.count) ∈ c.cone) → value p.src r ≡ value' p.src r
        now p q r e (yes k) =
            claim i h (copy p.src (x.back + p.count)) k r (omega arith) (omega (arith, earlier sound loopless x.node r s (c.is_cone.gates x m) p q e))
        now p q r e (no k) =
            leaf p q r e (copy p.src (x.back + p.count)) refl refl
            (c.is_leaves.complete (copy p.src (x.back + p.count)) (record {
              outside = k;
              member = x;
              is_member = m;
              feeds = record { gate = c.is_cone.gates x m; pin = p; is_pin = q; source = refl; depth = refl };
            })) (input_or_gate N p.src (sound.pin x.node (c.is_cone.gates x m) p q))

        pin : (p : Pin) → p ∈ pins N x.node → pin_from section value s p ≡ pin_from section value' s p
        pin p q =
            ago-agree (section p.src) (section p.src) (value p.src) (value' p.src) s p.count (λ j u. refl)
            (λ r e. now p q r e (member? (copy p.src (x.back + p.count)) c.cone))

    member-same : (n : ℕ) → Claim n
    member-same zero i h x m s l less = absurd (omega arith)
    member-same (suc n) i h x m s l less = step n (member-same n) i h x m s l less

    -- **a root is known as many steps ahead as its lag is below 0**
    pub root-same : (i : ℕ) → i < length K.luts → (s : ℕ) → s < dn (lut K i).lag + T → value (lut K i).root s ≡ value' (lut K i).root s
    root-same i h s l =
        member-same (suc (measure sound loopless (lut K i).root s)) i h (copy (lut K i).root 0) (cover.cuts i h).is_cone.root s (omega arith) (omega arith)

  -- **the contents of a register come from the section alone**
  pub held_same : {section inputs inputs' value value' : ℕ → ℕ → Bool} → Bench N section inputs value → Bench N section inputs' value'
      → (u l : ℕ) → IsInput N u ⊎ (IsGate N u × RootedAt K u l) → (j : ℕ) → held section value u (lag_of N K u l) j ≡ held section value' u (lag_of N K u l) j
  held_same {section} {inputs} {inputs'} {value} {value'} b b' u l (inl h) j =
      let q = lag-input N K u l h in
      ago-agree (section u) (section u) (value u) (value' u) (dn (lag_of N K u l)) (up (lag_of N K u l) + suc j) (λ i k. refl) (λ s e. absurd (omega (arith, ap dn q)))
  held_same {section} {inputs} {inputs'} {value} {value'} b b' u l (inr (g, r)) j =
      let q = lag-gate N K u l g in
      ago-agree (section u) (section u) (value u) (value' u) (dn (lag_of N K u l)) (up (lag_of N K u l) + suc j) (λ i k. refl)
      (λ s e. subst (λ (v : ℕ). value v s ≡ value' v s) r.rooted (root-same b b' 0 (λ v t i k. absurd (omega arith)) l r.listed s (omega (arith, ap dn q))))
