-- Laws: the connections and outputs of a cover stand in its list of taps, and no others; the largest number of each node.
use Rattle.std.specs.Prelude.{◌≡◌, List, ◌⊎◌, ℕ, zero, suc, ◌+◌, ◌≤◌, ◌<◌, ℤ, pos, length, ◌≤ℤ◌}
use Rattle.std.proofs.Common.{sym, ap, subst, ◌∙◌, inl, inr, zero-add, arith}
use Rattle.std.proofs.Math.Decide.{ℕ_discrete}
use Rattle.integers.specs.Parts.{ints, up, pos-up}
use Rattle.sequences.specs.Member.{◌∈◌, here, there, not_in_nil, in_append_left, in_append_right, in_append_cases, in_map, map_in}
use Rattle.sequences.specs.Decide.{any?}
use Rattle.net_model.specs.Net.{Net}
use Rattle.net_model.specs.Copies.{Copy}
use Rattle.cover_theory.specs.Covers.{Cover, lut, registers, output, output_registers, IsCover}
use Rattle.cover_theory.specs.SharedRegisters.{Tap, tap, longest, gather, leaves_tapped, lut_tapped, output_tapped, cover_taps, Reader, leaf, outgoing, Largest}
use Rattle.cover_theory.proofs.SharedLaws.{longest-bound, longest-attained, longest-least}

-- ---- lists in one list

in_gather : (f : ℕ → List Tap) (i n j : ℕ) {t : Tap} → j < n → t ∈ f (i + j) → t ∈ gather f i n
unfolding gather
in_gather f i zero j h m = absurd (omega arith)
in_gather f i (suc n) zero {t} h m = let e : i + 0 ≡ i = omega arith in in_append_left (gather f (suc i) n) (subst (λ (k : ℕ). t ∈ f k) e m)
in_gather f i (suc n) (suc j) {t} h m =
    let e : i + suc j ≡ suc i + j = omega arith in
    in_append_right (f i) (in_gather f (suc i) n j (omega arith) (subst (λ (k : ℕ). t ∈ f k) e m))

gather_in : (f : ℕ → List Tap) (i n : ℕ) {t : Tap} → t ∈ gather f i n → (j : ℕ) × (j < n) × (t ∈ f (i + j))
unfolding gather
gather_in f i zero m = absurd (not_in_nil m)
gather_in f i (suc n) {t} m = go (gather_in f (suc i) n) (in_append_cases (f i) m)
  where
    go : (t ∈ gather f (suc i) n → (j : ℕ) × (j < n) × (t ∈ f (suc i + j))) → (t ∈ f i) ⊎ (t ∈ gather f (suc i) n) → (j : ℕ) × (j < suc n) × (t ∈ f (i + j))
    go rest (inl h) = let e : i ≡ i + 0 = omega arith in (0, omega arith, subst (λ (k : ℕ). t ∈ f k) e h)
    go rest (inr h) = let r = rest h in let e : suc i + r.0 ≡ i + suc r.0 = omega arith in (suc r.0, omega (arith, r.1), subst (λ (k : ℕ). t ∈ f k) e r.2)

module _ (N : Net) (K : Cover) where
  -- **The list of taps has the connections and outputs of the cover, and no others.**
  pub reader_tap : {t : Tap} → Reader N K t → t ∈ cover_taps N K
  unfolding cover_taps leaves_tapped
  reader_tap {t} (leaf i y h m e) =
      in_append_left (gather (output_tapped N K) 0 (length N.outputs))
      (in_gather (lut_tapped N K) 0 (length K.luts) i h
      (subst (λ (j : ℕ). t ∈ lut_tapped N K j) (sym (zero-add i)) (subst (λ (x : Tap). x ∈ lut_tapped N K i) (sym e) (in_map (λ (z : Copy). tap z.node (registers N K i z)) m))))
  reader_tap {t} (outgoing o h e) =
      in_append_right (gather (lut_tapped N K) 0 (length K.luts))
      (in_gather (output_tapped N K) 0 (length N.outputs) o h (subst (λ (j : ℕ). t ∈ output_tapped N K j) (sym (zero-add o)) (here e)))

  pub tap_reader : {t : Tap} → t ∈ cover_taps N K → Reader N K t
  unfolding cover_taps leaves_tapped
  tap_reader {t} m = go (in_append_cases (gather (lut_tapped N K) 0 (length K.luts)) m)
    where
      one : (o : ℕ) → t ∈ output_tapped N K o → t ≡ tap (output N o).src (output_registers N K o)
      one o (here e) = e
      one o (there i) = absurd (not_in_nil i)

      go : (t ∈ gather (lut_tapped N K) 0 (length K.luts)) ⊎ (t ∈ gather (output_tapped N K) 0 (length N.outputs)) → Reader N K t
      go (inl h) =
          let g = gather_in (lut_tapped N K) 0 (length K.luts) h in
          let r = map_in (λ (z : Copy). tap z.node (registers N K g.0 z)) (lut K g.0).leaves (subst (λ (j : ℕ). t ∈ lut_tapped N K j) (zero-add g.0) g.2) in
          leaf g.0 r.0 g.1 r.1 r.2
      go (inr h) =
          let g = gather_in (output_tapped N K) 0 (length N.outputs) h in
          outgoing g.0 g.1 (one g.0 (subst (λ (j : ℕ). t ∈ output_tapped N K j) (zero-add g.0) g.2))

  -- in a cover "All must be 0 or more"
  pub reader_enough : {k : ℕ} {t : Tap} → IsCover N k K → Reader N K t → pos 0 ≤ℤ t.number
  reader_enough c (leaf i y h m e) = subst (λ (x : Tap). pos 0 ≤ℤ x.number) (sym e) (c.leaf_registers i h y m)
  reader_enough c (outgoing o h e) = subst (λ (x : Tap). pos 0 ≤ℤ x.number) (sym e) (c.output_registers o h)

  -- **The largest number of each node, for every cover.**
  pub cover-largest : {k : ℕ} → IsCover N k K → (u : ℕ) → Largest N K u (longest u (cover_taps N K))
  cover-largest c u = record {
    none-larger = λ t r s. let b = longest-bound u (reader_tap r) s in omega (arith, ints);
    is_one = go (any? (cover_taps N K) (λ t m. ℕ_discrete t.source u));
  }
    where
      n : ℕ
      n = longest u (cover_taps N K)

      number : (t : Tap) → t ∈ cover_taps N K → n ≡ up t.number → t.number ≡ pos n
      number t m e = sym (ap pos e ∙ pos-up t.number (reader_enough c (tap_reader m)))

      some : (t : Tap) → t ∈ cover_taps N K → t.source ≡ u → (n ≡ 0) ⊎ ((x : Tap) × (x ∈ cover_taps N K) × (x.source ≡ u) × (n ≡ up x.number))
          → (x : Tap) × Reader N K x × (x.source ≡ u) × (x.number ≡ pos n)
      some t m s (inl z) = let b = longest-bound u m s in (t, tap_reader m, s, number t m (omega arith))
      some t m s (inr (x, i, q, e)) = (x, tap_reader i, q, number x i e)

      go : Dec ((t : Tap) × (t ∈ cover_taps N K) × (t.source ≡ u))
          → (((t : Tap) → Reader N K t → ¬ (t.source ≡ u)) × (n ≡ 0)) ⊎ ((t : Tap) × Reader N K t × (t.source ≡ u) × (t.number ≡ pos n))
      go (yes (t, m, s)) = inr (some t m s (longest-attained u (cover_taps N K)))
      go (no q) = inl (λ t r s. q (t, reader_tap r, s), none)
        where
          none : n ≡ 0
          none = let z = longest-least u (cover_taps N K) 0 (λ t m s. absurd (q (t, m, s))) in omega arith
