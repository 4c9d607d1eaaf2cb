-- Laws of registers written one behind the other: what comes behind is asked of what is left.
use Rattle.std.specs.Prelude.{◌≡◌, ℕ, zero, suc, ◌+◌, ◌-◌, ◌*◌, ◌≤◌, ◌<◌, ℤ, length, get_or}
use Rattle.std.proofs.Math.Path.{refl, sym, ap}
use Rattle.std.proofs.Common.{ap₂, subst, ◌∙◌, add-one, arith, length-append}
use mathlib.Core.List.{List, [], ◌∷◌, ◌++◌, append_assoc, append-nil}
use borrow.Rule.Slice.PartMut.{mid_of, put_mid}
use Rattle.limits.specs.Limits.{most_nodes}
use Rattle.integers.specs.Parts.{up}
use Rattle.sequences.specs.Member.{here, in_append_left, in_append_right}
use Rattle.cover_theory.specs.Key.{Entry}
use Rattle.cover_theory.specs.SharedRegisters.{Tap, tap}
use Rattle.cover_records.specs.Listing.{lag_in}
use Rattle.cover_writer.specs.Writing.{Wrote}
use Rattle.cover_writer.specs.BytesBehind.{wrote-behind, wrote-within, wrote-length, wrote-fits, room-behind}
use Rattle.cover_contents.specs.Traces.{samples_to, cells_back, tap_cells, CellsAsked}

-- ---- one connection

pub cells-none : (trace : List ℕ) (u top : ℕ) → cells_back trace u top 0 ≡ []
unfolding cells_back
cells-none trace u top = refl

pub cells-more : (trace : List ℕ) (u top n : ℕ) → cells_back trace u top n ++ (get_or trace (most_nodes * (top - (n + 1)) + u) 0 ∷ []) ≡ cells_back trace u top (n + 1)
unfolding cells_back
cells-more trace u top n = rw (add-one n) refl

pub length-cells-back : (trace : List ℕ) (u top n : ℕ) → length (cells_back trace u top n) ≡ n
unfolding cells_back
length-cells-back trace u top zero = refl
length-cells-back trace u top (suc n) = omega (arith, length-append (cells_back trace u top n) (get_or trace (most_nodes * (top - suc n) + u) 0 ∷ []), length-cells-back trace u top n)

-- ---- connections

module _ (trace : List ℕ) (es : List Entry) where
  pub taps_none : tap_cells trace es [] ≡ []
  unfolding tap_cells
  taps_none = refl

  pub taps_one : (u : ℕ) (z : ℤ) → cells_back trace u (samples_to (lag_in es u)) (up z) ≡ tap_cells trace es (tap u z ∷ [])
  unfolding tap_cells
  taps_one u z = sym (append-nil (cells_back trace u (samples_to (lag_in es u)) (up z)))

  pub taps_append : (a b : List Tap) → tap_cells trace es (a ++ b) ≡ tap_cells trace es a ++ tap_cells trace es b
  unfolding tap_cells
  taps_append [] b = refl
  taps_append (t ∷ a) b =
      let x = cells_back trace t.source (samples_to (lag_in es t.source)) (up t.number) in
      ap (λ (l : List ℕ). x ++ l) (taps_append a b) ∙ sym (append_assoc x (tap_cells trace es a) (tap_cells trace es b))

  -- the registers of one connection, by their number and the samples
  module _ (u : ℕ) {n top : ℕ} (z : ℤ) (e : n ≡ up z) (f : top ≡ samples_to (lag_in es u)) where
    connection-is : cells_back trace u top n ≡ tap_cells trace es (tap u z ∷ [])
    connection-is = ap₂ (cells_back trace u) f e ∙ taps_one u z

    pub connection-asks : {area : List ℕ} → CellsAsked trace es (tap u z ∷ []) area → ((u < most_nodes) × (n ≤ top) × (most_nodes * top ≤ length trace)) × (n ≤ length area)
    connection-asks q =
        let h = q.each (tap u z) (here refl) in
        ((h.node, omega (arith, h.number), omega (arith, h.samples)), omega (arith, q.room, ap length connection-is, length-cells-back trace u top n))

    pub connection-wrote : {area after : List ℕ} {r : ℕ} → Wrote (cells_back trace u top n) area after r → Wrote (tap_cells trace es (tap u z ∷ [])) area after r
    connection-wrote {area} {after} {r} w = subst (λ (l : List ℕ). Wrote l area after r) connection-is w

  -- the same connections
  pub asked-same : {a b : List Tap} {area : List ℕ} → a ≡ b → CellsAsked trace es a area → CellsAsked trace es b area
  asked-same {a} {b} {area} e q = subst (λ (l : List Tap). CellsAsked trace es l area) e q

  pub wrote-same : {a b : List Tap} {area after : List ℕ} {r : ℕ} → a ≡ b → Wrote (tap_cells trace es a) area after r → Wrote (tap_cells trace es b) area after r
  wrote-same {a} {b} {area} {after} {r} e q = subst (λ (l : List Tap). Wrote (tap_cells trace es l) area after r) e q

  module _ (a b rest : List Tap) {area : List ℕ} (q : CellsAsked trace es (a ++ (b ++ rest)) area) where
    joined-room : length (tap_cells trace es a ++ tap_cells trace es b) ≤ length area
    joined-room =
        omega (
          arith,
          q.room,
          ap length (taps_append a (b ++ rest)),
          length-append (tap_cells trace es a) (tap_cells trace es (b ++ rest)),
          ap length (taps_append b rest),
          length-append (tap_cells trace es b) (tap_cells trace es rest),
          length-append (tap_cells trace es a) (tap_cells trace es b),
        )

    first-room : length (tap_cells trace es a) ≤ length area
    first-room = omega (arith, joined-room, length-append (tap_cells trace es a) (tap_cells trace es b))

    -- the next in what is left
    behind-asks : {after : List ℕ} {at : ℕ} → Wrote (tap_cells trace es a) area after at → CellsAsked trace es b (mid_of at (length after - at) after)
    behind-asks w = record { each = λ t m. q.each t (in_append_right a (in_append_left rest m)); room = room-behind (tap_cells trace es b) w joined-room }

    behind-within : {after last : List ℕ} {at r : ℕ} → Wrote (tap_cells trace es a) area after at → Wrote (tap_cells trace es b) (mid_of at (length after - at) after) last r → at + r ≤ length area
    behind-within w v = wrote-within w v joined-room

  behind-wrote : (a b : List Tap) {area after last : List ℕ} {at r : ℕ} → Wrote (tap_cells trace es a) area after at → Wrote (tap_cells trace es b) (mid_of at (length after - at) after) last r
      → Wrote (tap_cells trace es (a ++ b)) area (put_mid at (length after - at) after last) (at + r)
  behind-wrote a b {area} {after} {last} {at} {r} w v =
      subst (λ (l : List ℕ). Wrote l area (put_mid at (length after - at) after last) (at + r)) (sym (taps_append a b)) (wrote-behind w v)

  -- two parts
  module _ (a b : List Tap) {area : List ℕ} (q : CellsAsked trace es (a ++ b) area) where
    pub first-asks : CellsAsked trace es a area
    first-asks = record { each = λ t m. q.each t (in_append_left b m); room = omega (arith, q.room, ap length (taps_append a b), length-append (tap_cells trace es a) (tap_cells trace es b)) }

    module _ {after : List ℕ} {at : ℕ} (w : Wrote (tap_cells trace es a) area after at) where
      pub second-asks : CellsAsked trace es b (mid_of at (length after - at) after)
      second-asks = behind-asks a b [] (subst (λ (l : List Tap). CellsAsked trace es (a ++ l) area) (sym (append-nil b)) q) w

      pub second_fits : at ≤ length after
      second_fits = wrote-fits first-asks.room w

      pub second-long : length after ≡ length area
      second-long = wrote-length first-asks.room w

      pub second-wrote : {last : List ℕ} {r : ℕ} → Wrote (tap_cells trace es b) (mid_of at (length after - at) after) last r → Wrote (tap_cells trace es (a ++ b)) area (put_mid at (length after - at) after last) (at + r)
      second-wrote v = behind-wrote a b w v

  -- parts that follow one another, of which n are asked: f j are the first j, g j is the next
  module _ (f g : ℕ → List Tap) (more : (j : ℕ) → f j ++ g j ≡ f (j + 1)) {n : ℕ} {area : List ℕ} (q : CellsAsked trace es (f n) area) where
    rest_of : (j m : ℕ) → (rest : List Tap) × (f (j + m) ≡ f j ++ rest)
    rest_of j zero = let e : j + 0 ≡ j = omega arith in ([], ap f e ∙ sym (append-nil (f j)))
    rest_of j (suc m) =
        let r = rest_of (j + 1) m in
        let e : j + suc m ≡ j + 1 + m = omega arith in
        (g j ++ r.0, ap f e ∙ r.1 ∙ ap (λ (l : List Tap). l ++ r.0) (sym (more j)) ∙ append_assoc (f j) (g j) r.0)

    module _ {j at : ℕ} {after : List ℕ} (w : Wrote (tap_cells trace es (f j)) area after at) where
      pub part_room : j ≤ n → length (tap_cells trace es (f j)) ≤ length area
      part_room h =
          let r = rest_of j (n - j) in
          let e : n ≡ j + (n - j) = omega arith in
          (first-asks (f j) r.0 (asked-same (ap f e ∙ r.1) q)).room

      pub part-fits : j ≤ n → at ≤ length after
      part-fits h = wrote-fits (part_room h) w

      pub part-long : j ≤ n → length after ≡ length area
      part-long h = wrote-length (part_room h) w

      module _ (h : j < n) where
        whole : (rest : List Tap) × CellsAsked trace es (f j ++ (g j ++ rest)) area
        whole =
            let r = rest_of (j + 1) (n - (j + 1)) in
            let e : n ≡ j + 1 + (n - (j + 1)) = omega arith in
            (r.0, asked-same (ap f e ∙ r.1 ∙ ap (λ (l : List Tap). l ++ r.0) (sym (more j)) ∙ append_assoc (f j) (g j) r.0) q)

        pub part-asks : CellsAsked trace es (g j) (mid_of at (length after - at) after)
        part-asks = behind-asks (f j) (g j) whole.0 whole.1 w

        module _ {last : List ℕ} {r : ℕ} (v : Wrote (tap_cells trace es (g j)) (mid_of at (length after - at) after) last r) where
          pub part-within : at + r ≤ length area
          part-within = behind-within (f j) (g j) whole.0 whole.1 w v

          pub part-wrote : Wrote (tap_cells trace es (f (j + 1))) area (put_mid at (length after - at) after last) (at + r)
          part-wrote = wrote-same (more j) (behind-wrote (f j) (g j) w v)
