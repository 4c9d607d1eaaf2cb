-- Laws of first contents: the bytes say what each register holds; nothing before step −w is asked for, so there are few of them; a board that wakes with them does what the net
-- does, and so does one that takes over from a running net.
use Rattle.std.specs.Prelude.{◌≡◌, Bool, true, false, ◌⊎◌, ℤ, pos, ◌+ℤ◌, take}
use Rattle.std.proofs.Math.Path.{refl, ap, subst}
use Rattle.std.proofs.Common.{sym, ◌∙◌, inl, inr, take_at}
use mathlib.Core.List.{List, [], ◌∷◌, ◌++◌, append_assoc}
use Prim.Native.Nat.{ℕ, zero, suc, ◌+◌, ◌*◌, ◌≤◌, ◌<◌}
use Rattle.std.proofs.Math.Nat.{mul-le-mul_right, add-mul, suc-mul, zero-mul}
use Rattle.std.proofs.Math.Decide.{ℕ_discrete}
use native.Mathlib.Omega.{arith}
use Rattle.std.proofs.Math.ListN.{length, length-append}
use Rattle.integers.specs.Parts.{up, dn, +-parts, sub_parts, pos-up}
use Rattle.sequences.specs.Member.{◌∈◌, here, there, in_get_or, not_in_nil, in_append_cases}
use Rattle.net_model.specs.Net.{Net}
use Rattle.net_model.specs.Checks.{Sound, Loopless}
use Rattle.net_model.specs.Copies.{Copy}
use Rattle.net_model.specs.Tables.{as_number}
use Rattle.run_theory.specs.Bench.{value_at, Counts, Keeps}
use Rattle.run_theory.proofs.BenchLaws.{bench}
use Rattle.cover_theory.specs.Covers.{Cover, lut, lag_of, registers, output, output_registers, IsCover, Meets}
use Rattle.cover_theory.specs.Forward.{Forward}
use Rattle.board_theory.specs.Boards.{leaf_contents, output_contents, Filled, Tabled}
use Rattle.board_theory.specs.BoardLaws.{boarded}
use Rattle.board_theory.proofs.RunBoards.{member-late}
use Rattle.board_theory.proofs.Wakes.{wakes, takes_over}
use Rattle.board_theory.specs.Contents.{cells, leaf_cells, lut_cells, output_cells, contents_bytes, quiet, contents_of, board_shows, net_shows}

-- ---- the bytes can be read back

number-one : (a b : Bool) → as_number a ≡ as_number b → a ≡ b
number-one true true e = refl
number-one false false e = refl
number-one true false e = absurd (omega arith)
number-one false true e = absurd (omega arith)

cells-back : (f g : ℕ → Bool) (n : ℕ) (a b : List ℕ) → cells f n ++ a ≡ cells g n ++ b → ((j : ℕ) → j < n → f j ≡ g j) × (a ≡ b)
unfolding cells
cells-back f g zero a b e = (λ j h. absurd (omega arith), e)
cells-back f g (suc n) a b e =
    let first : as_number (f 0) ≡ as_number (g 0) = cc in
    let rest : cells (λ j. f (suc j)) n ++ a ≡ cells (λ j. g (suc j)) n ++ b = cc in
    let r = cells-back (λ j. f (suc j)) (λ j. g (suc j)) n a b rest in
    (by (number-one (f 0) (g 0) first) r.0, r.1)
  where
    by : f 0 ≡ g 0 → ((j : ℕ) → j < n → f (suc j) ≡ g (suc j)) → (j : ℕ) → j < suc n → f j ≡ g j
    by p q zero h = p
    by p q (suc j) h = q j (omega arith)

module _ (N : Net) (K : Cover) (contents contents' : ℕ → Copy → ℕ → Bool) where
  leaves-back : (i : ℕ) (L : List Copy) (a b : List ℕ) → leaf_cells N K contents i L ++ a ≡ leaf_cells N K contents' i L ++ b
      → ((y : Copy) → y ∈ L → (j : ℕ) → j < up (registers N K i y) → contents i y j ≡ contents' i y j) × (a ≡ b)
  unfolding leaf_cells
  leaves-back i [] a b e = (λ y h. absurd (not_in_nil h), e)
  leaves-back i (y ∷ L) a b e =
      let n = up (registers N K i y) in
      let r = cells-back (contents i y) (contents' i y) n (leaf_cells N K contents i L ++ a) (leaf_cells N K contents' i L ++ b)
      (sym (append_assoc (cells (contents i y) n) (leaf_cells N K contents i L) a) ∙ e ∙ append_assoc (cells (contents' i y) n) (leaf_cells N K contents' i L) b) in
      let s = leaves-back i L a b r.1 in
      (by r.0 s.0, s.1)
    where
      by : ((j : ℕ) → j < up (registers N K i y) → contents i y j ≡ contents' i y j) → ((z : Copy) → z ∈ L → (j : ℕ) → j < up (registers N K i z) → contents i z j ≡ contents' i z j)
          → (z : Copy) → z ∈ y ∷ L → (j : ℕ) → j < up (registers N K i z) → contents i z j ≡ contents' i z j
      by p q z (here e) = subst (λ (x : Copy). (j : ℕ) → j < up (registers N K i x) → contents i x j ≡ contents' i x j) (sym e) p
      by p q z (there m) = q z m

  -- the registers of LUT i hold the same
  abbrev Same : ℕ → Type 0
  Same i = (y : Copy) → y ∈ (lut K i).leaves → (j : ℕ) → j < up (registers N K i y) → contents i y j ≡ contents' i y j

  luts-back : (n : ℕ) (a b : List ℕ) → lut_cells N K contents n ++ a ≡ lut_cells N K contents' n ++ b → ((i : ℕ) → i < n → Same i) × (a ≡ b)
  unfolding lut_cells
  luts-back zero a b e = (λ i h. absurd (omega arith), e)
  luts-back (suc n) a b e =
      let x = leaf_cells N K contents n (lut K n).leaves in
      let x' = leaf_cells N K contents' n (lut K n).leaves in
      let r = luts-back n (x ++ a) (x' ++ b) (sym (append_assoc (lut_cells N K contents n) x a) ∙ e ∙ append_assoc (lut_cells N K contents' n) x' b) in
      let s = leaves-back n (lut K n).leaves a b r.1 in
      (by r.0 s.0, s.1)
    where
      by : ((i : ℕ) → i < n → Same i) → Same n → (i : ℕ) → i < suc n → Same i
      by p q i h = go (ℕ_discrete i n)
        where
          go : Dec (i ≡ n) → Same i
          go (yes e) = subst Same (sym e) q
          go (no m) = p i (omega arith)

outputs-back : (N : Net) (K : Cover) (last last' : ℕ → ℕ → Bool) (n : ℕ) (a b : List ℕ) → output_cells N K last n ++ a ≡ output_cells N K last' n ++ b
    → ((o : ℕ) → o < n → (j : ℕ) → j < up (output_registers N K o) → last o j ≡ last' o j) × (a ≡ b)
unfolding output_cells
outputs-back N K last last' zero a b e = (λ o h. absurd (omega arith), e)
outputs-back N K last last' (suc n) a b e =
    let x = cells (last n) (up (output_registers N K n)) in
    let x' = cells (last' n) (up (output_registers N K n)) in
    let r = outputs-back N K last last' n (x ++ a) (x' ++ b) (sym (append_assoc (output_cells N K last n) x a) ∙ e ∙ append_assoc (output_cells N K last' n) x' b) in
    let s = cells-back (last n) (last' n) (up (output_registers N K n)) a b r.1 in
    (by r.0 s.0, s.1)
  where
    by : ((o : ℕ) → o < n → (j : ℕ) → j < up (output_registers N K o) → last o j ≡ last' o j) → ((j : ℕ) → j < up (output_registers N K n) → last n j ≡ last' n j)
        → (o : ℕ) → o < suc n → (j : ℕ) → j < up (output_registers N K o) → last o j ≡ last' o j
    by p q o h = go (ℕ_discrete o n)
      where
        go : Dec (o ≡ n) → (j : ℕ) → j < up (output_registers N K o) → last o j ≡ last' o j
        go (yes e) = subst (λ (m : ℕ). (j : ℕ) → j < up (output_registers N K m) → last m j ≡ last' m j) (sym e) q
        go (no m) = p o (omega arith)

-- **the same bytes, the same contents**
pub bytes-filled : (N : Net) (K : Cover) (contents : ℕ → Copy → ℕ → Bool) (last section value : ℕ → ℕ → Bool)
    → contents_bytes N K contents last ≡ contents_bytes N K (leaf_contents N K section value) (output_contents N K section value) → Filled N K contents last section value
unfolding contents_bytes
bytes-filled N K contents last section value e =
    let c' = leaf_contents N K section value in
    let l' = output_contents N K section value in
    let n = length N.outputs in
    let r = luts-back N K contents c' (length K.luts) (output_cells N K last n) (output_cells N K l' n) e in
    let s = outputs-back N K last l' n [] [] (ap (λ (x : List ℕ). x ++ []) r.1) in
    record { leaf = r.0; out = s.0 }

-- ---- how many they are

length-cells : (f : ℕ → Bool) (n : ℕ) → length (cells f n) ≡ n
unfolding cells
length-cells f zero = refl
length-cells f (suc n) = ap suc (length-cells (λ j. f (suc j)) n)

-- as many for any contents
module _ (N : Net) (K : Cover) (contents contents' : ℕ → Copy → ℕ → Bool) where
  leaves-many : (i : ℕ) (L : List Copy) → length (leaf_cells N K contents i L) ≡ length (leaf_cells N K contents' i L)
  unfolding leaf_cells
  leaves-many i [] = refl
  leaves-many i (y ∷ L) =
      let n = up (registers N K i y) in
      omega (
        arith,
        length-append (cells (contents i y) n) (leaf_cells N K contents i L),
        length-append (cells (contents' i y) n) (leaf_cells N K contents' i L),
        length-cells (contents i y) n,
        length-cells (contents' i y) n,
        leaves-many i L,
      )

  luts-many : (n : ℕ) → length (lut_cells N K contents n) ≡ length (lut_cells N K contents' n)
  unfolding lut_cells
  luts-many zero = refl
  luts-many (suc n) =
      omega (
        arith,
        length-append (lut_cells N K contents n) (leaf_cells N K contents n (lut K n).leaves),
        length-append (lut_cells N K contents' n) (leaf_cells N K contents' n (lut K n).leaves),
        luts-many n,
        leaves-many n (lut K n).leaves,
      )

  outputs-many : (last last' : ℕ → ℕ → Bool) (n : ℕ) → length (output_cells N K last n) ≡ length (output_cells N K last' n)
  unfolding output_cells
  outputs-many last last' zero = refl
  outputs-many last last' (suc n) =
      let m = up (output_registers N K n) in
      omega (
        arith,
        length-append (output_cells N K last n) (cells (last n) m),
        length-append (output_cells N K last' n) (cells (last' n) m),
        length-cells (last n) m,
        length-cells (last' n) m,
        outputs-many last last' n,
      )

  pub bytes-many : (last last' : ℕ → ℕ → Bool) → length (contents_bytes N K contents last) ≡ length (contents_bytes N K contents' last')
  unfolding contents_bytes
  bytes-many last last' =
      let n = length K.luts in
      let o = length N.outputs in
      omega (
        arith,
        length-append (lut_cells N K contents n) (output_cells N K last o),
        length-append (lut_cells N K contents' n) (output_cells N K last' o),
        luts-many n,
        outputs-many last last' o,
      )

  -- **so an area that begins with the bytes of some contents begins with no others**
  pub bytes-front : (last last' : ℕ → ℕ → Bool) (a b : List ℕ) → contents_bytes N K contents last ++ a ≡ contents_bytes N K contents' last' ++ b
      → contents_bytes N K contents last ≡ contents_bytes N K contents' last'
  bytes-front last last' a b e =
      let x = contents_bytes N K contents last in
      let y = contents_bytes N K contents' last' in
      sym (take_at x a (length x) refl) ∙ ap (take (length x)) e ∙ take_at y b (length x) (sym (bytes-many last last'))

-- ---- "a byte 0 or 1 per register"

number_small : (b : Bool) → as_number b ≤ 1
number_small true = omega arith
number_small false = omega arith

-- every byte is 0 or 1
abbrev Bits : List ℕ → Type 0
Bits l = (b : ℕ) → b ∈ l → b ≤ 1

bits_nil : Bits []
bits_nil b m = absurd (not_in_nil m)

bits-both : {l r : List ℕ} → Bits l → Bits r → Bits (l ++ r)
bits-both {l} {r} f g b m = go (in_append_cases l m)
  where
    go : (b ∈ l) ⊎ (b ∈ r) → b ≤ 1
    go (inl i) = f b i
    go (inr i) = g b i

cells-bits : (f : ℕ → Bool) (n : ℕ) → Bits (cells f n)
unfolding cells
cells-bits f zero b m = absurd (not_in_nil m)
cells-bits f (suc n) b (here e) = subst (λ (x : ℕ). x ≤ 1) (sym e) (number_small (f 0))
cells-bits f (suc n) b (there m) = cells-bits (λ j. f (suc j)) n b m

module _ (N : Net) (K : Cover) (contents : ℕ → Copy → ℕ → Bool) where
  leaves-bits : (i : ℕ) (L : List Copy) → Bits (leaf_cells N K contents i L)
  unfolding leaf_cells
  leaves-bits i [] = bits_nil
  leaves-bits i (y ∷ L) = bits-both (cells-bits (contents i y) (up (registers N K i y))) (leaves-bits i L)

  luts-bits : (n : ℕ) → Bits (lut_cells N K contents n)
  unfolding lut_cells
  luts-bits zero = bits_nil
  luts-bits (suc n) = bits-both (luts-bits n) (leaves-bits n (lut K n).leaves)

  outputs-bits : (last : ℕ → ℕ → Bool) (n : ℕ) → Bits (output_cells N K last n)
  unfolding output_cells
  outputs-bits last zero = bits_nil
  outputs-bits last (suc n) = bits-both (outputs-bits last n) (cells-bits (last n) (up (output_registers N K n)))

  -- **every byte is 0 or 1**
  pub bytes_bits : (last : ℕ → ℕ → Bool) (b : ℕ) → b ∈ contents_bytes N K contents last → b ≤ 1
  unfolding contents_bytes
  bytes_bits last = bits-both (luts-bits (length K.luts)) (outputs-bits last (length N.outputs))

-- ---- how many at most

module _ {N : Net} {k : ℕ} {K : Cover} (cover : IsCover N k K) (forward : Forward N K) {w : ℕ} (counts : Counts N w) where
  -- **nothing before step −w is asked for**: of a connection from u, place j stands for step −(j + 1) − lag
  pub leaf-late : (i : ℕ) (h : i < length K.luts) (y : Copy) → y ∈ (lut K i).leaves → up (registers N K i y) + up (lag_of N K y.node (K.feeder i y)) ≤ dn (lag_of N K y.node (K.feeder i y)) + w
  leaf-late i h y m =
      let q = lag_of N K y.node (K.feeder i y) in
      let c = cover.cuts i h in
      let l = c.is_leaves.sound y m in
      let late = member-late cover forward i h l.member l.is_member in
      let few = counts.pin l.member.node (c.is_cone.gates l.member l.is_member) l.feeds.pin l.feeds.is_pin in
      omega (arith, ap dn (pos-up (registers N K i y) (cover.leaf_registers i h y m)), sub_parts (pos y.back +ℤ (lut K i).lag) q, +-parts (pos y.back) (lut K i).lag, late.0, late.1, few, l.feeds.depth)

  pub output-late : (o : ℕ) (h : o < length N.outputs) → up (output_registers N K o) + up (lag_of N K (output N o).src (K.named o)) ≤ dn (lag_of N K (output N o).src (K.named o)) + w
  output-late o h =
      let q = lag_of N K (output N o).src (K.named o) in
      omega (
        arith,
        ap dn (pos-up (output_registers N K o) (cover.output_registers o h)),
        sub_parts (pos (output N o).count) q,
        counts.output (output N o) (in_get_or N.outputs o (record { src = 0; count = 0 }) h),
      )

  -- no lag is more than D below 0
  module _ (D : ℕ) (high : (u l : ℕ) → dn (lag_of N K u l) ≤ D) (contents : ℕ → Copy → ℕ → Bool) (last : ℕ → ℕ → Bool) where
    leaves-few : (i : ℕ) (h : i < length K.luts) (L : List Copy) → ((y : Copy) → y ∈ L → y ∈ (lut K i).leaves) → length (leaf_cells N K contents i L) ≤ length L * (D + w)
    unfolding leaf_cells
    leaves-few i h [] all = omega (arith, zero-mul (D + w))
    leaves-few i h (y ∷ L) all =
        omega (
          arith,
          length-append (cells (contents i y) (up (registers N K i y))) (leaf_cells N K contents i L),
          length-cells (contents i y) (up (registers N K i y)),
          leaf-late i h y (all y (here refl)),
          high y.node (K.feeder i y),
          suc-mul (length L) (D + w),
          leaves-few i h L (λ z m. all z (there m)),
        )

    luts-few : (n : ℕ) → n ≤ length K.luts → length (lut_cells N K contents n) ≤ n * k * (D + w)
    unfolding lut_cells
    luts-few zero h = omega (arith, zero-mul k, zero-mul (D + w))
    luts-few (suc n) h =
        let x = leaf_cells N K contents n (lut K n).leaves in
        omega (
          arith,
          length-append (lut_cells N K contents n) x,
          luts-few n (omega arith),
          leaves-few n h (lut K n).leaves (λ y m. m),
          mul-le-mul_right (D + w) (cover.cuts n h).few,
          suc-mul n k,
          ap (λ (z : ℕ). z * (D + w)) (suc-mul n k),
          add-mul (n * k) k (D + w),
        )

    outputs-few : (n : ℕ) → n ≤ length N.outputs → length (output_cells N K last n) ≤ n * (D + w)
    unfolding output_cells
    outputs-few zero h = omega (arith, zero-mul (D + w))
    outputs-few (suc n) h =
        let x = cells (last n) (up (output_registers N K n)) in
        omega (
          arith,
          length-append (output_cells N K last n) x,
          length-cells (last n) (up (output_registers N K n)),
          output-late n h,
          high (output N n).src (K.named n),
          suc-mul n (D + w),
          outputs-few n (omega arith),
        )

    -- **so many bytes at most**
    pub bytes-few : length (contents_bytes N K contents last) ≤ (length K.luts * k + length N.outputs) * (D + w)
    unfolding contents_bytes
    bytes-few =
        let a = lut_cells N K contents (length K.luts) in
        omega (
          arith,
          length-append a (output_cells N K last (length N.outputs)),
          luts-few (length K.luts) (omega arith),
          outputs-few (length N.outputs) (omega arith),
          add-mul (length K.luts * k) (length N.outputs) (D + w),
        )

-- ---- a board with these bytes

module _ {N : Net} {k : ℕ} {K : Cover} (cover : IsCover N k K) (forward : Forward N K) (sound : Sound N) (loopless : Loopless N) (φ : ℕ) (positive : 1 ≤ φ) (meets : Meets N K φ)
    {table : ℕ → ℕ} (tabled : Tabled N K table) (contents : ℕ → Copy → ℕ → Bool) (last : ℕ → ℕ → Bool) where
  -- **E6**: the registers hold the contents for the section
  pub first-contents : (section inputs : ℕ → ℕ → Bool) → contents_bytes N K contents last ≡ contents_of N K section
      → (o : ℕ) → o < length N.outputs → (t : ℕ) → board_shows N K φ table contents last inputs o t ≡ net_shows N section inputs o t
  first-contents section inputs e =
      wakes cover forward sound loopless φ positive meets tabled (bench sound loopless section quiet) (bytes-filled N K contents last section (value_at N section quiet) e)
      (bench sound loopless section inputs) (boarded sound cover φ positive meets table contents inputs)

  -- **E7**: they hold the contents for what the running net has kept at step T
  pub change-over : {w : ℕ} → Counts N w → (section inputs kept : ℕ → ℕ → Bool) (T : ℕ) → Keeps N w section (value_at N section inputs) kept T
      → contents_bytes N K contents last ≡ contents_of N K kept
      → (o : ℕ) → o < length N.outputs → (t : ℕ) → board_shows N K φ table contents last (λ u s. inputs u (s + T)) o t ≡ net_shows N section inputs o (t + T)
  change-over counts section inputs kept T keeps e =
      takes_over cover forward sound loopless φ positive meets tabled counts (bench sound loopless kept quiet) (bytes-filled N K contents last kept (value_at N kept quiet) e)
      (bench sound loopless section inputs) T keeps (boarded sound cover φ positive meets table contents (λ u s. inputs u (s + T)))
