-- Laws of kept cuts: none at first; they stay where the rows do; a new row; and a row that serves is a cut.
use Rattle.std.specs.Prelude.{◌≡◌, List, map, ◌⊎◌, ℕ, ◌+◌, ◌*◌, ◌/◌, ◌%◌, ◌≤◌, ◌<◌, ℤ, length, get_or}
use Rattle.std.proofs.Common.{sym, ap, subst, ◌∙◌, inl, inr, arith}
use Rattle.std.proofs.Math.Decide.{ℕ_discrete, dec_lt}
use Rattle.std.proofs.lemmas.List.{length-map}
use Rattle.limits.specs.Limits.{most_k}
use Rattle.sequences.specs.Member.{◌∈◌, in_equal, in_map}
use Rattle.sequences.specs.Decide.{up_to, in_up_to, length_up_to}
use Rattle.sequences.specs.Distinct.{pigeonhole}
use Rattle.net_model.specs.Net.{Net}
use Rattle.net_model.specs.Checks.{Loopless}
use Rattle.net_model.specs.Copies.{Copy, copy, Leaf, Cut}
use Rattle.cone_theory.specs.Basics.{leaves_of, leaves-distinct}
use Rattle.cone_theory.specs.Ranks.{Ranked}
use Rattle.label_theory.specs.Labels.{Low}
use Rattle.cut_circuit.specs.Circuit.{Circuit, total}
use Rattle.cut_circuit.specs.Bridge.{Holds}
use Rattle.cut_kept.specs.KeptCuts.{row_places, row_at, CutRow, row_in, InRow, RowFits, ConeAmong, KeptCuts}
use Rattle.cut_kept.specs.Keeping.{RowTold, Serves}

-- nothing is kept in an array of zeros
pub kept-none : (C : Circuit) (l : List ℕ) → row_at C.gates C.gates ≤ length l → ((j : ℕ) → get_or l j 0 ≡ 0) → KeptCuts C l
kept-none C l room z = record {
  room = room;
  fits = λ g h. record { few = omega (arith, z (row_at C.gates g)); inside = λ i p. absurd (omega (arith, p, z (row_at C.gates g))) };
  cut = λ g h p. absurd (omega (arith, p, z (row_at C.gates g)));
}

-- leaves among fewer numbers
among : {N : Net} {v width border border' : ℕ} {P Q : ℕ → Type 0} → border ≤ border' → ((x : ℕ) → P x → Q x) → ConeAmong N v width border P → ConeAmong N v width border' Q
among h f k = record {
  cone = k.cone;
  is_cone = k.is_cone;
  near = λ c m. omega (arith, k.near c m, h);
  leaves = λ y m. let r = k.leaves y m in (r.0, f r.0 r.1, r.2);
}

-- the row of gate g is as it was
abbrev SameRow : ℕ → List ℕ → List ℕ → ℕ → Type 0
SameRow gates l l' g = (j : ℕ) → j < row_places → get_or l' (row_at gates g + j) 0 ≡ get_or l (row_at gates g + j) 0

module _ {C : Circuit} {l : List ℕ} (l' : List ℕ) (w : KeptCuts C l) (long : length l' ≡ length l) where
  module _ (g : ℕ) (h : g < C.gates) (e : SameRow C.gates l l' g) where
    count_same : get_or l' (row_at C.gates g) 0 ≡ get_or l (row_at C.gates g) 0
    count_same = ap (λ (j : ℕ). get_or l' j 0) (omega arith) ∙ (e 0 (omega arith) ∙ ap (λ (j : ℕ). get_or l j 0) (omega arith))

    border-same : get_or l' (row_at C.gates g + 1) 0 ≡ get_or l (row_at C.gates g + 1) 0
    border-same = e 1 (omega arith)

    leaf-same : (i : ℕ) → i < most_k → get_or l' (row_at C.gates g + 2 + i) 0 ≡ get_or l (row_at C.gates g + 2 + i) 0
    leaf-same i p =
        ap (λ (j : ℕ). get_or l' j 0) (omega arith) ∙ (e (2 + i) (omega (arith, p)) ∙ ap (λ (j : ℕ). get_or l j 0) (omega arith))

    fits-same : RowFits (total C) (row_in C.gates l' g)
    fits-same =
        let f = w.fits g h in
        record { few = omega (arith, count_same, f.few); inside = λ i p. let q : i < get_or l (row_at C.gates g) 0 = omega (arith, p, count_same) in omega (arith, leaf-same i (omega (arith, q, f.few)), f.inside i q) }

    in_row : (x : ℕ) → InRow (row_in C.gates l g) x → InRow (row_in C.gates l' g) x
    in_row x r = (r.0, omega (arith, r.1, count_same), leaf-same r.0 (omega (arith, r.1, (w.fits g h).few)) ∙ r.2)

    cut-same : 0 < get_or l' (row_at C.gates g) 0 → (N : Net) → Holds C N → Ranked N → Loopless N
        → ConeAmong N (C.inputs + g) C.width (get_or l' (row_at C.gates g + 1) 0) (InRow (row_in C.gates l' g))
    cut-same p N H R loopless = among (omega (arith, border-same)) in_row (w.cut g h (omega (arith, p, count_same)) N H R loopless)

  -- rows that stand as they did
  pub kept_same : ((j : ℕ) → most_k * C.gates ≤ j → get_or l' j 0 ≡ get_or l j 0) → KeptCuts C l'
  kept_same e = record {
    room = omega (arith, long, w.room);
    fits = λ g h. fits-same g h (all g);
    cut = λ g h. cut-same g h (all g);
  }
    where
      all : (g : ℕ) → SameRow C.gates l l' g
      all g j p = e (row_at C.gates g + j) (omega arith)

  -- a new row of gate g
  pub kept_row : {most : ℕ} {Due : ℕ → Type 0} {g border : ℕ} → g < C.gates → most ≡ total C → RowTold C.gates most Due l l' g border
      → ((N : Net) → Holds C N → Ranked N → Loopless N → ConeAmong N (C.inputs + g) C.width border Due) → KeptCuts C l'
  kept_row {most} {Due} {g} {border} at room o found = record {
    room = omega (arith, long, w.room);
    fits = λ u h. fits u h (ℕ_discrete u g);
    cut = λ u h p N H R loopless. cut u h p N H R loopless (ℕ_discrete u g);
  }
    where
      apart : (u : ℕ) → ¬ (u ≡ g) → SameRow C.gates l l' u
      apart u n j p = o.same (row_at C.gates u + j) (go (dec_lt u g))
        where
          go : Dec (u < g) → (row_at C.gates u + j < row_at C.gates g) ⊎ (row_at C.gates g + row_places ≤ row_at C.gates u + j)
          go (yes q) = inl (omega (arith, p, q))
          go (no q) = inr (omega (arith, q, n))

      fits : (u : ℕ) → u < C.gates → Dec (u ≡ g) → RowFits (total C) (row_in C.gates l' u)
      fits u h (no n) = fits-same u h (apart u n)
      fits u h (yes e) =
          subst (λ (a : ℕ). RowFits (total C) (row_in C.gates l' a)) (sym e)
          (record { few = o.fits.few; inside = λ i p. omega (arith, o.fits.inside i p, room) })

      here : 0 < get_or l' (row_at C.gates g) 0 → (N : Net) → Holds C N → Ranked N → Loopless N
          → ConeAmong N (C.inputs + g) C.width (get_or l' (row_at C.gates g + 1) 0) (InRow (row_in C.gates l' g))
      here p N H R loopless = among (omega (arith, o.border p)) (o.all p) (found N H R loopless)

      cut : (u : ℕ) → u < C.gates → 0 < get_or l' (row_at C.gates u) 0 → (N : Net) → Holds C N → Ranked N → Loopless N → Dec (u ≡ g)
          → ConeAmong N (C.inputs + u) C.width (get_or l' (row_at C.gates u + 1) 0) (InRow (row_in C.gates l' u))
      cut u h p N H R loopless (no n) = cut-same u h (apart u n) p N H R loopless
      cut u h p N H R loopless (yes e) =
          subst (λ (a : ℕ). ConeAmong N (C.inputs + a) C.width (get_or l' (row_at C.gates a + 1) 0) (InRow (row_in C.gates l' a))) (sym e)
          (here (subst (λ (a : ℕ). 0 < get_or l' (row_at C.gates a) 0) e p) N H R loopless)

-- **A row that serves is a cut, for any labels and any period.**
pub serving_cut : {N : Net} {v width border k φ : ℕ} {lab : ℕ → ℤ} {h : ℤ} {w : CutRow} {Inside : Copy → Type 0} → ConeAmong N v width w.border (InRow w) → Serves w width border k φ lab h
    → ((c : Copy) → c.back ≤ border → Inside c) → Cut N k v (Low φ lab h) Inside
serving_cut {N} {width = width} {φ = φ} {lab = lab} {h = h} {w = w} a s inside =
    let L = leaves_of N a.cone in
    record {
      cone = a.cone;
      leaves = L.0;
      is_cone = a.is_cone;
      is_leaves = L.1;
      few = omega (arith, pigeonhole (leaves-distinct L.1) (λ y i. listed y (L.1.sound y i)), length-map (up_to w.count) leaf, length_up_to w.count, s.few);
      allowed = λ y i. let r = a.leaves y (L.1.sound y i) in subst (Low φ lab h) (sym r.2) (s.low r.0 r.1);
      inside = λ c m. inside c (let x = a.near c m in let y = s.near in omega (arith, x, y));
    }
  where
    leaf : ℕ → Copy
    leaf i = copy (w.leaf i / width) (w.leaf i % width)

    listed : (y : Copy) → Leaf N a.cone y → y ∈ map leaf (up_to w.count)
    listed y m =
        let r = a.leaves y m in
        let i = r.1 in
        in_equal (r.2 ∙ ap (λ (x : ℕ). copy (x / width) (x % width)) (sym i.2)) (in_map leaf (in_up_to i.1))
