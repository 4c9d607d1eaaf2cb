-- Laws of nodes emptied and slots looked at one after the other: none, one more, and all of them.
use Rattle.std.specs.Prelude.{◌≡◌, refl, ℕ, suc, ◌+◌, ◌≤◌, ◌<◌, length, List, get_or, zero}
use Rattle.std.proofs.Common.{sym, ◌∙◌, not-suc-le-zero, arith, get_or-set_same, ap}
use Rattle.std.proofs.Math.Path.{ap}
use mathlib.Core.List.{List}
use Rattle.std.proofs.Math.Decide.{ℕ_discrete}
use Rattle.std.proofs.Math.ListN.{get_or, set, length-set}
use Rattle.std.proofs.Math.Seq.{get_or-set_other}
use Rattle.net_model.specs.PackedNetLaws.{apart-refl}
use Rattle.cut_circuit.specs.Circuit.{among}
use Rattle.cut_circuit.specs.PinLinks.{Emptied}
use Rattle.cut_circuit.specs.CircuitLaws.{held_place}

pub emptied_none : (net : List ℕ) (at : ℕ) → Emptied net net at 0
emptied_none net at = record { zero = λ u h. absurd (not-suc-le-zero h); apart = apart-refl at (at + 0) net }

pub emptied_step : (net net' : List ℕ) (at u : ℕ) → at + u < length net → Emptied net net' at u → Emptied net (set net' (at + u) 0) at (u + 1)
emptied_step net net' at u h f = record {
  zero = λ s k. go s k (ℕ_discrete s u);
  apart = record {
    below = λ i k. get_or-set_other net' (at + u) i 0 0 (omega arith) ∙ f.apart.below i k;
    above = λ i k. get_or-set_other net' (at + u) i 0 0 (omega arith) ∙ f.apart.above i (omega (arith, k));
    long = length-set net' (at + u) 0 ∙ f.apart.long;
  };
}
  where
    go : (s : ℕ) → s < u + 1 → Dec (s ≡ u) → get_or (set net' (at + u) 0) (at + s) 0 ≡ 0
    go s k (yes e) = ap (λ (q : ℕ). get_or (set net' (at + u) 0) (at + q) 0) e ∙ get_or-set_same net' (at + u) 0 0 (omega (arith, h, f.apart.long))
    go s k (no n) = get_or-set_other net' (at + u) (at + s) 0 0 (omega (arith, n)) ∙ f.zero s (omega (arith, k, n))

-- None of the i numbers from place a is d.
abbrev pub Unheld : List ℕ → ℕ → ℕ → ℕ → Type 0
Unheld slots a d i = (j : ℕ) → j < i → ¬ (get_or slots (a + j) 0 ≡ d)

pub unheld-none : (slots : List ℕ) (a d : ℕ) → Unheld slots a d 0
unheld-none slots a d j h = absurd (not-suc-le-zero h)

pub unheld-more : (slots : List ℕ) (a d i : ℕ) → Unheld slots a d i → ¬ (get_or slots (a + i) 0 ≡ d) → Unheld slots a d (i + 1)
unheld-more slots a d i u n j h = go (ℕ_discrete j i)
  where
    go : Dec (j ≡ i) → ¬ (get_or slots (a + j) 0 ≡ d)
    go (yes e) = λ q. n (ap (λ (k : ℕ). get_or slots (a + k) 0) (sym e) ∙ q)
    go (no m) = u j (omega (arith, h, m))

pub unheld-all : (slots : List ℕ) (a n d i : ℕ) → n ≤ i → Unheld slots a d i → among slots a n d ≡ 0
unheld-all slots a n d i h u = go (among slots a n d) refl
  where
    go : (m : ℕ) → among slots a n d ≡ m → among slots a n d ≡ 0
    go zero q = q
    go (suc m) q = let r = held_place slots a n d (omega (arith, q)) in absurd (u r.0 (omega (arith, r.1, h)) r.2)
