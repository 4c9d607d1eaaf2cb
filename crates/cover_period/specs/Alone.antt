-- "a LUT for each gate alone, all lags 0, meets G": written out as a cover, which meets the greatest level too.
use Rattle.std.specs.Prelude.{◌≡◌, refl, List, [], ◌∷◌, map, ℕ, zero, suc, ◌+◌, ◌*◌, ◌≤◌, ◌<◌, ℤ, ◌+ℤ◌, ◌*ℤ◌, length, ◌≤ℤ◌}
use Rattle.std.proofs.Common.{sym, ap, ◌∙◌, arith}
use Rattle.std.proofs.Math.Path.{subst}
use Rattle.std.proofs.Math.Nat.{mul-zero}
use Rattle.std.proofs.Math.IntN.{pos}
use Rattle.integers.specs.Parts.{ints, +-parts, *-parts}
use Rattle.integers.specs.Lag.{lag, Lag}
use Rattle.integers.proofs.Lag.{lag-is, lag_unique}
use Rattle.sequences.specs.Member.{◌∈◌, in_map, map_in}
use Rattle.net_model.specs.Net.{Net, Pin, IsGate}
use Rattle.net_model.specs.Checks.{Passed}
use Rattle.net_model.specs.Copies.{Copy, copy}
use Rattle.cone_theory.specs.Basics.{leaves_of}
use Rattle.cone_theory.specs.FewCopies.{gate_numbers, in_gate_numbers, gate_numbers_in}
use Rattle.cone_theory.specs.CopyOrder.{Levels}
use Rattle.label_theory.specs.Labels.{LowCut}
use Rattle.cover_theory.specs.Covers.{IsCover, Meets}
use Rattle.cover_theory.specs.Key.{Entry, HasLut, as_cover}
use Rattle.cover_period.specs.Written.{Labelled, labelled-cover, labelled-meets}
use Rattle.cover_period.specs.Period.{line_label, line-labelling, line-outputs, line-cut}

module _ {N : Net} {k : ℕ} (P : Passed N k) (O : Levels N) (φ : ℕ) (enough : (v : ℕ) → O.level v ≤ φ) (pos_φ : 1 ≤ φ) where
  -- the LUT of gate v alone, with lag 0
  abbrev pub alone_entry : ℕ → Entry
  alone_entry v = record { root = v; leaves = (leaves_of N (copy v 0 ∷ [])).0; lag = pos 0; table = 0 }

  pub alone_entries : List Entry
  alone_entries = map alone_entry (gate_numbers N)

  lag-zero : (v : ℕ) → IsGate N v → pos 0 ≡ lag φ (line_label P O φ enough v)
  unfolding line_label
  lag-zero v g =
      let a = O.gate v g in
      let b = enough v in
      let z = mul-zero φ in
      lag_unique φ (record {
        over = omega (arith, ints, *-parts φ (pos 0));
        under = omega (arith, ints, *-parts φ (pos 0), +-parts (pos φ *ℤ pos 0) (pos φ));
      }) (lag-is φ pos_φ (pos (O.level v)))

  has : (v : ℕ) → IsGate N v → HasLut alone_entries v
  unfolding alone_entries
  has v g = (alone_entry v, in_map alone_entry (in_gate_numbers g), refl)

  labelled : Labelled N k φ (line_label P O φ enough) alone_entries
  unfolding alone_entries
  labelled = record {
    gate = λ e m. let t = map_in alone_entry (gate_numbers N) m in subst (λ (x : Entry). IsGate N x.root) (sym t.2) (gate_numbers_in t.1);
    cut = λ e m.
        let t = map_in alone_entry (gate_numbers N) m in
        subst (λ (x : Entry). (J : LowCut N k φ (line_label P O φ enough) x.root (line_label P O φ enough x.root)) × (x.leaves ≡ J.leaves)) (sym t.2)
        (line-cut P O φ enough t.0 (gate_numbers_in t.1));
    lags = λ e m.
        let t = map_in alone_entry (gate_numbers N) m in
        subst (λ (x : Entry). x.lag ≡ lag φ (line_label P O φ enough x.root)) (sym t.2) (lag-zero t.0 (gate_numbers_in t.1));
    closed = λ e m y i g. has y.node g;
    sources = λ o i g. has o.src g;
  }

  -- **A LUT for each gate alone, all lags 0, is a cover that meets every period from the greatest level up**, so from G up.
  pub alone-cover : IsCover N k (as_cover N alone_entries)
  alone-cover = labelled-cover P.sound pos_φ (line-labelling P O φ enough).inputs labelled (line-outputs P O φ enough)

  pub alone-meets : Meets N (as_cover N alone_entries) φ
  alone-meets = labelled-meets P.sound pos_φ (line-labelling P O φ enough).inputs labelled
