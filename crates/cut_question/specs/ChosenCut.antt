-- Under labels that do not fall along pins the separation told is the chosen cut of a mode whose members the border says: "one with fewest leaves; of these, that whose cone lies
-- inside all the others' cones".
use Rattle.std.proofs.Common.{◌∙◌, arith}
use Rattle.std.specs.Prelude.{ℕ, ◌*◌, ℤ}
use Rattle.net_model.specs.Net.{Net}
use Rattle.net_model.specs.Copies.{Chosen}
use Rattle.cone_theory.specs.Ranks.{Ranked}
use Rattle.cone_theory.specs.Reach.{reach_of}
use Rattle.label_theory.specs.Labels.{Low, Mode, Inside, LowCutIn}
use Rattle.label_theory.specs.Modes.{Bordered}
use Rattle.label_theory.specs.Forced.{Falling, separation-cut, separation-chosen}
use Rattle.cut_question.specs.Question.{Parted, Separated}

module _ {N : Net} {v φ : ℕ} {lab : ℕ → ℤ} {h : ℤ} {border k r : ℕ} (w : Separated N v φ lab h border k r) (falling : Falling N φ lab) (M : Mode)
    (near : Bordered (Inside M φ h) (k * reach_of N) border) where
  abbrev P : Parted N v φ lab h border k
  P = w.parted

  -- **the separation is a k-cut of height at most h,**
  unfoldable pub told-cut : LowCutIn M N k φ lab v h
  told-cut = separation-cut N v φ lab h P.set P.cone border falling P.forced P.separation M near k P.is_leaves P.few

  -- **and it is the chosen one.**
  pub told_chosen : Ranked N → Chosen N k v (Low φ lab h) (Inside M φ h) told-cut
  unfolding told-cut
  told_chosen R =
      separation-chosen N v φ lab h P.set P.cone border falling P.forced P.separation R M k near P.is_leaves P.few
      (λ D L s l. let a = w.fewest D L s l in let e = w.count in omega arith) (λ D L s l e. w.smallest D L s l (e ∙ w.count))
