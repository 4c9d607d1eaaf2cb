-- The order of whole numbers by their parts, decisions that compute on closed numbers, and the smaller of two.
use Rattle.std.specs.Prelude.{◌≡◌, refl, ◌⊎◌, Bool, true, false, not, cond, ℕ, ◌+◌, T, eqb, ℤ, pos, negsuc, ◌≤ℤ◌, ◌<ℤ◌}
use Rattle.std.proofs.Common.{subst, inl, inr, arith, eqb→eq}
use Rattle.std.proofs.Math.Dec.{eqb_refl}
use Rattle.std.specs.Int.Signed.{le_z, lt_z, lt_z_no, ≤ℤ_refl}
use Rattle.integers.specs.Parts.{up, dn, ints, ≡-parts, parts-≡}

pub ≤ℤ_trans : {a b c : ℤ} → a ≤ℤ b → b ≤ℤ c → a ≤ℤ c
≤ℤ_trans h k = omega (arith, ints)

pub ≤ℤ_antisym : {a b : ℤ} → a ≤ℤ b → b ≤ℤ a → a ≡ b
≤ℤ_antisym h k = omega (arith, ints)

pub <ℤ→≤ℤ : {a b : ℤ} → a <ℤ b → a ≤ℤ b
<ℤ→≤ℤ h = omega (arith, ints)

pub ≤ℤ_total : (a b : ℤ) → (a ≤ℤ b) ⊎ (b <ℤ a)
≤ℤ_total a b = go (lt_z b a) (λ t. record { lt = t }) lt_z_no
  where
    go : (c : Bool) → (T c → b <ℤ a) → (T (not c) → a ≤ℤ b) → (a ≤ℤ b) ⊎ (b <ℤ a)
    go true f g = inr (f tt)
    go false f g = inl (g tt)

-- ---- decisions
abbrev pub decide : {A : Type 0} (c : Bool) → (T c → A) → (A → T c) → Dec A
decide true f g = yes (f tt)
decide false f g = no g

unfoldable pub ≤ℤ? : (a b : ℤ) → Dec (a ≤ℤ b)
≤ℤ? a b = decide (le_z a b) (λ t. record { le = t }) (λ h. h.le)

unfoldable pub <ℤ? : (a b : ℤ) → Dec (a <ℤ b)
<ℤ? a b = decide (lt_z a b) (λ t. record { lt = t }) (λ h. h.lt)

-- lib.IntN's ℤ-discrete does not unfold
unfoldable pub ℤ_dec : (a b : ℤ) → Dec (a ≡ b)
ℤ_dec a b = decide (eqb (up a + dn b) (up b + dn a)) (λ t. parts-≡ a b (eqb→eq _ _ t)) (λ e. subst (λ (n : ℕ). T (eqb (up a + dn b) n)) (≡-parts a b e) (eqb_refl (up a + dn b)))

-- ---- the smaller of two
unfoldable pub minℤ : ℤ → ℤ → ℤ
minℤ a b = cond (lt_z b a) b a

pub minℤ-cases : (a b : ℤ) → (minℤ a b ≡ a) ⊎ (minℤ a b ≡ b)
unfolding minℤ
minℤ-cases a b = go (lt_z b a)
  where
    go : (c : Bool) → (cond c b a ≡ a) ⊎ (cond c b a ≡ b)
    go true = inr refl
    go false = inl refl

minℤ-both : (a b : ℤ) → (minℤ a b ≤ℤ a) × (minℤ a b ≤ℤ b)
unfolding minℤ
minℤ-both a b = go (lt_z b a) (λ t. record { lt = t }) lt_z_no
  where
    go : (c : Bool) → (T c → b <ℤ a) → (T (not c) → a ≤ℤ b) → (cond c b a ≤ℤ a) × (cond c b a ≤ℤ b)
    go true f g = (<ℤ→≤ℤ (f tt), ≤ℤ_refl b)
    go false f g = (≤ℤ_refl a, g tt)

pub minℤ-left : (a b : ℤ) → minℤ a b ≤ℤ a
minℤ-left a b = (minℤ-both a b).0

pub minℤ-right : (a b : ℤ) → minℤ a b ≤ℤ b
minℤ-right a b = (minℤ-both a b).1

pub minℤ_example : (minℤ (pos 3) (negsuc 1) ≡ negsuc 1) × (minℤ (pos 3) (pos 5) ≡ pos 3)
unfolding minℤ
minℤ_example = (refl, refl)
