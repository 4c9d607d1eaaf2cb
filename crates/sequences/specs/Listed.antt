-- Lists made place by place: L at n has f at the n places from `at` on.
use Rattle.std.specs.Prelude.{◌≡◌, List, [], ◌∷◌, ◌++◌, ℕ, zero, suc, ◌+◌, ◌<◌}
use Rattle.std.proofs.Common.{sym, ap, ap₂, ◌∙◌, append_assoc, zero-le, suc-le-suc, add-zero, add-suc, suc-add, zero-add, add-one}

pub record Listed {A : Type 0} (f : ℕ → A) (L : ℕ → ℕ → List A) : Type 0 where
  pub none : (at : ℕ) → L at 0 ≡ []
  pub more : (at n : ℕ) → L at (suc n) ≡ f at ∷ L (suc at) n

module _ {A : Type 0} {f : ℕ → A} {L : ℕ → ℕ → List A} (p : Listed f L) where
  -- the first n and one more
  pub listed_snoc : (at n : ℕ) → L at (suc n) ≡ L at n ++ (f (at + n) ∷ [])
  listed_snoc at zero =
      p.more at 0 ∙ ap₂ (λ (i : ℕ) (l : List A). f i ∷ l) (sym (add-zero at)) (p.none (suc at)) ∙ ap (λ (l : List A). l ++ (f (at + 0) ∷ [])) (sym (p.none at))
  listed_snoc at (suc n) =
      p.more at (suc n)
      ∙ ap (λ (l : List A). f at ∷ l) (listed_snoc (suc at) n ∙ ap (λ (i : ℕ). L (suc at) n ++ (f i ∷ [])) (suc-add at n ∙ sym (add-suc at n)))
      ∙ ap (λ (l : List A). l ++ (f (at + suc n) ∷ [])) (sym (p.more at n))

  pub listed_next : (n : ℕ) → L 0 (n + 1) ≡ L 0 n ++ (f n ∷ [])
  listed_next n = ap (L 0) (add-one n) ∙ listed_snoc 0 n ∙ ap (λ (i : ℕ). L 0 n ++ (f i ∷ [])) (zero-add n)

module _ {A : Type 0} {f g : ℕ → A} {L M : ℕ → ℕ → List A} (p : Listed f L) (q : Listed g M) where
  -- two lists that agree at their places
  pub listed_same : (at at' n : ℕ) → ((i : ℕ) → i < n → f (at + i) ≡ g (at' + i)) → L at n ≡ M at' n
  listed_same at at' zero h = p.none at ∙ sym (q.none at')
  listed_same at at' (suc n) h =
      p.more at n
      ∙ ap₂ (λ (x : A) (l : List A). x ∷ l) (ap f (sym (add-zero at)) ∙ h zero (suc-le-suc zero-le) ∙ ap g (add-zero at'))
      (listed_same (suc at) (suc at') n
      (λ i l. ap f (suc-add at i ∙ sym (add-suc at i)) ∙ h (suc i) (suc-le-suc l) ∙ ap g (add-suc at' i ∙ sym (suc-add at' i))))
      ∙ sym (q.more at' n)

  pub listed-first : (n : ℕ) → ((i : ℕ) → i < n → f i ≡ g i) → L 0 n ≡ M 0 n
  listed-first n h = listed_same 0 0 n (λ i l. ap f (zero-add i) ∙ h i l ∙ ap g (sym (zero-add i)))

  -- one more at place j, where those below stay
  pub listed_more : (j : ℕ) (x : A) (l : List A) → ((i : ℕ) → i < j → f i ≡ g i) → x ≡ g j → L 0 j ++ (x ∷ l) ≡ M 0 (j + 1) ++ l
  listed_more j x l h e =
      ap₂ (λ (a : List A) (b : A). a ++ (b ∷ l)) (listed-first j h) e ∙ sym (append_assoc (M 0 j) (g j ∷ []) l)
      ∙ ap (λ (a : List A). a ++ l) (sym (listed_next q j))
