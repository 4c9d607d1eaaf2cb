-- Laws of readers: what is known where one gave a value, and `times` one thing at a time.
use Rattle.std.specs.Prelude.{◌≡◌, Bool, true, false}
use Rattle.std.proofs.Math.Path.{refl, ap}
use Rattle.std.proofs.Common.{sym, ◌∙◌, arith}
use mathlib.Core.List.{List, [], ◌∷◌, ◌++◌, append_assoc, append-nil}
use Prim.Native.Nat.{ℕ, zero, suc, ◌+◌, ◌-◌, ◌*◌, ◌≤◌, ◌<◌}
use Rattle.std.proofs.Math.ListN.{length}
use Rattle.sequences.specs.Member.{◌∈◌, here, there, not_in_nil}
use Rattle.net_bytes.specs.Reading.{Result, Reader, and_then, check, byte, number, times, at_end, got, refused}

pub refused-not-got : {A : Type 0} (n : ℕ) (a : A) (s : List ℕ) → refused n ≡ got a s → ⊥
refused-not-got n a s e = let z : ◌≡◌ {A = ℕ} 0 1 = cc in omega arith

pub got-value : {A : Type 0} (a : A) (s : List ℕ) (b : A) (t : List ℕ) → got a s ≡ got b t → a ≡ b
got-value a s b t e = cc

module _ {A B : Type 0} where
  -- where two readers in a row gave a value, each did
  pub then-got : (r : Result A) (f : A → Reader B) (b : B) (s : List ℕ) → and_then r f ≡ got b s
      → (a : A) × (t : List ℕ) × (r ≡ got a t) × (f a t ≡ got b s)
  then-got (got a t) f b s e = (a, t, refl, e)
  then-got (refused n) f b s e = absurd (refused-not-got n b s e)

  pub then-goes : {r : Result A} {a : A} {s : List ℕ} (f : A → Reader B) → r ≡ got a s → and_then r f ≡ f a s
  then-goes f e = ap (λ (x : Result A). and_then x f) e

  pub then-stops : {r : Result A} {n : ℕ} (f : A → Reader B) → r ≡ refused n → and_then r f ≡ refused n
  then-stops f e = ap (λ (x : Result A). and_then x f) e

module _ {A B C : Type 0} where
  pub then-then : (r : Result A) (f : A → Reader B) (g : B → Reader C) → and_then (and_then r f) g ≡ and_then r (λ a s. and_then (f a s) g)
  then-then (got a s) f g = refl
  then-then (refused n) f g = refl

pub check-got : {A : Type 0} (t : Bool) (n : ℕ) (a : A) (s : List ℕ) (b : A) (r : List ℕ) → check t n a s ≡ got b r
    → (t ≡ true) × (a ≡ b) × (s ≡ r)
check-got true n a s b r e = (refl, cc, cc)
check-got false n a s b r e = absurd (refused-not-got n b r e)

pub byte-got : (early bad : ℕ) (ok : ℕ → Bool) (s : List ℕ) (b : ℕ) (r : List ℕ) → byte early bad ok s ≡ got b r → ok b ≡ true
byte-got early bad ok [] b r e = absurd (refused-not-got early b r e)
byte-got early bad ok (c ∷ s) b r e =
    let h = check-got (ok c) bad c s b r e in
    sym (ap ok h.1) ∙ h.0

-- a number of two bytes: its test behind both, and what comes behind the first
abbrev pub from_high : ℕ → (ℕ → Bool) → ℕ → ℕ → Reader ℕ
from_high bad ok low high = check (ok (low + 256 * high)) bad (low + 256 * high)

abbrev pub from_low : ℕ → ℕ → (ℕ → Bool) → ℕ → Reader ℕ
from_low early bad ok low s = and_then (byte early bad (λ b. true) s) (from_high bad ok low)

pub number-got : (wide : Bool) (early bad : ℕ) (ok : ℕ → Bool) (s : List ℕ) (b : ℕ) (r : List ℕ) → number wide early bad ok s ≡ got b r → ok b ≡ true
number-got false early bad ok s b r e = byte-got early bad ok s b r e
number-got true early bad ok s b r e =
    let x = then-got (byte early bad (λ b. true) s) (from_low early bad ok) b r e in
    let y = then-got (byte early bad (λ b. true) x.1) (from_high bad ok x.0) b r x.3 in
    let h = check-got (ok (x.0 + 256 * y.0)) bad (x.0 + 256 * y.0) y.1 b r y.3 in
    sym (ap ok h.1) ∙ h.0

pub at_end-got : {A : Type 0} (n : ℕ) (a : A) (s : List ℕ) (b : A) (r : List ℕ) → at_end n a s ≡ got b r → (a ≡ b) × (r ≡ [])
at_end-got n a [] b r e = (cc, cc)
at_end-got n a (c ∷ s) b r e = absurd (refused-not-got n b r e)

module _ {A : Type 0} where
  -- each value that m gives has the property P
  abbrev pub Gives : Reader A → (A → Type 0) → Type 0
  Gives m P = (s : List ℕ) (a : A) (r : List ℕ) → m s ≡ got a r → P a

  -- each element of l has the property P
  abbrev pub Each : (A → Type 0) → List A → Type 0
  Each P l = (a : A) → a ∈ l → P a

  pub each_nil : (P : A → Type 0) → Each P []
  each_nil P a h = absurd (not_in_nil h)

  pub each_cons : (P : A → Type 0) {b : A} {l : List A} → P b → Each P l → Each P (b ∷ l)
  each_cons P {b} {l} p f a h = go a h
    where
      go : (a : A) → a ∈ b ∷ l → P a
      go a (here e) = rw e p
      go a (there h) = f a h

  -- `times n m` gives n elements, and each has what m guarantees
  pub times-got : (P : A → Type 0) (n : ℕ) (m : Reader A) → Gives m P → (s : List ℕ) (l : List A) (r : List ℕ) → times n m s ≡ got l r
      → (length l ≡ n) × Each P l
  unfolding times
  times-got P zero m g s l r e =
      let n : [] ≡ l = cc in
      (sym (ap length n), rw (← n) (each_nil P))
  times-got P (suc n) m g s l r e =
      let x = then-got (m s) (λ a t. and_then (times n m t) (λ more u. got (a ∷ more) u)) l r e in
      let y = then-got (times n m x.1) (λ more u. got (x.0 ∷ more) u) l r x.3 in
      let z = times-got P n m g x.1 y.0 y.1 y.2 in
      let k : x.0 ∷ y.0 ≡ l = cc y.3 in
      (sym (ap length k) ∙ ap suc z.0, rw (← k) (each_cons P (g s x.0 x.1 x.2) z.1))

  -- a list behind those already read: none of them, one more, a refusal, the end
  unfoldable pub behind : List A → Result (List A) → Result (List A)
  behind done r = and_then r (λ more u. got (done ++ more) u)

  pub behind-none : (r : Result (List A)) → r ≡ behind [] r
  unfolding behind
  behind-none (got l s) = refl
  behind-none (refused n) = refl

  pub behind-one : (done : List A) (a : A) (r : Result (List A)) → behind done (and_then r (λ more u. got (a ∷ more) u)) ≡ behind (done ++ (a ∷ [])) r
  unfolding behind
  behind-one done a (got l u) = ap (λ (x : List A). got x u) (sym (append_assoc done (a ∷ []) l))
  behind-one done a (refused k) = refl

  pub behind-stops : (done : List A) (k : ℕ) → behind done (refused k) ≡ refused k
  unfolding behind
  behind-stops done k = refl

  pub behind-all : (done : List A) (s : List ℕ) → behind done (got [] s) ≡ got done s
  unfolding behind
  behind-all done s = ap (λ (x : List A). got x s) (append-nil done)

  times_more : (n : ℕ) (m : Reader A) (s : List ℕ) → times (suc n) m s ≡ and_then (m s) (λ a t. and_then (times n m t) (λ more u. got (a ∷ more) u))
  unfolding times
  times_more n m s = refl

  times_none : (m : Reader A) (s : List ℕ) → times zero m s ≡ got [] s
  unfolding times
  times_none m s = refl

  -- a loop that has read i of n things, which are `done`: one more, a refusal, the end
  module _ (n i : ℕ) (done : List A) (m : Reader A) (s : List ℕ) {x : Result (List A)} (e : x ≡ behind done (times (n - i) m s)) where
    next_one : i < n → x ≡ behind done (and_then (m s) (λ a t. and_then (times (n - (i + 1)) m t) (λ more u. got (a ∷ more) u)))
    next_one h =
        let left : n - i ≡ suc (n - (i + 1)) = omega arith in
        e ∙ ap (λ (k : ℕ). behind done (times k m s)) left ∙ ap (behind done) (times_more (n - (i + 1)) m s)

    pub turn_one : (a : A) (t : List ℕ) (more : List A) → i < n → m s ≡ got a t → more ≡ done ++ (a ∷ []) → x ≡ behind more (times (n - (i + 1)) m t)
    turn_one a t more h f g =
        next_one h ∙ ap (behind done) (then-goes _ f) ∙ behind-one done a (times (n - (i + 1)) m t) ∙ ap (λ (l : List A). behind l (times (n - (i + 1)) m t)) (sym g)

    pub turn-stops : {k : ℕ} → i < n → m s ≡ refused k → x ≡ refused k
    turn-stops {k} h f = next_one h ∙ ap (behind done) (then-stops _ f) ∙ behind-stops done k

    pub turn-ends : n ≤ i → x ≡ got done s
    turn-ends h =
        let none : n - i ≡ 0 = omega arith in
        e ∙ ap (λ (k : ℕ). behind done (times k m s)) none ∙ ap (behind done) (times_none m s) ∙ behind-all done s

  pub turn-none : (n : ℕ) (m : Reader A) (s : List ℕ) → times n m s ≡ behind [] (times (n - 0) m s)
  turn-none n m s =
      let all : n ≡ n - 0 = omega arith in
      behind-none (times n m s) ∙ ap (λ (k : ℕ). behind [] (times k m s)) all
