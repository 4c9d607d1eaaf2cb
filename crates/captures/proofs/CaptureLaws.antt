-- Laws of the answer for two captures: it is each of the answers exactly where E10 asks for that one.
use Rattle.std.specs.Prelude.{◌≡◌, Bool, true, false, cond, ◌||◌, List, ℕ, ◌+◌, ◌≤◌, ◌<◌, ltb, get_or}
use Rattle.std.proofs.Math.Path.{refl, subst}
use Rattle.std.proofs.Common.{sym, ap, ◌∙◌, inl, inr, arith, lt-ltb, le-ltb}
use Rattle.std.proofs.Math.Decide.{dec_lt}
use Rattle.std.proofs.Math.ListN.{length}
use Rattle.sequences.specs.Decide.{Least, least}
use Rattle.captures.specs.Captures.{most_words, most_shift, least_overlap, overlap, Agrees}
use Rattle.captures.specs.AgreesLaws.{agrees?, some-agrees?, overlap-all, in_overlap, overlap_in}
use Rattle.captures.specs.AlignOutcome.{Aligned, shifted, none, refused, smallest, align_outcome}
use Rattle.captures.specs.AlignTold.{Long, Smallest, NoneAgrees, AlignTold}

-- what each answer says
Says : List ℕ → List ℕ → Aligned → Type 0
Says first second (shifted s) = Smallest first second s
Says first second none = NoneAgrees first second
Says first second (refused n) = (n ≡ 23) × Long first second

module _ (first second : List ℕ) where
  -- ---- a capture that is too long

  outcome-by : (a b : Bool) → ltb most_words (length first) ≡ a → ltb most_words (length second) ≡ b → align_outcome first second ≡ cond (a || b) (refused 23) (smallest (some-agrees? first second))
  unfolding align_outcome
  outcome-by a b e f = rw (e, f)

  pub first-long : most_words < length first → align_outcome first second ≡ refused 23
  first-long h = outcome-by true (ltb most_words (length second)) (lt-ltb most_words (length first) h) refl

  pub second-long : length first ≤ most_words → most_words < length second → align_outcome first second ≡ refused 23
  second-long l h = outcome-by false true (le-ltb most_words (length first) l) (lt-ltb most_words (length second) h)

  -- ---- captures of allowed length

  module _ (l : length first ≤ most_words) (m : length second ≤ most_words) where
    outcome-short : align_outcome first second ≡ smallest (some-agrees? first second)
    outcome-short = outcome-by false false (le-ltb most_words (length first) l) (le-ltb most_words (length second) m)

    pub none-agrees : ((s : ℕ) → s ≤ most_shift → ¬ Agrees first second s) → align_outcome first second ≡ none
    unfolding smallest
    none-agrees f = outcome-short ∙ go (some-agrees? first second)
      where
        go : (d : Dec ((s : ℕ) × (s ≤ most_shift) × Agrees first second s)) → smallest d ≡ none
        go (yes r) = absurd (f r.0 r.1 r.2)
        go (no n) = refl

    pub first-agrees : (s : ℕ) → s ≤ most_shift → Agrees first second s → ((j : ℕ) → j < s → ¬ Agrees first second j) → align_outcome first second ≡ shifted s
    unfolding smallest
    first-agrees s h a f = outcome-short ∙ go (some-agrees? first second)
      where
        same : {n : ℕ} (x : Least (Agrees first second) n) → Dec (x.value < s) → Dec (s < x.value) → x.value ≡ s
        same x (yes p) d = absurd (f x.value p x.holds)
        same x (no p) (yes q) = absurd (x.least s q a)
        same x (no p) (no q) = omega (arith, p, q)

        the : {n : ℕ} (x : Least (Agrees first second) n) → x.value ≡ s
        the x = same x (dec_lt x.value s) (dec_lt s x.value)

        go : (d : Dec ((j : ℕ) × (j ≤ most_shift) × Agrees first second j)) → smallest d ≡ shifted s
        go (yes r) = ap shifted (the (least (Agrees first second) (agrees? first second) r.0 r.2))
        go (no n) = absurd (n (s, h, a))

  -- ---- each answer says what E10 asks for

  not-long : length first ≤ most_words → length second ≤ most_words → ¬ Long first second
  not-long l m (inl h) = omega arith
  not-long l m (inr h) = omega arith

  says : Says first second (align_outcome first second)
  unfolding Says
  says = go (dec_lt most_words (length first)) (dec_lt most_words (length second)) (some-agrees? first second)
    where
      told : {a : Aligned} → align_outcome first second ≡ a → Says first second a → Says first second (align_outcome first second)
      told e x = subst (Says first second) (sym e) x

      go : Dec (most_words < length first) → Dec (most_words < length second) → Dec ((s : ℕ) × (s ≤ most_shift) × Agrees first second s) → Says first second (align_outcome first second)
      go (yes h) c d = told (first-long h) (refl, inl h)
      go (no l) (yes h) d = told (second-long (omega (arith, l)) h) (refl, inr h)
      go (no l) (no m) (yes r) =
          let x = least (Agrees first second) (agrees? first second) r.0 r.2 in
          let b : x.value ≤ most_shift = omega (arith, x.bound, r.1) in
          told (first-agrees (omega (arith, l)) (omega (arith, m)) x.value b x.holds x.least)
          (record { allowed = not-long (omega (arith, l)) (omega (arith, m)); bound = b; agrees = x.holds; least = x.least })
      go (no l) (no m) (no n) =
          let f : (s : ℕ) → s ≤ most_shift → ¬ Agrees first second s = λ s h a. n (s, h, a) in
          told (none-agrees (omega (arith, l)) (omega (arith, m)) f) (record { allowed = not-long (omega (arith, l)) (omega (arith, m)); never = f })

  short : ¬ Long first second → (length first ≤ most_words) × (length second ≤ most_words)
  short n = (le_of_not_lt (λ h. n (inl h)), le_of_not_lt (λ h. n (inr h)))
    where
      le_of_not_lt : {a b : ℕ} → ¬ (a < b) → b ≤ a
      le_of_not_lt f = omega (arith, f)

  pub align_told : AlignTold first second
  unfolding Says
  align_told = record {
    found = λ s. (λ e. subst (Says first second) e says, λ x. let l = short x.allowed in first-agrees l.0 l.1 s x.bound x.agrees x.least);
    nothing = (λ e. subst (Says first second) e says, λ x. let l = short x.allowed in none-agrees l.0 l.1 x.never);
    counted = λ s i. (λ h. in_overlap first second s i h, λ h. overlap_in first second s i h.0 h.1);
    long = (λ e. (subst (Says first second) e says).1, λ h. too_long h);
    only = λ n e. (subst (Says first second) e says).0;
  }
    where
      too_long : Long first second → align_outcome first second ≡ refused 23
      too_long (inl h) = first-long h
      too_long (inr h) = go (dec_lt most_words (length first))
        where
          go : Dec (most_words < length first) → align_outcome first second ≡ refused 23
          go (yes k) = first-long k
          go (no k) = second-long (omega (arith, k)) h

-- ---- examples

-- a capture of 16 to 4,096 words against itself
pub itself : (words : List ℕ) → least_overlap ≤ length words → length words ≤ most_words → align_outcome words words ≡ shifted 0
itself words h l = first-agrees words words l l 0 (omega arith) (record { enough = enough; same = same }) (λ j k. let z : ⊥ = omega arith in absurd z)
  where
    enough : least_overlap ≤ overlap words words 0
    enough = omega (arith, overlap-all words words 0 (omega arith))

    same : (i : ℕ) → i < length words → i + 0 < length words → get_or words i 0 ≡ get_or words (i + 0) 0
    same i k m = let e : i ≡ i + 0 = omega arith in ap (λ (x : ℕ). get_or words x 0) e

-- captures of which the first has fewer than 16 words
pub few_words : (first second : List ℕ) → length first < least_overlap → length second ≤ most_words → align_outcome first second ≡ none
few_words first second h l = none-agrees first second (omega arith) l (λ s k a. few s a.enough)
  where
    few : (s : ℕ) → least_overlap ≤ overlap first second s → ⊥
    few s m = let o = in_overlap first second s 15 (omega arith) in omega (arith, o)
