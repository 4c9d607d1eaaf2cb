-- Laws of tallies: order does not matter, taking goes on, a place is kept or raised, and the places are added.
use Rattle.std.specs.Prelude.{◌≡◌, cond, List, [], ◌∷◌, ◌++◌, ◌⊎◌, ℕ, zero, suc, max, ◌+◌, ◌≤◌, ◌<◌, eqb, ℤ, pos, length, get_or, set, replicate}
use Rattle.std.proofs.Math.Path.{refl}
use Rattle.std.proofs.Common.{sym, ap, subst, ◌∙◌, append_assoc, append-nil, inl, inr, add-one, arith, get_or-set_same, get_or-set_other, sum, take}
use Rattle.std.proofs.Math.Seq.{take-length}
use Rattle.std.proofs.lemmas.List.{set-get_or}
use Rattle.std.proofs.lemmas.List.Sums.{sum_by_more}
use Rattle.std.proofs.Math.Decide.{ℕ_discrete, dec_lt}
use Rattle.limits.specs.Limits.{most_nodes}
use Rattle.integers.specs.Parts.{up}
use Rattle.sequences.specs.Member.{◌∈◌, here, Within, in_append_left, in_append_right, in_append_cases}
use Rattle.sequences.specs.Zeros.{zeros}
use Rattle.cover_theory.specs.SharedRegisters.{Tap, tap, longest, over_nodes, shared_count}
use Rattle.cover_theory.proofs.SharedLaws.{larger-is, longest-own, longest-other, longest-bound, longest-least, longest-within, longest-same, over-same}
use Rattle.cover_tally.specs.Tallies.{Tallied, Took}

-- **Order and repetition do not matter.**
pub tallied_same : {ts us : List Tap} {places : List ℕ} → Within ts us → Within us ts → Tallied ts places → Tallied us places
tallied_same v w t = record { each = λ u h. t.each u h ∙ longest-same u v w }

pub tallied_none : Tallied [] (replicate most_nodes 0)
tallied_none = record { each = λ u h. unfold longest in zeros most_nodes u }

-- ---- taking

pub took_none : (places : List ℕ) → Took [] places places
took_none places = record { on = λ xs t. subst (λ (l : List Tap). Tallied l places) (sym (append-nil xs)) t }

-- **first ts, then us**
pub took_then : {ts us : List Tap} {a b c : List ℕ} → Took ts a b → Took us b c → Took (ts ++ us) a c
took_then {ts} {us} {a} {b} {c} p q = record { on = λ xs t. subst (λ (l : List Tap). Tallied l c) (append_assoc xs ts us) (q.on (xs ++ ts) (p.on xs t)) }

pub took_same : {ts us : List Tap} {a b : List ℕ} → ts ≡ us → Took ts a b → Took us a b
took_same {ts} {us} {a} {b} e t = subst (λ (l : List Tap). Took l a b) e t

-- all that was taken, from the empty tally on
pub took_all : {ts : List Tap} {a b : List ℕ} → Tallied [] a → Took ts a b → Tallied ts b
took_all n t = t.on [] n

-- ---- one tap behind others

longest_nil : (u : ℕ) → longest u [] ≡ 0
longest_nil u = unfold longest in refl

module _ (u : ℕ) (xs : List Tap) (t : Tap) where
  behind-other : ¬ (t.source ≡ u) → longest u (xs ++ (t ∷ [])) ≡ longest u xs
  behind-other n =
      let a = longest-within u {ts = xs} (λ x m. in_append_left (t ∷ []) m) in
      let b = longest-least u (xs ++ (t ∷ [])) (longest u xs) each in
      omega arith
    where
      only : (x : Tap) → x.source ≡ u → x ∈ t ∷ [] → up x.number ≤ longest u xs
      only x s m =
          let c = longest-bound u m s in
          let d = longest-other u t [] n in
          let z = longest_nil u in
          omega arith

      go : (x : Tap) → x.source ≡ u → (x ∈ xs) ⊎ (x ∈ t ∷ []) → up x.number ≤ longest u xs
      go x s (inl i) = longest-bound u i s
      go x s (inr i) = only x s i

      each : (x : Tap) → x ∈ xs ++ (t ∷ []) → x.source ≡ u → up x.number ≤ longest u xs
      each x m s = go x s (in_append_cases xs m)

  -- a number that is no larger changes nothing, a larger one is the new largest
  behind-own : t.source ≡ u → (c : ℕ) → longest u xs ≤ c → up t.number ≤ c → (c ≡ longest u xs) ⊎ (c ≡ up t.number) → longest u (xs ++ (t ∷ [])) ≡ c
  behind-own q c h l one =
      let a = longest-within u {ts = xs} (λ x m. in_append_left (t ∷ []) m) in
      let b = longest-bound u (in_append_right xs (here refl)) q in
      let d = longest-least u (xs ++ (t ∷ [])) c each in
      pick a b d one
    where
      only : (x : Tap) → x.source ≡ u → x ∈ t ∷ [] → up x.number ≤ c
      only x s m =
          let e = longest-bound u m s in
          let f = longest-own u t [] q in
          let g = (larger-is (up t.number) (longest u [])).one in
          let z = longest_nil u in
          less e f z g
        where
          less : up x.number ≤ longest u (t ∷ []) → longest u (t ∷ []) ≡ max (up t.number) (longest u []) → longest u [] ≡ 0
              → (max (up t.number) (longest u []) ≡ up t.number) ⊎ (max (up t.number) (longest u []) ≡ longest u []) → up x.number ≤ c
          less e f z (inl g) = omega arith
          less e f z (inr g) = omega arith

      go : (x : Tap) → x.source ≡ u → (x ∈ xs) ⊎ (x ∈ t ∷ []) → up x.number ≤ c
      go x s (inl i) = let e = longest-bound u i s in omega arith
      go x s (inr i) = only x s i

      each : (x : Tap) → x ∈ xs ++ (t ∷ []) → x.source ≡ u → up x.number ≤ c
      each x m s = go x s (in_append_cases xs m)

      pick : longest u xs ≤ longest u (xs ++ (t ∷ [])) → up t.number ≤ longest u (xs ++ (t ∷ [])) → longest u (xs ++ (t ∷ [])) ≤ c → (c ≡ longest u xs) ⊎ (c ≡ up t.number)
          → longest u (xs ++ (t ∷ [])) ≡ c
      pick a b d (inl e) = omega arith
      pick a b d (inr e) = omega arith

module _ (places : List ℕ) (source number : ℕ) where
  -- **the place is kept**, where it is as large or there is none
  pub took_kept : (source < most_nodes → number ≤ get_or places source 0) → Took (tap source (pos number) ∷ []) places places
  took_kept h = record { on = λ xs t. record { each = λ u l. go xs t u l (ℕ_discrete source u) } }
    where
      go : (xs : List Tap) → Tallied xs places → (u : ℕ) → u < most_nodes → Dec (source ≡ u) → get_or places u 0 ≡ longest u (xs ++ (tap source (pos number) ∷ []))
      go xs t u l (yes e) =
          let p = t.each u l in
          let q : get_or places source 0 ≡ get_or places u 0 = ap (λ (v : ℕ). get_or places v 0) e in
          let m = h (omega arith) in
          p ∙ sym (behind-own u xs (tap source (pos number)) e (longest u xs) (omega arith) (omega arith) (inl refl))
      go xs t u l (no n) = t.each u l ∙ sym (behind-other u xs (tap source (pos number)) n)

  -- **the place is raised**
  pub took_set : source < length places → get_or places source 0 < number → Took (tap source (pos number) ∷ []) places (set places source number)
  took_set h b = record { on = λ xs t. record { each = λ u l. go xs t u l (ℕ_discrete source u) } }
    where
      go : (xs : List Tap) → Tallied xs places → (u : ℕ) → u < most_nodes → Dec (source ≡ u) → get_or (set places source number) u 0 ≡ longest u (xs ++ (tap source (pos number) ∷ []))
      go xs t u l (yes e) =
          let p = t.each u l in
          let q : get_or places source 0 ≡ get_or places u 0 = ap (λ (v : ℕ). get_or places v 0) e in
          subst (λ (v : ℕ). get_or (set places source number) v 0 ≡ number) e (get_or-set_same places source number 0 h)
          ∙ sym (behind-own u xs (tap source (pos number)) e number (omega arith) (omega arith) (inr refl))
      go xs t u l (no n) = get_or-set_other places source u number 0 (λ e. n (sym e)) ∙ t.each u l ∙ sym (behind-other u xs (tap source (pos number)) n)

  -- **the larger of the two is kept**
  pub took_largest : source < length places → {n : ℕ} → n ≡ max (get_or places source 0) number → Took (tap source (pos number) ∷ []) places (set places source n)
  took_largest h {n} e = go (dec_lt (get_or places source 0) number)
    where
      go : Dec (get_or places source 0 < number) → Took (tap source (pos number) ∷ []) places (set places source n)
      go (yes l) = let q : number ≡ n = omega arith in rw (← q) (took_set h l)
      go (no l) =
          let q : get_or places source 0 ≡ n = omega (arith, l) in
          rw (← q) (rw (set-get_or places source 0) (took_kept (λ k. omega (arith, l))))

-- a number below 0 is taken as 0
same_up : (u source : ℕ) (z : ℤ) (xs : List Tap) → longest u (xs ++ (tap source (pos (up z)) ∷ [])) ≡ longest u (xs ++ (tap source z ∷ []))
unfolding longest
same_up u source z [] = refl
same_up u source z (x ∷ xs) = ap (λ (n : ℕ). cond (eqb x.source u) (max (up x.number) n) n) (same_up u source z xs)

pub took_up : (source : ℕ) (z : ℤ) (number : ℕ) {a b : List ℕ} → number ≡ up z → Took (tap source (pos number) ∷ []) a b → Took (tap source z ∷ []) a b
took_up source z number {a} {b} e t =
    record { on = λ xs s. record { each = λ u l. (t.on xs s).each u l ∙ ap (λ (n : ℕ). longest u (xs ++ (tap source (pos n) ∷ []))) e ∙ same_up u source z xs } }

-- ---- adding

abbrev pub at : List ℕ → ℕ → ℕ
at places v = get_or places v 0

pub added_none : (places : List ℕ) → over_nodes (at places) 0 ≡ 0
added_none places = unfold over_nodes in refl

pub added_more : (places : List ℕ) (u : ℕ) → over_nodes (at places) (u + 1) ≡ get_or places u 0 + over_nodes (at places) u
added_more places u = rw (add-one u) (unfold over_nodes in refl)

added_first : (places : List ℕ) (u : ℕ) → u ≤ length places → sum (take u places) ≡ over_nodes (at places) u
added_first places zero h = sym (added_none places)
added_first places (suc u) h =
    let a = rw (add-one u) at (added_more places u) in
    let b = added_first places u (omega arith) in
    let c = rw (add-one u) at (sum_by_more (λ (x : ℕ). x) places u 0 h) in
    omega arith

pub added_sum : (places : List ℕ) → length places ≡ most_nodes → sum places ≡ over_nodes (at places) most_nodes
added_sum places e =
    let a = added_first places (length places) (omega arith) in
    sym (ap (λ (l : List ℕ). sum l) (take-length places)) ∙ a ∙ ap (over_nodes (at places)) e

-- **the places added are the shared count**
pub added_all : (places : List ℕ) (ts : List Tap) → Tallied ts places → over_nodes (at places) most_nodes ≡ shared_count most_nodes ts
unfolding shared_count
added_all places ts t = over-same (at places) (λ u. longest u ts) most_nodes t.each
