-- Laws of numbers stored in a list: none, one more, and one in the place of another.
use Rattle.std.specs.Prelude.{◌≡◌, refl, List, ℕ, ◌+◌, ◌<◌, length, get_or, set}
use Rattle.std.proofs.Common.{ap, ◌∙◌, arith, length-set, get_or-set_same, get_or-set_other, below_more}
use Rattle.sequences.specs.Stored.{Stored}

module _ (old : List ℕ) (at : ℕ) (given : List ℕ) where
  pub stored-none : Stored old at given 0 old
  stored-none = record { here = λ m h. absurd (omega arith); below = λ m h. refl; above = λ m h. refl; long = refl }

  pub stored_one : (j : ℕ) (new : List ℕ) → Stored old at given j new → at + j < length old → Stored old at given (j + 1) (set new (at + j) (get_or given j 0))
  stored_one j new so h =
      let long = so.long in
      let b : ℕ = get_or given j 0 in
      let other : (m : ℕ) → (m ≡ at + j → ⊥) → get_or (set new (at + j) b) m 0 ≡ get_or new m 0 = λ m n. get_or-set_other new (at + j) m b 0 n in
      record {
        here = below_more _ _ (λ m l. other (at + m) (omega arith) ∙ so.here m l) (get_or-set_same new (at + j) b 0 (omega arith));
        below = λ m l. other m (omega arith) ∙ so.below m l;
        above = λ m l. other m (omega arith) ∙ so.above m (omega arith);
        long = length-set new (at + j) b ∙ long;
      }

-- an array that is kept, with a new element at place i
module _ {A : Type 0} (l m : List A) (i : ℕ) (a d : A) (e : l ≡ m) where
  pub set_here : i < length m → get_or (set l i a) i d ≡ a
  set_here h = let q = ap length e in get_or-set_same l i a d (omega arith)

  pub set_there : (j : ℕ) → j < i → get_or (set l i a) j d ≡ get_or m j d
  set_there j h = get_or-set_other l i j a d (omega arith) ∙ ap (λ (x : List A). get_or x j d) e
