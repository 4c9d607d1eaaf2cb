-- Laws of reading several numbers by one reader into a list with room for them: at the start, after one more, at a refusal, at the end.
use Rattle.std.specs.Prelude.{◌≡◌, List, ℕ, ◌+◌, ◌-◌, ◌≤◌, ◌<◌, length, get_or, take, drop, set, replicate}
use Rattle.std.proofs.Common.{ap, ◌∙◌, add-one, arith, length-set, take-suc-set, get_or-set_other}
use Rattle.std.proofs.lemmas.List.{length-replicate}
use Rattle.sequences.specs.Zeros.{zeros}
use Rattle.net_bytes.specs.Reading.{Reader, times, got, refused}
use Rattle.net_bytes.specs.Readers.{behind, turn-none, turn_one, turn-stops, turn-ends}

-- i of the n numbers are read
pub record ReadSoFar (room : ℕ) (m : Reader ℕ) (s : List ℕ) (at n : ℕ) (values : List ℕ) (next i : ℕ) : Type 0 where
  pub result : times n m (drop at s) ≡ behind (take i values) (times (n - i) m (drop next s))
  pub most : i ≤ n
  pub long : length values ≡ room
  pub spare : (j : ℕ) → i ≤ j → get_or values j 0 ≡ 0

module _ (room : ℕ) (m : Reader ℕ) (s : List ℕ) (at n : ℕ) where
  pub items_none : ReadSoFar room m s at n (replicate room 0) at 0
  items_none = record {
    result = turn-none n m (drop at s);
    most = omega arith;
    long = length-replicate room 0;
    spare = λ j h. zeros room j;
  }

  module _ (values : List ℕ) (next i : ℕ) (so : ReadSoFar room m s at n values next i) where
    pub items_one : i < n → n ≤ room → (b after : ℕ) → m (drop next s) ≡ got b (drop after s) → ReadSoFar room m s at n (set values i b) after (i + 1)
    items_one h fits b after e =
        let long = so.long in
        record {
          result = turn_one n i (take i values) m (drop next s) so.result b (drop after s) (take (i + 1) (set values i b)) h e (rw add-one (take-suc-set values i b (omega arith)));
          most = omega arith;
          long = length-set values i b ∙ long;
          spare = λ j l. get_or-set_other values i j b 0 (omega arith) ∙ so.spare j (omega arith);
        }

    pub items_stop : {k : ℕ} → i < n → m (drop next s) ≡ refused k → times n m (drop at s) ≡ refused k
    items_stop h e = turn-stops n i (take i values) m (drop next s) so.result h e

    pub items_all : n ≤ i → times n m (drop at s) ≡ got (take n values) (drop next s)
    items_all h =
        let most = so.most in
        let end : i ≡ n = omega arith in
        turn-ends n i (take i values) m (drop next s) so.result h ∙ ap (λ (k : ℕ). got (take k values) (drop next s)) end

    pub items_spare : (j : ℕ) → n ≤ j → get_or values j 0 ≡ 0
    items_spare j h =
        let most = so.most in
        so.spare j (omega arith)
