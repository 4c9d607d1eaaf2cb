-- Laws of the loop over a section: none read, one more, a refusal, all.
use Rattle.std.specs.Prelude.{◌≡◌, refl, List, [], ◌∷◌, ◌++◌, ℕ, ◌+◌, ◌-◌, ◌≤◌, ◌<◌, drop}
use Rattle.net_bytes.specs.Reading.{got, refused}
use Rattle.net_bytes.specs.Readers.{behind, turn-none, turn_one, turn-stops, turn-ends}
use Rattle.net_bytes.specs.Walk.{net_byte, is_past}
use Rattle.net_section.specs.SectionRead.{pasts}

-- i of n bytes are read
pub record PastsSoFar (s : List ℕ) (at n next i : ℕ) : Type 0 where
  pub done : List ℕ
  pub result : pasts n (drop at s) ≡ behind done (pasts (n - i) (drop next s))

module _ (s : List ℕ) (at n : ℕ) where
  pub pasts-none : PastsSoFar s at n at 0
  pasts-none = record { done = []; result = turn-none n (net_byte 6 is_past) (drop at s) }

  module _ {next i : ℕ} (so : PastsSoFar s at n next i) where
    pub pasts-one : i < n → (b after : ℕ) → net_byte 6 is_past (drop next s) ≡ got b (drop after s) → PastsSoFar s at n after (i + 1)
    pasts-one h b after e = record {
      done = so.done ++ (b ∷ []);
      result = turn_one n i so.done (net_byte 6 is_past) (drop next s) so.result b (drop after s) (so.done ++ (b ∷ [])) h e refl;
    }

    pub pasts-stop : i < n → {m : ℕ} → net_byte 6 is_past (drop next s) ≡ refused m → pasts n (drop at s) ≡ refused m
    pasts-stop h e = turn-stops n i so.done (net_byte 6 is_past) (drop next s) so.result h e

    pub pasts-all : n ≤ i → pasts n (drop at s) ≡ got so.done (drop next s)
    pasts-all h = turn-ends n i so.done (net_byte 6 is_past) (drop next s) so.result h
