-- Definitions: document 02, E9, as one record.
use Rattle.std.specs.Prelude.{◌≡◌, ℕ, take, ◌≤ℤ◌}
use Rattle.sequences.specs.Member.{◌∈◌}
use Rattle.net_model.specs.Net.{Net}
use Rattle.cover_theory.specs.Covers.{Cover, lut, RootedAt, IsCover, Meets}
use Rattle.cover_theory.specs.Forward.{Forward}
use Rattle.cover_theory.specs.Key.{Entry, as_cover}
use Rattle.cover_records.specs.CoverBytes.{Record}
use Rattle.cover_records.specs.Outcomes.{accepted}
use Rattle.demands.specs.TurnedBack.{IsNet, IsRecord}
use Rattle.demands.specs.Calls.{MapCall, map_done}
use Rattle.demands.specs.ForwardMap.{ForwardCall, forward_done, Read, cover_in}

-- "for each root of a written cover, no cover … gives any LUT of that root a smaller lag": K gives no LUT with the root of a written one a smaller lag
abbrev pub NoSmallerLag : Record → Cover → Type 0
NoSmallerLag r K = (e : Entry) → e ∈ r.entries → (i : ℕ) → RootedAt K e.root i → e.lag ≤ℤ (lut K i).lag

-- K has a LUT of each written root with the written lag
abbrev pub HasLags : Record → Cover → Type 0
HasLags r K = (e : Entry) → e ∈ r.entries → (i : ℕ) × RootedAt K e.root i × ((lut K i).lag ≡ e.lag)

pub record LeastLags : Type 0 where
  -- ---- map, with a target and with 0, whatever it writes. "for each root of a written cover, no cover with any copies that meets the same period gives any LUT of that root a
  -- smaller lag." K is any cover in the sense of document 01: with copies of gates, several LUTs of one root, and LUTs that nothing reads.
  pub least : (c : MapCall) (n : ℕ) → (map_done c).answer ≡ accepted n → (N : Net) → IsNet c.k c.net N → (r : Record) → IsRecord N c.k (take n (map_done c).area) r
      → (K : Cover) → IsCover N c.k K → Meets N K r.period → NoSmallerLag r K
  -- and the written cover, which is one of them, has these lags: each is the least
  pub attained : (c : MapCall) (n : ℕ) → (map_done c).answer ≡ accepted n → (N : Net) → IsNet c.k c.net N → (r : Record) → IsRecord N c.k (take n (map_done c).area) r
      → IsCover N c.k (cover_in N r) × Meets N (cover_in N r) r.period × HasLags r (cover_in N r)
  -- ---- "The same is wanted for forward covers among forward covers."
  pub forward : (c : ForwardCall) (n : ℕ) (N : Net) (r : Record) → Read c (forward_done c) n N r → (K : Cover) → IsCover N c.k K → Forward N K → Meets N K r.period → NoSmallerLag r K
  pub forward-attained : (c : ForwardCall) (n : ℕ) (N : Net) (r : Record) → Read c (forward_done c) n N r
      → IsCover N c.k (cover_in N r) × Forward N (cover_in N r) × Meets N (cover_in N r) r.period × HasLags r (cover_in N r)
