-- Definitions: what reading a section promises.
use Rattle.std.specs.Prelude.{◌≡◌, List, ℕ, drop, Result, MatchResult}
use Rattle.refusals.specs.declared.Refusal.{Refusal}
use Rattle.refusals.specs.Refusals.{number_of}
use Rattle.net_bytes.specs.Reading.{Reader, times, got, refused}
use Rattle.net_bytes.specs.Walk.{net_byte, is_past}

-- n bytes of a section
abbrev pub pasts : ℕ → Reader (List ℕ)
pasts n = times n (net_byte 6 is_past)

-- they are read from place `at` on; which they are follows from the places (`net_bytes/SectionLaws.times-bytes`)
abbrev pub SectionRead : List ℕ → ℕ → ℕ → Result ℕ Refusal → Type 0
SectionRead s at n r =
    MatchResult r (λ end. (l : List ℕ) × (pasts n (drop at s) ≡ got l (drop end s))) (λ e. pasts n (drop at s) ≡ refused (number_of e))
