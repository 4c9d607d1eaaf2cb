-- Definitions: bytes put into an area, one part behind the other.
use Rattle.std.specs.Prelude.{◌≡◌, List, [], ℕ, ◌+◌, ◌≤◌, length}
use Rattle.std.proofs.lemmas.List.Edits.{sets}
use Rattle.cover_records.specs.Listing.{digit_text, reversed, hex_low}

-- bytes put from place `at` on, at most so many; the place behind them is told
pub record Put (most at : ℕ) (bytes before after : List ℕ) (r : ℕ) : Type 0 where
  pub ends : r ≡ at + length bytes
  pub few : length bytes ≤ most
  pub area : after ≡ sets before at bytes

-- n hexadecimal digits
unfoldable pub hex_text : ℕ → ℕ → List ℕ
hex_text n w = digit_text (reversed (hex_low n w) [])
