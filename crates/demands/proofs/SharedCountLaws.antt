-- Laws of document 02, E2: the count that the listing prints is that of the cover which the record describes, and it is the right number of registers where readers share a chain.
use Rattle.std.specs.Prelude.{◌≡◌, refl, List, ◌≤◌}
use Rattle.std.proofs.Math.Path.{ap}
use Rattle.sequences.specs.Member.{◌∈◌}
use Rattle.net_model.specs.Net.{Net, size}
use Rattle.cover_theory.specs.Key.{Entry, entries, as_cover}
use Rattle.cover_period.specs.KeyOf.{key-labelled}
use Rattle.cover_theory.specs.SharedRegisters.{shared_count, cover_taps, cover_registers}
use Rattle.cover_theory.proofs.SharedLaws.{longest_serves, shorter-fails, count-least}
use Rattle.cover_theory.proofs.SharedCovers.{reader_tap, tap_reader, cover-largest}
use Rattle.demands.specs.SharedCount.{SharedCount}
use Rattle.cover_records.specs.Listing.{register_count}
use Rattle.cover_registers.specs.CoverTaps.{taps_are}

module _ (N : Net) (es : List Entry) (gates : (e : Entry) → e ∈ es → N.inputs ≤ e.root) where
  -- **The count that the listing prints is the cover's.**
  pub registers-counted : register_count N es ≡ cover_registers N (as_cover N es)
  unfolding register_count cover_registers
  registers-counted = ap (shared_count (size N)) (taps_are N es gates)

-- **All of it is proved.**
pub shared-count : SharedCount
unfolding cover_registers shared_count
shared-count = record {
  count = λ N K. refl;
  largest = λ N k K. cover-largest N K;
  listed = λ N k φ K. registers-counted N (entries K) (λ e m. ((key-labelled K).gate e m).low);
  served = λ N K t r. longest_serves (cover_taps N K) t (reader_tap N K r);
  none-shorter = λ N K chain u l s. shorter-fails chain (cover_taps N K) u l (λ t m. s t (tap_reader N K m));
  fewest = λ N K chain s. count-least chain (cover_taps N K) (λ t m. s t (tap_reader N K m)) (size N);
}
