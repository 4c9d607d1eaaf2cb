-- Definitions: document 02, E2, as one record.
use Rattle.std.specs.Prelude.{◌≡◌, ℕ, ◌≤◌, ◌<◌}
use Rattle.net_model.specs.Net.{Net, size}
use Rattle.cover_theory.specs.Covers.{Cover, IsCover}
use Rattle.cover_theory.specs.Key.{Key, entries, as_cover}
use Rattle.cover_theory.specs.SharedRegisters.{longest, over_nodes, cover_taps, cover_registers, Reader, Largest, Serves}
use Rattle.cover_records.specs.Listing.{register_count}

-- **E2**: one field for each of its sentences.
pub record SharedCount : Type 0 where
  -- "The count becomes, for each node, the largest number on any connection or output it feeds, added over all nodes.": for every cover, nodes being inputs and gates
  pub count : (N : Net) (K : Cover) → cover_registers N K ≡ over_nodes (λ u. longest u (cover_taps N K)) (size N)
  pub largest : (N : Net) (k : ℕ) (K : Cover) → IsCover N k K → (u : ℕ) → Largest N K u (longest u (cover_taps N K))
  -- what the listing prints for a written cover is that count
  pub listed : (N : Net) (k φ : ℕ) (K : Key N k φ) → register_count N (entries K) ≡ cover_registers N (as_cover N (entries K))
  -- "Our chips tap one chain of registers for all readers of a signal.": one chain of that length behind each node, tapped, serves every reader; where a chain is shorter
  -- some reader is not served; and no chains that serve all have fewer registers together
  pub served : (N : Net) (K : Cover) → Serves (λ u. longest u (cover_taps N K)) (Reader N K)
  pub none-shorter : (N : Net) (K : Cover) (chain : ℕ → ℕ) (u : ℕ) → chain u < longest u (cover_taps N K) → ¬ Serves chain (Reader N K)
  pub fewest : (N : Net) (K : Cover) (chain : ℕ → ℕ) → Serves chain (Reader N K) → cover_registers N K ≤ over_nodes chain (size N)
