-- Definitions: the arrays of a net in one slice of numbers, one behind the other: pins, first pins, sources, counts, the next places, the heads, the order, the tops, and of
-- the outputs sources and registers. Its tables stand apart.
use Rattle.std.specs.Prelude.{◌≡◌, List, ℕ, ◌+◌, ◌*◌, ◌≤◌, ◌<◌, length, get_or, drop}
use Rattle.limits.specs.Limits.{most_pins}
use Rattle.net_model.specs.Arrays.{Arrays}

-- where the parts begin
abbrev pub first_at : ℕ → ℕ
first_at gates = gates

abbrev pub sources_at : ℕ → ℕ
sources_at gates = 2 * gates

abbrev pub counts_at : ℕ → ℕ
counts_at gates = (2 + most_pins) * gates

abbrev pub nexts_at : ℕ → ℕ
nexts_at gates = (2 + 2 * most_pins) * gates

abbrev pub heads_at : ℕ → ℕ
heads_at gates = (2 + 3 * most_pins) * gates

abbrev pub order_at : ℕ → ℕ → ℕ
order_at inputs gates = heads_at gates + (inputs + gates)

abbrev pub tops_at : ℕ → ℕ → ℕ
tops_at inputs gates = order_at inputs gates + gates

abbrev pub outs_at : ℕ → ℕ → ℕ
outs_at inputs gates = tops_at inputs gates + gates

abbrev pub delays_at : ℕ → ℕ → ℕ → ℕ
delays_at inputs gates outputs = outs_at inputs gates + outputs

-- the numbers of all parts
abbrev pub packed_room : ℕ → ℕ → ℕ → ℕ
packed_room inputs gates outputs = delays_at inputs gates outputs + outputs

-- the arrays of a net in a slice of numbers and one of tables
abbrev pub packed_net : ℕ → ℕ → ℕ → List ℕ → List ℕ → Arrays
packed_net inputs gates outputs net tables = record {
  inputs = inputs;
  gates = gates;
  outputs = outputs;
  pins = net;
  sources = drop (sources_at gates) net;
  counts = drop (counts_at gates) net;
  tables = tables;
  out_sources = drop (outs_at inputs gates) net;
  out_counts = drop (delays_at inputs gates outputs) net;
}

-- all but the places from a up to b stays
pub record Apart (a b : ℕ) (old new : List ℕ) : Type 0 where
  pub below : (i : ℕ) → i < a → get_or new i 0 ≡ get_or old i 0
  pub above : (i : ℕ) → b ≤ i → get_or new i 0 ≡ get_or old i 0
  pub long : length new ≡ length old

-- what was read stays: pins, sources and counts, and what stands behind the tops
pub record NetKept (inputs gates : ℕ) (old new : List ℕ) : Type 0 where
  pub pins : (i : ℕ) → i < gates → get_or new i 0 ≡ get_or old i 0
  pub wires : (i : ℕ) → sources_at gates ≤ i → i < nexts_at gates → get_or new i 0 ≡ get_or old i 0
  pub outs : (i : ℕ) → outs_at inputs gates ≤ i → get_or new i 0 ≡ get_or old i 0
  pub long : length new ≡ length old
