-- Definitions: the full table of a LUT, 64 bits whatever its number of leaves (document 02, E4).
use Rattle.std.specs.Prelude.{List, ℕ, ◌%◌, ◌^◌, length}
use Rattle.net_model.specs.Net.{Net}
use Rattle.net_model.specs.Copies.{Copy, copy}
use Rattle.net_model.specs.Tables.{bit, value_in, pack}

-- "The chip's loader takes 64 bits for each LUT, a short table repeated until they are full.": the table t of a LUT with n leaves has 2^n bits.
unfoldable pub repeated_table : ℕ → ℕ → ℕ
repeated_table n t = pack (λ x. bit t (x % 2 ^ n)) 64

-- "the value of its root whatever stands on the unused inputs": bit x is the value of v:0 where leaf j carries bit j of x, for each of the 64 numbers that six inputs make; C is a cone of v with the leaves L.
unfoldable pub full_of : Net → ℕ → List Copy → List Copy → ℕ
full_of N v C L = pack (λ x. value_in N L x (length C) (copy v 0)) 64
