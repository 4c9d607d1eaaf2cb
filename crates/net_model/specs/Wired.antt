-- Definitions: a net whose wiring is kept in arrays, whatever its tables and outputs are kept in. Gate g, counted from 0, is node inputs + g.
use Rattle.std.specs.Prelude.{◌≡◌, List, ℕ, ◌+◌, ◌*◌, ◌≤◌, ◌<◌, length, get_or}
use Rattle.net_model.specs.Net.{Net, pins}
use Rattle.net_model.specs.Arrays.{pins_in, stride}

-- The wiring of G gates in arrays: at most `stride` pins a gate, and each source is a node.
pub record Wires (I G : ℕ) (ps sources counts : List ℕ) : Type 0 where
  pub sizes : G ≤ length ps
  pub room : stride * G ≤ length sources
  pub room' : stride * G ≤ length counts
  pub pins : (g : ℕ) → g < G → get_or ps g 0 ≤ stride
  pub node : (g j : ℕ) → g < G → j < get_or ps g 0 → get_or sources (stride * g + j) 0 < I + G

-- N has this wiring
pub record Wired (N : Net) (I G : ℕ) (counted sources counts : List ℕ) : Type 0 where
  pub inputs : N.inputs ≡ I
  pub gates : length N.gates ≡ G
  pub wiring : (g : ℕ) → g < G → pins N (I + g) ≡ pins_in sources counts (stride * g) (get_or counted g 0)
