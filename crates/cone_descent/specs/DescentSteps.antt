-- Definitions: what the steps of the walk ask and tell.
use Rattle.std.specs.Prelude.{◌≡◌, List, ℕ, zero, suc, ◌+◌, ◌-◌, ◌*◌, ◌≤◌, ◌<◌, length, get_or, set, Option, Some, None}
use Rattle.sequences.specs.Member.{◌∈◌}
use Rattle.net_model.specs.Arrays.{stride, copy_at}
use Rattle.net_model.specs.Copies.{Copy, Rising}
use Rattle.cone_copies.specs.CopyLists.{copies_in}
use Rattle.cone_descent.specs.declared.Met.{Met}
use Rattle.cone_descent.specs.declared.Met.TheVariants as met
use Rattle.cone_descent.specs.declared.Stack.{Stack}
use Rattle.cone_descent.specs.Descent.{nobody, place, Clear, Field, pin_of, pins_of, State, Denied}

-- A copy y met by a pin.
pub data Meet (I border room size : ℕ) (L : List Copy) (y : Copy) (mark : ℕ) (seen : List ℕ) (r : Met) (seen' : List ℕ) : Type 0 where
  leaf : r ≡ met.Known → (i : ℕ) → i < length L → get_or L i nobody ≡ y → seen' ≡ set seen i 1 → Meet I border room size L y mark seen r seen'
  input : r ≡ met.NoCut → seen' ≡ seen → ¬ (y ∈ L) → y.node < I → Meet I border room size L y mark seen r seen'
  beyond : r ≡ met.NoCut → seen' ≡ seen → ¬ (y ∈ L) → I ≤ y.node → border < y.back → Meet I border room size L y mark seen r seen'
  known : r ≡ met.Known → seen' ≡ seen → ¬ (mark ≡ 0) → Meet I border room size L y mark seen r seen'
  full : r ≡ met.NoCut → seen' ≡ seen → ¬ (y ∈ L) → I ≤ y.node → mark ≡ 0 → room ≤ size → Meet I border room size L y mark seen r seen'
  fresh : r ≡ met.New → seen' ≡ seen → ¬ (y ∈ L) → I ≤ y.node → y.back ≤ border → mark ≡ 0 → size < room → Meet I border room size L y mark seen r seen'

-- the slices of the stack are as long
pub record Long (old new : Stack) : Type 0 where
  pub nodes : length new.nodes.now ≡ length old.nodes.now
  pub backs : length new.backs.now ≡ length old.backs.now
  pub turns : length new.turns.now ≡ length old.turns.now

-- n leaves that rise, and a byte for each
pub record Leaves (ln lb : List ℕ) (n : ℕ) (seen : List ℕ) : Type 0 where
  pub nodes : n ≤ length ln
  pub backs : n ≤ length lb
  pub touched : n ≤ length seen
  pub rising : Rising (copies_in ln lb n)

-- the next pin of the copy at place d, the top of the stack, can be read, and what it reads has a place in the table
pub record TopPin (I width room len : ℕ) (so co hs bs ts : List ℕ) (d : ℕ) (marks : List ℕ) : Type 0 where
  pub fits : len + (d + 1) ≤ room
  pub nodes : length hs ≡ room
  pub backs : length bs ≡ room
  pub turns : length ts ≡ room
  pub low : I ≤ get_or hs d 0
  pub source : stride * (get_or hs d 0 - I) + get_or ts d 0 < length so
  pub count : stride * (get_or hs d 0 - I) + get_or ts d 0 < length co
  pub table : place width (pin_of I so co (copy_at hs bs d) (get_or ts d 0)) < length marks

-- pins not passed, and what is left to do: no more copies than `room` are met
unfoldable pub rest : List ℕ → ℕ → ℕ
rest ts zero = 0
rest ts (suc d) = rest ts d + (suc stride - get_or ts d 0)

abbrev pub work : ℕ → ℕ → List ℕ → ℕ → ℕ
work room size ts depth = (room - size) * (stride + 2) + rest ts depth

-- one pin of the top copy passed: r is the new depth, or none where there is no cut
pub data Advanced (I G width border room : ℕ) (ps so co : List ℕ) (L : List Copy) (v : ℕ) (us ds : List ℕ) (len : ℕ) (ts : List ℕ) (depth : ℕ) (r : Option ℕ) (hs' bs' ts' marks' seen' : List ℕ) : Type 0 where
  denied : r ≡ None → Denied I G border ps so co L v → State I G width border ps so co L v us ds len hs' bs' ts' depth marks' seen'
      → Advanced I G width border room ps so co L v us ds len ts depth r hs' bs' ts' marks' seen'
  moved : (depth' : ℕ) → r ≡ Some depth' → len + depth' ≤ room → work room (len + depth') ts' depth' < work room (len + depth) ts depth → State I G width border ps so co L v us ds len hs' bs' ts' depth' marks' seen'
      → Advanced I G width border room ps so co L v us ds len ts depth r hs' bs' ts' marks' seen'

-- so for every walk that is in this state
abbrev pub Advances : ℕ → ℕ → ℕ → ℕ → List ℕ → List ℕ → List Copy → ℕ → List ℕ → List ℕ → List ℕ → ℕ → List ℕ → List ℕ → Option ℕ → List ℕ → List ℕ → List ℕ → List ℕ → List ℕ → Type 0
Advances I width border room so co L len hs bs ts d marks seen r hs' bs' ts' marks' seen' = (G v : ℕ) (ps us ds : List ℕ) → Field I G width border ps so co marks → length L * G ≤ room
    → get_or ts d 0 < pins_of I ps (copy_at hs bs d) → State I G width border ps so co L v us ds len hs bs ts (d + 1) marks seen
    → Advanced I G width border room ps so co L v us ds len ts (d + 1) r hs' bs' ts' marks' seen'

-- the walk on its way, in arrays
pub record Turn (I G width border room : ℕ) (ps so co ln lb : List ℕ) (n v : ℕ) (us ds : List ℕ) (len : ℕ) (hs bs ts : List ℕ) (depth : ℕ) (seen marks : List ℕ) : Type 0 where
  pub field : Field I G width border ps so co marks
  pub leaves : Leaves ln lb n seen
  pub limit : n * G ≤ room
  pub list_nodes : length us ≡ room
  pub list_backs : length ds ≡ room
  pub nodes : length hs ≡ room
  pub backs : length bs ≡ room
  pub turns : length ts ≡ room
  pub fits : len + depth ≤ room
  pub state : State I G width border ps so co (copies_in ln lb n) v us ds len hs bs ts depth marks seen

-- the whole walk: the stack is empty, or there is no cut
pub record Ran (I G width border room : ℕ) (ps so co ln lb : List ℕ) (n v : ℕ) (us ds : List ℕ) (len : ℕ) (hs bs ts : List ℕ) (depth : ℕ) (seen marks : List ℕ) : Type 0 where
  pub turn : Turn I G width border room ps so co ln lb n v us ds len hs bs ts depth seen marks
  pub denied : 1 ≤ depth → Denied I G border ps so co (copies_in ln lb n) v

-- what the whole walk asks: tables without marks
pub record Asked (I G width border room : ℕ) (ps so co ln lb : List ℕ) (n g : ℕ) (us ds hs bs ts seen marks : List ℕ) : Type 0 where
  pub field : Field I G width border ps so co marks
  pub leaves : Leaves ln lb n seen
  pub limit : n * G ≤ room
  pub some : 1 ≤ room
  pub list_nodes : length us ≡ room
  pub list_backs : length ds ≡ room
  pub nodes : length hs ≡ room
  pub backs : length bs ≡ room
  pub turns : length ts ≡ room
  pub root : g < G
  pub clear : Clear marks
  pub unseen : Clear seen
