-- Definitions: check 11 by marks: a gate is marked once it is read by an output or by a marked gate, and its mark falls; what the steps ask and tell.
use Rattle.std.specs.Prelude.{◌≡◌, Bool, true, List, ℕ, ◌+◌, ◌-◌, ◌*◌, ◌≤◌, ◌<◌, length, get_or, set}
use Rattle.limits.specs.Limits.{most_count}
use Rattle.net_model.specs.Net.{Net}
use Rattle.net_model.specs.Arrays.{stride, pins_in}
use Rattle.net_model.specs.Wired.{Wired}
use Rattle.net_model.specs.Checks.{AllLeading}
use Rattle.label_theory.proofs.Pins.{OutPath}
use Rattle.sequences.specs.Tests.{Tells}
use Rattle.net_marks.specs.Marks.{Marked, Low, Above, Fallen, unmarked}

-- the outputs of a net, kept in arrays
abbrev pub Ended : Net → ℕ → List ℕ → List ℕ → Type 0
Ended N O os oc = N.outputs ≡ pins_in os oc 0 O

-- above every mark
abbrev pub top_of : ℕ → ℕ
top_of G = 2 + most_count * (1 + G)

pub record Heading (I G O : ℕ) (ps sources counts os oc m : List ℕ) : Type 0 where
  pub size : length m ≡ G
  pub bound : (g : ℕ) → get_or m g 0 + most_count * unmarked m ≤ 1 + most_count * (1 + G)
  pub path : (N : Net) → Wired N I G ps sources counts → Ended N O os oc → (g : ℕ) → g < G → Marked m g → OutPath N (I + g) (get_or m g 0 - 1)

-- node u is known to lead to an output, with value v for its mark
abbrev pub Heads : ℕ → ℕ → ℕ → List ℕ → List ℕ → List ℕ → List ℕ → List ℕ → ℕ → ℕ → Type 0
Heads I G O ps sources counts os oc u v = (N : Net) → Wired N I G ps sources counts → Ended N O os oc → OutPath N u (v - 1)

pub record Push (I G O : ℕ) (ps sources counts os oc m m' : List ℕ) (u v r : ℕ) : Type 0 where
  pub fallen : Fallen (top_of G) m m' r
  pub heading : Heading I G O ps sources counts os oc m'
  pub low : Low I m' u v

-- each source of gate g's first n pins is low: at most its count above `base`
abbrev pub Pushed : ℕ → List ℕ → List ℕ → List ℕ → ℕ → ℕ → ℕ → Type 0
Pushed I sources counts m g n base = (j : ℕ) → j < n → Low I m (get_or sources (stride * g + j) 0) (base + get_or counts (stride * g + j) 0)

pub record PushPins (I G O : ℕ) (ps sources counts os oc m m' : List ℕ) (g n r : ℕ) : Type 0 where
  pub fallen : Fallen (top_of G) m m' r
  pub heading : Heading I G O ps sources counts os oc m'
  pub pushed : Pushed I sources counts m' g n (get_or m g 0)

pub record PushSweep (I G O : ℕ) (ps sources counts os oc m m' : List ℕ) (n r : ℕ) : Type 0 where
  pub fallen : Fallen (top_of G) m m' r
  pub heading : Heading I G O ps sources counts os oc m'
  pub pushed : r ≡ 0 → (g : ℕ) → g < n → Marked m' g → Pushed I sources counts m' g (get_or ps g 0) (get_or m' g 0)

-- what pushing value v to node u does: nothing to a low node, else the mark is put
pub data Told (I : ℕ) (m m' : List ℕ) (u v r : ℕ) : Type 0 where
  kept : r ≡ 0 → m' ≡ m → Low I m u v → Told I m m' u v r
  put : r ≡ 1 → m' ≡ set m (u - I) v → I ≤ u → Above v (get_or m (u - I) 0) → Told I m m' u v r

-- the sources of the first n outputs are low
pub record PushOuts (I G O : ℕ) (ps sources counts os oc m m' : List ℕ) (n r : ℕ) : Type 0 where
  pub fallen : Fallen (top_of G) m m' r
  pub heading : Heading I G O ps sources counts os oc m'
  pub low : (i : ℕ) → i < n → Low I m' (get_or os i 0) (get_or oc i 0 + 1)

-- the end of the sweeps
pub record Headed (I G O : ℕ) (ps sources counts os oc m m' : List ℕ) : Type 0 where
  pub heading : Heading I G O ps sources counts os oc m'
  pub kept : (u v : ℕ) → Low I m u v → Low I m' u v
  pub pushed : (g : ℕ) → g < G → Marked m' g → Pushed I sources counts m' g (get_or ps g 0) (get_or m' g 0)

-- one gate of a sweep
pub record HeadGate (I G O : ℕ) (ps sources counts os oc m m' : List ℕ) (g r : ℕ) : Type 0 where
  pub fallen : Fallen (top_of G) m m' r
  pub heading : Heading I G O ps sources counts os oc m'
  pub pushed : r ≡ 0 → Marked m' g → Pushed I sources counts m' g (get_or ps g 0) (get_or m' g 0)

-- counts within the bound
pub record Counted (G O : ℕ) (ps counts os oc : List ℕ) (I : ℕ) : Type 0 where
  pub few : G ≤ 1000000
  pub count : (g j : ℕ) → g < G → j < get_or ps g 0 → get_or counts (stride * g + j) 0 ≤ most_count
  pub outs : O ≤ length os
  pub outs' : O ≤ length oc
  pub node : (i : ℕ) → i < O → get_or os i 0 < I + G
  pub out_count : (i : ℕ) → i < O → get_or oc i 0 ≤ most_count

pub record HeadCheck (I G O : ℕ) (ps sources counts os oc m : List ℕ) (r : Bool) : Type 0 where
  pub heading : Heading I G O ps sources counts os oc m
  pub tells : (N : Net) → Wired N I G ps sources counts → Ended N O os oc → Tells r (AllLeading N)
  pub marked : r ≡ true → (g : ℕ) → g < G → Marked m g
  pub fewest : (N : Net) → Wired N I G ps sources counts → Ended N O os oc → (g c : ℕ) → OutPath N (I + g) c → get_or m g 0 - 1 ≤ c
