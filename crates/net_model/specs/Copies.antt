-- Definitions: copies, cones, leaves and cuts (document 01, "Copies, cuts, covers").
use Rattle.std.specs.Prelude.{◌≡◌, List, [], ◌∷◌, ◌⊎◌, ℕ, ◌+◌, ◌≤◌, ◌<◌, length}
use Rattle.sequences.specs.Member.{◌∈◌}
use Rattle.net_model.specs.Net.{Net, Pin, IsGate, pins}

-- "Write u:d for node u seen d registers back."
pub record Copy : Type 0 where
  pub node : ℕ
  pub back : ℕ

abbrev pub copy : ℕ → ℕ → Copy
copy u d = record { node = u; back = d }

-- "The copy u:d of a gate is fed, for each pin with source s and count w, by s:(d+w)": y feeds x.
pub record Feeds (N : Net) (y x : Copy) : Type 0 where
  pub gate : IsGate N x.node
  pub pin : Pin
  pub is_pin : pin ∈ pins N x.node
  pub source : y.node ≡ pin.src
  pub depth : y.back ≡ x.back + pin.count

-- "leads to v:0 inside the cone": from c, a member of C, to r by feeds whose every copy is in C.
pub data Leads (N : Net) (C : List Copy) (r : Copy) : Copy → Type 0 where
  stop : {c : Copy} → c ≡ r → Leads N C r c
  step : {c : Copy} (x : Copy) → x ∈ C → Feeds N c x → Leads N C r x → Leads N C r c

-- "A cone of gate v is a finite set of gate copies with v:0 in it"; and for a cut "every member leads to v:0 inside the cone".
pub record IsCone (N : Net) (v : ℕ) (C : List Copy) : Type 0 where
  pub gates : (c : Copy) → c ∈ C → IsGate N c.node
  pub root : copy v 0 ∈ C
  pub leads : (c : Copy) → c ∈ C → Leads N C (copy v 0) c

-- "Its leaves are the copies outside that feed it."
pub record Leaf (N : Net) (C : List Copy) (y : Copy) : Type 0 where
  pub outside : ¬ (y ∈ C)
  pub member : Copy
  pub is_member : member ∈ C
  pub feeds : Feeds N y member

-- "leaves rise by node, then by d"
abbrev pub Before : Copy → Copy → Type 0
Before a b = (a.node < b.node) ⊎ ((a.node ≡ b.node) × (a.back < b.back))

abbrev pub Rising : List Copy → Type 0
Rising [] = Unit {0}
Rising (a ∷ l) = ((b : Copy) → b ∈ l → Before a b) × Rising l

-- L lists the leaves of C, each once, rising.
pub record IsLeaves (N : Net) (C L : List Copy) : Type 0 where
  pub rising : Rising L
  pub sound : (y : Copy) → y ∈ L → Leaf N C y
  pub complete : (y : Copy) → Leaf N C y → y ∈ L

-- "A cut is the leaf set of a cone ... It is a k-cut if it has at most k leaves; u:0 and u:1 are two leaves."
-- `Allowed` restricts the leaves and `Inside` the cone's members: document 01's heights use the first, a border on d the second.
pub record Cut (N : Net) (k v : ℕ) (Allowed Inside : Copy → Type 0) : Type 0 where
  pub cone : List Copy
  pub leaves : List Copy
  pub is_cone : IsCone N v cone
  pub is_leaves : IsLeaves N cone leaves
  pub few : length leaves ≤ k
  pub allowed : (y : Copy) → y ∈ leaves → Allowed y
  pub inside : (x : Copy) → x ∈ cone → Inside x

-- no restriction
abbrev pub Any : Copy → Type 0
Any c = Unit {0}

-- L is a k-cut of v.
pub record IsCut (N : Net) (k v : ℕ) (L : List Copy) : Type 0 where
  pub cone : List Copy
  pub is_cone : IsCone N v cone
  pub is_leaves : IsLeaves N cone L
  pub few : length L ≤ k

-- "one with fewest leaves; of these, that whose cone lies inside all the others' cones"
pub record Chosen (N : Net) (k v : ℕ) (Allowed Inside : Copy → Type 0) (K : Cut N k v Allowed Inside) : Type 0 where
  pub fewest : (J : Cut N k v Allowed Inside) → length K.leaves ≤ length J.leaves
  pub smallest :
      (J : Cut N k v Allowed Inside) → length J.leaves ≡ length K.leaves → (x : Copy) → x ∈ K.cone → x ∈ J.cone
