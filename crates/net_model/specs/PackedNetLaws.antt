-- Laws of a net in one slice: the net is the same where what was read stays.
use Rattle.std.specs.Prelude.{◌≡◌, refl, ℕ, ◌+◌, ◌-◌, ◌*◌, ◌≤◌, ◌<◌, length, get_or, take, drop}
use Rattle.std.proofs.Common.{sym, ap, subst, ◌∙◌, arith, length-drop, get_or-drop}
use Rattle.std.proofs.Math.Path.{ap₂}
use mathlib.Core.List.{List}
use Rattle.sequences.specs.Behind.{behind}
use Rattle.sequences.specs.Listed.{listed_same, listed-first}
use Rattle.sequences.specs.Stored.{Stored}
use Rattle.net_model.specs.Net.{Net, Pin, Gate}
use Rattle.net_model.specs.Arrays.{net_in, pins_in, gates_in, stride}
use Rattle.net_model.specs.ArrayLaws.{pin_at, gate_at, pins-listed, gates-listed}
use Rattle.net_model.specs.Wired.{Wired}
use Rattle.net_model.specs.PackedNet.{first_at, sources_at, counts_at, nexts_at, heads_at, order_at, tops_at, outs_at, delays_at, packed_room, packed_net, Apart, NetKept}

-- a part up to the end
pub length_part : (net : List ℕ) (a n : ℕ) → a + n ≤ length net → n ≤ length (drop a net)
length_part net a n h = omega (arith, h, length-drop a net)

-- what holds of what is behind a place holds of the part lent, and the other way round
pub to_part : (P : List ℕ → Type 0) (net : List ℕ) (a : ℕ) → P (drop a net) → P (take (length net - a) (drop a net))
to_part P net a = subst P (sym (behind net a))

pub from-part : (P : List ℕ → Type 0) (net : List ℕ) (a : ℕ) → P (take (length net - a) (drop a net)) → P (drop a net)
from-part P net a = subst P (behind net a)

-- numbers of a part
pub part_same : (net net' : List ℕ) (a i : ℕ) → get_or net' (a + i) 0 ≡ get_or net (a + i) 0 → get_or (drop a net') i 0 ≡ get_or (drop a net) i 0
part_same net net' a i e = get_or-drop a net' i 0 ∙ e ∙ sym (get_or-drop a net i 0)

-- pins whose sources and counts are the same
pub pins-same : (net net' : List ℕ) (a b at n : ℕ) → ((j : ℕ) → j < n → get_or net' (a + (at + j)) 0 ≡ get_or net (a + (at + j)) 0)
    → ((j : ℕ) → j < n → get_or net' (b + (at + j)) 0 ≡ get_or net (b + (at + j)) 0) → pins_in (drop a net') (drop b net') at n ≡ pins_in (drop a net) (drop b net) at n
pins-same net net' a b at n f g =
    listed_same (pins-listed (drop a net') (drop b net')) (pins-listed (drop a net) (drop b net)) at at n
    (λ j h. ap₂ (λ (x y : ℕ). record { src = x; count = y }) (part_same net net' a (at + j) (f j h)) (part_same net net' b (at + j) (g j h)))

-- the first n gates, where their numbers are the same
module _ (gates n : ℕ) (net net' : List ℕ) (few : (i : ℕ) → i < n → get_or net i 0 ≤ stride) (pin : (i : ℕ) → i < n → get_or net' i 0 ≡ get_or net i 0)
    (source : (m : ℕ) → m < stride * n → get_or net' (sources_at gates + m) 0 ≡ get_or net (sources_at gates + m) 0)
    (count : (m : ℕ) → m < stride * n → get_or net' (counts_at gates + m) 0 ≡ get_or net (counts_at gates + m) 0) where
  pub list_same : (i : ℕ) → i < n → pins_in (drop (sources_at gates) net') (drop (counts_at gates) net') (stride * i) (get_or net' i 0)
      ≡ pins_in (drop (sources_at gates) net) (drop (counts_at gates) net) (stride * i) (get_or net i 0)
  list_same i h =
      let most = few i h in
      ap (pins_in (drop (sources_at gates) net') (drop (counts_at gates) net') (stride * i)) (pin i h)
      ∙ pins-same net net' (sources_at gates) (counts_at gates) (stride * i) (get_or net i 0) (λ j l. source (stride * i + j) (omega (arith, most, l, h)))
      (λ j l. count (stride * i + j) (omega (arith, most, l, h)))

  pub gates-same : (ts ts' : List ℕ) → ((i : ℕ) → i < n → get_or ts' i 0 ≡ get_or ts i 0)
      → gates_in net' (drop (sources_at gates) net') (drop (counts_at gates) net') ts' 0 n ≡ gates_in net (drop (sources_at gates) net) (drop (counts_at gates) net) ts 0 n
  gates-same ts ts' table =
      listed-first (gates-listed net' (drop (sources_at gates) net') (drop (counts_at gates) net') ts') (gates-listed net (drop (sources_at gates) net) (drop (counts_at gates) net) ts) n
      (λ i h. ap₂ (λ (l : List Pin) (t : ℕ). record { pins = l; table = t }) (list_same i h) (table i h))

-- ---- what stays

pub kept_refl : (I G : ℕ) (net : List ℕ) → NetKept I G net net
kept_refl I G net = record { pins = λ i h. refl; wires = λ i h l. refl; outs = λ i h. refl; long = refl }

pub kept_trans : {I G : ℕ} {a b c : List ℕ} → NetKept I G a b → NetKept I G b c → NetKept I G a c
kept_trans p q = record {
  pins = λ i h. q.pins i h ∙ p.pins i h;
  wires = λ i h l. q.wires i h l ∙ p.wires i h l;
  outs = λ i h. q.outs i h ∙ p.outs i h;
  long = q.long ∙ p.long;
}

-- first pins written
pub kept-first : {I G : ℕ} {old new : List ℕ} → Apart (first_at G) (sources_at G) old new → NetKept I G old new
kept-first w = record { pins = w.below; wires = λ i h l. w.above i h; outs = λ i h. w.above i (omega (arith, h)); long = w.long }

-- numbers written between the counts and the outputs
pub kept-between : {I G : ℕ} {old new : List ℕ} {a b : ℕ} → nexts_at G ≤ a → b ≤ outs_at I G → Apart a b old new → NetKept I G old new
kept-between h l w = record {
  pins = λ i m. w.below i (omega (arith, h, m));
  wires = λ i m n. w.below i (omega (arith, h, n));
  outs = λ i m. w.above i (omega (arith, l, m));
  long = w.long;
}

pub apart-refl : (a b : ℕ) (net : List ℕ) → Apart a b net net
apart-refl a b net = record { below = λ i h. refl; above = λ i h. refl; long = refl }

pub stored-apart : {old new given : List ℕ} {at n : ℕ} → Stored old at given n new → Apart at (at + n) old new
stored-apart w = record { below = w.below; above = w.above; long = w.long }

module _ {I G : ℕ} {net net' : List ℕ} (k : NetKept I G net net') where
  source-kept : (m : ℕ) → m < stride * G → get_or net' (sources_at G + m) 0 ≡ get_or net (sources_at G + m) 0
  source-kept m h = k.wires (sources_at G + m) (omega arith) (omega (arith, h))

  count_kept : (m : ℕ) → m < stride * G → get_or net' (counts_at G + m) 0 ≡ get_or net (counts_at G + m) 0
  count_kept m h = k.wires (counts_at G + m) (omega arith) (omega (arith, h))

  pub kept-source : (m : ℕ) → m < stride * G → get_or (drop (sources_at G) net') m 0 ≡ get_or (drop (sources_at G) net) m 0
  kept-source m h = part_same net net' (sources_at G) m (source-kept m h)

  pub kept-count : (m : ℕ) → m < stride * G → get_or (drop (counts_at G) net') m 0 ≡ get_or (drop (counts_at G) net) m 0
  kept-count m h = part_same net net' (counts_at G) m (count_kept m h)

  pub kept_out : (a : ℕ) → outs_at I G ≤ a → (i : ℕ) → get_or (drop a net') i 0 ≡ get_or (drop a net) i 0
  kept_out a h i = part_same net net' a i (k.outs (a + i) (omega (arith, h)))

  pub kept-outputs : (O n : ℕ) → pins_in (drop (outs_at I G) net') (drop (delays_at I G O) net') 0 n ≡ pins_in (drop (outs_at I G) net) (drop (delays_at I G O) net) 0 n
  kept-outputs O n = pins-same net net' (outs_at I G) (delays_at I G O) 0 n (λ j h. k.outs (outs_at I G + (0 + j)) (omega arith)) (λ j h. k.outs (delays_at I G O + (0 + j)) (omega arith))

  module _ (few : (g : ℕ) → g < G → get_or net g 0 ≤ stride) where
    pub kept-wired : {N : Net} → Wired N I G net (drop (sources_at G) net) (drop (counts_at G) net) → Wired N I G net' (drop (sources_at G) net') (drop (counts_at G) net')
    kept-wired w = record { inputs = w.inputs; gates = w.gates; wiring = λ g h. w.wiring g h ∙ sym (list_same G G net net' few k.pins source-kept count_kept g h) }

    -- **the net is the same**
    pub kept-net : (O : ℕ) (ts : List ℕ) → net_in (packed_net I G O net' ts) ≡ net_in (packed_net I G O net ts)
    unfolding net_in
    kept-net O ts =
        ap₂ (λ (gs : List Gate) (os : List Pin). record { inputs = I; gates = gs; outputs = os }) (gates-same G G net net' few k.pins source-kept count_kept ts ts (λ i h. refl)) (kept-outputs O O)
