-- Laws of the chains, place by place.
use Rattle.std.specs.Prelude.{◌≡◌, ℕ, suc, ◌+◌, ◌*◌, ◌/◌, ◌%◌, ◌≤◌, ◌<◌, length, drop}
use Rattle.std.proofs.Common.{sym, subst, ◌∙◌, not-suc-le-zero, add-one, arith, length-drop, get_or-set_same, get_or-drop, drop-set-lt}
use Rattle.std.proofs.Math.Path.{ap}
use mathlib.Core.List.{List}
use Rattle.std.proofs.Math.Decide.{ℕ_discrete}
use Rattle.std.proofs.Math.ListN.{get_or, set, length-set}
use Rattle.std.proofs.Math.Seq.{get_or-set_other, drop-set-add}
use Rattle.limits.specs.Limits.{most_pins}
use Rattle.net_model.specs.PackedNet.{sources_at, nexts_at, heads_at, Apart}
use Rattle.net_model.specs.PackedNetLaws.{length_part, part_same}
use Rattle.cut_circuit.specs.Chains.{Chain, found, further, Chains}
use Rattle.cut_circuit.specs.Packed.{packed_of}
use Rattle.cut_circuit.specs.PinLinks.{LinkAsked, Linked, LinkedIn, PlaceAsked, PlaceLinked, Emptied}
use Rattle.cut_circuit.specs.declared.Extent.{Extent}

-- A chain below place n is not touched by a store there.
chain_kept : {nexts : List ℕ} {n : ℕ} (v : ℕ) → ((p : ℕ) → p < n → get_or nexts p 0 ≤ p) → {at p : ℕ} → at ≤ n → Chain nexts at p → Chain (set nexts n v) at p
chain_kept v f h (found e) = found e
chain_kept {nexts} {n} v f {p} h (further q e c) =
    let k : q < n = omega (arith, e, h) in
    further q e (subst (λ (z : ℕ). Chain (set nexts n v) z p) (sym (get_or-set_other nexts n q v 0 (λ i. omega (arith, i, k)))) (chain_kept v f (omega (arith, f q k, k)) c))

-- A chain of lists that agree up to a place.
chain_agree : (nexts nexts' : List ℕ) (n : ℕ) → ((p : ℕ) → p < n → get_or nexts' p 0 ≡ get_or nexts p 0) → ((p : ℕ) → p < n → get_or nexts p 0 ≤ p)
    → {at p : ℕ} → at ≤ n → Chain nexts at p → Chain nexts' at p
chain_agree nexts nexts' n f falls h (found e) = found e
chain_agree nexts nexts' n f falls {p} h (further q e c) =
    let k : q < n = omega (arith, e, h) in
    further q e (subst (λ (z : ℕ). Chain nexts' z p) (sym (f q k)) (chain_agree nexts nexts' n f falls (omega (arith, falls q k, k)) c))

-- Places linked in lists that agree.
linked-agree : {nodes gates : ℕ} {pins sources heads nexts pins' sources' heads' nexts' : List ℕ} {n : ℕ}
    → ((g j : ℕ) → g < gates → j < get_or pins g 0 → get_or sources (most_pins * g + j) 0 < nodes)
    → ((g : ℕ) → g < gates → get_or pins' g 0 ≡ get_or pins g 0)
    → ((p : ℕ) → p < n → get_or sources' p 0 ≡ get_or sources p 0)
    → ((u : ℕ) → u < nodes → get_or heads' u 0 ≡ get_or heads u 0)
    → ((p : ℕ) → p < n → get_or nexts' p 0 ≡ get_or nexts p 0)
    → Linked nodes gates pins sources heads nexts n → Linked nodes gates pins' sources' heads' nexts' n
linked-agree {pins = pins} {sources = sources} {heads = heads} {nexts = nexts} {sources' = sources'} {heads' = heads'} {nexts' = nexts'} {n = n} node pin source head next w = record {
  low = λ u h. omega (arith, head u h, w.low u h);
  falls = λ p h. omega (arith, next p h, w.falls p h);
  all = λ g j h b k.
      let b' : j < get_or pins g 0 = omega (arith, pin g h, b) in
      let p = most_pins * g + j in
      let u = get_or sources p 0 in
      let inside = node g j h b' in
      subst (λ (z : ℕ). Chain nexts' z p) (sym (ap (λ (v : ℕ). get_or heads' v 0) (source p k) ∙ head u inside))
      (chain_agree nexts nexts' n next w.falls (w.low u inside) (w.all g j h b' k));
}

module _ {nodes gates : ℕ} {pins sources heads nexts : List ℕ} {n : ℕ} (node : (g j : ℕ) → g < gates → j < get_or pins g 0 → get_or sources (most_pins * g + j) 0 < nodes)
    (w : Linked nodes gates pins sources heads nexts n) (room : n < length nexts) where
  falls_with : (v : ℕ) → v ≤ n → (p : ℕ) → p < n + 1 → get_or (set nexts n v) p 0 ≤ p
  falls_with v h p k = go (ℕ_discrete p n)
    where
      go : Dec (p ≡ n) → get_or (set nexts n v) p 0 ≤ p
      go (yes e) = omega (arith, ap (λ (q : ℕ). get_or (set nexts n v) q 0) e, get_or-set_same nexts n v 0 room, h, e)
      go (no m) = omega (arith, get_or-set_other nexts n p v 0 m, w.falls p (omega (arith, k, m)))

  kept : (v g j : ℕ) → g < gates → j < get_or pins g 0 → most_pins * g + j < n → Chain (set nexts n v) (get_or heads (get_or sources (most_pins * g + j) 0) 0) (most_pins * g + j)
  kept v g j b c k = chain_kept v w.falls (w.low (get_or sources (most_pins * g + j) 0) (node g j b c)) (w.all g j b c k)

  -- a place without a pin
  pub linked-skip : ((g j : ℕ) → g < gates → j < get_or pins g 0 → ¬ (most_pins * g + j ≡ n)) → Linked nodes gates pins sources heads (set nexts n 0) (n + 1)
  linked-skip none = record {
    low = λ s h. omega (arith, w.low s h);
    falls = falls_with 0 (omega arith);
    all = λ g j b c h. kept 0 g j b c (omega (arith, h, none g j b c));
  }

  -- a place with a pin that reads node u
  pub linked-pin : (u : ℕ) → u < nodes → u < length heads → get_or sources n 0 ≡ u → Linked nodes gates pins sources (set heads u (n + 1)) (set nexts n (get_or heads u 0)) (n + 1)
  linked-pin u h r e = record {
    low = λ s k. low s k (ℕ_discrete s u);
    falls = falls_with (get_or heads u 0) (w.low u h);
    all = λ g j b c k. all g j b c k (ℕ_discrete (most_pins * g + j) n) (ℕ_discrete (get_or sources (most_pins * g + j) 0) u);
  }
    where
      low : (s : ℕ) → s < nodes → Dec (s ≡ u) → get_or (set heads u (n + 1)) s 0 ≤ n + 1
      low s k (yes p) = omega (arith, ap (λ (q : ℕ). get_or (set heads u (n + 1)) q 0) p, get_or-set_same heads u (n + 1) 0 r)
      low s k (no m) = omega (arith, get_or-set_other heads u s (n + 1) 0 m, w.low s k)

      top : (s : ℕ) → s ≡ u → get_or (set heads u (n + 1)) s 0 ≡ suc n
      top s p = ap (λ (q : ℕ). get_or (set heads u (n + 1)) q 0) p ∙ (get_or-set_same heads u (n + 1) 0 r ∙ add-one n)

      all : (g j : ℕ) → g < gates → j < get_or pins g 0 → most_pins * g + j < n + 1 → Dec (most_pins * g + j ≡ n) → Dec (get_or sources (most_pins * g + j) 0 ≡ u) → Chain (set nexts n (get_or heads u 0)) (get_or (set heads u (n + 1)) (get_or sources (most_pins * g + j) 0) 0) (most_pins * g + j)
      all g j b c k (yes p) d = found (top (get_or sources (most_pins * g + j) 0) (ap (λ (q : ℕ). get_or sources q 0) p ∙ e) ∙ ap suc (sym p))
      all g j b c k (no m) (yes p) =
          further n (top (get_or sources (most_pins * g + j) 0) p)
          (subst (λ (z : ℕ). Chain (set nexts n (get_or heads u 0)) z (most_pins * g + j)) (ap (λ (q : ℕ). get_or heads q 0) p ∙ sym (get_or-set_same nexts n (get_or heads u 0) 0 room)) (kept (get_or heads u 0) g j b c (omega (arith, k, m))))
      all g j b c k (no m) (no q) =
          subst (λ (z : ℕ). Chain (set nexts n (get_or heads u 0)) z (most_pins * g + j)) (sym (get_or-set_other heads u (get_or sources (most_pins * g + j) 0) (n + 1) 0 q)) (kept (get_or heads u 0) g j b c (omega (arith, k, m)))

-- the gate and the pin of a place
pub place-one : (g j p : ℕ) → j < most_pins → most_pins * g + j ≡ p → (g ≡ p / most_pins) × (j ≡ p % most_pins)
place-one g j p h e = (omega arith, omega arith)

module _ {nodes gates : ℕ} {net : List ℕ} {p : ℕ} (a : PlaceAsked nodes gates net p) where
  -- the parts of the slice
  abbrev so : List ℕ
  so = drop (sources_at gates) net

  abbrev hs : List ℕ
  hs = drop (heads_at gates) net

  abbrev ns : List ℕ
  ns = drop (nexts_at gates) net

  -- the node that the place reads
  abbrev pub node_at : ℕ
  node_at = get_or net (sources_at gates + p) 0

  pub place-gate : p / most_pins < gates
  place-gate = omega (arith, a.below)

  source_is : get_or so p 0 ≡ node_at
  source_is = get_or-drop (sources_at gates) net p 0

  pub place-node : p % most_pins < get_or net (p / most_pins) 0 → node_at < nodes
  place-node h =
      let q : most_pins * (p / most_pins) + p % most_pins ≡ p = omega arith in
      omega (arith, a.sizes.node (p / most_pins) (p % most_pins) place-gate h, ap (λ (i : ℕ). get_or so i 0) q, source_is)

  next-room : p < length ns
  next-room = omega (arith, a.below, a.sizes.room, length-drop (nexts_at gates) net)

  -- a number written among the next places
  module _ (v : ℕ) where
    net₁ : List ℕ
    net₁ = set net (nexts_at gates + p) v

    first-apart : Apart (nexts_at gates) (heads_at gates) net net₁
    unfolding net₁
    first-apart = let b = a.below in record {
      below = λ i h. get_or-set_other net (nexts_at gates + p) i v 0 (omega arith);
      above = λ i h. get_or-set_other net (nexts_at gates + p) i v 0 (omega arith);
      long = length-set net (nexts_at gates + p) v;
    }

    first_next : drop (nexts_at gates) net₁ ≡ set ns p v
    unfolding net₁
    first_next = drop-set-add (nexts_at gates) net p v

  pub place-skip : get_or net (p / most_pins) 0 ≤ p % most_pins → PlaceLinked nodes gates net (set net (nexts_at gates + p) 0) p
  unfolding net₁
  place-skip h =
      let q = first-apart 0 in
      record {
        linked = linked-agree a.sizes.node (λ g l. q.below g (omega (arith, l))) (λ i l. part_same net (net₁ 0) (sources_at gates) i (q.below (sources_at gates + i) (omega (arith, l, a.below))))
            (λ u l. part_same net (net₁ 0) (heads_at gates) u (q.above (heads_at gates + u) (omega arith))) (λ i l. ap (λ (x : List ℕ). get_or x i 0) (first_next 0))
            (linked-skip a.sizes.node a.linked next-room none);
        apart = record { below = q.below; above = λ i l. q.above i (omega (arith, l)); long = q.long };
      }
    where
      none : (g j : ℕ) → g < gates → j < get_or net g 0 → ¬ (most_pins * g + j ≡ p)
      none g j b c e =
          let r = place-one g j p (omega (arith, c, a.sizes.few g b)) e in
          omega (arith, c, h, r.1, ap (λ (q : ℕ). get_or net q 0) r.0)

  module _ (h : p % most_pins < get_or net (p / most_pins) 0) where
    abbrev v : ℕ
    v = get_or net (heads_at gates + node_at) 0

    net₂ : List ℕ
    net₂ = set (net₁ v) (heads_at gates + node_at) (p + 1)

    inside : node_at < nodes
    inside = place-node h

    head-is : get_or hs node_at 0 ≡ v
    head-is = get_or-drop (heads_at gates) net node_at 0

    other : (i : ℕ) → ¬ (i ≡ heads_at gates + node_at) → get_or net₂ i 0 ≡ get_or (net₁ v) i 0
    unfolding net₂
    other i n = get_or-set_other (net₁ v) (heads_at gates + node_at) i (p + 1) 0 n

    both-apart : Apart (nexts_at gates) (heads_at gates + nodes) net net₂
    unfolding net₂
    both-apart = let q = first-apart v in let b = inside in record {
      below = λ i l. other i (omega arith) ∙ q.below i l;
      above = λ i l. other i (omega arith) ∙ q.above i (omega (arith, l));
      long = length-set (net₁ v) (heads_at gates + node_at) (p + 1) ∙ q.long;
    }

    heads_are : drop (heads_at gates) net₂ ≡ set hs node_at (p + 1)
    unfolding net₁ net₂
    heads_are = drop-set-add (heads_at gates) (net₁ v) node_at (p + 1) ∙ ap (λ (l : List ℕ). set l node_at (p + 1)) (drop-set-lt (heads_at gates) net (nexts_at gates + p) v (omega (arith, a.below)))

    nexts_are : (i : ℕ) → i < p + 1 → get_or (drop (nexts_at gates) net₂) i 0 ≡ get_or (set ns p v) i 0
    nexts_are i l = part_same (net₁ v) net₂ (nexts_at gates) i (other (nexts_at gates + i) (omega (arith, l, a.below))) ∙ ap (λ (x : List ℕ). get_or x i 0) (first_next v)

    step : Linked nodes gates net so (set hs node_at (p + 1)) (set ns p v) (p + 1)
    step =
        subst (λ (x : ℕ). Linked nodes gates net so (set hs node_at (p + 1)) (set ns p x) (p + 1)) head-is
        (linked-pin a.sizes.node a.linked next-room node_at inside (omega (arith, inside, a.sizes.room, length-drop (heads_at gates) net)) source_is)

    pub place-pin : PlaceLinked nodes gates net (set (set net (nexts_at gates + p) v) (heads_at gates + node_at) (p + 1)) p
    unfolding net₁ net₂
    place-pin = record {
      linked = linked-agree a.sizes.node (λ g l. both-apart.below g (omega (arith, l)))
          (λ i l. part_same net net₂ (sources_at gates) i (both-apart.below (sources_at gates + i) (omega (arith, l, a.below))))
          (λ u l. ap (λ (x : List ℕ). get_or x u 0) heads_are) nexts_are step;
      apart = both-apart;
    }

-- ---- the whole slice
pub apart_trans : {a b : ℕ} {x y z : List ℕ} → Apart a b x y → Apart a b y z → Apart a b x z
apart_trans p q = record { below = λ i h. q.below i h ∙ p.below i h; above = λ i h. q.above i h ∙ p.above i h; long = q.long ∙ p.long }

-- what is asked stays
pub asked-after : {nodes gates : ℕ} {net net' : List ℕ} → LinkAsked nodes gates net → Apart (nexts_at gates) (heads_at gates + nodes) net net' → LinkAsked nodes gates net'
asked-after {gates = gates} {net = net} {net' = net'} a w = record {
  room = omega (arith, a.room, w.long);
  few = λ g h. omega (arith, a.few g h, w.below g (omega (arith, h)));
  node = λ g j h b.
      let b' : j < get_or net g 0 = omega (arith, b, w.below g (omega (arith, h))) in
      omega (arith, a.node g j h b', part_same net net' (sources_at gates) (most_pins * g + j) (w.below (sources_at gates + (most_pins * g + j)) (omega (arith, h, b', a.few g h))));
}

-- no place is linked where no pin reads any node
pub linked-none : {nodes gates : ℕ} {net net' : List ℕ} → Emptied net net' (heads_at gates) nodes → LinkedIn nodes gates net' 0
linked-none {gates = gates} {net' = net'} f = record {
  low = λ s h. omega (arith, f.zero s h, get_or-drop (heads_at gates) net' s 0);
  falls = λ p h. absurd (not-suc-le-zero h);
  all = λ g j a b h. absurd (not-suc-le-zero h);
}

pub emptied_apart : (nodes gates : ℕ) {net net' : List ℕ} → Emptied net net' (heads_at gates) nodes → Apart (nexts_at gates) (heads_at gates + nodes) net net'
emptied_apart nodes gates f = record { below = λ i h. f.apart.below i (omega (arith, h)); above = f.apart.above; long = f.apart.long }

-- Linked places are chains.
pub chains : (s : Extent) (net slots : List ℕ) → LinkAsked (s.inputs + s.gates) s.gates net → LinkedIn (s.inputs + s.gates) s.gates net (most_pins * s.gates) → Chains (packed_of s net slots)
chains s net slots a w = record {
  nodes = length_part net (heads_at s.gates) (s.inputs + s.gates) a.room;
  places = length_part net (nexts_at s.gates) (most_pins * s.gates) (omega (arith, a.room));
  low = w.low;
  falls = w.falls;
  all = λ g j b c. w.all g j b c (omega (arith, b, c, a.few g b));
}
