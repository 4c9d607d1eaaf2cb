-- Copies that have come are gates' copies inside the border: what the functions may ask of them, and the bounds of the search.
use Rattle.std.specs.Prelude.{◌≡◌, None, Some, List, ◌∷◌, ◌++◌, map, ℕ, suc, ◌+◌, ◌-◌, ◌*◌, ◌/◌, ◌%◌, ◌≤◌, ◌<◌, length, get_or}
use Rattle.std.proofs.Common.{sym, ap, subst, ◌∙◌, inl, inr, div-add-mod', arith}
use Rattle.std.proofs.lemmas.List.{length-map}
use Rattle.limits.specs.Limits.{most_pins}
use Rattle.sequences.specs.Member.{◌∈◌, in_map}
use Rattle.sequences.specs.Decide.{up_to, in_up_to, length_up_to}
use Rattle.cut_flow.specs.State.{Next, State}
use Rattle.cut_flow.specs.Search.{View, Ready, reached-inner}
use Rattle.cut_flow.specs.Stack.{Frame, Come, Comes, itself, successor, Core}
use Rattle.cut_flow.specs.StackBounds.{frames-few, load-grows}
use Rattle.cut_circuit.specs.Circuit.{Circuit, graph_of, total, place, ending, feeding_at, forced_in, feeder, pins_of}
use Rattle.cut_circuit.specs.CircuitLaws.{lawful, wide-positive, gate-below, place-below, source-below, source-back, node-below, copy_parts, terminal-is, pins-is, pin-below, source_is, forced-is}
use Rattle.cut_circuit.specs.Chains.{Chain}
use Rattle.cut_circuit.specs.Packed.{SourceAsked, GateAsked}
use Rattle.cut_search.specs.SearchTable.{view_of}
use Rattle.cut_search.specs.SearchTableLaws.{flow-below}
use Rattle.cut_search.specs.SearchParts.{Behind, SeekAsked, SeekTold, WayPlace}
use Rattle.cut_search.specs.Stacks.{node_of, turns_of, first_of}
use Rattle.cut_search.specs.Steps.{Fixed}

-- the gates' nodes
abbrev pub nodes_of : Circuit → List ℕ
nodes_of C = map (λ (u : ℕ). C.inputs + u) (up_to C.gates)

pub length-nodes_of : (C : Circuit) → length (nodes_of C) ≡ C.gates
length-nodes_of C = length-map (up_to C.gates) (λ (u : ℕ). C.inputs + u) ∙ length_up_to C.gates

module _ {C : Circuit} (F : Fixed C) where
  -- ---- an inner copy
  module _ (x : ℕ) (e : ending C x ≡ 0) where
    pub inner-total : x < total C
    inner-total = omega (arith, e)

    pub inner-gate : C.inputs ≤ x / C.width
    inner-gate = omega (arith, e)

    pub inner-gate-below : x / C.width - C.inputs < C.gates
    inner-gate-below = gate-below F.layout x inner-total e

    pub inner-node : x / C.width ∈ nodes_of C
    inner-node = subst (λ (u : ℕ). u ∈ nodes_of C) (omega (arith, inner-gate)) (in_map (λ (u : ℕ). C.inputs + u) (in_up_to inner-gate-below))

    pub inner-pins : (graph_of C).pins x ≡ pins_of C x
    inner-pins = pins-is C x (terminal-is C x ∙ e)

    pub inner-few : pins_of C x ≤ most_pins
    inner-few = F.layout.few (x / C.width - C.inputs) inner-gate-below

    pub inner_first : first_of C x < pins_of C x
    inner_first = F.layout.first (x / C.width - C.inputs) inner-gate-below

    pub pins-asked : GateAsked C C.pins x
    pins-asked = record { wide = wide-positive F.layout; gate = inner-gate; below = omega (arith, inner-gate-below, F.layout.pins) }

    pub first-asked : GateAsked C C.first x
    first-asked = record { wide = wide-positive F.layout; gate = inner-gate; below = omega (arith, inner-gate-below, F.layout.firsts) }

    module _ (j : ℕ) (k : j < pins_of C x) where
      pub feeder-below : feeder C x j < total C
      feeder-below = source-below F.layout x j inner-total e k

      pub source-asked : SourceAsked C x j
      source-asked =
          let p = place-below F.layout x j inner-total e k in
          record {
            wide = wide-positive F.layout;
            gate = inner-gate;
            source = omega (arith, p, F.layout.sources);
            count = omega (arith, p, F.layout.counts);
            fits = omega (arith, feeder-below, F.small);
          }

    -- way w of x, where w is 0 or 1 more than a pin
    pub way-place : {t : List ℕ} (w : ℕ) → length t ≡ total C → w ≤ pins_of C x → WayPlace C t x w
    way-place w room h = record {
      wide = wide-positive F.layout;
      room = room;
      slots = F.layout.slots;
      held = F.layout.held;
      here = omega (arith, inner-total, room);
      source = λ p. source-asked (w - 1) (omega (arith, h, p));
      below = λ p. omega (arith, feeder-below (w - 1) (omega (arith, h, p)), room);
    }

  pub forced-ends : (x : ℕ) → 0 < forced_in C x → ending C x ≡ 0
  forced-ends x h = sym (terminal-is C x) ∙ (lawful F.layout).inner x (subst (λ (n : ℕ). 0 < n) (sym (forced-is C x)) h)

  pub forced-inner : (x : ℕ) → 0 < (graph_of C).forced x → ending C x ≡ 0
  forced-inner x h = forced-ends x (subst (λ (n : ℕ). 0 < n) (forced-is C x) h)

  pub in_inner : {v : View} → Ready (graph_of C) v → {x : ℕ} → 0 < v.inn x → ending C x ≡ 0
  in_inner r {x} h = sym (terminal-is C x) ∙ reached-inner (lawful F.layout) (r.ins x h)

  -- where the search comes to
  pub comes-inner : {flow : ℕ → ℕ} {y e : ℕ} → Comes (graph_of C) flow y e → ending C e ≡ 0
  comes-inner {e = e} (itself q h t o) = sym (terminal-is C e) ∙ t
  comes-inner {e = e} (successor n o) = (pin-below C e n.by n.fed.below).0

  -- ---- the bounds
  module _ {f : ℕ} {flow : ℕ → ℕ} {S : ℕ → Type 0} {v : View} {count : ℕ → ℕ} {fs : List Frame} (c : Core (graph_of C) (turns_of C) (node_of C) f flow S v count fs) where
    pub come-ends : {z : ℕ} → Come S v z → ending C z ≡ 0
    come-ends {z} (inl h) = forced-inner z (c.forced z h)
    come-ends {z} (inr h) = in_inner c.ready h

    pub come-node : (z : ℕ) → Come S v z → node_of C z ∈ nodes_of C
    come-node z h = inner-node z (come-ends h)

    pub stack_few : (W : List ℕ) → ((z : ℕ) → 0 < flow z → z ∈ W) → length fs ≤ C.gates * suc f + length W
    stack_few W load = subst (λ (n : ℕ). length fs ≤ n * suc f + length W) (length-nodes_of C) (frames-few c (nodes_of C) come-node W load)

    pub load-few : (W : List ℕ) → ((z : ℕ) → 0 < flow z → z ∈ W) → (y : ℕ) → length (y ∷ (c.list ++ W)) ≤ suc (C.gates * suc f + length W)
    load-few W load y = subst (λ (n : ℕ). length (y ∷ (c.list ++ W)) ≤ suc (n * suc f + length W)) (length-nodes_of C) (load-grows c (nodes_of C) come-node W load y)

  -- ---- the successor of y
  module _ (t : List ℕ) (y : ℕ) (room : length t ≡ total C) (below : y < length t) where
    node-inside : y / C.width < C.inputs + C.gates
    node-inside = node-below y C.width (C.inputs + C.gates) (wide-positive F.layout) (omega (arith, below, room))

    pub seek_asked : SeekAsked C.inputs C.gates C.width C.border C.sources C.counts C.heads C.nexts t y
    seek_asked = record {
      wide = F.layout.wide;
      source = F.layout.sources;
      count = F.layout.counts;
      place = F.chains.places;
      node = omega (arith, node-inside, F.chains.nodes);
      low = F.chains.low (y / C.width) node-inside;
      falls = F.chains.falls;
      room = room;
    }

    module _ {E : List ℕ} (state : State (graph_of C) (view_of t).flow E) where
      behind-next : {p x : ℕ} → Behind C.inputs C.width C.border C.sources C.counts t y p x → Next (graph_of C) (view_of t).flow y x
      behind-next {p} {x} b =
          let z : (graph_of C).terminal x ≡ 0 = terminal-is C x ∙ omega (arith, b.node, b.back, room, flow-below t x (omega (arith, b.flow))) in
          let r = state.inflow x (omega (arith, b.flow)) z in
          let j : r.0 ≡ p % most_pins = omega (arith, r.1.pin, b.flow) in
          let q : place C x r.0 ≡ p = omega (arith, j, b.node) in
          record {
            by = r.0;
            fed = r.1;
            source = source_is C x r.0
                ∙ (ap (feeding_at C.width C.sources C.counts x) q
                ∙ (ap (λ (u : ℕ). u * C.width + (x % C.width + get_or C.counts p 0)) b.source
                ∙ (ap (λ (d : ℕ). y / C.width * C.width + d) b.depth
                ∙ div-add-mod' y C.width)));
          }

      pub seek_next : {r : ℕ} → SeekTold C.inputs C.width C.border C.sources C.counts C.heads C.nexts t y (Some r) → Next (graph_of C) (view_of t).flow y r
      seek_next o = behind-next o.1.1

    module _ {x : ℕ} (n : Next (graph_of C) (view_of t).flow y x) where
      next-pin : (ending C x ≡ 0) × (n.by < get_or C.pins (x / C.width - C.inputs) 0)
      next-pin = pin-below C x n.by n.fed.below

      next-total : x < total C
      next-total = omega (arith, next-pin.0)

      next-parts : (get_or C.sources (place C x n.by) 0 ≡ y / C.width) × (x % C.width + get_or C.counts (place C x n.by) 0 ≡ y % C.width)
      next-parts = copy_parts (get_or C.sources (place C x n.by) 0) (x % C.width + get_or C.counts (place C x n.by) 0) C.width y
          (source-back F.layout x n.by next-total next-pin.0 next-pin.1) (sym (source_is C x n.by) ∙ n.source)

      next-behind : Behind C.inputs C.width C.border C.sources C.counts t y (place C x n.by) x
      next-behind =
          let f = F.layout.few (x / C.width - C.inputs) (gate-below F.layout x next-total next-pin.0) in
          let e = next-pin.0 in
          let k = next-pin.1 in
          record { node = omega (arith, e, f, k); back = omega (arith, e); source = next-parts.0; depth = next-parts.1; flow = n.fed.pin ∙ omega (arith, f, k) }

      next_chain : Chain C.nexts (get_or C.heads (y / C.width) 0) (place C x n.by)
      next_chain = subst (λ (u : ℕ). Chain C.nexts (get_or C.heads u 0) (place C x n.by)) next-parts.0
          (F.chains.all (x / C.width - C.inputs) n.by (gate-below F.layout x next-total next-pin.0) next-pin.1)

    pub seek_none : SeekTold C.inputs C.width C.border C.sources C.counts C.heads C.nexts t y None → (x : ℕ) → ¬ Next (graph_of C) (view_of t).flow y x
    seek_none o x n = o (place C x n.by) x (next_chain n) (next-behind n)
