-- From the graph of numbered copies to the copies, feeds and cones of a net that the arrays hold.
use Rattle.std.specs.Prelude.{◌≡◌, refl, List, ℕ, suc, ◌+◌, ◌-◌, ◌*◌, ◌/◌, ◌%◌, ◌≤◌, ◌<◌, length, get_or}
use Rattle.std.proofs.Common.{sym, ap, subst, ◌∙◌, div-add-mod', div-lt_iff_lt-mul, mul-le-mul_right, arith}
use Rattle.limits.specs.Limits.{most_pins}
use Rattle.sequences.specs.Member.{◌∈◌}
use Rattle.net_model.specs.Net.{Net, Pin, IsGate, pins}
use Rattle.net_model.specs.Checks.{Loopless}
use Rattle.net_model.specs.Copies.{Copy, copy, Feeds}
use Rattle.net_model.specs.Arrays.{pins_in}
use Rattle.net_model.specs.ArrayLaws.{pin_at, pins_in_in, in_pins_in}
use Rattle.cone_theory.specs.Basics.{copy-path}
use Rattle.cone_theory.specs.CopyOrder.{Levels, levels, measure, feeds-measure}
use Rattle.cone_theory.specs.Ranks as ranks
use Rattle.cut_flow.specs.Graph.{Feeding, Order}
use Rattle.cut_flow.specs.Capped.{Copies}
use Rattle.cut_circuit.specs.Circuit.{Circuit, graph_of, Layout, total, place, ending}
use Rattle.cut_circuit.specs.CircuitLaws.{wide-positive, gate-below, source-back, node_of, back-of, node-below, copy_parts, terminal-is, pin-below, pins-is, source_is}

-- The arrays of C are those of N.
pub record Holds (C : Circuit) (N : Net) : Type 0 where
  pub inputs : N.inputs ≡ C.inputs
  pub gates : length N.gates ≡ C.gates
  pub lists : (g : ℕ) → g < C.gates → pins N (C.inputs + g) ≡ pins_in C.sources C.counts (most_pins * g) (get_or C.pins g 0)

pub gate-of : {C : Circuit} {N : Net} → Holds C N → (g : ℕ) → g < C.gates → IsGate N (C.inputs + g)
gate-of H g h = record { low = omega (arith, H.inputs); high = omega (arith, H.inputs, H.gates, h) }

-- ---- numbers and copies
abbrev pub decode : Circuit → ℕ → Copy
decode C x = copy (x / C.width) (x % C.width)

abbrev pub encode : Circuit → Copy → ℕ
encode C c = c.node * C.width + c.back

pub encode-decode : (C : Circuit) (x : ℕ) → encode C (decode C x) ≡ x
encode-decode C x = div-add-mod' x C.width

pub decode-encode : (C : Circuit) (c : Copy) → c.back < C.width → decode C (encode C c) ≡ c
decode-encode C c h = copy-path (node_of c.node c.back C.width h) (back-of c.node c.back C.width h)

pub decode-one : (C : Circuit) (x y : ℕ) → decode C x ≡ decode C y → x ≡ y
decode-one C x y e = sym (encode-decode C x) ∙ (ap (encode C) e ∙ encode-decode C y)

-- c feeds copy x, and has a number.
pub record Numbered (C : Circuit) (c : Copy) (x : ℕ) : Type 0 where
  pub feeding : Feeding (graph_of C) (encode C c) x
  pub back : c.back < C.width

module _ {C : Circuit} {N : Net} (L : Layout C) (H : Holds C N) where
  pub inner-total : (x : ℕ) → ending C x ≡ 0 → x < total C
  inner-total x e = omega (arith, e)

  pub inner-gate : (x : ℕ) → ending C x ≡ 0 → IsGate N (x / C.width)
  inner-gate x e =
      let n = node-below x C.width (C.inputs + C.gates) (wide-positive L) (inner-total x e) in
      record { low = omega (arith, e, H.inputs); high = omega (arith, n, H.inputs, H.gates) }

  -- A gate's copy inside the border is no terminal.
  pub gate-inner : (x : ℕ) → IsGate N (x / C.width) → x % C.width ≤ C.border → ending C x ≡ 0
  gate-inner x g h =
      let l = g.low in
      let u = g.high in
      let z : x < total C = (div-lt_iff_lt-mul (wide-positive L)).0 (omega (arith, u, H.inputs, H.gates)) in
      omega (arith, l, H.inputs, h, z)

  inner-pins : (x : ℕ) → ending C x ≡ 0 → pins N (x / C.width) ≡ pins_in C.sources C.counts (most_pins * (x / C.width - C.inputs)) (get_or C.pins (x / C.width - C.inputs) 0)
  inner-pins x e = ap (pins N) (omega (arith, e)) ∙ H.lists (x / C.width - C.inputs) (gate-below L x (inner-total x e) e)

  pub to-feeds : {y x : ℕ} → Feeding (graph_of C) y x → Feeds N (decode C y) (decode C x)
  to-feeds {y} {x} f =
      let k = pin-below C x f.pin f.below in
      let p = place C x f.pin in
      let h = inner-total x k.0 in
      let q = copy_parts (get_or C.sources p 0) (x % C.width + get_or C.counts p 0) C.width y (source-back L x f.pin h k.0 k.1) (sym (source_is C x f.pin) ∙ f.source) in
      record {
        gate = inner-gate x k.0;
        pin = pin_at C.sources C.counts p;
        is_pin = subst (λ (m : List Pin). pin_at C.sources C.counts p ∈ m) (sym (inner-pins x k.0))
            (in_pins_in C.sources C.counts (most_pins * (x / C.width - C.inputs)) (get_or C.pins (x / C.width - C.inputs) 0) f.pin k.1);
        source = sym q.0;
        depth = sym q.1;
      }

  pub from-feeds : {c : Copy} {x : ℕ} → ending C x ≡ 0 → Feeds N c (decode C x) → Numbered C c x
  from-feeds {c} {x} e f =
      let g = x / C.width - C.inputs in
      let r = pins_in_in C.sources C.counts (most_pins * g) (get_or C.pins g 0) f.pin (subst (λ (m : List Pin). f.pin ∈ m) (inner-pins x e) f.is_pin) in
      let s : f.pin.src ≡ get_or C.sources (place C x r.0) 0 = ap (λ (p : Pin). p.src) r.2 in
      let w : f.pin.count ≡ get_or C.counts (place C x r.0) 0 = ap (λ (p : Pin). p.count) r.2 in
      let d : c.back ≡ x % C.width + get_or C.counts (place C x r.0) 0 = omega (arith, f.depth, w) in
      record {
        feeding = record {
          pin = r.0;
          below = subst (λ (n : ℕ). r.0 < n) (sym (pins-is C x (terminal-is C x ∙ e))) r.1;
          source = source_is C x r.0 ∙ (ap (λ (u : ℕ). u * C.width + (x % C.width + get_or C.counts (place C x r.0) 0)) (sym (f.source ∙ s)) ∙ ap (λ (b : ℕ). c.node * C.width + b) (sym d));
        };
        back = omega (arith, d, source-back L x r.0 (inner-total x e) e r.1);
      }

  -- ---- the order
  pub order : Loopless N → Order (graph_of C)
  order loopless = record {
    measure = λ x. measure O C.border (decode C x);
    bound = C.border * suc (length N.gates) + length N.gates;
    most = λ x. omega (arith, mul-le-mul_right {m = C.border - x % C.width} {n = C.border} (suc (length N.gates)) (omega arith), O.bound (x / C.width));
    falls = λ x j h t.
        let y = (graph_of C).source x j in
        let f : Feeding (graph_of C) y x = record { pin = j; below = h; source = refl } in
        let e : ending C y ≡ 0 = sym (terminal-is C y) ∙ t in
        feeds-measure O C.border (to-feeds f) (omega (arith, e));
  }
    where
      O : Levels N
      O = levels loopless

  -- ---- the input paths: what the capped search supposes of the copies
  pub copies : ranks.Ranked N → Copies (graph_of C) (λ x. x / C.width)
  copies R = record {
    rank = R.rank;
    behind = λ x. encode C (ranks.behind R (decode C x));
    feeds = λ x t. (numbered x t).feeding;
    falls = λ x t. omega (arith, R.falls (x / C.width) (gate x t), ap R.rank (node x t));
    same = λ x y t u e. node x t ∙ ap (λ (v : ℕ). (R.pin v).src) e ∙ sym (node y u);
    one = λ x y t u e f.
        let d = sym (back x t) ∙ ap (λ (z : ℕ). z % C.width) f ∙ back y u in
        let w = ap (λ (v : ℕ). (R.pin v).count) e in
        decode-one C x y (copy-path e (omega (arith, d, w)));
  }
    where
      inner : (x : ℕ) → (graph_of C).terminal x ≡ 0 → ending C x ≡ 0
      inner x t = sym (terminal-is C x) ∙ t

      gate : (x : ℕ) → (graph_of C).terminal x ≡ 0 → IsGate N (x / C.width)
      gate x t = inner-gate x (inner x t)

      numbered : (x : ℕ) → (graph_of C).terminal x ≡ 0 → Numbered C (ranks.behind R (decode C x)) x
      numbered x t = from-feeds (inner x t) (ranks.behind-feeds R (decode C x) (gate x t))

      node : (x : ℕ) (t : (graph_of C).terminal x ≡ 0) → encode C (ranks.behind R (decode C x)) / C.width ≡ (R.pin (x / C.width)).src
      node x t = node_of (R.pin (x / C.width)).src (x % C.width + (R.pin (x / C.width)).count) C.width (numbered x t).back

      back : (x : ℕ) (t : (graph_of C).terminal x ≡ 0) → encode C (ranks.behind R (decode C x)) % C.width ≡ x % C.width + (R.pin (x / C.width)).count
      back x t = back-of (R.pin (x / C.width)).src (x % C.width + (R.pin (x / C.width)).count) C.width (numbered x t).back
