-- "Along any path from an input to an output the registers keep their sum." A path of pins of the net runs through LUTs of a cover; over the connections between
-- them the registers telescope.
use Rattle.std.specs.Prelude.{◌≡◌, refl, List, ℕ, zero, suc, ◌+◌, ◌≤◌, ◌<◌, ℤ, pos, ◌+ℤ◌, ◌-ℤ◌, length}
use Rattle.std.proofs.Common.{sym, ap, ◌∙◌, subst, arith}
use Rattle.integers.specs.Parts.{ints, +-parts, sub_parts}
use Rattle.sequences.specs.Member.{◌∈◌}
use Rattle.net_model.specs.Net.{Net, Pin, IsGate, IsInput, pins}
use Rattle.net_model.specs.Copies.{Copy, copy, Feeds, Leads, stop, step, Leaf}
use Rattle.cone_theory.specs.Basics.{member?}
use Rattle.cover_theory.specs.Covers.{Cover, lut, lag_of, registers, output_registers, output, IsCover}
use Rattle.cover_theory.specs.Routes.{Path, starts, pin, Route, enters, passes, Whole, direct, through}
use Rattle.cover_theory.proofs.CoverLabels.{lag-gate, lag-input}

-- ---- the sum

-- up to LUT i the two differ by its lag
pub route_lag : (N : Net) (K : Cover) {x i before : ℕ} {after : ℤ} → Route N K x i before after → after ≡ (pos before +ℤ (lut K i).lag)
route_lag N K {x} {i} {before} {after} (enters y m n s e f) =
    let q = lag-input N K y.node (K.feeder i y) (omega (arith, n, s)) in
    let r = (lut K i).lag in
    omega (arith, ints, sub_parts (pos y.back +ℤ r) (lag_of N K y.node (K.feeder i y)), +-parts (pos y.back) r, +-parts (pos before) r)
route_lag N K {x} {i} {before} {after} (passes y b a m g c e f) =
    let ih = route_lag N K c in
    let q = lag-gate N K y.node (K.feeder i y) g in
    let r = (lut K i).lag in
    let s = (lut K (K.feeder i y)).lag in
    omega (
      arith,
      ints,
      sub_parts (pos y.back +ℤ r) (lag_of N K y.node (K.feeder i y)),
      +-parts (pos y.back) r,
      +-parts (pos before) r,
      +-parts (pos b) s,
      +-parts a (registers N K i y),
    )

-- **The registers after moving have the sum that they had.**
pub whole-kept : (N : Net) (K : Cover) {x o before : ℕ} {after : ℤ} → Whole N K x o before after → after ≡ pos before
whole-kept N K {x} {o} (direct n s e f) =
    let q = lag-input N K (output N o).src (K.named o) (omega (arith, n, s)) in
    omega (arith, ints, sub_parts (pos (output N o).count) (lag_of N K (output N o).src (K.named o)))
whole-kept N K {x} {o} (through b a g r e f) =
    let t = route_lag N K r in
    let q = lag-gate N K (output N o).src (K.named o) g in
    let s = (lut K (K.named o)).lag in
    let w = (output N o).count in
    omega (arith, ints, +-parts a (output_registers N K o), sub_parts (pos w) (lag_of N K (output N o).src (K.named o)), +-parts (pos b) s)

-- ---- routes are paths of pins

as_path : {N : Net} {x v v' c c' : ℕ} → v ≡ v' → c ≡ c' → Path N x v c → Path N x v' c'
as_path {N} {x} {v} {v'} {c} {c'} e f p = subst (λ (n : ℕ). Path N x v' n) f (subst (λ (n : ℕ). Path N x n c) e p)

-- from a member of a cone to its root, d pins' registers on
leads-path : {N : Net} {x v : ℕ} (C : List Copy) {b : ℕ} {c : Copy} → Leads N C (copy v 0) c → Path N x c.node b → Path N x v (b + c.back)
leads-path {N} {x} {v} C {b} {c} (stop e) p = as_path (ap (λ (z : Copy). z.node) e) (let z : c.back ≡ 0 = ap (λ (z : Copy). z.back) e in omega arith) p
leads-path {N} {x} {v} C {b} {c} (step y m f l) p =
    let q = f.pin in
    as_path refl (omega (arith, f.depth)) (leads-path C {b = b + f.pin.count} l (pin q b f.gate f.is_pin (as_path f.source refl p) refl))

module _ (N : Net) (k : ℕ) (K : Cover) (cover : IsCover N k K) where
  -- from a leaf of LUT i to its root
  leaf-path : (i : ℕ) → i < length K.luts → (y : Copy) → y ∈ (lut K i).leaves → {x b : ℕ} → Path N x y.node b → Path N x (lut K i).root (b + y.back)
  leaf-path i h y m p =
      let c = cover.cuts i h in
      let l = c.is_leaves.sound y m in
      leads-path c.cone (step l.member l.is_member l.feeds (c.is_cone.leads l.member l.is_member)) p

  route_path : {x i before : ℕ} {after : ℤ} → i < length K.luts → Route N K x i before after → Path N x (lut K i).root before
  route_path {x} {i} h (enters y m n s e f) = as_path refl (omega (arith, e)) (leaf-path i h y m (starts (sym s) refl))
  route_path {x} {i} h (passes y b a m g r e f) =
      let t = cover.fed i h y m g in
      as_path refl (sym e) (leaf-path i h y m (as_path t.rooted refl (route_path t.listed r)))

  -- each way through the cover is a path of pins with as many registers
  pub whole-path : {x o before : ℕ} {after : ℤ} → o < length N.outputs → Whole N K x o before after
      → (b : ℕ) × Path N x (output N o).src b × (before ≡ b + (output N o).count)
  whole-path {x} {o} h (direct n s e f) = (0, starts (sym s) refl, omega arith)
  whole-path {x} {o} h (through b a g r e f) = let t = cover.names o h g in (b, as_path t.rooted refl (route_path t.listed r), e)

  -- ---- paths of pins are routes

  -- a path that comes in from a copy w:e of the cone of LUT i goes on as a route to LUT i
  trace : {x w c : ℕ} → IsInput N x → Path N x w c → (i e : ℕ) (h : i < length K.luts) → copy w e ∈ (cover.cuts i h).cone
      → (a : ℤ) × Route N K x i (c + e) a
  trace {x} {w} n (starts s z) i e h m = absurd (let g = (cover.cuts i h).is_cone.gates (copy w e) m in omega (arith, g.low, n, s))
  trace {x} {w} {c} n (pin p b g k path z) i e h m =
      go (member? y C) path (λ j d h' m'. trace n path j d h' m')
    where
      C : List Copy
      C = (cover.cuts i h).cone

      y : Copy
      y = copy p.src (e + p.count)

      feeds : Feeds N y (copy w e)
      feeds = record { gate = g; pin = p; is_pin = k; source = refl; depth = refl }

      sum : b + (e + p.count) ≡ c + e
      sum = omega (arith, z)

      leaf : ¬ (y ∈ C) → y ∈ (lut K i).leaves
      leaf o = (cover.cuts i h).is_leaves.complete y (record { outside = o; member = copy w e; is_member = m; feeds = feeds })

      onward : y ∈ (lut K i).leaves → Path N x p.src b → ((j d : ℕ) (h' : j < length K.luts) → copy p.src d ∈ (cover.cuts j h').cone → (a : ℤ) × Route N K x j (b + d) a)
          → (a : ℤ) × Route N K x i (c + e) a
      onward l (starts s f) more = (registers N K i y, enters {before = c + e} y l n (sym s) (omega (arith, z, f)) refl)
      onward l (pin p' b' g' k' path' z') more =
          let t = cover.fed i h y l g' in
          let root = (cover.cuts (K.feeder i y) t.listed).is_cone.root in
          let r = more (K.feeder i y) 0 t.listed (subst (λ (v : ℕ). copy v 0 ∈ (cover.cuts (K.feeder i y) t.listed).cone) t.rooted root) in
          (r.0 +ℤ registers N K i y, passes {before = c + e} y (b + 0) r.0 l g' r.1 (omega (arith, z)) refl)

      go : Dec (y ∈ C) → Path N x p.src b → ((j d : ℕ) (h' : j < length K.luts) → copy p.src d ∈ (cover.cuts j h').cone → (a : ℤ) × Route N K x j (b + d) a)
          → (a : ℤ) × Route N K x i (c + e) a
      go (yes q) path more = let r = more i (e + p.count) h q in (r.0, subst (λ (n : ℕ). Route N K x i n r.0) sum r.1)
      go (no o) path more = onward (leaf o) path more

  -- **Each path of pins from an input to an output runs through the cover, with as many registers after moving.**
  pub path-whole : {x o b : ℕ} → IsInput N x → o < length N.outputs → Path N x (output N o).src b
      → (after : ℤ) × Whole N K x o (b + (output N o).count) after × (after ≡ pos (b + (output N o).count))
  path-whole {x} {o} {b} n h p = let w = go p in (w.0, w.1, whole-kept N K w.1)
    where
      go : Path N x (output N o).src b → (after : ℤ) × Whole N K x o (b + (output N o).count) after
      go (starts s z) = (output_registers N K o, direct n (sym s) (omega (arith, z)) refl)
      go (pin p' b' g k path z) =
          let t = cover.names o h g in
          let root = (cover.cuts (K.named o) t.listed).is_cone.root in
          let r = trace n p (K.named o) 0 t.listed (subst (λ (v : ℕ). copy v 0 ∈ (cover.cuts (K.named o) t.listed).cone) t.rooted root) in
          (r.0 +ℤ output_registers N K o, through (b + 0) r.0 g r.1 (omega arith) refl)
