-- Runs and cuts: at every step at which the leaves' values exist, the root's value is the LUT's table at the leaves' values.
use Rattle.std.specs.Prelude.{◌≡◌, refl, Bool, List, [], ◌∷◌, map, ◌⊎◌, ℕ, zero, suc, ◌+◌, ◌-◌, ◌*◌, ◌≤◌, ◌<◌, length}
use Rattle.std.proofs.Common.{sym, ap, ap₂, ◌∙◌, subst, inl, inr, arith}
use Rattle.sequences.specs.Member.{◌∈◌, here, there, in_map}
use Rattle.net_model.specs.Net.{Net, Pin, IsGate, gate, pins}
use Rattle.net_model.specs.Copies.{Copy, copy, Feeds, IsCone, Leaf, IsLeaves}
use Rattle.net_model.specs.Tables.{apply, feeding, table_of}
use Rattle.net_model.specs.Runs.{Run, gate_at}
use Rattle.cone_theory.specs.Basics.{member?, feeds_in}
use Rattle.cone_theory.specs.Ranks.{Ranked, first_leaf, FirstLeaf}
use Rattle.cone_theory.specs.Reach.{reach_of, reach, most}
use Rattle.cone_theory.specs.CopyOrder.{Levels}
use Rattle.cone_values.specs.Values.{map_same, table_is}

pub map-map : {A B C : Type 0} (g : B → C) (f : A → B) (l : List A) → map g (map f l) ≡ map (λ a. g (f a)) l
map-map g f [] = refl
map-map g f (a ∷ l) = ap (λ (m : List _). g (f a) ∷ m) (map-map g f l)

module _ {N : Net} (R : Ranked N) (O : Levels N) {value : ℕ → ℕ → Bool} (run : Run N value) {v : ℕ} {C L : List Copy} (i : IsCone N v C) (l : IsLeaves N C L) where
  -- where the leaves' values exist, so do the members'
  member_exists : (s : ℕ) → ((y : Copy) → y ∈ L → y.back ≤ s) → (x : Copy) → x ∈ C → x.back ≤ s
  member_exists s leaves x m =
      let f = first_leaf R C i.gates x m in
      let a = leaves f.leaf (l.complete f.leaf f.is_leaf) in
      let d = f.depth in
      omega arith

  source_exists : (s : ℕ) → ((y : Copy) → y ∈ L → y.back ≤ s) → (x : Copy) → x ∈ C → (p : Pin) → p ∈ pins N x.node → x.back + p.count ≤ s
  source_exists s leaves x m p h = go (member? y C)
    where
      y : Copy
      y = copy p.src (x.back + p.count)

      go : Dec (y ∈ C) → x.back + p.count ≤ s
      go (yes k) = member_exists s leaves y k
      go (no n) = leaves y (l.complete y (record {
        outside = n;
        member = x;
        is_member = m;
        feeds = record { gate = i.gates x m; pin = p; is_pin = h; source = refl; depth = refl };
      }))

  -- **For every run and every cut, the root's value at a step is the LUT's table at the leaves' values, wherever they exist.**
  pub run-root : (s : ℕ) → ((y : Copy) → y ∈ L → y.back ≤ s)
      → value v s ≡ apply (table_of N v C L) (map (λ (y : Copy). value y.node (s - y.back)) L)
  run-root s leaves = ap (value v) (omega arith) ∙ sym (table_is O i l (length L * reach_of N) deep val obeys)
    where
      val : Copy → Bool
      val c = value c.node (s - c.back)

      deep : (c : Copy) → c ∈ C → c.back ≤ length L * reach_of N
      deep c m = let a = reach R i l c m in omega arith

      obeys : (x : Copy) → x ∈ C → val x ≡ apply (gate N x.node).table (map val (feeding N x))
      obeys x m =
          run.obeys x.node (s - x.back) (i.gates x m) (λ p h. let a = source_exists s leaves x m p h in omega arith)
          ∙ ap (apply (gate N x.node).table)
          (map_same (λ (p : Pin). value p.src (s - x.back - p.count)) (λ (p : Pin). val (copy p.src (x.back + p.count))) (pins N x.node)
          (λ p h. ap (value p.src) (let a = source_exists s leaves x m p h in omega arith))
          ∙ sym (map-map val (λ (p : Pin). copy p.src (x.back + p.count)) (pins N x.node)))
