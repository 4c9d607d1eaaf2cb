-- A cover of net B written out by hand for k 2: "LUT 4 takes lag 1", a cover in the general sense, and it meets 1.
use Rattle.std.specs.Prelude.{◌≡◌, refl, List, [], ◌∷◌, ℕ, zero, suc, ◌+◌, ◌≤◌, ◌<◌, ℤ, pos, length, ◌≤ℤ◌}
use Rattle.std.proofs.Common.{sym, ap, subst, ◌∙◌, inl, inr, arith}
use Rattle.integers.specs.Parts.{ints}
use Rattle.sequences.specs.Member.{◌∈◌, here, there, not_in_nil}
use Rattle.net_model.specs.Net.{Net, Pin, IsGate, gate, pins}
use Rattle.net_model.specs.Copies.{Copy, copy, Feeds, Leads, stop, IsCone, Leaf, IsLeaves, IsCut, Before}
use Rattle.cover_theory.specs.Covers.{Lut, Cover, lut, registers, output, output_registers, RootedAt, IsCover, Chain, one, more, Meets, Met}
use Rattle.examples.specs.Nets.{pin, net_b}

-- ---- a gate alone, two copies feeding it
module _ (N : Net) (v : ℕ) (a b : Copy) (g : IsGate N v) (rises : Before a b) (fa : Feeds N a (copy v 0)) (fb : Feeds N b (copy v 0))
    (apart : (y : Copy) → y ∈ a ∷ b ∷ [] → ¬ (y.node ≡ v)) (all : (y : Copy) → Feeds N y (copy v 0) → y ∈ a ∷ b ∷ []) where
  only : (c : Copy) → c ∈ copy v 0 ∷ [] → c ≡ copy v 0
  only c (here e) = e
  only c (there h) = absurd (not_in_nil h)

  feeds : (y : Copy) → y ∈ a ∷ b ∷ [] → Feeds N y (copy v 0)
  feeds y (here e) = subst (λ (x : Copy). Feeds N x (copy v 0)) (sym e) fa
  feeds y (there (here e)) = subst (λ (x : Copy). Feeds N x (copy v 0)) (sym e) fb
  feeds y (there (there h)) = absurd (not_in_nil h)

  alone-cone : IsCone N v (copy v 0 ∷ [])
  alone-cone = record {
    gates = λ c h. subst (λ (x : Copy). IsGate N x.node) (sym (only c h)) g;
    root = here refl;
    leads = λ c h. stop (only c h);
  }

  alone-leaves : IsLeaves N (copy v 0 ∷ []) (a ∷ b ∷ [])
  alone-leaves = record {
    rising = (after, (λ c h. absurd (not_in_nil h), tt));
    sound = λ y h. record { outside = λ i. apart y h (ap (λ (x : Copy). x.node) (only y i)); member = copy v 0; is_member = here refl; feeds = feeds y h };
    complete = λ y l. all y (subst (λ (x : Copy). Feeds N y x) (only l.member l.is_member) l.feeds);
  }
    where
      after : (c : Copy) → c ∈ b ∷ [] → Before a c
      after c (here e) = subst (λ (x : Copy). Before a x) (sym e) rises
      after c (there h) = absurd (not_in_nil h)

  pub pair-cut : IsCut N 2 v (a ∷ b ∷ [])
  pair-cut = record { cone = copy v 0 ∷ []; is_cone = alone-cone; is_leaves = alone-leaves; few = omega arith }

-- ---- net B
abbrev pub cover_b : Cover
cover_b = record {
  luts =
      record { root = 3; leaves = copy 0 0 ∷ copy 1 0 ∷ []; lag = pos 0 }
      ∷ record { root = 4; leaves = copy 2 0 ∷ copy 3 0 ∷ []; lag = pos 1 } ∷ [];
  feeder = λ i y. 0;
  named = λ o. 1;
}

gate_3 : IsGate net_b 3
gate_3 = record { low = omega arith; high = omega arith }

gate_4 : IsGate net_b 4
gate_4 = record { low = omega arith; high = omega arith }

-- what feeds a gate is one of its two pins' copies
pub fed_by : (N : Net) (v : ℕ) (p q : Pin) → pins N v ≡ p ∷ q ∷ [] → (y : Copy) → Feeds N y (copy v 0) → y ∈ copy p.src p.count ∷ copy q.src q.count ∷ []
fed_by N v p q two y f = go (subst (λ (l : List Pin). f.pin ∈ l) two f.is_pin)
  where
    deep : {d c e : ℕ} → d ≡ 0 + c → c ≡ e → d ≡ e
    deep p q = omega (arith, p, q)

    named : (r : Pin) → f.pin ≡ r → y ≡ copy r.src r.count
    named r e =
        subst (λ (s : ℕ). y ≡ copy s r.count) (f.source ∙ ap (λ (x : Pin). x.src) e)
        (subst (λ (d : ℕ). y ≡ copy y.node d) (deep f.depth (ap (λ (x : Pin). x.count) e)) refl)

    go : f.pin ∈ p ∷ q ∷ [] → y ∈ copy p.src p.count ∷ copy q.src q.count ∷ []
    go (here e) = here (named p e)
    go (there (here e)) = there (here (named q e))
    go (there (there h)) = absurd (not_in_nil h)

swap : {a b y : Copy} → y ∈ a ∷ b ∷ [] → y ∈ b ∷ a ∷ []
swap (here e) = there (here e)
swap (there (here e)) = here e
swap (there (there h)) = absurd (not_in_nil h)

-- a member of a list of two has what both have
pub both : (P : Copy → Type 0) {a b : Copy} → P a → P b → (y : Copy) → y ∈ a ∷ b ∷ [] → P y
both P pa pb y (here e) = subst P (sym e) pa
both P pa pb y (there (here e)) = subst P (sym e) pb
both P pa pb y (there (there h)) = absurd (not_in_nil h)

cut_3 : IsCut net_b 2 3 (copy 0 0 ∷ copy 1 0 ∷ [])
unfolding gate
cut_3 = pair-cut net_b 3 (copy 0 0) (copy 1 0) gate_3 (inl (omega arith))
    (record { gate = gate_3; pin = pin 0 0; is_pin = here refl; source = refl; depth = refl })
    (record { gate = gate_3; pin = pin 1 0; is_pin = there (here refl); source = refl; depth = refl })
    (both (λ (y : Copy). ¬ (y.node ≡ 3)) (λ e. omega (arith, e)) (λ e. omega (arith, e)))
    (fed_by net_b 3 (pin 0 0) (pin 1 0) refl)

cut_4 : IsCut net_b 2 4 (copy 2 0 ∷ copy 3 0 ∷ [])
unfolding gate
cut_4 = pair-cut net_b 4 (copy 2 0) (copy 3 0) gate_4 (inl (omega arith))
    (record { gate = gate_4; pin = pin 2 0; is_pin = there (here refl); source = refl; depth = refl })
    (record { gate = gate_4; pin = pin 3 0; is_pin = here refl; source = refl; depth = refl })
    (both (λ (y : Copy). ¬ (y.node ≡ 4)) (λ e. omega (arith, e)) (λ e. omega (arith, e)))
    (λ y f. swap (fed_by net_b 4 (pin 3 0) (pin 2 0) refl y f))

no_input : {u : ℕ} → u < 3 → IsGate net_b u → ⊥
no_input h g = let a = g.low in omega arith

-- place by place: there are two
each : (P : ℕ → Type 0) → P 0 → P 1 → (i : ℕ) → i < 2 → P i
each P p q zero h = p
each P p q (suc zero) h = q
each P p q (suc (suc i)) h = absurd (omega (arith, h))

rooted_3 : RootedAt cover_b 3 0
rooted_3 = record { listed = omega arith; rooted = refl }

-- **The cover written by hand is a cover of net B for k 2,**
pub hand_cover : IsCover net_b 2 cover_b
hand_cover = record {
  gates = each (λ (i : ℕ). IsGate net_b (lut cover_b i).root) gate_3 gate_4;
  cuts = each (λ (i : ℕ). IsCut net_b 2 (lut cover_b i).root (lut cover_b i).leaves) cut_3 cut_4;
  fed = each (λ (i : ℕ). (y : Copy) → y ∈ (lut cover_b i).leaves → IsGate net_b y.node → RootedAt cover_b y.node 0)
      (both (λ (y : Copy). IsGate net_b y.node → RootedAt cover_b y.node 0) (λ g. absurd (no_input (omega arith) g)) (λ g. absurd (no_input (omega arith) g)))
      (both (λ (y : Copy). IsGate net_b y.node → RootedAt cover_b y.node 0) (λ g. absurd (no_input (omega arith) g)) (λ g. rooted_3));
  leaf_registers = each (λ (i : ℕ). (y : Copy) → y ∈ (lut cover_b i).leaves → pos 0 ≤ℤ registers net_b cover_b i y)
      (both (λ (y : Copy). pos 0 ≤ℤ registers net_b cover_b 0 y) (omega arith) (omega arith))
      (both (λ (y : Copy). pos 0 ≤ℤ registers net_b cover_b 1 y) (omega arith) (omega arith));
  names = names;
  output_registers = last;
}
  where
    names : (o : ℕ) → o < 1 → IsGate net_b (output net_b o).src → RootedAt cover_b (output net_b o).src 1
    names zero h g = record { listed = omega arith; rooted = refl }
    names (suc o) h g = absurd (omega (arith, h))

    last : (o : ℕ) → o < 1 → pos 0 ≤ℤ output_registers net_b cover_b o
    last zero h = omega arith
    last (suc o) h = absurd (omega (arith, h))

-- no connection between its LUTs is without register
joined : (i : ℕ) → i < 2 → (y : Copy) → y ∈ (lut cover_b i).leaves → IsGate net_b y.node → ¬ (registers net_b cover_b i y ≡ pos 0)
joined = each (λ (i : ℕ). (y : Copy) → y ∈ (lut cover_b i).leaves → IsGate net_b y.node → ¬ (registers net_b cover_b i y ≡ pos 0))
    (both (λ (y : Copy). IsGate net_b y.node → ¬ (registers net_b cover_b 0 y ≡ pos 0)) (λ g. absurd (no_input (omega arith) g)) (λ g. absurd (no_input (omega arith) g)))
    (both (λ (y : Copy). IsGate net_b y.node → ¬ (registers net_b cover_b 1 y ≡ pos 0)) (λ g. absurd (no_input (omega arith) g)) (λ g e. omega (arith, ints, e)))

-- **and it meets 1.**
pub hand_meets : Meets net_b cover_b 1
hand_meets i n h (one e) = omega (arith, e)
hand_meets i n h (more y m l g e s c) = absurd (joined i h y l g e)
