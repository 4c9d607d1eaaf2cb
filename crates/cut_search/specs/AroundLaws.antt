-- Laws of the members tried from a place on and then around: each is tried once.
use Rattle.std.specs.Prelude.{◌≡◌, refl, ◌⊎◌, List, ◌++◌, ℕ, ◌+◌, ◌-◌, ◌≤◌, ◌<◌, length, drop}
use Rattle.std.proofs.Common.{sym, subst, ◌∙◌, inl, inr, arith, get_or-append-add}
use Rattle.std.proofs.Math.Path.{ap}
use Rattle.std.proofs.Math.Decide.{dec_lt}
use Rattle.std.proofs.Math.ListN.{get_or, take, length-append, length-drop, get_or-append}
use Rattle.std.proofs.Math.Seq.{get_or-take, get_or-drop, length-take-le}
use Rattle.cut_circuit.specs.Circuit.{Circuit, forced_in}
use Rattle.cut_search.specs.Steps.{Members, RootsAsked, around, Turning}

module _ (members : List ℕ) (from : ℕ) (inside : from ≤ length members) where
  pub length-around : length (around from members) ≡ length members
  unfolding around
  length-around = length-append (drop from members) (take from members) ∙ omega (arith, inside, length-drop from members, length-take-le from members inside)

  around-on : (j : ℕ) → from + j < length members → get_or (around from members) j 0 ≡ get_or members (from + j) 0
  unfolding around
  around-on j h = get_or-append (drop from members) (take from members) 0 j (omega (arith, h, length-drop from members)) ∙ get_or-drop from members j 0

  around-before : (i : ℕ) → i < from → get_or (around from members) (length members - from + i) 0 ≡ get_or members i 0
  unfolding around
  around-before i h =
      ap (λ (n : ℕ). get_or (drop from members ++ take from members) (n + i) 0) (sym (length-drop from members))
      ∙ (get_or-append-add (drop from members) (take from members) i 0 ∙ get_or-take from members i 0 h)

  -- what is read at a place is the member tried there
  pub around-read : (j r : ℕ) → j < length members → Turning (length members) from j r → get_or members r 0 ≡ get_or (around from members) j 0
  around-read j r h w = go w.place
    where
      go : (r ≡ from + j) ⊎ (r + length members ≡ from + j) → get_or members r 0 ≡ get_or (around from members) j 0
      go (inl e) = ap (λ (n : ℕ). get_or members n 0) e ∙ sym (around-on j (omega (arith, e, w.below)))
      go (inr e) = sym (around-before r (omega (arith, e, h))) ∙ ap (λ (n : ℕ). get_or (around from members) n 0) (omega (arith, e, inside, h))

  -- the place at which place r is tried, and the other way
  turn-of : (r : ℕ) → r < length members → (j : ℕ) × (j < length members) × Turning (length members) from j r
  turn-of r h = go (dec_lt r from)
    where
      go : Dec (r < from) → (j : ℕ) × (j < length members) × Turning (length members) from j r
      go (yes l) = (length members - from + r, omega (arith, l, inside), record { below = h; place = inr (omega (arith, inside)) })
      go (no l) = (r - from, omega (arith, h), record { below = h; place = inl (omega (arith, l)) })

  place_of : (j : ℕ) → j < length members → (r : ℕ) × Turning (length members) from j r
  place_of j h = go (dec_lt (from + j) (length members))
    where
      go : Dec (from + j < length members) → (r : ℕ) × Turning (length members) from j r
      go (yes l) = (from + j, record { below = l; place = inl refl })
      go (no l) = (from + j - length members, record { below = omega (arith, h, inside); place = inr (omega (arith, l)) })

  pub members-around : {C : Circuit} → Members C members → Members C (around from members)
  members-around {C} m = record {
    forced = λ j h.
        let b : j < length members = omega (arith, h, length-around) in
        let p = place_of j b in
        subst (λ (x : ℕ). 0 < forced_in C x) (around-read j p.0 b p.1) (m.forced p.0 p.1.below);
    all = λ x h.
        let r = m.all x h in
        let j = turn-of r.0 r.1 in
        (j.0, omega (arith, j.1, length-around), sym (around-read j.0 r.0 j.1 j.2) ∙ r.2);
    once = λ i j h l e.
        let b : j < length members = omega (arith, l, length-around) in
        let a : i < length members = omega (arith, h, b) in
        let p = place_of i a in
        let q = place_of j b in
        apart p.0 q.0 p.1.below q.1.below (differ i j p.0 q.0 h a b p.1 q.1) (around-read i p.0 a p.1 ∙ (e ∙ sym (around-read j q.0 b q.1)));
  }
    where
      apart : (p q : ℕ) → p < length members → q < length members → (p < q) ⊎ (q < p) → ¬ (get_or members p 0 ≡ get_or members q 0)
      apart p q a b (inl h) e = m.once p q h b e
      apart p q a b (inr h) e = m.once q p h a (sym e)

      differ : (i j p q : ℕ) → i < j → i < length members → j < length members → Turning (length members) from i p → Turning (length members) from j q → (p < q) ⊎ (q < p)
      differ i j p q h a b u v = go u.place v.place
        where
          go : (p ≡ from + i) ⊎ (p + length members ≡ from + i) → (q ≡ from + j) ⊎ (q + length members ≡ from + j) → (p < q) ⊎ (q < p)
          go (inl e) (inl g) = inl (omega (arith, e, g, h))
          go (inl e) (inr g) = inr (omega (arith, e, g, b))
          go (inr e) (inl g) = inl (omega (arith, e, g, a))
          go (inr e) (inr g) = inl (omega (arith, e, g, h))

  pub roots-around : {C : Circuit} {f : ℕ} {t l stk cnt : List ℕ} → RootsAsked C f members t l stk cnt → RootsAsked C f (around from members) t l stk cnt
  roots-around a = record {
    search = record {
      fixed = a.search.fixed;
      store = a.search.store;
      noted = a.search.noted;
      long = a.search.long;
      brief = a.search.brief;
      roots = members-around a.search.roots;
      ready = a.search.ready;
      inn = a.search.inn;
      out = a.search.out;
    };
    empty = a.empty;
    zero = a.zero;
  }
