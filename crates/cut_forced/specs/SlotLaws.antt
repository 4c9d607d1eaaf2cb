-- Laws of the slots: a copy put into a slot of its gate is forced, the others are as before; and there are at most k for each gate.
use Rattle.std.specs.Prelude.{◌≡◌, refl, List, ◌⊎◌, ℕ, zero, suc, ◌+◌, ◌*◌, ◌/◌, ◌%◌, ◌≤◌, ◌<◌, length, get_or, set}
use Rattle.std.proofs.Common.{sym, ap, subst, ◌∙◌, inl, inr, le_trans, mul_comm, arith, length-set, get_or-set_same, get_or-set_other}
use Rattle.std.proofs.Math.Decide.{ℕ_discrete}
use Rattle.limits.specs.Limits.{most_k}
use Rattle.sequences.specs.Member.{◌∈◌}
use Rattle.sequences.specs.Decide.{up_to, in_up_to, up_to_in, length_up_to}
use Rattle.sequences.specs.Keep.{keep, in_keep}
use Rattle.sequences.specs.Distinct.{Distinct, distinct-keep, inject, count_by}
use Rattle.cone_theory.specs.Basics.{copy-path}
use Rattle.cut_circuit.specs.Circuit.{Circuit, among, held_at}
use Rattle.cut_circuit.specs.CircuitLaws.{node_of, back-of, node-below, copy-inside, forced-inner, forced-held, held-forced, held_place, place-held}
use Rattle.cut_circuit.specs.Bridge.{decode-one}
use Rattle.cut_forced.specs.Slots.{marked, Inner, gate_at, slot_at, holding, Slotted, Unmarked}

-- ---- forced copies are inner
module _ {W : Circuit} where
  pub gate-inside : {x : ℕ} → 0 < W.width → Inner W x → gate_at W x < W.gates
  gate-inside {x} w i = omega (arith, node-below x W.width (W.inputs + W.gates) w i.below, i.ends)

  -- a copy is known by its gate and its d
  one-copy : {x y : ℕ} → Inner W x → Inner W y → gate_at W x ≡ gate_at W y → x % W.width ≡ y % W.width → x ≡ y
  one-copy {x} {y} i j e f = decode-one W x y (copy-path (omega (arith, i.ends, j.ends, e)) f)

module _ (W : Circuit) (slots : List ℕ) (x : ℕ) where
  pub marked-inner : 0 < marked W slots x → Inner W x
  marked-inner h =
      let e = forced-inner W.inputs W.gates W.width W.border slots x h in
      record { below = omega (arith, e); ends = omega (arith, e) }

  marked-held : 0 < marked W slots x → 0 < held_at W.gates slots (gate_at W x) (x % W.width)
  marked-held h = forced-held W.inputs W.gates W.width W.border slots x h

  pub inner-marked : Inner W x → marked W slots x ≡ held_at W.gates slots (gate_at W x) (x % W.width)
  inner-marked i = held-forced W.inputs W.gates W.width W.border slots x i.below i.ends

  held-marked : Inner W x → (g d : ℕ) → gate_at W x ≡ g → x % W.width ≡ d → 0 < held_at W.gates slots g d → 0 < marked W slots x
  held-marked i g d e f h =
      subst (λ (n : ℕ). 0 < n) (sym (inner-marked i))
      (subst (λ (a : ℕ). 0 < held_at W.gates slots a (x % W.width)) (sym e) (subst (λ (b : ℕ). 0 < held_at W.gates slots g b) (sym f) h))

-- ---- no forced copy
none-among : (slots : List ℕ) (p n d : ℕ) → n ≡ 0 → among slots p n d ≡ 0
unfolding among
none-among slots p zero d e = refl
none-among slots p (suc n) d e = absurd (omega (arith, e))

pub none-held : (gates : ℕ) (slots : List ℕ) → Unmarked gates slots → (g d : ℕ) → g < gates → held_at gates slots g d ≡ 0
none-held gates slots u g d b = none-among slots (gates + most_k * g) (get_or slots g 0) d (u g b)

-- **Where no gate has a forced copy, no copy is forced.**
pub none-marked : (W : Circuit) (slots : List ℕ) → W.border < W.width → Unmarked W.gates slots → (x : ℕ) → marked W slots x ≡ 0
none-marked W slots w u x = go (marked W slots x) refl
  where
    go : (n : ℕ) → marked W slots x ≡ n → marked W slots x ≡ 0
    go zero e = e
    go (suc n) e =
        let h : 0 < marked W slots x = omega (arith, e) in
        let i = marked-inner W slots x h in
        inner-marked W slots x i ∙ none-held W.gates slots u (gate_at W x) (x % W.width) (gate-inside (omega (arith, w)) i)

pub none-slotted : {W : Circuit} {k : ℕ} {slots : List ℕ} → W.border < W.width → suc most_k * W.gates ≤ length slots → k ≤ most_k → Unmarked W.gates slots → Slotted W k slots
none-slotted w p l u = record {
  wide = w;
  places = p;
  limit = l;
  held = λ g b. omega (arith, u g b);
  backs = λ g i b h. absurd (omega (arith, u g b, h));
  apart = λ g i j b h m. absurd (omega (arith, u g b, m));
}

-- ---- what the slots hold
module _ {W : Circuit} {k : ℕ} {slots : List ℕ} (S : Slotted W k slots) where
  wide_enough : 0 < W.width
  wide_enough = omega (arith, S.wide)

  -- the copy in slot i of gate g
  module _ (g i : ℕ) (b : g < W.gates) (h : i < get_or slots g 0) where
    abbrev back : ℕ
    back = get_or slots (slot_at W.gates g i) 0

    back_below : back < W.width
    back_below = omega (arith, S.backs g i b h, S.wide)

    pub slot-node : ((W.inputs + g) * W.width + back) / W.width ≡ W.inputs + g
    slot-node = node_of (W.inputs + g) back W.width back_below

    pub slot-back : ((W.inputs + g) * W.width + back) % W.width ≡ back
    slot-back = back-of (W.inputs + g) back W.width back_below

    pub slot-marked : 0 < marked W slots ((W.inputs + g) * W.width + back)
    slot-marked =
        held-marked W slots ((W.inputs + g) * W.width + back)
        (record {
          below = copy-inside (W.inputs + g) back W.width (W.inputs + W.gates) (omega (arith, b)) back_below;
          ends = omega (arith, slot-node, slot-back, S.backs g i b h);
        })
        g back (omega (arith, slot-node)) slot-back (place-held slots (W.gates + most_k * g) (get_or slots g 0) back i h refl)

  -- ---- at most k of each gate
  module _ (l : List ℕ) (distinct : Distinct l) (all : (x : ℕ) → x ∈ l → 0 < marked W slots x) where
    gate-few : (g : ℕ) → length (keep (λ (x : ℕ). ℕ_discrete (gate_at W x) g) l) ≤ get_or slots g 0
    gate-few g = subst (λ (n : ℕ). length (keep (λ (x : ℕ). ℕ_discrete (gate_at W x) g) l) ≤ n) (length_up_to (get_or slots g 0))
        (inject {R = Stands} (distinct-keep (λ (x : ℕ). ℕ_discrete (gate_at W x) g) distinct) find same)
      where
        Stands : ℕ → ℕ → Type 0
        Stands x i = Inner W x × (gate_at W x ≡ g) × (get_or slots (slot_at W.gates g i) 0 ≡ x % W.width)

        find : (x : ℕ) → x ∈ keep (λ (z : ℕ). ℕ_discrete (gate_at W z) g) l → (i : ℕ) × (i ∈ up_to (get_or slots g 0)) × Stands x i
        find x h =
            let r = in_keep (λ (z : ℕ). ℕ_discrete (gate_at W z) g) l h in
            let m = all x r.0 in
            let p = held_place slots (W.gates + most_k * g) (get_or slots g 0) (x % W.width) (subst (λ (a : ℕ). 0 < held_at W.gates slots a (x % W.width)) r.1 (marked-held W slots x m)) in
            (p.0, in_up_to p.1, (marked-inner W slots x m, r.1, p.2))

        same : (x y i : ℕ) → Stands x i → Stands y i → x ≡ y
        same x y i a c = one-copy a.0 c.0 (a.1 ∙ sym c.1) (sym a.2 ∙ c.2)

    -- **Different forced copies are at most k for each gate.**
    pub marked-few : length l ≤ k * W.gates
    marked-few =
        let r : length l ≤ length (up_to W.gates) * k = count_by ℕ_discrete (gate_at W) l (up_to W.gates) (λ x h. in_up_to (gate-inside wide_enough (marked-inner W slots x (all x h)))) k
        (λ g h. le_trans (gate-few g) (S.held g (up_to_in h))) in
        subst (λ (n : ℕ). length l ≤ n) (mul_comm W.gates k) (subst (λ (n : ℕ). length l ≤ n * k) (length_up_to W.gates) r)

pub length-holding : (gates : ℕ) (slots : List ℕ) (g n d : ℕ) → length (holding gates slots g n d) ≡ length slots
length-holding gates slots g n d = length-set (set slots (slot_at gates g n) d) g (n + 1) ∙ length-set slots (slot_at gates g n) d

-- ---- one more copy in a slot of its gate
module _ {W : Circuit} {k : ℕ} {slots : List ℕ} (S : Slotted W k slots) (g n d : ℕ) (b : g < W.gates) (e : get_or slots g 0 ≡ n) (room : n < k) where
  abbrev p : ℕ
  p = slot_at W.gates g n

  abbrev slots' : List ℕ
  slots' = holding W.gates slots g n d

  count_same : get_or slots' g 0 ≡ n + 1
  count_same = get_or-set_same (set slots p d) g (n + 1) 0 (omega (arith, length-set slots p d, b, S.places))

  count-other : (a : ℕ) → a < W.gates → ¬ (a ≡ g) → get_or slots' a 0 ≡ get_or slots a 0
  count-other a h m = get_or-set_other (set slots p d) g a (n + 1) 0 m ∙ get_or-set_other slots p a d 0 (λ q. omega (arith, q, h))

  count-more : (a : ℕ) → a < W.gates → get_or slots a 0 ≤ get_or slots' a 0
  count-more a h = go (ℕ_discrete a g)
    where
      go : Dec (a ≡ g) → get_or slots a 0 ≤ get_or slots' a 0
      go (yes q) = omega (arith, e, count_same, ap (λ (z : ℕ). get_or slots z 0) q, ap (λ (z : ℕ). get_or slots' z 0) q)
      go (no m) = omega (arith, count-other a h m)

  slot-new : get_or slots' p 0 ≡ d
  slot-new = get_or-set_other (set slots p d) g p (n + 1) 0 (λ q. omega (arith, q, b)) ∙ get_or-set_same slots p d 0 (omega (arith, b, room, S.limit, S.places))

  slot-now : (a i : ℕ) → a ≡ g → i ≡ n → get_or slots' (slot_at W.gates a i) 0 ≡ d
  slot-now a i q r = ap (λ (z : ℕ). get_or slots' (slot_at W.gates z i) 0) q ∙ (ap (λ (z : ℕ). get_or slots' (slot_at W.gates g z) 0) r ∙ slot-new)

  slot_kept : (a i : ℕ) → a < W.gates → i < get_or slots a 0 → get_or slots' (slot_at W.gates a i) 0 ≡ get_or slots (slot_at W.gates a i) 0
  slot_kept a i h l =
      get_or-set_other (set slots p d) g (slot_at W.gates a i) (n + 1) 0 (λ q. omega (arith, q, b)) ∙ get_or-set_other slots p (slot_at W.gates a i) d 0 (differ (ℕ_discrete a g))
    where
      differ : Dec (a ≡ g) → ¬ (slot_at W.gates a i ≡ p)
      differ (yes r) q = omega (arith, q, r, l, e, ap (λ (z : ℕ). get_or slots z 0) r)
      differ (no m) q = omega (arith, q, m, l, S.held a h, S.limit, room)

  -- a slot is the new one, or as before
  slot_cases : (a i : ℕ) → a < W.gates → i < get_or slots' a 0 → ((a ≡ g) × (i ≡ n)) ⊎ (i < get_or slots a 0)
  slot_cases a i h l = go (ℕ_discrete a g) (ℕ_discrete i n)
    where
      go : Dec (a ≡ g) → Dec (i ≡ n) → ((a ≡ g) × (i ≡ n)) ⊎ (i < get_or slots a 0)
      go (yes q) (yes r) = inl (q, r)
      go (yes q) (no m) = inr (omega (arith, m, l, count_same, e, ap (λ (z : ℕ). get_or slots z 0) q, ap (λ (z : ℕ). get_or slots' z 0) q))
      go (no m) r = inr (omega (arith, l, count-other a h m))

  pub slotted-holding : d ≤ W.border → held_at W.gates slots g d ≡ 0 → Slotted W k slots'
  slotted-holding near fresh = record {
    wide = S.wide;
    places = omega (arith, S.places, length-holding W.gates slots g n d);
    limit = S.limit;
    held = λ a h. held a h (ℕ_discrete a g);
    backs = λ a i h l. backs a i h (slot_cases a i h l);
    apart = λ a i j h l m. apart a i j h l (slot_cases a j h m);
  }
    where
      held : (a : ℕ) → a < W.gates → Dec (a ≡ g) → get_or slots' a 0 ≤ k
      held a h (yes q) = omega (arith, room, count_same, ap (λ (z : ℕ). get_or slots' z 0) q)
      held a h (no m) = omega (arith, count-other a h m, S.held a h)

      backs : (a i : ℕ) → a < W.gates → ((a ≡ g) × (i ≡ n)) ⊎ (i < get_or slots a 0) → get_or slots' (slot_at W.gates a i) 0 ≤ W.border
      backs a i h (inl (q, r)) = omega (arith, slot-now a i q r, near)
      backs a i h (inr l) = omega (arith, slot_kept a i h l, S.backs a i h l)

      apart : (a i j : ℕ) → a < W.gates → i < j → ((a ≡ g) × (j ≡ n)) ⊎ (j < get_or slots a 0)
          → ¬ (get_or slots' (slot_at W.gates a i) 0 ≡ get_or slots' (slot_at W.gates a j) 0)
      apart a i j h l (inl (q, r)) f =
          let s : i < get_or slots a 0 = omega (arith, l, r, e, ap (λ (z : ℕ). get_or slots z 0) q) in
          omega (
            arith,
            fresh,
            ap (λ (z : ℕ). held_at W.gates slots z d) q,
            place-held slots (W.gates + most_k * a) (get_or slots a 0) d i s (sym (slot_kept a i h s) ∙ (f ∙ slot-now a j q r)),
          )
      apart a i j h l (inr m) f =
          let s : i < get_or slots a 0 = omega (arith, l, m) in
          S.apart a i j h l m (sym (slot_kept a i h s) ∙ (f ∙ slot_kept a j h m))

  -- ---- what is forced then
  held_kept : (a c : ℕ) → a < W.gates → 0 < held_at W.gates slots a c → 0 < held_at W.gates slots' a c
  held_kept a c h l =
      let r = held_place slots (W.gates + most_k * a) (get_or slots a 0) c l in
      place-held slots' (W.gates + most_k * a) (get_or slots' a 0) c r.0 (omega (arith, r.1, count-more a h)) (slot_kept a r.0 h r.1 ∙ r.2)

  held-before : (a c : ℕ) → a < W.gates → ¬ ((a ≡ g) × (c ≡ d)) → 0 < held_at W.gates slots' a c → 0 < held_at W.gates slots a c
  held-before a c h m l =
      let r = held_place slots' (W.gates + most_k * a) (get_or slots' a 0) c l in
      go r.0 r.2 (slot_cases a r.0 h r.1)
    where
      go : (i : ℕ) → get_or slots' (slot_at W.gates a i) 0 ≡ c → ((a ≡ g) × (i ≡ n)) ⊎ (i < get_or slots a 0) → 0 < held_at W.gates slots a c
      go i f (inl (q, r)) = absurd (m (q, sym f ∙ slot-now a i q r))
      go i f (inr s) = place-held slots (W.gates + most_k * a) (get_or slots a 0) c i s (sym (slot_kept a i h s) ∙ f)

  pub marked-after : (x : ℕ) → 0 < marked W slots x → 0 < marked W slots' x
  marked-after x h =
      let i = marked-inner W slots x h in
      held-marked W slots' x i (gate_at W x) (x % W.width) refl refl (held_kept (gate_at W x) (x % W.width) (gate-inside (wide_enough S) i) (marked-held W slots x h))

  module _ (y : ℕ) (inner : Inner W y) (gate : gate_at W y ≡ g) (depth : y % W.width ≡ d) where
    pub marked-new : 0 < marked W slots' y
    marked-new = held-marked W slots' y inner g d gate depth (place-held slots' (W.gates + most_k * g) (get_or slots' g 0) d n (omega (arith, count_same)) slot-new)

    pub marked-before : (x : ℕ) → ¬ (x ≡ y) → 0 < marked W slots' x → 0 < marked W slots x
    marked-before x m h =
        let i = marked-inner W slots' x h in
        held-marked W slots x i (gate_at W x) (x % W.width) refl refl (held-before (gate_at W x) (x % W.width) (gate-inside (wide_enough S) i)
        (λ q. m (one-copy i inner (q.0 ∙ sym gate) (q.1 ∙ sym depth))) (marked-held W slots' x h))
