-- Laws of the expanded circuit: its graph is lawful, and copies by their numbers.
use Rattle.std.specs.Prelude.{◌≡◌, List, ℕ, zero, suc, ◌+◌, ◌-◌, ◌*◌, ◌/◌, ◌%◌, ◌<◌, get_or}
use Rattle.std.proofs.Math.Path.{refl}
use Rattle.std.proofs.Common.{sym, ap, ◌∙◌, mod-eq_of_lt, div-lt_iff_lt-mul, mul-le-mul_right, suc-mul, arith}
use Rattle.std.proofs.Math.Nat.{mul-add-div_right, mul-add-mod_self_right, div-eq_of_lt}
use Rattle.std.proofs.Math.Decide.{ℕ_discrete}
use Rattle.limits.specs.Limits.{most_pins}
use Rattle.sequences.specs.Keep.{bit, bit_yes, bit_no}
use Rattle.cut_flow.specs.Graph.{Lawful}
use Rattle.cut_circuit.specs.Circuit.{Circuit, total, place, ending, ending_at, feeding_at, unless, among, held_at, forced_at, forced_in, graph_of, Layout}

-- ---- numbers of copies
pub unless-zero : (e n : ℕ) → e ≡ 0 → unless e n ≡ n
unless-zero zero n p = refl
unless-zero (suc e) n p = absurd (omega (arith, p))

pub unless-less : (e n j : ℕ) → j < unless e n → (e ≡ 0) × (j < n)
unless-less zero n j h = (refl, h)
unless-less (suc e) n j h = absurd (omega (arith, h))

pub unless-positive : (e n : ℕ) → 0 < e → unless e n ≡ 0
unless-positive zero n h = absurd (omega (arith, h))
unless-positive (suc e) n h = refl

pub node_of : (u d w : ℕ) → d < w → (u * w + d) / w ≡ u
node_of u d w h = mul-add-div_right (omega arith) u d ∙ omega (arith, div-eq_of_lt h)

pub back-of : (u d w : ℕ) → d < w → (u * w + d) % w ≡ d
back-of u d w h = mul-add-mod_self_right u w d ∙ mod-eq_of_lt h

pub copy-inside : (u d w n : ℕ) → u < n → d < w → u * w + d < n * w
copy-inside u d w n h k = omega (arith, mul-le-mul_right w h, suc-mul u w)

pub node-below : (x w n : ℕ) → 0 < w → x < n * w → x / w < n
node-below x w n h k = (div-lt_iff_lt-mul h).1 k

-- the copy is known by its node and its d
pub copy_parts : (u d w x : ℕ) → d < w → u * w + d ≡ x → (u ≡ x / w) × (d ≡ x % w)
copy_parts u d w x h e = (sym (node_of u d w h) ∙ ap (λ (z : ℕ). z / w) e, sym (back-of u d w h) ∙ ap (λ (z : ℕ). z % w) e)

-- ---- the forced copies
module _ (inputs gates width border : ℕ) (slots : List ℕ) (x : ℕ) where
  -- they are inner copies
  pub forced-inner : 0 < forced_at inputs gates width border slots x → ending_at inputs width border x + (suc x - (inputs + gates) * width) ≡ 0
  unfolding forced_at
  forced-inner h = (unless-less (ending_at inputs width border x + (suc x - (inputs + gates) * width)) (held_at gates slots (x / width - inputs) (x % width)) 0 h).0

  pub forced-held : 0 < forced_at inputs gates width border slots x → 0 < held_at gates slots (x / width - inputs) (x % width)
  unfolding forced_at
  forced-held h = (unless-less (ending_at inputs width border x + (suc x - (inputs + gates) * width)) (held_at gates slots (x / width - inputs) (x % width)) 0 h).1

  pub held-forced : x < (inputs + gates) * width → ending_at inputs width border x ≡ 0 → forced_at inputs gates width border slots x ≡ held_at gates slots (x / width - inputs) (x % width)
  unfolding forced_at
  held-forced h e = unless-zero (ending_at inputs width border x + (suc x - (inputs + gates) * width)) (held_at gates slots (x / width - inputs) (x % width)) (omega (arith, e, h))

  pub ends-unforced : 0 < ending_at inputs width border x → forced_at inputs gates width border slots x ≡ 0
  unfolding forced_at
  ends-unforced h = unless-positive (ending_at inputs width border x + (suc x - (inputs + gates) * width)) (held_at gates slots (x / width - inputs) (x % width)) (omega (arith, h))

-- ---- the slots of a gate
-- d stands in one of the n places from p
pub held_place : (slots : List ℕ) (p n d : ℕ) → 0 < among slots p n d → (i : ℕ) × (i < n) × (get_or slots (p + i) 0 ≡ d)
unfolding among
held_place slots p zero d h = absurd (omega (arith, h))
held_place slots p (suc n) d h = go (held_place slots (suc p) n d) (ℕ_discrete (get_or slots p 0) d)
  where
    go : (0 < among slots (suc p) n d → (i : ℕ) × (i < n) × (get_or slots (suc p + i) 0 ≡ d)) → Dec (get_or slots p 0 ≡ d) → (i : ℕ) × (i < suc n) × (get_or slots (p + i) 0 ≡ d)
    go rest (yes e) = (0, omega arith, ap (λ (q : ℕ). get_or slots q 0) (omega arith) ∙ e)
    go rest (no m) =
        let r = rest (omega (arith, h, bit_no m (ℕ_discrete (get_or slots p 0) d))) in
        (suc r.0, omega (arith, r.1), ap (λ (q : ℕ). get_or slots q 0) (omega arith) ∙ r.2)

pub place-held : (slots : List ℕ) (p n d i : ℕ) → i < n → get_or slots (p + i) 0 ≡ d → 0 < among slots p n d
unfolding among
place-held slots p zero d i h e = absurd (omega (arith, h))
place-held slots p (suc n) d zero h e =
    omega (arith, bit_yes (ap (λ (q : ℕ). get_or slots q 0) (omega arith) ∙ e) (ℕ_discrete (get_or slots p 0) d))
place-held slots p (suc n) d (suc i) h e =
    omega (arith, place-held slots (suc p) n d i (omega (arith, h)) (ap (λ (q : ℕ). get_or slots q 0) (omega arith) ∙ e))

-- the places from p are the same
pub among_same : (slots slots' : List ℕ) (p n d : ℕ) → ((i : ℕ) → i < n → get_or slots' (p + i) 0 ≡ get_or slots (p + i) 0) → among slots' p n d ≡ among slots p n d
unfolding among
among_same slots slots' p zero d f = refl
among_same slots slots' p (suc n) d f =
    ap (λ (q : ℕ). q + among slots' (suc p) n d) (ap (λ (q : ℕ). bit (ℕ_discrete q d)) (at zero (omega arith) (omega arith)))
    ∙ ap (λ (q : ℕ). bit (ℕ_discrete (get_or slots p 0) d) + q) (among_same slots slots' (suc p) n d (λ i h. at (suc i) (omega (arith, h)) (omega arith)))
  where
    at : (i : ℕ) {q : ℕ} → i < suc n → p + i ≡ q → get_or slots' q 0 ≡ get_or slots q 0
    at i h e = ap (λ (z : ℕ). get_or slots' z 0) (sym e) ∙ (f i h ∙ ap (λ (z : ℕ). get_or slots z 0) e)

-- ---- what the layout gives
module _ {C : Circuit} (L : Layout C) where
  pub wide-positive : 0 < C.width
  wide-positive = omega (arith, L.wide)

  -- a copy inside the border is a gate's
  pub gate-below : (x : ℕ) → x < total C → ending C x ≡ 0 → x / C.width - C.inputs < C.gates
  gate-below x h e = omega (arith, node-below x C.width (C.inputs + C.gates) wide-positive h, e)

  module _ (x j : ℕ) (h : x < total C) (e : ending C x ≡ 0) (k : j < get_or C.pins (x / C.width - C.inputs) 0) where
    pub place-below : place C x j < most_pins * C.gates
    place-below = omega (arith, L.few (x / C.width - C.inputs) (gate-below x h e), gate-below x h e, k)

    pub source-node : get_or C.sources (place C x j) 0 < C.inputs + C.gates
    source-node = L.source (x / C.width - C.inputs) j (gate-below x h e) k

    pub source-back : x % C.width + get_or C.counts (place C x j) 0 < C.width
    source-back = omega (arith, L.count (x / C.width - C.inputs) j (gate-below x h e) k, e)

    pub source-below : feeding_at C.width C.sources C.counts x (place C x j) < total C
    source-below = copy-inside (get_or C.sources (place C x j) 0) (x % C.width + get_or C.counts (place C x j) 0) C.width (C.inputs + C.gates) source-node source-back

  pub lawful : Lawful (graph_of C)
  unfolding graph_of
  lawful = record {
    bare = λ x h. unless-positive (ending C x) (get_or C.pins (x / C.width - C.inputs) 0) h;
    inner = λ x h. forced-inner C.inputs C.gates C.width C.border C.slots x h;
    forced = λ x h. let e = forced-inner C.inputs C.gates C.width C.border C.slots x h in omega (arith, e);
    inside = λ x j h k.
        let r = unless-less (ending C x) (get_or C.pins (x / C.width - C.inputs) 0) j k in
        source-below x j h r.0 r.1;
  }

-- ---- the graph's parts
module _ (C : Circuit) where
  pub size_is : (graph_of C).size ≡ total C
  unfolding graph_of
  size_is = refl

  pub terminal-is : (x : ℕ) → (graph_of C).terminal x ≡ ending C x
  unfolding graph_of
  terminal-is x = refl

  pub pins-is : (x : ℕ) → (graph_of C).terminal x ≡ 0 → (graph_of C).pins x ≡ get_or C.pins (x / C.width - C.inputs) 0
  unfolding graph_of
  pins-is x e = unless-zero (ending C x) (get_or C.pins (x / C.width - C.inputs) 0) e

  pub pin-below : (x j : ℕ) → j < (graph_of C).pins x → (ending C x ≡ 0) × (j < get_or C.pins (x / C.width - C.inputs) 0)
  unfolding graph_of
  pin-below x j h = unless-less (ending C x) (get_or C.pins (x / C.width - C.inputs) 0) j h

  pub source_is : (x j : ℕ) → (graph_of C).source x j ≡ feeding_at C.width C.sources C.counts x (place C x j)
  unfolding graph_of
  source_is x j = refl

  pub forced-is : (x : ℕ) → (graph_of C).forced x ≡ forced_in C x
  unfolding graph_of
  forced-is x = refl
