-- Without a loop of register-free pins each node has a level, the number of gates on the longest register-free line that ends there (a longer
-- line than there are gates would meet one twice), and feeding goes down in the order by d, then by level. Checks 9, 10 and 11 are decided.
use Rattle.std.specs.Prelude.{◌≡◌, refl, ◌⊎◌, List, [], ◌∷◌, ℕ, zero, suc, ◌+◌, ◌*◌, ◌-◌, ◌≤◌, ◌<◌, length}
use Rattle.std.proofs.Common.{sym, ap, subst, inl, inr, zero-le, suc-mul, mul-le-mul_right, arith}
use Rattle.std.proofs.Math.Decide.{ℕ_discrete, dec_lt}
use Rattle.sequences.specs.Member.{◌∈◌, here, there, not_in_nil, Within}
use Rattle.sequences.specs.Decide.{dec-×, any?, Greatest, greatest}
use Rattle.sequences.specs.Distinct.{Distinct, distinct_nil, distinct_cons, within_cons, pigeonhole}
use Rattle.net_model.specs.Net.{Net, Pin, IsGate, pins}
use Rattle.net_model.specs.Checks.{Drives, Line, Loopless}
use Rattle.net_model.specs.Copies.{Copy, Feeds}
use Rattle.cone_theory.specs.Basics.{is_gate?}
unfoldable pub use Rattle.cone_theory.specs.ChecksDecided.{loopless?, reached?, leading?}
use Rattle.cone_theory.specs.FewCopies.{gate_numbers, in_gate_numbers, length-gate_numbers}

pub line_snoc : {N : Net} {s u v : ℕ} → Line N s u → Drives N u v → Line N s v
line_snoc (Line.one d) e = Line.more d (Line.one e)
line_snoc (Line.more d l) e = Line.more d (line_snoc l e)

-- ---- levels
-- n gates stand on a register-free line that ends in v.
abbrev Ends : Net → ℕ → ℕ → Type 0
Ends N zero v = Unit {0}
Ends N (suc zero) v = IsGate N v
Ends N (suc (suc n)) v = IsGate N v × ((p : Pin) × (p ∈ pins N v) × ((p.count ≡ 0) × Ends N (suc n) p.src))

ends? : (N : Net) (n v : ℕ) → Dec (Ends N n v)
ends? N zero v = yes tt
ends? N (suc zero) v = is_gate? N v
ends? N (suc (suc n)) v = dec-× (is_gate? N v) (any? (pins N v) (λ p h. dec-× (ℕ_discrete p.count 0) (ends? N (suc n) p.src)))

drives : {N : Net} {v : ℕ} → IsGate N v → (p : Pin) → p ∈ pins N v → p.count ≡ 0 → Drives N p.src v
drives g p h z = record { gate = g; pin = p; is_pin = h; source = refl; free = z }

-- the gates of a line that ends in v
record Gates (N : Net) (n v : ℕ) : Type 0 where
  list : List ℕ
  long : length list ≡ n
  distinct : Distinct list
  within : Within list (gate_numbers N)
  leads : (w : ℕ) → w ∈ list → (w ≡ v) ⊎ Line N w v

pub record Levels (N : Net) : Type 0 where
  pub level : ℕ → ℕ
  pub rises : {s v : ℕ} → Drives N s v → level s < level v
  pub bound : (v : ℕ) → level v ≤ length N.gates
  pub gate : (v : ℕ) → IsGate N v → 1 ≤ level v
  pub input : (v : ℕ) → ¬ IsGate N v → level v ≡ 0

module _ {N : Net} (loopless : Loopless N) where
  gates-one : {v : ℕ} → IsGate N v → Gates N 1 v
  gates-one {v} g = record { list = v ∷ []; long = refl; distinct = distinct_cons not_in_nil distinct_nil; within = within_cons (in_gate_numbers g) (λ w h. absurd (not_in_nil h)); leads = leads }
    where
      leads : (w : ℕ) → w ∈ v ∷ [] → (w ≡ v) ⊎ Line N w v
      leads w (here e) = inl e
      leads w (there h) = absurd (not_in_nil h)

  gates_cons : {n s v : ℕ} → Drives N s v → Gates N n s → Gates N (suc n) v
  gates_cons {n} {s} {v} d r = record {
    list = v ∷ r.list;
    long = ap suc r.long;
    distinct = distinct_cons (λ h. loopless v (from v (r.leads v h))) r.distinct;
    within = within_cons (in_gate_numbers d.gate) r.within;
    leads = leads;
  }
    where
      from : (w : ℕ) → (w ≡ s) ⊎ Line N w s → Line N w v
      from w (inl e) = Line.one (subst (λ (x : ℕ). Drives N x v) (sym e) d)
      from w (inr l) = line_snoc l d

      leads : (w : ℕ) → w ∈ v ∷ r.list → (w ≡ v) ⊎ Line N w v
      leads w (here e) = inl e
      leads w (there h) = inr (from w (r.leads w h))

  ends-gates : (n v : ℕ) → Ends N (suc n) v → Gates N (suc n) v
  ends-gates zero v g = gates-one g
  ends-gates (suc n) v (g, (p, h, (z, r))) = gates_cons (drives g p h z) (ends-gates n p.src r)

  ends-bound : (n v : ℕ) → Ends N n v → n ≤ length N.gates
  ends-bound zero v h = zero-le
  ends-bound (suc n) v h =
      let r = ends-gates n v h in
      omega (arith, r.long, pigeonhole r.distinct r.within, length-gate_numbers N)

  longest : (v : ℕ) → Greatest (λ n. Ends N n v) (length N.gates) 0
  longest v = greatest (λ n. Ends N n v) (λ n. ends? N n v) (length N.gates) 0 zero-le tt

  at_least : (v n : ℕ) → Ends N n v → Dec ((longest v).value < n) → n ≤ (longest v).value
  at_least v n h (yes l) = absurd ((longest v).greatest n l (ends-bound n v h) h)
  at_least v n h (no m) = omega arith

  driven : {s v : ℕ} → Drives N s v → (n : ℕ) → Ends N n s → Ends N (suc n) v
  driven d zero h = d.gate
  driven {s} d (suc n) h = (d.gate, (d.pin, d.is_pin, (d.free, subst (Ends N (suc n)) (sym d.source) h)))

  no_line : (v n : ℕ) → ¬ IsGate N v → Ends N n v → n ≡ 0
  no_line v zero m h = refl
  no_line v (suc zero) m h = absurd (m h)
  no_line v (suc (suc n)) m h = absurd (m h.0)

  pub levels : Levels N
  levels = record {
    level = λ v. (longest v).value;
    rises = λ {s} {v} d. at_least v (suc (longest s).value) (driven d (longest s).value (longest s).holds) (dec_lt (longest v).value (suc (longest s).value));
    bound = λ v. (longest v).bound;
    gate = λ v g. at_least v 1 g (dec_lt (longest v).value 1);
    input = λ v m. no_line v (longest v).value m (longest v).holds;
  }

-- ---- feeding goes down
module _ {N : Net} (O : Levels N) where
  pub feeds-order : {y x : Copy} → Feeds N y x → (x.back < y.back) ⊎ ((x.back ≡ y.back) × (O.level y.node < O.level x.node))
  feeds-order {y} {x} f = go f.pin.count refl
    where
      go : (c : ℕ) → f.pin.count ≡ c → (x.back < y.back) ⊎ ((x.back ≡ y.back) × (O.level y.node < O.level x.node))
      go zero e = inr (omega (arith, f.depth), O.rises (record { gate = f.gate; pin = f.pin; is_pin = f.is_pin; source = sym f.source; free = e }))
      go (suc c) e = inl (omega (arith, f.depth))

  -- a number that falls from each copy to those that feed it, as far back as D
  abbrev pub measure : ℕ → Copy → ℕ
  measure D c = (D - c.back) * suc (length N.gates) + O.level c.node

  pub feeds-measure : (D : ℕ) {y x : Copy} → Feeds N y x → y.back ≤ D → measure D y < measure D x
  feeds-measure D {y} {x} f h = go (feeds-order f)
    where
      go : (x.back < y.back) ⊎ ((x.back ≡ y.back) × (O.level y.node < O.level x.node)) → measure D y < measure D x
      go (inl l) =
          let m : suc (D - y.back) ≤ D - x.back = omega arith in
          omega (arith, mul-le-mul_right (suc (length N.gates)) m, suc-mul (D - y.back) (suc (length N.gates)), O.bound y.node)
      go (inr l) = omega (arith, ap (λ (d : ℕ). (D - d) * suc (length N.gates)) l.0, l.1)
