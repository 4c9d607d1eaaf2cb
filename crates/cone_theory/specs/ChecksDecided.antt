-- The checks 6, 7, 9, 10 and 11 are decided: 9 by growing, for each gate, what drives it without registers; 10 by growing, for each gate, what it
-- reads; 11 by growing, for each output, what it reads.
use Rattle.std.specs.Prelude.{◌≡◌, refl, ◌⊎◌, List, [], ◌∷◌, map, ℕ, length}
use Rattle.std.proofs.Common.{sym, subst, inl, inr, arith}
use Rattle.std.proofs.Math.Decide.{ℕ_discrete, dec_lt, dec_le}
use Rattle.sequences.specs.Member.{◌∈◌, here, there, not_in_nil, in_equal, memb?, memb_step, in_map, map_in}
use Rattle.sequences.specs.Decide.{dec-×, dec-¬, dec_map, any?, any_step, all?, all-step, up_to, in_up_to}
use Rattle.sequences.specs.Keep.{keep, keep_in, in_keep}
use Rattle.sequences.specs.Grow.{Reach, Grown, grow}
use Rattle.net_model.specs.Net.{Net, Pin, size, IsGate, IsInput, IsNode, pins}
use Rattle.net_model.specs.Checks.{Sound, Fits, Drives, Line, Loopless, Reached, AllReached, Leading, AllLeading, Passed}
use Rattle.cone_theory.specs.Basics.{is_gate?}
use Rattle.cone_theory.specs.FewCopies.{gate_numbers, in_gate_numbers, gate_numbers_in}

-- ---- the sources of a gate
unfoldable pub listed_if : {A X : Type 0} → Dec X → List A → List A
listed_if (yes x) l = l
listed_if (no n) l = []

in_listed_if : {A X : Type 0} {a : A} {l : List A} (d : Dec X) → X → a ∈ l → a ∈ listed_if d l
unfolding listed_if
in_listed_if (yes x) y h = h
in_listed_if (no n) y h = absurd (n y)

listed_if_in : {A X : Type 0} {a : A} {l : List A} (d : Dec X) → a ∈ listed_if d l → X × (a ∈ l)
unfolding listed_if
listed_if_in (yes x) h = (x, h)
listed_if_in (no n) h = absurd (not_in_nil h)

-- what gate v reads, through any counts
unfoldable pub sources : Net → ℕ → List ℕ
unfolding listed_if is_gate?
sources N v = listed_if (is_gate? N v) (map (λ (p : Pin). p.src) (pins N v))

-- what gate v reads without registers
unfoldable pub free_sources : Net → ℕ → List ℕ
unfolding listed_if is_gate? keep ℕ_discrete
free_sources N v = listed_if (is_gate? N v) (map (λ (p : Pin). p.src) (keep (λ (p : Pin). ℕ_discrete p.count 0) (pins N v)))

pub in_sources : {N : Net} {v : ℕ} (p : Pin) → IsGate N v → p ∈ pins N v → p.src ∈ sources N v
unfolding sources
in_sources {N} {v} p g h = in_listed_if (is_gate? N v) g (in_map (λ (p : Pin). p.src) h)

pub sources_in : {N : Net} {s v : ℕ} → s ∈ sources N v → (p : Pin) × IsGate N v × (p ∈ pins N v) × (p.src ≡ s)
unfolding sources
sources_in {N} {s} {v} h =
    let r = listed_if_in (is_gate? N v) h in
    let t = map_in (λ (p : Pin). p.src) (pins N v) r.1 in
    (t.0, r.0, t.1, sym t.2)

pub in_free_sources : {N : Net} {s v : ℕ} → Drives N s v → s ∈ free_sources N v
unfolding free_sources
in_free_sources {N} {s} {v} d = in_equal (sym d.source) (in_listed_if (is_gate? N v) d.gate (in_map (λ (p : Pin). p.src) (keep_in (λ (p : Pin). ℕ_discrete p.count 0) d.is_pin d.free)))

pub free_sources_in : {N : Net} {s v : ℕ} → s ∈ free_sources N v → Drives N s v
unfolding free_sources
free_sources_in {N} {s} {v} h =
    let r = listed_if_in (is_gate? N v) h in
    let t = map_in (λ (p : Pin). p.src) (keep (λ (p : Pin). ℕ_discrete p.count 0) (pins N v)) r.1 in
    let q = in_keep (λ (p : Pin). ℕ_discrete p.count 0) (pins N v) t.1 in
    record { gate = r.0; pin = t.0; is_pin = q.0; source = sym t.2; free = q.1 }

pub line-gate : {N : Net} {s v : ℕ} → Line N s v → IsGate N v
line-gate (Line.one d) = d.gate
line-gate (Line.more d l) = line-gate l

-- ---- 9
module _ {N : Net} {v : ℕ} where
  pub reach-line : {x : ℕ} → Reach (free_sources N) (gate_numbers N) v x → (x ≡ v) ⊎ Line N x v
  reach-line (Reach.stop e) = inl e
  reach-line {x} (Reach.step u r h m) = inr (go (reach-line r))
    where
      go : (u ≡ v) ⊎ Line N u v → Line N x v
      go (inl e) = Line.one (subst (Drives N x) e (free_sources_in h))
      go (inr l) = Line.more (free_sources_in h) l

  pub line-reach : (r : Grown (free_sources N) (gate_numbers N) v) {s : ℕ} → Line N s v → (x : ℕ) × (x ∈ r.set) × (s ∈ free_sources N x)
  line-reach r (Line.one d) = (v, r.starts, in_free_sources d)
  line-reach r (Line.more {u = u} d l) =
      let t = line-reach r l in
      (u, r.closed t.0 u t.1 t.2 (in_gate_numbers d.gate), in_free_sources d)

  pub reach-loop : (r : Grown (free_sources N) (gate_numbers N) v) → (x : ℕ) × (x ∈ r.set) × (v ∈ free_sources N x) → Line N v v
  reach-loop r (x, h, k) = go (reach-line (r.reached x h))
    where
      go : (x ≡ v) ⊎ Line N x v → Line N v v
      go (inl e) = Line.one (subst (Drives N v) e (free_sources_in k))
      go (inr l) = Line.more (free_sources_in k) l

unfoldable pub loop? : (N : Net) (v : ℕ) → v ∈ gate_numbers N → Dec (Line N v v)
unfolding grow ℕ_discrete free_sources gate_numbers dec_map any? any_step memb? memb_step
loop? N v h =
    let r = grow ℕ_discrete (free_sources N) (gate_numbers N) v h in
    dec_map (reach-loop r) (line-reach r) (any? r.set (λ x k. memb? ℕ_discrete v (free_sources N x)))

unfoldable pub loopless? : (N : Net) → Dec (Loopless N)
unfolding loop? dec_map dec-¬ all? all-step gate_numbers
loopless? N = dec_map (λ f v l. f v (in_gate_numbers (line-gate l)) l) (λ f v h. f v) (all? (gate_numbers N) (λ v h. dec-¬ (loop? N v h)))

-- ---- 10
pub reached-node : {N : Net} {v : ℕ} → Reached N v → IsNode N v
reached-node (Reached.input i) = omega (arith, i)
reached-node (Reached.along p g h r) = g.high

module _ {N : Net} {v : ℕ} where
  pub reached-reach : (r : Grown (sources N) (up_to (size N)) v) {s : ℕ} → s ∈ r.set → Reached N s → (i : ℕ) × (i ∈ r.set) × IsInput N i
  reached-reach r {s} h (Reached.input i) = (s, h, i)
  reached-reach r {s} h (Reached.along p g k t) = reached-reach r (r.closed s p.src h (in_sources p g k) (in_up_to (reached-node t))) t

  pub reach-reached : {x : ℕ} → Reach (sources N) (up_to (size N)) v x → Reached N x → Reached N v
  reach-reached (Reach.stop e) t = subst (Reached N) e t
  reach-reached {x} (Reach.step u r h m) t =
      let q = sources_in {N = N} h in
      reach-reached r (Reached.along q.0 q.1 q.2 (subst (Reached N) (sym q.3) t))

  pub inputs-reached : (r : Grown (sources N) (up_to (size N)) v) → (i : ℕ) × (i ∈ r.set) × IsInput N i → Reached N v
  inputs-reached r (i, h, k) = reach-reached (r.reached i h) (Reached.input k)

unfoldable pub reached_gate? : (N : Net) (v : ℕ) → IsGate N v → Dec (Reached N v)
unfolding grow ℕ_discrete sources up_to dec_map any? any_step dec_lt
reached_gate? N v g =
    let r = grow ℕ_discrete (sources N) (up_to (size N)) v (in_up_to g.high) in
    dec_map (inputs-reached r) (reached-reach r r.starts) (any? r.set (λ i h. dec_lt i N.inputs))

unfoldable pub reached? : (N : Net) → Dec (AllReached N)
unfolding reached_gate? dec_map all? all-step gate_numbers
reached? N = dec_map (λ f v g. f v (in_gate_numbers g)) (λ f v h. f v (gate_numbers_in h)) (all? (gate_numbers N) (λ v h. reached_gate? N v (gate_numbers_in h)))

-- ---- 11
module _ {N : Net} {o : Pin} (is_output : o ∈ N.outputs) where
  pub reach-leading : {x : ℕ} → Reach (sources N) (o.src ∷ up_to (size N)) o.src x → Leading N x
  reach-leading (Reach.stop e) = Leading.output o is_output (sym e)
  reach-leading {x} (Reach.step u r h m) =
      let q = sources_in {N = N} h in
      Leading.along u q.0 q.1 q.2 q.3 (reach-leading r)

-- what output o reads, near and far
unfoldable pub read_by : (N : Net) (o : Pin) → Grown (sources N) (o.src ∷ up_to (size N)) o.src
unfolding grow ℕ_discrete sources up_to
read_by N o = grow ℕ_discrete (sources N) (o.src ∷ up_to (size N)) o.src (here refl)

pub leading-reach : {N : Net} {v : ℕ} → IsNode N v → Leading N v → (o : Pin) × (o ∈ N.outputs) × (v ∈ (read_by N o).set)
leading-reach {N} n (Leading.output o h e) = (o, h, in_equal (sym e) (read_by N o).starts)
leading-reach {N} {v} n (Leading.along u p g h e l) =
    let r = leading-reach g.high l in
    (r.0, r.1, (read_by N r.0).closed u v r.2 (in_equal (sym e) (in_sources p g h)) (there (in_up_to n)))

unfoldable pub leading_gate? : (N : Net) (v : ℕ) → IsGate N v → Dec (Leading N v)
unfolding read_by dec_map any? any_step memb? memb_step ℕ_discrete
leading_gate? N v g =
    dec_map (λ r. reach-leading r.1 ((read_by N r.0).reached v r.2)) (leading-reach g.high) (any? N.outputs (λ o h. memb? ℕ_discrete v (read_by N o).set))

unfoldable pub leading? : (N : Net) → Dec (AllLeading N)
unfolding leading_gate? dec_map all? all-step gate_numbers
leading? N = dec_map (λ f v g. f v (in_gate_numbers g)) (λ f v h. f v (gate_numbers_in h)) (all? (gate_numbers N) (λ v h. leading_gate? N v (gate_numbers_in h)))

-- ---- 6, 7, and all five
unfoldable pub sound? : (N : Net) → Dec (Sound N)
unfolding dec_map dec-× all? all-step gate_numbers dec_lt
sound? N = dec_map (λ h. record { pin = λ v g. h.0 v (in_gate_numbers g); output = h.1 }) (λ s. (λ v h. s.pin v (gate_numbers_in h), s.output))
    (dec-× (all? (gate_numbers N) (λ v h. all? (pins N v) (λ p k. dec_lt p.src (size N)))) (all? N.outputs (λ o h. dec_lt o.src (size N))))

unfoldable pub fits? : (N : Net) (k : ℕ) → Dec (Fits N k)
unfolding dec_map all? all-step gate_numbers dec_le
fits? N k = dec_map (λ f v g. f v (in_gate_numbers g)) (λ f v h. f v (gate_numbers_in h)) (all? (gate_numbers N) (λ v h. dec_le (length (pins N v)) k))

unfoldable pub passed? : (N : Net) (k : ℕ) → Dec (Passed N k)
unfolding dec_map dec-× sound? fits? loopless? reached? leading?
passed? N k = dec_map (λ h. record { sound = h.0; fits = h.1.0; loopless = h.1.1.0; reached = h.1.1.1.0; leading = h.1.1.1.1 })
    (λ p. (p.sound, (p.fits, (p.loopless, (p.reached, p.leading)))))
    (dec-× (sound? N) (dec-× (fits? N k) (dec-× (loopless? N) (dec-× (reached? N) (leading? N)))))
