-- Laws of labels at the end: past a ceiling, or at rest.
use Rattle.std.specs.Prelude.{◌≡◌, List, Result, Ok, Err, IsOk, Bool, true, false, ◌⊎◌, ℕ, ◌+◌, ◌*◌, ◌≤◌, ◌<◌, ℤ, pos, ◌-ℤ◌, get_or, ◌≤ℤ◌}
use Rattle.std.proofs.Common.{sym, ◌∙◌, subst, inl, inr, zero-add, arith}
use Rattle.std.proofs.lemmas.Bool.{true≢false, false≢true}
use Rattle.std.specs.Result.{is_ok}
use Rattle.integers.specs.Parts.{ints}
use Rattle.sequences.specs.Member.{◌∈◌}
use Rattle.net_model.specs.Net.{Net, Pin, IsInput, IsGate}
use Rattle.net_model.specs.Arrays.{pins_in}
use Rattle.net_model.specs.ArrayLaws.{pin_at, pins_in_in, in_pins_in}
use Rattle.label_theory.specs.Labels.{Mode, plain, forward, LabellingIn, Labelling, OutputsMet, ReachableIn}
use Rattle.label_theory.specs.Modes.{Topped, labelling-top}
use Rattle.label_theory.specs.Lower.{input_or_gate, remember, outputs-under, outputs-from}
use Rattle.signed.specs.Range.{label_in}
use Rattle.cut_circuit.specs.Circuit.{Circuit, Layout}
use Rattle.cut_circuit.specs.Packed.{packed_of}
use Rattle.cut_circuit.specs.declared.Extent.{Extent}
use Rattle.label_visit.specs.declared.PastCeiling.{PastCeiling}
use Rattle.label_visit.specs.LabelVisits.{Suits, Quiet, Bounds, wiring, Ready, Fine}
use Rattle.label_visit.specs.BoundLaws.{quiet-least, sane_of}
use Rattle.label_visit.specs.ReadyLaws.{pins-fit}
use Rattle.label_pins.specs.PinHeights.{height_at}
use Rattle.label_start.specs.Starts.{Startable, Begun}
use Rattle.label_sweep.specs.Sweeps.{OutsMet, OutFits, Ends, Sized, SettleTold, Labelled}

-- sizes that do not depend on what the labels hold
pub startable : {s : Extent} {net slots : List ℕ} {ls : List ℤ} {os oc : List ℕ} {φ k n : ℕ} → Layout (packed_of s net slots) → Sized s ls os oc φ k n → Startable s net ls φ k
startable L z = record { read = record { fit = λ ls. pins-fit L }; size = z.size; shift = z.shift; wide = L.wide; least = z.least; limit = z.limit; fits = z.fits }

pub ready_of : {s : Extent} {net : List ℕ} {ls ls' : List ℤ} {os oc : List ℕ} {φ k n : ℕ} → Sized s ls os oc φ k n → Fine (wiring s net) ls' → Ready s ls' φ k
ready_of z f = record { size = f.size; small = f.small; shift = z.shift; least = z.least; limit = z.limit; fits = z.fits }

-- what a mode asks besides is asked for nothing in the plain one
labelling-plain : {M : Mode} {N : Net} {k φ : ℕ} {lab : ℕ → ℤ} → LabellingIn M N k φ lab → Labelling N k φ lab
labelling-plain l = record { inputs = l.inputs; gates = λ v g. remember (l.gates v g) (λ x m i. tt) }

-- the floors are a lower bound, in each mode
pub begun-bounds : {M : Mode} {C : Circuit} {k φ : ℕ} {tops : List ℕ} {ls : List ℤ} → Begun C k φ ls → Bounds M C k φ tops ls
begun-bounds b N S = let f = b.bounds N (sane_of S) in record { inputs = f.inputs; below = λ lab l. f.below lab (labelling-plain l) }

pub out-fits : {s : Extent} {net : List ℕ} {ls ls' : List ℤ} {os oc : List ℕ} {φ k n : ℕ} → Sized s ls os oc φ k n → Fine (wiring s net) ls' → OutFits os oc ls' φ n
out-fits {os = os} z f = record {
  period = z.period;
  sources = z.sources;
  counts = z.counts;
  pin = λ i h. record {
    source = let a = z.sources in omega arith;
    count = let a = z.counts in omega arith;
    node = let a = z.node i h in let e = f.size in omega arith;
    small = f.small (get_or os i 0);
    shift = z.count i h;
  };
}

outs-met : (N : Net) (os oc : List ℕ) (n φ : ℕ) (ls : List ℤ) → N.outputs ≡ pins_in os oc 0 n → OutsMet os oc ls φ n → OutputsMet N φ (label_in ls)
outs-met N os oc n φ ls e f o i =
    let t = pins_in_in os oc 0 n o (subst (λ (l : List Pin). o ∈ l) e i) in
    subst (λ (x : Pin). (label_in ls x.src -ℤ pos (φ * x.count)) ≤ℤ pos φ) (sym t.2) (rw (zero-add t.0) (f t.0 t.1))

outs-of : (N : Net) (os oc : List ℕ) (n φ : ℕ) (ls : List ℤ) → N.outputs ≡ pins_in os oc 0 n → OutputsMet N φ (label_in ls) → OutsMet os oc ls φ n
outs-of N os oc n φ ls e m i h =
    let x = m (pin_at os oc (0 + i)) (subst (λ (l : List Pin). pin_at os oc (0 + i) ∈ l) (sym e) (in_pins_in os oc 0 n i h)) in
    subst (λ (y : ℕ). height_at os oc ls φ y ≤ℤ pos φ) (zero-add i) x

module _ {M : Mode} {C : Circuit} {k φ : ℕ} {tops os oc : List ℕ} {n : ℕ} {ls ls' : List ℤ} (b : Bounds M C k φ tops ls) where
  -- **past a ceiling the target is not reachable**
  pub labelled-past : {δ : ℕ} {r : Result (Unit {0}) PastCeiling} {t : Bool} → SettleTold M δ C k φ tops ls ls' r → is_ok r ≡ false → t ≡ false → Labelled M C k φ tops os oc n ls' t
  labelled-past {r = Ok x} s e z = absurd (true≢false e)
  labelled-past {r = Err x} s e z = record {
    fine = s.fine;
    found = λ f. absurd (false≢true (sym z ∙ f));
    none = λ f N S o q. s.refuted b N S q.label q.least.labelling q.outputs;
  }

module _ (C : Circuit) (φ : ℕ) (os oc : List ℕ) (n : ℕ) (ls : List ℤ) where
  -- what decides at the end leaves no label too high for the mode
  ends-topped : (M : Mode) → Ends M C os oc ls φ n → (g : ℕ) → g < C.gates → Topped M φ (label_in ls (C.inputs + g))
  ends-topped plain e g h = tt
  ends-topped forward e g h = e (C.inputs + g) (omega arith) (omega (arith, h))

  -- the outputs are met
  ends-met : (M : Mode) {k : ℕ} {tops : List ℕ} (N : Net) → Suits M C k tops N → ((v : ℕ) → IsInput N v → label_in ls v ≡ pos 0) → N.outputs ≡ pins_in os oc 0 n → Ends M C os oc ls φ n
      → OutputsMet N φ (label_in ls)
  ends-met plain N S z o e = outs-met N os oc n φ ls o e
  ends-met forward N S z o e = outputs-from N φ (label_in ls) (λ p i. low p.src (φ * p.count) (input_or_gate N p.src (S.sound.output p i)))
    where
      low : (u m : ℕ) → IsInput N u ⊎ IsGate N u → label_in ls u ≤ℤ pos (φ + m)
      low u m (inl i) = rw (z u i) (omega (arith, ints))
      low u m (inr g) = let a = S.holds.inputs in let c = S.holds.gates in let x = e u (let d = g.low in omega arith) (let d = g.high in omega arith) in omega (arith, ints, x)

  -- what decides holds where the target is reachable
  reachable-ends : (M : Mode) {k : ℕ} {tops : List ℕ} (N : Net) → Suits M C k tops N → Bounds M C k φ tops ls → N.outputs ≡ pins_in os oc 0 n → ReachableIn M N k φ → Ends M C os oc ls φ n
  reachable-ends plain N S b o q =
      outs-of N os oc n φ ls o (outputs-under N φ (label_in ls) q.label S.sound (b N S).inputs q.least.labelling.inputs ((b N S).below q.label q.least.labelling) q.outputs)
  reachable-ends forward N S b o q = λ u l h.
      let g : IsGate N u = record { low = let a = S.holds.inputs in omega arith; high = let a = S.holds.inputs in let c = S.holds.gates in omega arith } in
      let x = (b N S).below q.label q.least.labelling u g in
      let y : q.label u ≤ℤ pos φ = labelling-top q.least.labelling u g in
      omega (arith, ints, x, y)

module _ {M : Mode} {C : Circuit} {k φ : ℕ} {tops os oc : List ℕ} {n : ℕ} {ls ls' : List ℤ} (b : Bounds M C k φ tops ls) where
  -- **at rest the labels are the least, and what decides at the end decides**
  pub labelled-rest : {δ : ℕ} {r : Result (Unit {0}) PastCeiling} {t : Bool} → δ ≡ 0 → SettleTold M δ C k φ tops ls ls' r → IsOk r → (t ≡ true → Ends M C os oc ls' φ n) → (t ≡ false → ¬ Ends M C os oc ls' φ n) → Labelled M C k φ tops os oc n ls' t
  labelled-rest {r = Err x} z s e yes_met no_met = absurd (false≢true e)
  labelled-rest {r = Ok x} {t} z s e yes_met no_met = record {
    fine = s.fine;
    found = λ f N S o.
        let l = quiet-least (s.bounds b) (λ g h. subst (λ (x : ℕ). Quiet M x C k φ tops ls' g) z (s.quiet g h)) (ends-topped C φ os oc n ls' M (yes_met f)) N S in
        (l, ends-met C φ os oc n ls' M N S l.labelling.inputs o (yes_met f));
    none = λ f N S o q. no_met f (reachable-ends C φ os oc n ls' M N S (s.bounds b) o q);
  }

pub rest-zero : (r : ℕ) → r ≤ 2 → ¬ (r ≡ 1) → ¬ (r ≡ 2) → r ≡ 0
rest-zero r h n m = omega arith
