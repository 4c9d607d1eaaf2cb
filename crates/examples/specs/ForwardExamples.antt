-- Examples of forward mode (document 02, E6): B at k 2 and target 1 has no forward cover; C with a section gets its cover and the first contents of its one register.
use Rattle.std.specs.Prelude.{◌≡◌, Bool, false, cond, List, [], ◌∷◌, ℕ, suc, ◌*◌, ◌≤◌, ◌<◌, eqb, ℤ, pos, negsuc, ◌+ℤ◌, length, ◌≤ℤ◌}
use Rattle.std.proofs.Math.Path.{refl}
use Rattle.std.proofs.Common.{sym, subst, ap, ◌∙◌, suc-le-suc, zero-le, arith, lt-ltb, le-ltb}
use Rattle.std.specs.Int.Count.{ones, ones_in}
use Rattle.integers.specs.Parts.{ints, +-parts}
use Rattle.sequences.specs.Member.{◌∈◌, here, there, not_in_nil}
use Rattle.limits.specs.Courses.{long}
use Rattle.limits.specs.Limits.{contents_area, scratch_area}
use Rattle.net_model.specs.Net.{Net, Pin, IsGate, gate, pins}
use Rattle.net_model.specs.Checks.{Passed}
use Rattle.net_model.specs.Copies.{Copy, copy, Leads, stop, step}
use Rattle.net_bytes.specs.Reading.{got, times}
use Rattle.net_bytes.specs.Walk.{net_reader, drawn_reader, body_reader, gate_reader, output_reader, pins_from, from_bytes}
use Rattle.cone_theory.specs.ChecksDecided.{passed?}
use Rattle.run_theory.specs.Bench.{ago, repeated, value_at}
use Rattle.run_theory.specs.BenchBytes.{section_in}
use Rattle.label_theory.specs.Labels.{forward, Inside, LowCutIn, LabellingIn, Labelling}
use Rattle.label_theory.specs.Lower.{remember}
use Rattle.label_theory.specs.Modes.{labelling-top}
use Rattle.cover_theory.specs.Key.{KeyIn, Key, Entry, entries, as_cover, place_of}
use Rattle.cover_period.specs.KeyUnique.{entries_unique}
use Rattle.cover_theory.specs.Forward.{LeastForwardPeriod}
use Rattle.cover_period.specs.Joined.{key_in?, reachable-forward, forward-reachable}
use Rattle.cover_period.specs.KeyOf.{key_of}
use Rattle.cover_period.specs.Period.{gates-reach_in}
use Rattle.board_theory.specs.Contents.{cells, leaf_cells, lut_cells, output_cells, contents_bytes, contents_of}
use Rattle.cover_records.specs.CoverBytes.{cover_bytes}
use Rattle.cover_records.specs.ForwardLaws.{forward-unmet, forward-written, none-lacking}
use Rattle.cover_records.specs.ForwardOutcome.{ForwardOutcome, contents_short, section_of, lacking, forward_outcome}
use Rattle.cover_records.specs.LoaderImage.{is_lent, loaded}
use Rattle.cover_records.specs.Outcomes.{accepted, turned_back, cleared, written, covered, unreachable, for_target, mapped_in}
use Rattle.examples.specs.Statements.{lut, Room}
use Rattle.examples.specs.Nets.{pin, pair, bytes_b, net_b, net_c}
use Rattle.examples.specs.Plan.{given, net-passes, sizes-pass}
use Rattle.examples.specs.Marked.{marked_examples}

-- ---- forward labellings are labellings

pub plainly : {N : Net} {k φ : ℕ} {lab : ℕ → ℤ} → LabellingIn forward N k φ lab → Labelling N k φ lab
plainly l = record { inputs = l.inputs; gates = λ v g. remember (l.gates v g) (λ x m a. tt) }

-- a key whose cones forward mode allows is the key of that mode, too
module _ {N : Net} {k φ : ℕ} (K : Key N k φ) (inside : (v : ℕ) (g : IsGate N v) (x : Copy) → x ∈ (K.cut v g).cone → Inside forward φ (K.label v) x) where
  unfoldable pub moved : (v : ℕ) → IsGate N v → LowCutIn forward N k φ K.label v (K.label v)
  unfolding remember
  moved v g = remember (K.cut v g) (λ x m a. inside v g x m)

  unfoldable pub forward_key : KeyIn forward N k φ
  unfolding moved
  forward_key = record {
    label = K.label;
    least = record { labelling = record { inputs = K.least.labelling.inputs; gates = moved }; least = λ other l v g. K.least.least other (plainly l) v g };
    outputs = K.outputs;
    cut = moved;
    chosen = λ v g. record {
      fewest = λ J. (K.chosen v g).fewest (remember J (λ x m a. tt));
      smallest = λ J e x m. (K.chosen v g).smallest (remember J (λ y n a. tt)) e x m;
    };
    leaves = K.leaves;
    cone = K.cone;
    is_leaves = K.is_leaves;
    is_cone = K.is_cone;
    roots = K.roots;
    rising = K.rising;
    is_root = K.is_root;
    all_roots = K.all_roots;
  }

  pub forward_key-entries : entries forward_key ≡ entries K
  unfolding forward_key entries
  forward_key-entries = refl

-- what map finds where there is no key, and where there is one
module _ {N : Net} {k : ℕ} (P : Passed N k) (t : ℕ) where
  none_found : ¬ KeyIn forward N k (suc t) → mapped_in forward N k (suc t) P ≡ unreachable
  unfolding mapped_in for_target
  none_found n = go (key_in? P (suc-le-suc zero-le) forward)
    where
      go : (d : Dec (KeyIn forward N k (suc t))) → for_target N k (suc t) d ≡ unreachable
      go (yes K) = absurd (n K)
      go (no m) = refl

  some-found : KeyIn forward N k (suc t) → (K : KeyIn forward N k (suc t)) × (mapped_in forward N k (suc t) P ≡ covered (suc t) K)
  unfolding mapped_in for_target
  some-found J = go (key_in? P (suc-le-suc zero-le) forward)
    where
      go : (d : Dec (KeyIn forward N k (suc t))) → (K : KeyIn forward N k (suc t)) × (for_target N k (suc t) d ≡ covered (suc t) K)
      go (yes K) = (K, refl)
      go (no m) = absurd (m J)

-- ---- "B, k 2, forward: target 1 is 22"

-- its label at gate 4 would be 2, above the target
no_forward-B : ¬ KeyIn forward net_b 2 1
no_forward-B J =
    let K = marked_examples.B-k2.key in
    let g : IsGate net_b 4 = record { low = omega arith; high = omega arith } in
    let a = K.least.least J.label (plainly J.least.labelling) 4 g in
    let b = marked_examples.B-k2.label K 4 g in
    let c = labelling-top J.least.labelling 4 g in
    let d : pos 2 ≤ℤ J.label 4 = subst (λ (z : ℤ). z ≤ℤ J.label 4) b a in
    omega (arith, ints, c, d)

pub forward-B : (area scratch : List ℕ) → Room area scratch
    → forward_outcome long bytes_b 2 1 area scratch [] [] ≡ record { answer = turned_back 22; area = area; scratch = cleared scratch_area scratch; loader = []; contents = [] }
unfolding passed? gate forward_outcome
forward-B area scratch r =
    let P = net-passes bytes_b 2 net_b (given (passed? net_b 2) tt) marked_examples.B-k2.reads in
    forward-unmet long false (λ N bytes. section_in bytes) bytes_b 2 1 area scratch [] [] (sizes-pass 2 1 area scratch refl refl r) refl refl net_b P.0 P.1 (none-lacking [] (section_of long 2 bytes_b) refl)
    (none_found P.0 0 no_forward-B)

-- "least 2": each gate alone is a forward cover that meets 2
pub least-forward-B : LeastForwardPeriod net_b 2 2
unfolding passed? gate
least-forward-B = record {
  positive = omega arith;
  met = reachable-forward P (omega arith) (gates-reach_in P forward 2 (omega arith));
  least = λ ψ h l m. no_forward-B (subst (KeyIn forward net_b 2) (one ψ h l) (key_of P (forward-reachable P h m)));
}
  where
    P : Passed net_b 2
    P = given (passed? net_b 2) tt

    one : (ψ : ℕ) → 1 ≤ ψ → ψ < 2 → ψ ≡ 1
    one ψ h l = omega arith

-- ---- "C with section 01 01 00, forward, target 1: contents 01"

abbrev pub entries_c : List Entry
entries_c = lut 2 (copy 0 1 ∷ copy 1 1 ∷ []) (negsuc 0) 8 ∷ []

-- the output's register holds gate 2's value at step 0, not its section bit
pub contents-C : contents_of net_c (as_cover net_c entries_c) (section_in (1 ∷ 1 ∷ 0 ∷ [])) ≡ 1 ∷ []
unfolding contents_bytes lut_cells leaf_cells output_cells cells value_at repeated ago gate place_of
contents-C = refl

-- "C with a second output reading input 0 through 2: registers 3; with section 01 03 07 contents 01 01 00"
abbrev pub net_c2 : Net
net_c2 = record { inputs = 2; gates = pair (pin 0 1) (pin 1 1) 8 ∷ []; outputs = pin 2 0 ∷ pin 0 2 ∷ [] }

pub contents-C2 : contents_of net_c2 (as_cover net_c2 entries_c) (section_in (1 ∷ 3 ∷ 7 ∷ [])) ≡ 1 ∷ 1 ∷ 0 ∷ []
unfolding contents_bytes lut_cells leaf_cells output_cells cells value_at repeated ago gate place_of
contents-C2 = refl

-- C's record with bit 7 of its first byte, and the section behind it
abbrev pub sectioned_c : List ℕ
sectioned_c = 130 ∷ 1 ∷ 1 ∷ 3 ∷ 3 ∷ 0 ∷ 1 ∷ 1 ∷ 1 ∷ 8 ∷ 0 ∷ 2 ∷ 1 ∷ 1 ∷ 0 ∷ []

reads-C : net_reader long 2 sectioned_c ≡ got net_c []
unfolding net_reader drawn_reader body_reader gate_reader output_reader pins_from from_bytes times ones ones_in
reads-C = refl

section-C : section_of long 2 sectioned_c ≡ 1 ∷ 1 ∷ 0 ∷ []
unfolding section_of drawn_reader body_reader gate_reader output_reader pins_from from_bytes times ones ones_in
section-C = refl

-- no gate feeds gate 2, so a cone is the gate alone
gate-C : {v : ℕ} → IsGate net_c v → v ≡ 2
gate-C g = let l : 2 ≤ _ = g.low in let h : _ < 3 = g.high in omega arith

pub alone-C : {C : List Copy} {x : Copy} → IsGate net_c x.node → ((y : Copy) → y ∈ C → IsGate net_c y.node) → Leads net_c C (copy 2 0) x → x.back ≡ 0
unfolding gate
alone-C g all (stop e) = ap (λ (y : Copy). y.back) e
alone-C {C} {x} g all (step z i f l) = absurd (go f.pin (subst (λ (v : ℕ). f.pin ∈ pins net_c v) (gate-C (all z i)) f.is_pin) (sym f.source ∙ gate-C g))
  where
    go : (p : Pin) → p ∈ pin 0 1 ∷ pin 1 1 ∷ [] → p.src ≡ 2 → ⊥
    go p (here e) q = let s = ap (λ (r : Pin). r.src) e in omega arith
    go p (there (here e)) q = let s = ap (λ (r : Pin). r.src) e in omega arith
    go p (there (there m)) q = absurd (not_in_nil m)

key-C : Key net_c 2 1
key-C = (marked_examples.C-1 2 (omega arith) (omega arith)).key

-- label 0, so d may be 1 at most
inside-C : (v : ℕ) (g : IsGate net_c v) (x : Copy) → x ∈ (key-C.cut v g).cone → Inside forward 1 (key-C.label v) x
inside-C v g x m =
    let c = (key-C.cut v g).is_cone in
    let e : key-C.label 2 ≡ pos 0 = (marked_examples.C-1 2 (omega arith) (omega arith)).label key-C 2 (record { low = omega arith; high = omega arith }) in
    let z = alone-C (c.gates x m) c.gates (subst (λ (u : ℕ). Leads net_c (key-C.cut v g).cone (copy u 0) x) (gate-C g) (c.leads x m)) in
    subst (λ (u : ℕ). (key-C.label u +ℤ pos (1 * x.back)) ≤ℤ pos 1) (sym (gate-C g)) (subst (λ (l : ℤ). (l +ℤ pos (1 * x.back)) ≤ℤ pos 1) (sym e) (omega (arith, ints, +-parts (pos 0) (pos (1 * x.back)), z)))

pub forward-C : (area scratch contents : List ℕ) → Room area scratch → contents_area ≤ length contents
    → forward_outcome long sectioned_c 2 1 area scratch [] contents
    ≡ record {
      answer = accepted (length (cover_bytes long 1 entries_c));
      area = written (cover_bytes long 1 entries_c) area;
      scratch = cleared scratch_area scratch;
      loader = [];
      contents = written (1 ∷ []) contents;
    }
unfolding passed? gate forward_outcome loaded
forward-C area scratch contents r h =
    let P = net-passes sectioned_c 2 net_c (given (passed? net_c 2) tt) reads-C in
    let f = some-found P.0 0 (forward_key key-C inside-C) in
    let e : entries f.0 ≡ entries_c = entries_unique P.0 f.0 (forward_key key-C inside-C) ∙ forward_key-entries key-C inside-C ∙ (marked_examples.C-1 2 (omega arith) (omega arith)).cover key-C in
    forward-written long (contents_short contents) (λ N bytes. section_in bytes) sectioned_c 2 1 area scratch [] contents (sizes-pass 2 1 area scratch refl refl r) roomy refl net_c P.0 P.1 given-C 1 f.0 f.1
    ∙ ap (left (is_lent contents)) e ∙ ap (λ (b : Bool). left b entries_c) (lt-ltb 0 (length contents) (omega (arith, h))) ∙ ap (λ (l : List ℕ). with_contents_lem (written l contents)) known
  where
    roomy : contents_short contents ≡ false
    roomy = rw (lt-ltb 0 (length contents) (omega (arith, h))) (le-ltb (length contents) contents_area h)

    given-C : lacking contents (section_of long 2 sectioned_c) ≡ false
    given-C = rw (lt-ltb 0 (length contents) (omega (arith, h))) (ap (λ (l : List ℕ). eqb (length l) 0) section-C)

    with_contents_lem : List ℕ → ForwardOutcome
    with_contents_lem l = record {
      answer = accepted (length (cover_bytes long 1 entries_c));
      area = written (cover_bytes long 1 entries_c) area;
      scratch = cleared scratch_area scratch;
      loader = [];
      contents = l;
    }

    left : Bool → List Entry → ForwardOutcome
    left b es = record {
      answer = accepted (length (cover_bytes long 1 es));
      area = written (cover_bytes long 1 es) area;
      scratch = cleared scratch_area scratch;
      loader = loaded es [];
      contents = cond b (written (contents_of net_c (as_cover net_c es) (section_in (section_of long 2 sectioned_c))) contents) contents;
    }

    known : contents_of net_c (as_cover net_c entries_c) (section_in (section_of long 2 sectioned_c)) ≡ 1 ∷ []
    known = ap (λ (l : List ℕ). contents_of net_c (as_cover net_c entries_c) (section_in l)) section-C ∙ contents-C
