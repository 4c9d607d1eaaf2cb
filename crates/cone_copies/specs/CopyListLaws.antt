-- Laws of lists of copies kept in arrays.
use Rattle.std.specs.Prelude.{◌≡◌, refl, Bool, true, false, List, ℕ, ◌+◌, ◌-◌, ◌*◌, ◌≤◌, ◌<◌, eqb, length, get_or, set}
use Rattle.std.proofs.Common.{sym, ap, ◌∙◌, subst, zero-add, arith, eqb-true, get_or-set_same, get_or-set_other}
use Rattle.std.proofs.Math.Decide.{ℕ_discrete}
use Rattle.std.proofs.lemmas.Bool.{eqb-false}
use Rattle.sequences.specs.TestLaws.{tells_no, tells_yes}
use Rattle.sequences.specs.Member.{◌∈◌, in_get_or, get_or_in, in_equal}
use Rattle.net_model.specs.Net.{Net}
use Rattle.net_model.specs.Copies.{Copy, copy, IsCone, IsLeaves}
use Rattle.net_model.proofs.CopyLaws.{copy-path}
use Rattle.net_model.specs.ArrayLaws.{length-copies_from, get_or_copies_from}
use Rattle.net_model.specs.Arrays.{copy_at}
use Rattle.sequences.specs.Tests.{Tells, First}
use Rattle.cone_theory.specs.Basics.{leaf-same}
use Rattle.cone_theory.specs.Part.{leads_mono}
use Rattle.cone_copies.specs.CopyLists.{copies_in, SmallWires, Place, Bounded, most, Mixed}

-- ---- equal copies

-- two copies of one node are the same if they are as far back
pub tells-back : (x y : Copy) → x.node ≡ y.node → Tells (eqb x.back y.back) (x ≡ y)
tells-back x y e = go (eqb x.back y.back) refl
  where
    go : (t : Bool) → eqb x.back y.back ≡ t → Tells t (x ≡ y)
    go true q = tells_yes (copy-path e (eqb-true x.back y.back q))
    go false q = tells_no (λ p. eqb-false x.back y.back q (ap (λ (c : Copy). c.back) p))

pub tells-node : (x y : Copy) → ¬ (x.node ≡ y.node) → Tells false (x ≡ y)
tells-node x y n = tells_no (λ p. n (ap (λ (c : Copy). c.node) p))

-- ---- copies in arrays

pub length-copies_in : (nodes backs : List ℕ) (n : ℕ) → length (copies_in nodes backs n) ≡ n
unfolding copies_in
length-copies_in nodes backs n = length-copies_from nodes backs 0 n

pub get_or_copies_in : (nodes backs : List ℕ) (n i : ℕ) (d : Copy) → i < n → get_or (copies_in nodes backs n) i d ≡ copy_at nodes backs i
unfolding copies_in
get_or_copies_in nodes backs n i d h = get_or_copies_from nodes backs 0 n i d h ∙ ap (copy_at nodes backs) (zero-add i)

abbrev nobody : Copy
nobody = copy 0 0

pub in_copies_in : (nodes backs : List ℕ) (n i : ℕ) → i < n → copy_at nodes backs i ∈ copies_in nodes backs n
in_copies_in nodes backs n i h =
    in_equal (sym (get_or_copies_in nodes backs n i nobody h)) (in_get_or (copies_in nodes backs n) i nobody (let e = length-copies_in nodes backs n in omega arith))

pub copies_in_in : (nodes backs : List ℕ) (n : ℕ) {c : Copy} → c ∈ copies_in nodes backs n → (i : ℕ) × (i < n) × (copy_at nodes backs i ≡ c)
copies_in_in nodes backs n {c} m =
    let r = get_or_in m in
    let h : r.0 < n = omega (arith, r.1, length-copies_in nodes backs n) in
    (r.0, h, sym (get_or_copies_in nodes backs n r.0 nobody h) ∙ r.2 nobody)

-- a search for a copy
pub found_in : (nodes backs : List ℕ) (n r : ℕ) (y : Copy) → First (λ j. copy_at nodes backs j ≡ y) n r → r < n → y ∈ copies_in nodes backs n
found_in nodes backs n r y f h = in_equal (sym (f.found h)) (in_copies_in nodes backs n r h)

pub missing : (nodes backs : List ℕ) (n r : ℕ) (y : Copy) → First (λ j. copy_at nodes backs j ≡ y) n r → n ≤ r → ¬ (y ∈ copies_in nodes backs n)
missing nodes backs n r y f h m = let q = copies_in_in nodes backs n m in f.before q.0 (omega (arith, q.1)) q.2

-- ---- places

pub place : {I G : ℕ} {ps sources counts : List ℕ} (g j : ℕ) → SmallWires I G ps sources counts → g < G → j < get_or ps g 0 → Place sources counts g j
place g j w h k =
    let a = w.wires.pins g h in
    let b = w.wires.room in
    let c = w.wires.room' in
    let d = w.gates in
    record { room = omega arith; room' = omega arith; small = omega arith; count = w.count g j h k; node = omega (arith, w.wires.node g j h k, w.inputs) }

-- the copy at place i of the list
pub record Member (I G : ℕ) (nodes backs : List ℕ) (len i : ℕ) : Type 0 where
  pub low : I ≤ get_or nodes i 0
  pub gate : get_or nodes i 0 - I < G
  pub near : get_or backs i 0 + most ≤ most * len
  pub this : copy (I + (get_or nodes i 0 - I)) (get_or backs i 0) ≡ copy_at nodes backs i
  pub at : get_or (copies_in nodes backs len) i (copy 0 0) ≡ copy (I + (get_or nodes i 0 - I)) (get_or backs i 0)
  pub inside : i < length (copies_in nodes backs len)

pub member : {I G : ℕ} (nodes backs : List ℕ) (len i : ℕ) → Bounded I G (copies_in nodes backs len) → i < len → Member I G nodes backs len i
member {I} {G} nodes backs len i b h = record {
  low = low;
  gate = omega (arith, low, b.high (copy_at nodes backs i) m);
  near = omega (arith, b.near (copy_at nodes backs i) m, length-copies_in nodes backs len);
  this = this;
  at = get_or_copies_in nodes backs len i (copy 0 0) h ∙ sym this;
  inside = omega (arith, length-copies_in nodes backs len);
}
  where
    m : copy_at nodes backs i ∈ copies_in nodes backs len
    m = in_copies_in nodes backs len i h

    low : I ≤ get_or nodes i 0
    low = b.low (copy_at nodes backs i) m

    this : copy (I + (get_or nodes i 0 - I)) (get_or backs i 0) ≡ copy_at nodes backs i
    this = copy-path (let l = low in omega arith) refl

-- ---- numbers

-- what holds of each number stored so far, and of the next
pub each_set : (P : ℕ → ℕ → Type 0) (l : List ℕ) (j x : ℕ) → j < length l → ((i : ℕ) → i < j → P i (get_or l i 0)) → P j x → (i : ℕ) → i < j + 1 → P i (get_or (set l j x) i 0)
each_set P l j x h f p i k = go (ℕ_discrete i j)
  where
    go : Dec (i ≡ j) → P i (get_or (set l j x) i 0)
    go (yes e) = subst (P i) (sym (ap (λ (n : ℕ). get_or (set l j x) n 0) e ∙ get_or-set_same l j x 0 h)) (subst (λ (n : ℕ). P n x) (sym e) p)
    go (no m) = subst (P i) (sym (get_or-set_other l j i x 0 m)) (f i (omega arith))

-- ---- the same copies in another order

module _ {C C' : List Copy} (m : Mixed C C') where
  pub mixed-cone : {N : Net} {v : ℕ} → IsCone N v C → IsCone N v C'
  mixed-cone {v = v} k = record {
    gates = λ c i. k.gates c (m.come c i);
    root = m.stay (copy v 0) k.root;
    leads = λ c i. leads_mono m.stay (k.leads c (m.come c i));
  }

  pub mixed-leaves : {N : Net} {L : List Copy} → IsLeaves N C L → IsLeaves N C' L
  mixed-leaves l = record {
    rising = l.rising;
    sound = λ y i. leaf-same m.stay m.come (l.sound y i);
    complete = λ y i. l.complete y (leaf-same m.come m.stay i);
  }
