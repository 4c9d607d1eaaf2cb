-- Turnings form a group, shown on turnings: one after the other is one turning, each has an inverse, and one changes nothing. So "can be turned into"
-- goes both ways and onwards.
use Rattle.std.specs.Prelude.{◌≡◌, refl, Bool, true, false, [], ◌∷◌, ℕ, ◌<◌}
use Rattle.std.proofs.Common.{sym, ap, ◌∙◌, arith}
use Rattle.net_model.specs.Tables.{bit, index, pack}
use Rattle.cone_values.specs.Words.{bit-pack, pack-small, pack-same, pack-bits, index-small, bit-index}
use Rattle.lutclass.specs.Classes.{LutLeaf, leaf0, leaf1, leaf2, Turning, flipped, choice, value_for, reaching, turn, TurnsInto}

-- ---- values

flipped-twice : (a b c : Bool) → flipped a (flipped b c) ≡ flipped (flipped a b) c
flipped-twice true true true = refl
flipped-twice true true false = refl
flipped-twice true false c = refl
flipped-twice false b c = refl

flipped-same : (a : Bool) → flipped a a ≡ false
flipped-same true = refl
flipped-same false = refl

pub value_same : (f : ℕ) (v w : LutLeaf → Bool) → ((l : LutLeaf) → v l ≡ w l) → value_for f v ≡ value_for f w
value_same f v w h = cc (h leaf0, h leaf1, h leaf2)

-- the choice in which the leaves carry v
abbrev pub choice_of : (LutLeaf → Bool) → ℕ
choice_of v = index (v leaf0 ∷ v leaf1 ∷ v leaf2 ∷ [])

pub choice-of : (v : LutLeaf → Bool) (l : LutLeaf) → choice (choice_of v) l ≡ v l
choice-of v leaf0 = bit-index (v leaf0 ∷ v leaf1 ∷ v leaf2 ∷ []) 0 (omega arith)
choice-of v leaf1 = bit-index (v leaf0 ∷ v leaf1 ∷ v leaf2 ∷ []) 1 (omega arith)
choice-of v leaf2 = bit-index (v leaf0 ∷ v leaf1 ∷ v leaf2 ∷ []) 2 (omega arith)

choice_of_choice : (i : ℕ) → i < 8 → choice_of (choice i) ≡ i
unfolding pack
choice_of_choice i h = pack-bits 3 i h

-- **What a turned table says, for all values of its leaves.**
pub turn-value : (t : Turning) (f : ℕ) (v : LutLeaf → Bool) → value_for (turn t f) v ≡ flipped t.output (value_for f (reaching t v))
unfolding turn
turn-value t f v =
    bit-pack (λ i. flipped t.output (value_for f (reaching t (choice i)))) 8 (choice_of v) (index-small (v leaf0 ∷ v leaf1 ∷ v leaf2 ∷ []))
    ∙ ap (flipped t.output) (value_same f (reaching t (choice (choice_of v))) (reaching t v) (λ l. ap (flipped (t.inverts l)) (choice-of v (t.order.to l))))

-- a table of three leaves again
pub turn_small : (t : Turning) (f : ℕ) → turn t f < 256
unfolding turn
turn_small t f = pack-small (λ i. flipped t.output (value_for f (reaching t (choice i)))) 8

-- ---- turnings that do the same

pub record SameTurning (t s : Turning) : Type 0 where
  pub order : (l : LutLeaf) → t.order.to l ≡ s.order.to l
  pub inverts : (l : LutLeaf) → t.inverts l ≡ s.inverts l
  pub output : t.output ≡ s.output

pub turn-alike : (t s : Turning) (f : ℕ) → SameTurning t s → turn t f ≡ turn s f
unfolding turn
turn-alike t s f a = pack-same _ _ 8 (λ i h. same i)
  where
    same : (i : ℕ) → flipped t.output (value_for f (reaching t (choice i))) ≡ flipped s.output (value_for f (reaching s (choice i)))
    same i = let e = value_same f (reaching t (choice i)) (reaching s (choice i)) (λ l. cc (a.order l, a.inverts l)) in cc a.output

-- ---- the group

-- nothing reordered, nothing inverted
abbrev pub still : Turning
still = record { order = record { to = λ l. l; from = λ l. l; to-from = λ l. refl; from-to = λ l. refl }; inverts = λ l. false; output = false }

-- t after s
abbrev pub after : Turning → Turning → Turning
after t s = record {
  order = record {
    to = λ l. t.order.to (s.order.to l);
    from = λ l. s.order.from (t.order.from l);
    to-from = λ l. ap t.order.to (s.order.to-from (t.order.from l)) ∙ t.order.to-from l;
    from-to = λ l. ap s.order.from (t.order.from-to (s.order.to l)) ∙ s.order.from-to l;
  };
  inverts = λ l. flipped (s.inverts l) (t.inverts (s.order.to l));
  output = flipped t.output s.output;
}

abbrev pub inverse : Turning → Turning
inverse t = record {
  order = record { to = t.order.from; from = t.order.to; to-from = t.order.from-to; from-to = t.order.to-from };
  inverts = λ l. t.inverts (t.order.from l);
  output = t.output;
}

pub inverse-after : (t : Turning) → SameTurning (after (inverse t) t) still
inverse-after t = record {
  order = t.order.from-to;
  inverts = λ l. ap (λ (m : LutLeaf). flipped (t.inverts l) (t.inverts m)) (t.order.from-to l) ∙ flipped-same (t.inverts l);
  output = flipped-same t.output;
}

pub turn-still : (f : ℕ) → f < 256 → turn still f ≡ f
unfolding turn
turn-still f h = pack-same (λ i. value_for f (choice i)) (bit f) 8 (λ i k. ap (bit f) (choice_of_choice i k)) ∙ pack-bits 8 f h

pub turn-after : (t s : Turning) (f : ℕ) → turn t (turn s f) ≡ turn (after t s) f
unfolding turn
turn-after t s f = pack-same _ _ 8 (λ i h. same (choice i))
  where
    both : (v : LutLeaf → Bool) (l : LutLeaf) → reaching s (reaching t v) l ≡ reaching (after t s) v l
    both v l = flipped-twice (s.inverts l) (t.inverts (s.order.to l)) (v (t.order.to (s.order.to l)))

    same : (v : LutLeaf → Bool) → flipped t.output (value_for (turn s f) (reaching t v)) ≡ flipped (flipped t.output s.output) (value_for f (reaching (after t s) v))
    same v =
        ap (flipped t.output) (turn-value s f (reaching t v))
        ∙ flipped-twice t.output s.output (value_for f (reaching s (reaching t v)))
        ∙ ap (flipped (flipped t.output s.output)) (value_same f (reaching s (reaching t v)) (reaching (after t s) v) (both v))

pub turn-back : (t : Turning) (f : ℕ) → f < 256 → turn (inverse t) (turn t f) ≡ f
turn-back t f h = turn-after (inverse t) t f ∙ turn-alike (after (inverse t) t) still f (inverse-after t) ∙ turn-still f h

-- ---- can be turned into

pub turns-self : (f : ℕ) → f < 256 → TurnsInto f f
turns-self f h = record { by = still; makes = turn-still f h }

pub turns-back : {f g : ℕ} → f < 256 → TurnsInto f g → TurnsInto g f
turns-back {f} h p = record { by = inverse p.by; makes = ap (turn (inverse p.by)) (sym p.makes) ∙ turn-back p.by f h }

pub turns-on : {f g h : ℕ} → TurnsInto f g → TurnsInto g h → TurnsInto f h
turns-on {f} p q = record { by = after q.by p.by; makes = sym (turn-after q.by p.by f) ∙ ap (turn q.by) p.makes ∙ q.makes }
