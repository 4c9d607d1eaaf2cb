-- Laws of checks 9, 10 and 11: each with what it stores, and all together.
use Rattle.std.specs.Prelude.{◌≡◌, refl, List, Bool, true, false, not, ℕ, ◌+◌, ◌*◌, ◌≤◌, ◌<◌, length, get_or, drop}
use Rattle.std.proofs.Common.{sym, ◌∙◌, true≢false, arith}
use Rattle.std.proofs.lemmas.Bool.{false≢true}
use Rattle.sequences.specs.Stored.{Stored}
use Rattle.net_model.specs.Net.{Net}
use Rattle.net_model.specs.Arrays.{stride}
use Rattle.net_model.specs.PackedNet.{first_at, sources_at, counts_at, order_at, tops_at, outs_at, delays_at, NetKept}
use Rattle.net_model.specs.PackedNetLaws.{length_part, apart-refl, stored-apart, kept-first, kept-between, kept_trans, kept-source, kept-count, kept_out, kept-outputs, kept-wired}
use Rattle.net_reader.specs.ReadAnswer.{arrays_of}
use Rattle.net_reader.specs.Rooms.{NetRoom}
use Rattle.net_reader.specs.ReadWires.{read-wires}
use Rattle.net_reader.specs.WalkFacts.{WalkFacts}
use Rattle.net_reader.specs.declared.NetSizes.{NetSizes}
use Rattle.net_checks.specs.Graphs.{Checkable, NetOf, Placed, Reached, Headed, NineTold, TenTold, ElevenTold, passed, loop, unreached, unled, GraphTold}
use Rattle.net_checks.specs.Lowering.{Counting, Lowered}

-- a test turned round
pub not-true : {b : Bool} → not b ≡ true → b ≡ false
not-true {b} = go b
  where
    go : (b : Bool) → not b ≡ true → b ≡ false
    go true e = absurd (false≢true e)
    go false e = refl

pub not-false : {b : Bool} → not b ≡ false → b ≡ true
not-false {b} = go b
  where
    go : (b : Bool) → not b ≡ false → b ≡ true
    go true e = refl
    go false e = absurd (true≢false e)

positive : {x : ℕ} → ¬ (x ≡ 0) → 1 ≤ x
positive n = omega arith

-- ---- a net read
pub read_checkable : {k : ℕ} {s : NetSizes} {net ts : List ℕ} → WalkFacts k (arrays_of s net ts) → NetRoom s net ts → Checkable s net
read_checkable {s = s} {net = net} f r = record {
  room = r.packed;
  wires = read-wires f r;
  counted = record {
    few = let a = f.gates-high in omega arith;
    count = f.count;
    outs = length_part net (outs_at s.inputs s.gates) s.outputs (omega (arith, r.packed));
    outs' = length_part net (delays_at s.inputs s.gates s.outputs) s.outputs (omega (arith, r.packed));
    node = f.out-source;
    out_count = f.out-count;
  };
}

-- ---- what was read stays
module _ {s : NetSizes} {net net' : List ℕ} (k : NetKept s.inputs s.gates net net') (c : Checkable s net) where
  place : (g j : ℕ) → g < s.gates → j < get_or net g 0 → stride * g + j < stride * s.gates
  place g j h b = omega (arith, c.wires.pins g h, h, b)

  pin_in : (g j : ℕ) → g < s.gates → j < get_or net' g 0 → j < get_or net g 0
  pin_in g j h b = omega (arith, k.pins g h, b)

  room' : (a n : ℕ) → a + n ≤ length net → n ≤ length (drop a net')
  room' a n h = length_part net' a n (omega (arith, h, k.long))

  pub kept_checkable : Checkable s net'
  kept_checkable = record {
    room = omega (arith, k.long, c.room);
    wires = record {
      sizes = omega (arith, k.long, c.room);
      room = room' (sources_at s.gates) (stride * s.gates) (omega (arith, c.room));
      room' = room' (counts_at s.gates) (stride * s.gates) (omega (arith, c.room));
      pins = λ g h. omega (arith, k.pins g h, c.wires.pins g h);
      node = λ g j h b. omega (arith, kept-source k (stride * g + j) (place g j h (pin_in g j h b)), c.wires.node g j h (pin_in g j h b));
    };
    counted = record {
      few = c.counted.few;
      count = λ g j h b. omega (arith, kept-count k (stride * g + j) (place g j h (pin_in g j h b)), c.counted.count g j h (pin_in g j h b));
      outs = room' (outs_at s.inputs s.gates) s.outputs (omega (arith, c.room));
      outs' = room' (delays_at s.inputs s.gates s.outputs) s.outputs (omega (arith, c.room));
      node = λ i h. omega (arith, kept_out k (outs_at s.inputs s.gates) (omega arith) i, c.counted.node i h);
      out_count = λ i h. omega (arith, kept_out k (delays_at s.inputs s.gates s.outputs) (omega arith) i, c.counted.out_count i h);
    };
  }

  pub kept_of : {N : Net} → NetOf s net N → NetOf s net' N
  kept_of n = record { wired = kept-wired k c.wires.pins n.wired; ended = n.ended ∙ sym (kept-outputs k s.outputs s.outputs) }

-- ---- check 9
module _ {s : NetSizes} {net seen order : List ℕ} where
  pub nine_fails : Placed s net seen order false → NineTold s net net false
  nine_fails a = record {
    apart = apart-refl (order_at s.inputs s.gates) (tops_at s.inputs s.gates) net;
    fails = λ e N n. (a.tells N n.wired).fails refl;
    holds = λ e. absurd (false≢true e);
    ordered = λ e. absurd (false≢true e);
  }

  pub nine_holds : {net' : List ℕ} → Placed s net seen order true → Stored net (order_at s.inputs s.gates) order s.gates net' → NineTold s net net' true
  nine_holds a w = record {
    apart = stored-apart w;
    fails = λ e. absurd (true≢false e);
    holds = λ e N n. (a.tells N n.wired).holds refl;
    ordered = λ e. record {
      in_order = λ i h. omega (arith, w.here i h, a.gates refl i h);
      ordered = λ g h. let t = a.ordered refl g h in (t.0, t.1, w.here t.0 t.1 ∙ t.2);
    };
  }

-- ---- check 10
pub ten_counting : (s : NetSizes) {net first ranks : List ℕ} → Reached s net first ranks true → length first ≡ s.gates → Counting first
ten_counting s a e = record { low = λ g h. positive (a.marked refl g (omega (arith, h, e))) }

module _ {s : NetSizes} {net first ranks : List ℕ} where
  pub ten_fails : Reached s net first ranks false → TenTold s net net false
  ten_fails a = record {
    apart = apart-refl (first_at s.gates) (sources_at s.gates) net;
    fails = λ e N n. (a.tells N n.wired).fails refl;
    holds = λ e. absurd (false≢true e);
    firsts = λ e. absurd (false≢true e);
  }

  pub ten_holds : {first' net' : List ℕ} → Reached s net first ranks true → length first ≡ s.gates → Lowered first first' (length first) → Stored net (first_at s.gates) first' s.gates net'
      → TenTold s net net' true
  ten_holds {net' = net'} a e low w = record {
    apart = record { below = w.below; above = λ i h. w.above i (omega (arith, h)); long = w.long };
    fails = λ q. absurd (true≢false q);
    holds = λ q N n. (a.tells N n.wired).holds refl;
    firsts = λ q g h.
        let m = a.marked refl g h in
        omega (arith, w.here g h, low.less g (omega (arith, h, e)), positive m, a.reaching.pin g h m, w.below g h);
  }

-- ---- check 11
module _ {s : NetSizes} {net tops : List ℕ} where
  pub eleven_fails : Headed s net tops false → ElevenTold s net net false
  eleven_fails a = record {
    apart = apart-refl (tops_at s.inputs s.gates) (outs_at s.inputs s.gates) net;
    fails = λ e N n. (a.tells N n.wired n.ended).fails refl;
    holds = λ e. absurd (false≢true e);
    topped = λ e. absurd (false≢true e);
    paths = λ e. absurd (false≢true e);
  }

  pub eleven_holds : {net' : List ℕ} → Headed s net tops true → Stored net (tops_at s.inputs s.gates) tops s.gates net' → ElevenTold s net net' true
  eleven_holds {net'} a w = record {
    apart = stored-apart w;
    fails = λ e. absurd (true≢false e);
    holds = λ e N n. (a.tells N n.wired n.ended).holds refl;
    topped = λ e. record {
      low = λ g h. omega (arith, w.here g h, positive (a.marked refl g h));
      high = λ g h. omega (arith, w.here g h, a.heading.bound g);
    };
    paths = λ e N n g h. rw (w.here g h) (a.heading.path N n.wired n.ended g h (a.marked refl g h));
  }

-- ---- all of them
module _ {s : NetSizes} {net : List ℕ} (c : Checkable s net) {net₁ : List ℕ} where
  pub nine_kept : {r : Bool} → NineTold s net net₁ r → NetKept s.inputs s.gates net net₁
  nine_kept a = kept-between (omega arith) (omega arith) a.apart

  pub told-loop : NineTold s net net₁ false → GraphTold s net net₁ 9
  told-loop a = record { kept = nine_kept a; says = λ N n. loop refl (a.fails refl N n) }

  of₁ : NineTold s net net₁ true → {N : Net} → NetOf s net N → NetOf s net₁ N
  of₁ a = kept_of (nine_kept a) c

  module _ (a : NineTold s net net₁ true) {net₂ : List ℕ} where
    pub ten_kept : {r : Bool} → TenTold s net₁ net₂ r → NetKept s.inputs s.gates net net₂
    ten_kept b = kept_trans (nine_kept a) (kept-first b.apart)

    pub told-unreached : TenTold s net₁ net₂ false → GraphTold s net net₂ 10
    told-unreached b = record { kept = ten_kept b; says = λ N n. unreached refl (a.holds refl N n) (b.fails refl N (of₁ a n)) }

    of₂ : TenTold s net₁ net₂ true → {N : Net} → NetOf s net N → NetOf s net₂ N
    of₂ b = kept_of (ten_kept b) c

    module _ (b : TenTold s net₁ net₂ true) {net₃ : List ℕ} where
      all-kept : {r : Bool} → ElevenTold s net₂ net₃ r → NetKept s.inputs s.gates net net₃
      all-kept d = kept_trans (ten_kept b) (kept-between (omega arith) (omega arith) d.apart)

      pub told-unled : ElevenTold s net₂ net₃ false → GraphTold s net net₃ 11
      told-unled d = record { kept = all-kept d; says = λ N n. unled refl (a.holds refl N n) (b.holds refl N (of₁ a n)) (d.fails refl N (of₂ b n)) }

      pub told-passed : ElevenTold s net₂ net₃ true → GraphTold s net net₃ 0
      told-passed d = record {
        kept = all-kept d;
        says = λ N n. passed refl (a.holds refl N n) (b.holds refl N (of₁ a n)) (d.holds refl N (of₂ b n)) (record {
          ordered = record {
            in_order = λ i h. omega (arith, order_same i h, (a.ordered refl).in_order i h);
            ordered = λ g h. let t = (a.ordered refl).ordered g h in (t.0, t.1, order_same t.0 t.1 ∙ t.2);
          };
          firsts = λ g h. omega (arith, b.firsts refl g h, d.apart.below g (omega (arith, h)), d.apart.below (first_at s.gates + g) (omega (arith, h)));
          topped = d.topped refl;
          paths = d.paths refl N (of₂ b n);
        });
      }
        where
          order_same : (i : ℕ) → i < s.gates → get_or net₃ (order_at s.inputs s.gates + i) 0 ≡ get_or net₁ (order_at s.inputs s.gates + i) 0
          order_same i h = d.apart.below (order_at s.inputs s.gates + i) (omega (arith, h)) ∙ b.apart.above (order_at s.inputs s.gates + i) (omega arith)
