-- The wiring of a net read, and what stays of it where other parts of the slice are written.
use Rattle.std.specs.Prelude.{◌≡◌, List, ℕ, ◌+◌, ◌*◌, ◌^◌, ◌<◌, length, get_or, drop}
use Rattle.std.proofs.Common.{sym, subst, arith}
use Rattle.limits.specs.Limits.{most_gates, most_packed}
use Rattle.limits.specs.Courses.{Offered}
use Rattle.limits.specs.CourseLaws.{offered_within}
use Rattle.limits.specs.declared.Rules.{Rules}
use Rattle.net_model.specs.Arrays.{stride}
use Rattle.net_model.specs.Wired.{Wires}
use Rattle.net_model.specs.PackedNet.{sources_at, counts_at, outs_at, delays_at, NetKept}
use Rattle.net_model.specs.PackedNetLaws.{length_part, kept-source, kept-count, kept_out}
use Rattle.net_reader.specs.ReadAnswer.{arrays_of}
use Rattle.net_reader.specs.Rooms.{NetRoom, ReadRoom}
use Rattle.net_reader.specs.WalkFacts.{WalkFacts}
use Rattle.net_reader.specs.declared.NetSizes.{NetSizes}

-- the arrays of the narrow owners have room for every net that is offered, and for the net read
pub room_offered : {R : Rules} {net ts : List ℕ} → Offered R → length net ≡ most_packed → length ts ≡ most_gates → ReadRoom R net ts
room_offered o a b = record { packed = omega (arith, (offered_within o).gates, a); tabled = omega (arith, (offered_within o).gates, b) }

pub room-read : {k : ℕ} {s : NetSizes} {net ts : List ℕ} → WalkFacts k (arrays_of s net ts) → length net ≡ most_packed → length ts ≡ most_gates → NetRoom s net ts
room-read f a b = record { packed = omega (arith, f.gates-high, f.inputs-high, f.outputs-high, a); tabled = omega (arith, f.gates-high, b) }

module _ {k : ℕ} {s : NetSizes} {net ts : List ℕ} (f : WalkFacts k (arrays_of s net ts)) (r : NetRoom s net ts) where
  pub read-wires : Wires s.inputs s.gates net (drop (sources_at s.gates) net) (drop (counts_at s.gates) net)
  read-wires = record {
    sizes = omega (arith, r.packed);
    room = length_part net (sources_at s.gates) (stride * s.gates) (omega (arith, r.packed));
    room' = length_part net (counts_at s.gates) (stride * s.gates) (omega (arith, r.packed));
    pins = f.pins-high;
    node = f.source;
  }

-- **the facts of a net stay**
module _ {k : ℕ} {s : NetSizes} {net net' ts : List ℕ} (f : WalkFacts k (arrays_of s net ts)) (q : NetKept s.inputs s.gates net net') where
  place : (g j : ℕ) → g < s.gates → j < get_or net g 0 → stride * g + j < stride * s.gates
  place g j h b = omega (arith, f.pins-high g h, h, b)

  pin_in : (g j : ℕ) → g < s.gates → j < get_or net' g 0 → j < get_or net g 0
  pin_in g j h b = omega (arith, q.pins g h, b)

  pub kept-facts : WalkFacts k (arrays_of s net' ts)
  kept-facts = record {
    inputs-low = f.inputs-low;
    inputs-high = f.inputs-high;
    gates-low = f.gates-low;
    gates-high = f.gates-high;
    outputs-low = f.outputs-low;
    outputs-high = f.outputs-high;
    pins-low = λ g h. omega (arith, q.pins g h, f.pins-low g h);
    pins-high = λ g h. omega (arith, q.pins g h, f.pins-high g h);
    pins-fit = λ g h. omega (arith, q.pins g h, f.pins-fit g h);
    source = λ g j h b. omega (arith, kept-source q (stride * g + j) (place g j h (pin_in g j h b)), f.source g j h (pin_in g j h b));
    count = λ g j h b. omega (arith, kept-count q (stride * g + j) (place g j h (pin_in g j h b)), f.count g j h (pin_in g j h b));
    table = λ g h. subst (λ (n : ℕ). get_or ts g 0 < 2 ^ (2 ^ n)) (sym (q.pins g h)) (f.table g h);
    out-source = λ o h. omega (arith, kept_out q (outs_at s.inputs s.gates) (omega arith) o, f.out-source o h);
    out-count = λ o h. omega (arith, kept_out q (delays_at s.inputs s.gates s.outputs) (omega arith) o, f.out-count o h);
  }

pub kept-room : {s : NetSizes} {net net' ts : List ℕ} → NetKept s.inputs s.gates net net' → NetRoom s net ts → NetRoom s net' ts
kept-room q r = record { packed = omega (arith, q.long, r.packed); tabled = r.tabled }
