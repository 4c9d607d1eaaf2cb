-- A net that was read and that passed checks 9 to 11 can be run: what `net_reader: read_net` and `net_checks: check_graph` tell is what is asked.
use Rattle.std.specs.Prelude.{List, ℕ}
use Rattle.std.proofs.Common.{sym, subst, arith}
use Rattle.net_model.specs.Arrays.{net_in}
use Rattle.net_model.specs.Checks.{Loopless}
use Rattle.net_model.specs.PackedNet.{NetKept}
use Rattle.net_model.specs.PackedNetLaws.{kept-net}
use Rattle.net_reader.specs.ReadAnswer.{arrays_of}
use Rattle.net_reader.specs.Rooms.{NetRoom}
use Rattle.net_reader.specs.WalkFacts.{WalkFacts}
use Rattle.net_reader.specs.ReadWires.{read-wires, kept-facts, kept-room}
use Rattle.net_reader.specs.declared.NetSizes.{NetSizes}
use Rattle.net_checks.specs.Graphs.{Ordered, Says, passed, loop, unreached, unled}
use Rattle.run_values.specs.Sheets.{Runnable}

-- where there is no loop without a register, and the order is there
pub ordered-runnable : {k : ℕ} {z : NetSizes} {net net' ts : List ℕ} → WalkFacts k (arrays_of z net ts) → NetRoom z net ts → NetKept z.inputs z.gates net net'
    → Loopless (net_in (arrays_of z net ts)) → Ordered z net' → Runnable z net' ts
ordered-runnable {z} {ts} f r q loopless ordered =
    let facts = kept-facts f q in
    let rooms = kept-room q r in
    record {
      rooms = rooms;
      inputs = facts.inputs-high;
      wires = read-wires facts rooms;
      count = facts.count;
      out_node = facts.out-source;
      out_count = facts.out-count;
      loopless = subst Loopless (sym (kept-net q f.pins-high z.outputs ts)) loopless;
      ordered = ordered;
    }

pub checked-runnable : {k : ℕ} {z : NetSizes} {net net' ts : List ℕ} → WalkFacts k (arrays_of z net ts) → NetRoom z net ts → NetKept z.inputs z.gates net net'
    → Says z net' (net_in (arrays_of z net ts)) 0 → Runnable z net' ts
checked-runnable f r q (loop e n) = absurd (omega arith)
checked-runnable f r q (unreached e l n) = absurd (omega arith)
checked-runnable f r q (unled e l a n) = absurd (omega arith)
checked-runnable f r q (passed e loopless reached leading graph) = ordered-runnable f r q loopless graph.ordered
