use mathlib.Core.List.{List, [], ◌++◌}
use Prim.Native.Nat.{ℕ, ◌≤◌}
use native.Mathlib.Omega.{arith}
use lib.ListN.{length, length-append}
use Rattle.net_model.specs.Arrays.{copies_from}
use Rattle.cover_records.specs.CoverBytes.{depths}
use Rattle.cover_writer.specs.Writing.{LeavesAsked}
use Rattle.cover_writer.specs.BytesBehind.{wrote-behind, room-behind}
use Rattle.cover_writer.specs.LutBytesLaws.{nodes_of, leaf-bytes, length-nodes}
use Rattle.cover_writer.proofs.write_leaves.Goals as goal

-- `cover_writer::write_leaves` meets its contract: the d's stand behind the nodes.
-- there is room for both parts, and for the first
both : {nodes backs : List ℕ} {at n : ℕ} {area : List ℕ} → LeavesAsked nodes backs at n area → length (nodes_of (copies_from nodes [] at n) ++ depths (copies_from [] backs at n)) ≤ length area
both {nodes} {backs} {at} {n} p = rw leaf-bytes at p.room

first : {nodes backs : List ℕ} {at n : ℕ} {area : List ℕ} → LeavesAsked nodes backs at n area → length (nodes_of (copies_from nodes [] at n)) ≤ length area
first {nodes} {backs} {at} {n} p = let h = both p in omega (arith, length-append (nodes_of (copies_from nodes [] at n)) (depths (copies_from [] backs at n)))

front : {nodes backs : List ℕ} {at n : ℕ} {area : List ℕ} → LeavesAsked nodes backs at n area → n ≤ length area
front {nodes} {backs} {at} {n} p = let h = first p in let e = length-nodes nodes [] at n in omega arith

pub write_nodes-a-requires : goal.write_nodes-a-requires
write_nodes-a-requires c = let p = c.requires in
    record { n_in_bounds = (p.nodes_held, front p); below = p.nodes_small }

pub write_depths-requires : goal.write_depths-requires
write_depths-requires c = let start = c in
    let p = c.requires in
    record { n_in_bounds = (p.backs_held, room-behind (depths (copies_from [] c.args.leaves.backs.now c.args.leaves.at c.args.leaves.n)) c.write_nodes-a.ensures (both p)); below = p.backs_small }

pub returns : goal.returns
returns c =
    let start = c in
    rw (leaf-bytes c.args.leaves.nodes.now c.args.leaves.backs.now c.args.leaves.at c.args.leaves.n)
    (wrote-behind c.write_nodes-a.ensures c.write_depths.ensures)
