use mathlib.Core.Path.{subst}
use mathlib.Core.List.{List, [], ◌∷◌, ◌++◌}
use Prim.Native.Nat.{ℕ, suc, ◌≤◌, ◌+◌, ◌<◌}
use native.Mathlib.Nat.{le_trans}
use native.Mathlib.Omega.{arith}
use native.Mathlib.Numerals.{add-one}
use lib.ListN.{length, get_or}
use Rattle.net_model.specs.Arrays.{copies_from}
use Rattle.net_model.specs.Copies.{copy}
use Rattle.cover_records.specs.CoverBytes.{depths}
use Rattle.cover_writer.specs.BytesBehind.{wrote_none, wrote-behind, room-behind}
use Rattle.cover_writer.specs.LutBytesLaws.{depths-zero, depths-next, depths-within}
use Rattle.cover_writer.proofs.write_depths.Goals as goal

-- `cover_writer::write_depths` meets its contract. The loop's invariant: the d's passed are written.
-- there is room for those passed, and for the next
so_far : (backs area : List ℕ) (at n j : ℕ) → j ≤ n → length (depths (copies_from [] backs at n)) ≤ length area → length (depths (copies_from [] backs at j)) ≤ length area
so_far backs area at n j h l = le_trans (depths-within [] backs at j n h) l

and-next : (backs area : List ℕ) (at n j : ℕ) → j < n → length (depths (copies_from [] backs at n)) ≤ length area
    → length (depths (copies_from [] backs at j) ++ depths (copy 0 (get_or backs (at + j) 0) ∷ [])) ≤ length area
and-next backs area at n j h l = subst (λ (b : List ℕ). length b ≤ length area) (depths-next [] backs at j) (so_far backs area at n (suc j) h l)

pub loop-j-init : goal.loop-j-init
loop-j-init c = rw depths-zero (wrote_none c.args.area.now)

pub write_depth-end-requires : goal.write_depth-end-requires
write_depth-end-requires c =
    let loop = c.loop-j in
    let v = loop.invariant in
    let b = c.args.backs.now in
    let i = c.args.at + loop.j in (
      c.requires.below.each loop.j (omega arith),
      room-behind (depths (copy 0 (get_or b i 0) ∷ [])) v
          (and-next b c.args.area.now c.args.at c.args.n loop.j (omega arith) c.requires.n_in_bounds.1),
    )

pub loop-j-preserved : goal.loop-j-preserved
loop-j-preserved c =
    let loop = c.loop-j in
    let v = loop.invariant in
    rw (add-one loop.j, depths-next [] c.args.backs.now c.args.at loop.j) (wrote-behind v c.write_depth-end.ensures)
