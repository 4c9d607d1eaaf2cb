use mathlib.Core.Path.{refl, sym, subst, ◌∙◌}
use Prim.Native.Nat.{ℕ}
use lib.ListN.{length-replicate}
use Rattle.limits.specs.Limits.{most_gates, most_packed}
use Rattle.limits.specs.Courses.{Offered, is-long}
use Rattle.net_reader.specs.ReadWires.{room_offered}
use Rattle.job_list.specs.Texts.{walk_refused, walk-listing, walk-lists}
use Rattle.std.proofs.Common.{rules}
use Rattle.job_list.proofs.list_net.Goals as goal

pub read_net-requires : goal.read_net-requires
read_net-requires c = let offered = subst Offered (sym c.long_course.ensures) is-long in
    record { offered = offered; read_room = room_offered offered (length-replicate {A = ℕ} most_packed 0) (length-replicate {A = ℕ} most_gates 0) }

pub list_read-requires : goal.list_read-requires
list_read-requires c =
    let a = c.args in
    let read = rw c.long_course.ensures at c.in-Ok.ensures in
    let kept = c.read_net.auto in
    walk-listing a.k a.target a.bytes.now c.in-Ok.sizes _ _ read refl refl kept.net kept.tables c.requires.0 c.requires.1

pub returns-in-Ok : goal.returns-in-Ok
returns-in-Ok c =
    let a = c.args in
    let read = rw c.long_course.ensures at c.in-Ok.ensures in
    walk-lists a.k a.target a.bytes.now c.in-Ok.sizes _ _ read refl refl c.list_read.ensures

pub returns-in-Err : goal.returns-in-Err
returns-in-Err c =
    let a = c.args in
    let read = rw c.long_course.ensures at c.in-Err.ensures in
    walk_refused a.k a.target a.bytes.now read (c.from-in-Err.ensures ∙ c.from.ensures) c.write_refusal.ensures
