use Rattle.std.proofs.Common.{sym, subst, ◌∙◌, ℕ}
use lib.ListN.{length-replicate}
use Rattle.limits.specs.Limits.{most_gates, most_packed}
use Rattle.limits.specs.Courses.{Offered, is-long}
use Rattle.net_reader.specs.ReadWires.{room_offered}
use Rattle.text_readings.specs.ReadingTextLaws.{reading_refused, reading_read}
use Rattle.text_readings.proofs.write_reading.Goals as goal

pub read_net-requires : goal.read_net-requires
read_net-requires c = let offered = subst Offered (sym c.long_course.ensures) is-long in
    record { offered = offered; read_room = room_offered offered (length-replicate {A = ℕ} most_packed 0) (length-replicate {A = ℕ} most_gates 0) }

pub returns-in-Err : goal.returns-in-Err
returns-in-Err c = let read = rw c.long_course.ensures at c.in-Err.ensures in
    reading_refused c.args.k c.args.net.now read (c.from-in-Err.ensures ∙ c.from.ensures) c.write_refusal.ensures

pub returns-in-Ok : goal.returns-in-Ok
returns-in-Ok c = let read = rw c.long_course.ensures at c.in-Ok.ensures in
    reading_read c.args.k c.args.net.now c.in-Ok.z _ _ read c.write_sizes.ensures
