-- Gate evaluation and pin evaluation call each other. The step falls, or it stays and the registerless depth falls. The loop goes over the pins from the last one down:
-- what is known grows, and the number made so far is that of the pins passed.
use Rattle.std.proofs.Common.{◌≡◌, ◌+◌, ◌-◌, ◌*◌, get_or}
use Rattle.net_model.specs.Arrays.{stride}
use Rattle.run_values.specs.Sheets.{sheet, More, pins_now, node_measure, pin_measure}
use Rattle.run_values.proofs.+node_value_pin_value.Given as goal

abbrev pub decreases-node_value : goal.decreases-node_value
decreases-node_value l = node_measure (sheet l.s.z l.s.net.now l.s.tables.now l.s.kept.now l.s.word) l.v l.back

abbrev pub decreases-pin_value : goal.decreases-pin_value
decreases-pin_value l = pin_measure (sheet l.s.z l.s.net.now l.s.tables.now l.s.kept.now l.s.word) l.p

abbrev pub invariant-node_value-loop-j : goal.invariant-node_value-loop-j
invariant-node_value-loop-j l =
    More (sheet l.s.z l.s.net.now l.s.tables.now l.s.kept.now l.s.word) l.initial.known l.known
    × (l.at ≡ pins_now (sheet l.s.z l.s.net.now l.s.tables.now l.s.kept.now l.s.word) (stride * l.g + l.j) (get_or l.s.net.now l.g 0 - l.j))
