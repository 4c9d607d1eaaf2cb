use Rattle.limits.specs.Limits.{most_items}
use Rattle.net_bytes.specs.Items.{ReadSoFar}
use Rattle.net_fields.specs.Fields.{field_byte}
use Rattle.net_fields.proofs.read_items.Given as goal

abbrev pub invariant-loop-i : goal.invariant-loop-i
invariant-loop-i l = ReadSoFar most_items (field_byte l.field) l.bytes l.at l.n l.values l.next l.i
