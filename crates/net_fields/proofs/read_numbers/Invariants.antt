use Rattle.limits.specs.Limits.{most_items}
use Rattle.net_bytes.specs.Items.{ReadSoFar}
use Rattle.net_fields.specs.Fields.{field_number}
use Rattle.net_fields.specs.ItemsRead.{Small}
use Rattle.net_fields.proofs.read_numbers.Given as goal

abbrev pub invariant-loop-i : goal.invariant-loop-i
invariant-loop-i l = record { read : ReadSoFar most_items (field_number l.two l.field) l.bytes l.at l.n l.values l.next l.i; small : Small l.two l.values }
