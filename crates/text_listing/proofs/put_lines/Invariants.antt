use Prim.Native.Nat.{◌*◌}
use Rattle.cover_records.specs.Kept.{entries_from, label_at}
use Rattle.cover_records.specs.Rows.{kept_in}
use Rattle.cover_records.specs.Listing.{lut_lines}
use Rattle.text_digits.specs.Put.{Put}
use Rattle.text_listing.proofs.put_lines.Given as goal

abbrev pub invariant-loop-g : goal.invariant-loop-g
invariant-loop-g l =
    let a = kept_in l.k.head.inputs l.k.head.gates l.k.head.period l.k.labels.now l.k.rows.now l.tables in
    Put (361 * l.g) l.initial.at (lut_lines (label_at a) (entries_from a 0 l.g)) l.initial.out l.out l.at
