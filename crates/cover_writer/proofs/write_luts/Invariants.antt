use Rattle.cover_records.specs.Rows.{kept_in}
use Rattle.cover_writer.specs.Writing.{Wrote}
use Rattle.cover_writer.specs.CoverBytesLaws.{bytes_to}
use Rattle.cover_writer.proofs.write_luts.Given as goal

abbrev pub invariant-loop-g : goal.invariant-loop-g
invariant-loop-g l =
    Wrote (bytes_to (kept_in l.k.head.inputs l.k.head.gates l.k.head.period l.k.labels.now l.k.rows.now l.tables) l.g) l.initial.area l.area l.at
