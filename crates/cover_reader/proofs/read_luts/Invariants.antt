use Rattle.cover_reader.specs.Reads.{held_in}
use Rattle.cover_reader.specs.LutsStored.{Same}
use Rattle.cover_reader.specs.CandidateStoreLaws.{LutsSoFar}
use Rattle.cover_reader.proofs.read_luts.Given as goal

abbrev pub invariant-loop-i : goal.invariant-loop-i
invariant-loop-i l =
    Same l.initial.w l.w × LutsSoFar l.two l.bytes l.at l.nodes l.k l.inputs l.n (held_in l.n l.w.rows.now l.w.lags.now l.w.tables.now) l.next l.least l.i
