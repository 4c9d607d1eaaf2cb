use mir.Syntax.{w64}
use mir.Val.{SFits}
use Rattle.signed.specs.RangeLaws.{back}
use Rattle.cover_reader.specs.CandidateStoreLaws.{lut-stored}
use Rattle.std.proofs.Common.{rules}
use Rattle.cover_reader.proofs.store_lut.Goals as goal

pub returns-clause-stored : goal.returns-clause-stored
returns-clause-stored c =
    let a = c.args in
    let p = c.requires in
    let fits : SFits w64 a.row.lag = search rules in
    rw (back a.row.lag fits) (lut-stored a.n a.i a.row a.w.now.rows.now c.store_row.new.rows a.w.now.lags.now a.w.now.tables.now c.store_row.ensures p.n_le_most_luts.1 p.size_le_most_pins p.n_le_most_luts.2.at_lags p.n_le_most_luts.2.at_tables p.narrow)
