use Rattle.cone_luts.specs.LutLaws.{gate-lut}
use Rattle.cone_luts.proofs.gate_table.Goals as goal

pub returns : goal.returns
returns c = record { gate_table = rw c.unwrap_or.ensures (gate-lut c.args.g c.try_row-t.result c.try_row-t.ensures.lut_tried); clear = c.try_row-t.ensures.clear }
