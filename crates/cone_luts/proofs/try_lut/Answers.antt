use Rattle.cone_descent.specs.DescentEnds.{seated-clear}
use Rattle.cone_luts.specs.LutLaws.{tried_cut}
use Rattle.cone_luts.proofs.try_lut.Goals as goal

pub returns-in_err-cone : goal.returns-in_err-cone
returns-in_err-cone c = rw c.from_residual.ensures (record { lut_tried = c.in_err-cone.ensures.0; clear = c.in_err-cone.ensures.1 })

pub returns : goal.returns
returns c =
    let w = c.in_ok-cone.ensures in
    record { lut_tried = tried_cut w.0 (c.table-t.ensures _ w.1.last); clear = seated-clear _ _ _ _ _ _ w.1.seated c.clear.ensures }
