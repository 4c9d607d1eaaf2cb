use Rattle.cover_roots.specs.RootRoundsLaws.{choosing_first, choosing_next, choosing_last, taken-less}
use Rattle.cover_roots.proofs.choose.Goals as goal

pub loop-g-init : goal.loop-g-init
loop-g-init c = (c.requires.at_rest, choosing_first c.requires.chooses c.mark_outputs.ensures)

pub loop-g-smaller : goal.loop-g-smaller
loop-g-smaller c = taken-less c.in-Some.ensures.0 c.in-Some.ensures.1 c.take.ensures.taken

pub loop-g-preserved : goal.loop-g-preserved
loop-g-preserved c = (c.take.ensures.rest, choosing_next c.in-Some.ensures.0 c.in-Some.ensures.1 c.take.ensures.taken c.requires.chooses.asking.few c.loop-g.invariant.1)

pub returns : goal.returns
returns c = record { rest = c.loop-g.invariant.0; chosen = choosing_last c.loop-g.invariant.1 c.in_default.ensures }
