use Rattle.net_marks.specs.MarkLaws.{low-falls}
use Rattle.net_leading.proofs.head_all.Goals as goal

pub loop-new-preserved : goal.loop-new-preserved
loop-new-preserved c = let s = c.head_sweep-new.ensures in (s.heading, λ u v k. low-falls s.fallen u v (c.loop-new.invariant.1 u v k), s.pushed)
