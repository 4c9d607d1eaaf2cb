use Rattle.std.proofs.Common.{◌∙◌}
use Rattle.label_visit.specs.TopLaws.{top-capped, top-own, top-place}
use Rattle.label_visit.proofs.top_of.Goals as goal

pub own_top-requires : goal.own_top-requires
own_top-requires c = top-place c.args.s c.args.net.now c.args.g c.requires.0 (rw c.in-None.is at c.requires.1)

pub returns-in-Some : goal.returns-in-Some
returns-in-Some c = rw c.in-Some.is (top-capped c.args.s c.args.net.now c.in-Some.top c.args.g c.requires.0)

pub returns-in-None : goal.returns-in-None
returns-in-None c = rw c.in-None.is (c.own_top.ensures ∙ top-own c.args.s c.args.net.now c.args.g)
