use Rattle.std.proofs.Common.{sym, ◌∙◌}
use Rattle.label_aim.specs.AimLaws.{rise-none}
use Rattle.label_sweep.specs.EndLaws.{begun-bounds, labelled-past, labelled-rest}
use Rattle.label_sweep.proofs.reach.Goals as goal

pub returns-then-is_ok-clause-labelled : goal.returns-then-is_ok-clause-labelled
returns-then-is_ok-clause-labelled c =
    labelled-rest (begun-bounds c.floors.ensures) (rise-none c.args.s c.args.a c.requires.sized.3) c.sweep_all-swept.ensures.settle_told (sym c.is_ok.ensures.value ∙ c.if-is_ok.true) c.ends.ensures.yes c.ends.ensures.no

pub returns-else-is_ok-clause-labelled : goal.returns-else-is_ok-clause-labelled
returns-else-is_ok-clause-labelled c = labelled-past (begun-bounds c.floors.ensures) c.sweep_all-swept.ensures.settle_told (sym c.is_ok.ensures.value ∙ c.if-is_ok.false) c.if-is_ok.false
