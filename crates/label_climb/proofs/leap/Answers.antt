use Rattle.label_climb.specs.TrialLaws.{leapt_past}
use Rattle.label_climb.proofs.leap.Goals as goal

pub returns-then-trial : goal.returns-then-trial
returns-then-trial c = record { at_rest_2 = c.trial.ensures.at_rest_2; progress = leapt_past c.in_ok-last.ensures.progress c.trial.ensures.trial_told.same (c.trial.ensures.trial_told.refuted c.if-trial.true) }
