use Rattle.signed.specs.RangeLaws.{back}
use Rattle.label_start.specs.StartLaws.{filled_mid}
use Rattle.label_start.proofs.fill.Goals as goal

pub returns : goal.returns
returns c = filled_mid (back c.args.z c.ranges.z) c.requires.0 c.requires.1 (c.fill.ensures.after (λ y h. h))
