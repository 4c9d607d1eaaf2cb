use Rattle.cover_image.proofs.ImageLaws.{imaged_none, imaged_lent}
use Rattle.cover_image.proofs.write_image.Goals as goal

pub returns-then-loader-eq0 : goal.returns-then-loader-eq0
returns-then-loader-eq0 c = imaged_none c.args.loader.now c.if-loader-eq0.true

pub returns : goal.returns
returns c = imaged_lent c.args.loader.now c.if-loader-eq0.false c.write_numbers.ensures
