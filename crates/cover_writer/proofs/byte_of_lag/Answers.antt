use mathlib.Core.Path.{ap, ◌∙◌}
use mir.Syntax.{w8}
use mir.Val.{of_z}
use Rattle.signed.specs.RangeLaws.{back}
use Rattle.cover_writer.specs.LagBytesLaws.{lag-fits, lag-fits-byte, byte_bits, byte_back}
use Rattle.cover_writer.proofs.byte_of_lag.Goals as goal

pub overflow_cast-lag : goal.overflow_cast-lag
overflow_cast-lag c = rw (back c.args.lag (lag-fits c.requires)) (lag-fits-byte c.requires)

pub returns : goal.returns
returns c = c.cast_unsigned.ensures ∙ ap (of_z w8) (byte_back c.requires) ∙ byte_bits c.requires
