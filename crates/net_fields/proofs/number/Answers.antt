use Rattle.std.proofs.Common.{◌∙◌, rules}
use Rattle.net_fields.specs.FieldListLaws.{eight_bytes}
use Rattle.net_fields.proofs.number.Goals as goal

pub returns : goal.returns
returns c = c.from_le_bytes.ensures ∙ eight_bytes c.args.values (search rules)
