-- Definitions: how a leaf stands to the copy sought.
use Rattle.std.specs.Prelude.{◌≡◌}
use Rattle.std.specs.declared.cmp.Ordering.{Ordering}
use Rattle.std.specs.declared.cmp.Ordering.TheVariants.{Less, Equal, Greater}
use Rattle.net_model.specs.Copies.{Copy, Before}

-- what each answer says of leaf b and copy c
abbrev pub Seen : Copy → Copy → Ordering → Type 0
Seen c b Less = Before b c
Seen c b Equal = b ≡ c
Seen c b Greater = Before c b
