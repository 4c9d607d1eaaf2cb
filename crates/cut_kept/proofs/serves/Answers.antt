use Rattle.cut_kept.specs.RowLaws.{low-asked}
use Rattle.cut_kept.proofs.serves.Goals as goal

pub all_low-requires : goal.all_low-requires
all_low-requires c = low-asked c.requires c.number_at-n.ensures
