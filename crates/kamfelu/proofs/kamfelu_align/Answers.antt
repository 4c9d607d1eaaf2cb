use Rattle.kamfelu.proofs.CodedLaws.{shift_room}
use Rattle.kamfelu.proofs.kamfelu_align.Goals as goal

pub code_or-requires : goal.code_or-requires
code_or-requires c = let a = c.args in shift_room a.first.now a.second.now c.align.result c.align.ensures
