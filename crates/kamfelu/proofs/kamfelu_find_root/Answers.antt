use Rattle.kamfelu.proofs.CodedLaws.{root_room}
use Rattle.kamfelu.proofs.kamfelu_find_root.Goals as goal

pub code_or-requires : goal.code_or-requires
code_or-requires c = let a = c.args in root_room a.g a.cover.now c.find_root.result c.find_root.ensures
