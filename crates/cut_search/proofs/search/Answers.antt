use Rattle.std.proofs.Common.{rules, length}
use Rattle.cut_search.specs.SearchParts.{Zeroed}
use Rattle.cut_search.specs.SearchLaws.{roots-asked}
use Rattle.cut_search.proofs.search.Goals as goal

pub try_members-requires : goal.try_members-requires
try_members-requires c =
    let z : Zeroed c.fill.new.self (length c.fill.new.self) = search rules in
    record { roots_asked = roots-asked c.requires.search_asked c.put_number.ensures z c.fill.auto.self; from_in_bounds = c.requires.from_in_bounds }
