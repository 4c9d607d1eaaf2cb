use Rattle.cone_copies.specs.CopyLists.{copies_in}
use Rattle.cone_table.specs.ConeWordsLaws.{table-last}
use Rattle.cone_table.proofs.table.Goals as goal

pub returns : goal.returns
returns c v e N w tabled cone leaves first =
    let a = c.args in
    let b = a.cone in
    table-last (copies_in a.leaf_nodes.now a.leaf_backs.now a.n) b.nodes b.backs b.len c.fill_words-words.result v c.requires.room.some c.fill_words-words.ensures.1 e
    N w tabled cone leaves first
