use mathlib.Core.Path.{refl, ◌∙◌}
use native.Mathlib.Omega.{arith}
use lib.ListN.{length-set}
use Rattle.cone_table.specs.ConeWordsLaws.{settled-none, settled-next}
use Rattle.cone_table.proofs.fill_words.Goals as goal

pub loop-p-init : goal.loop-p-init
loop-p-init c =
    let a = c.args in
    (refl, settled-none a.cone.nodes.now a.cone.backs.now a.cone.len _ 64)

pub loop-p-preserved : goal.loop-p-preserved
loop-p-preserved c =
    let loop = c.loop-p in
    let s = c in
    let a = c.args in
    let f = c.requires.room.fits in
    let e = loop.invariant.0 in (
      length-set loop.words loop.p c.copy_word.result ∙ e,
      settled-next a.cone.nodes.now a.cone.backs.now a.cone.len loop.words 64 loop.p
          c.copy_word.result (omega arith) c.requires.bounded (omega arith) (omega arith) c.copy_word.ensures loop.invariant.1,
    )
