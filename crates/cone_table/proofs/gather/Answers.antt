use mathlib.Core.Path.{ap, subst, ◌∙◌}
use Prim.Native.Nat.{ℕ}
use native.Mathlib.Omega.{arith}
use lib.ListN.{get_or, drop, length-set}
use Rattle.net_model.specs.Copies.{Copy}
use Rattle.net_model.specs.PackedNet.{sources_at, counts_at}
use Rattle.cone_copies.specs.CopyLists.{copies_in, source_at}
use Rattle.cone_copies.specs.CopyListLaws.{each_set}
use Rattle.cone_descent.specs.PinRead.{source-inside, count-inside, source-read}
use Rattle.cone_table.specs.ConeWords.{Carries}
use Rattle.cone_table.proofs.gather.Goals as goal

pub overflow_add-s : goal.overflow_add-s
overflow_add-s c =
    let start = c in
    let p = c.requires.1 c.loop-j.j c.loop-j-test.true in
    omega (arith, source-inside c.args.s.gates c.args.s.net.now p.room)

pub offset_bounds-s-s : goal.offset_bounds-s-s
offset_bounds-s-s c =
    let start = c in
    let p = c.requires.1 c.loop-j.j c.loop-j-test.true in
    omega (arith, source-inside c.args.s.gates c.args.s.net.now p.room)

pub bounds-s-s : goal.bounds-s-s
bounds-s-s c =
    let start = c in
    let p = c.requires.1 c.loop-j.j c.loop-j-test.true in
    source-inside c.args.s.gates c.args.s.net.now p.room

pub overflow_mul-s-in-loop-j : goal.overflow_mul-s-in-loop-j
overflow_mul-s-in-loop-j c =
    let start = c in
    let p = c.requires.1 c.loop-j.j c.loop-j-test.true in
    omega (arith, count-inside c.args.s.gates c.args.s.net.now p.room')

pub overflow_add-s-in-loop-j : goal.overflow_add-s-in-loop-j
overflow_add-s-in-loop-j c =
    let start = c in
    let p = c.requires.1 c.loop-j.j c.loop-j-test.true in
    omega (arith, count-inside c.args.s.gates c.args.s.net.now p.room')

pub offset_bounds-s-s-in-loop-j : goal.offset_bounds-s-s-in-loop-j
offset_bounds-s-s-in-loop-j c =
    let start = c in
    let p = c.requires.1 c.loop-j.j c.loop-j-test.true in
    omega (arith, count-inside c.args.s.gates c.args.s.net.now p.room')

pub bounds-s-s-in-loop-j : goal.bounds-s-s-in-loop-j
bounds-s-s-in-loop-j c =
    let start = c in
    let p = c.requires.1 c.loop-j.j c.loop-j-test.true in
    count-inside c.args.s.gates c.args.s.net.now p.room'

pub overflow_add-base : goal.overflow_add-base
overflow_add-base c =
    let start = c in
    let p = c.requires.1 c.loop-j.j c.loop-j-test.true in
    let this = source-read c.args.s.gates c.args.s.net.now c.args.g (get_or c.args.cone.backs.now c.args.p 0) c.loop-j.j in
    omega (arith, p.count, c.requires.4, ap (λ (y : Copy). y.back) this)

pub source_word-requires : goal.source_word-requires
source_word-requires c =
    let start = c in
    let p = c.requires.1 c.loop-j.j c.loop-j-test.true in
    let this = source-read c.args.s.gates c.args.s.net.now c.args.g (get_or c.args.cone.backs.now c.args.p 0) c.loop-j.j in
    let q = c.requires.0 in (
      (q.0, q.1, q.2, q.3, omega (arith, q.4), q.5, q.6, q.7, q.8),
      omega (arith, p.node, ap (λ (y : Copy). y.node) this),
      omega (arith, p.count, c.requires.4, ap (λ (y : Copy). y.back) this),
    )

pub loop-j-preserved : goal.loop-j-preserved
loop-j-preserved c =
    let loop = c.loop-j in
    let start = c in
    let a = c.args in
    let L = copies_in a.leaves.nodes.now a.leaves.backs.now a.leaves.len in
    let C = copies_in a.cone.nodes.now a.cone.backs.now a.p in
    let b = get_or a.cone.backs.now a.p 0 in
    let m = c.requires.3 in
    let e = loop.invariant.0 in (
      length-set loop.fed loop.j c.source_word.result ∙ e,
      each_set (λ (i w : ℕ). Carries L C a.words.now (source_at (drop (sources_at a.s.gates) a.s.net.now) (drop (counts_at a.s.gates) a.s.net.now) a.g b i) w) loop.fed loop.j
          c.source_word.result (omega arith) loop.invariant.1
          (subst (λ (y : Copy). Carries L C a.words.now y c.source_word.result) (source-read a.s.gates a.s.net.now a.g b loop.j) c.source_word.ensures),
    )
