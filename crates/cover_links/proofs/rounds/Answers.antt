use Rattle.std.proofs.Common.{◌≡◌, ◌+◌, ◌-◌, refl, subst, arith}
use Rattle.cover_links.specs.LinkPlaceLaws.{Told, told-first, told_more, told-still}
use Rattle.cover_links.proofs.rounds.Goals as goal

pub loop-luts-init : goal.loop-luts-init
loop-luts-init c =
    let w = c.args.w in
    (omega arith, refl, told-first w.inputs w.spots.now w.sizes.now w.nodes.now w.backs.now w.lags.now w.len c.requires.luts_placed.0.leaf_room.few)

pub returns-then-same : goal.returns-then-same
returns-then-same c =
    let w = c.args.w in
    let loop = c.loop-luts in (
      loop.invariant.1,
      told-still w.inputs w.spots.now w.sizes.now w.nodes.now w.backs.now w.lags.now w.len loop.marks c.round-next.result loop.luts c.args.period (omega arith) (omega arith)
          c.requires.luts_fed loop.invariant.2 c.round-next.ensures.1 (c.same.ensures.holds c.if-same.true),
    )

pub loop-luts-preserved : goal.loop-luts-preserved
loop-luts-preserved c =
    let w = c.args.w in
    let loop = c.loop-luts in (
      omega arith,
      c.round-next.ensures.0,
      told_more w.inputs w.spots.now w.sizes.now w.nodes.now w.backs.now w.lags.now w.len loop.marks c.round-next.result loop.luts (omega arith)
          c.requires.luts_fed loop.invariant.2 c.round-next.ensures.1,
    )

pub returns-else-same : goal.returns-else-same
returns-else-same c =
    let w = c.args.w in
    let loop = c.loop-luts in
    let last : loop.luts + 1 - 1 ≡ c.args.period = omega arith in (
      c.round-next.ensures.0,
      subst (Told w.inputs w.spots.now w.sizes.now w.nodes.now w.backs.now w.lags.now w.len c.round-next.result) last
          (told_more w.inputs w.spots.now w.sizes.now w.nodes.now w.backs.now w.lags.now w.len loop.marks c.round-next.result loop.luts (omega arith)
          c.requires.luts_fed loop.invariant.2 c.round-next.ensures.1),
    )

pub returns : goal.returns
returns c =
    let w = c.args.w in
    let loop = c.loop-luts in
    let last : loop.luts - 1 ≡ c.args.period = omega arith in
    (loop.invariant.1, subst (Told w.inputs w.spots.now w.sizes.now w.nodes.now w.backs.now w.lags.now w.len loop.marks) last loop.invariant.2)
