use Rattle.cover_links.specs.LinkLaws.{node-room, told-unfed-leaf, told-unfed-output, told-short-leaf, told-short-output, told-long, told-linked}
use Rattle.cover_links.proofs.check_links.Goals as goal
use Rattle.cover_links.proofs.check_links.Goals.{then-not-luts_fed-via-then-not-luts_fed, then-not-luts_fed-via-else-not-luts_fed+then-not-outputs_fed, then-not-luts_enough-via-then-not-luts_enough, then-not-luts_enough-via-else-not-luts_enough+then-not-outputs_enough}

pub returns-then-not-luts_fed : goal.returns-then-not-luts_fed
returns-then-not-luts_fed c =
    let p = c.requires in
    let places = c.places-spots.ensures in
    let room = node-room p.luts places.0 in
    elim c.then-not-luts_fed.branch [
      | then-not-luts_fed-via-then-not-luts_fed w ↦ told-unfed-leaf p places.1 room (c.luts_fed.ensures.fails w.if-not-luts_fed.true)
      | then-not-luts_fed-via-else-not-luts_fed+then-not-outputs_fed w ↦ told-unfed-output p places.1 room (w.outputs_fed.ensures.fails w.if-not-outputs_fed.true)
    ]

pub returns-then-not-luts_enough : goal.returns-then-not-luts_enough
returns-then-not-luts_enough c =
    let p = c.requires in
    let places = c.places-spots.ensures in
    let room = node-room p.luts places.0 in
    let f = c.luts_fed.ensures.holds c.if-not-luts_fed.false in
    let g = c.outputs_fed.ensures.holds c.if-not-outputs_fed.false in
    elim c.then-not-luts_enough.branch [
      | then-not-luts_enough-via-then-not-luts_enough w ↦ told-short-leaf p places.1 room f g (c.luts_enough.ensures.fails w.if-not-luts_enough.true)
      | then-not-luts_enough-via-else-not-luts_enough+then-not-outputs_enough w ↦ told-short-output p places.1 room f g (w.outputs_enough.ensures.fails w.if-not-outputs_enough.true)
    ]

pub returns-then-not-chains_short : goal.returns-then-not-chains_short
returns-then-not-chains_short c =
    let p = c.requires in
    let places = c.places-spots.ensures in
    told-long p places.1 (node-room p.luts places.0) (c.luts_fed.ensures.holds c.if-not-luts_fed.false) (c.outputs_fed.ensures.holds c.if-not-outputs_fed.false)
    (c.luts_enough.ensures.holds c.if-not-luts_enough.false) (c.outputs_enough.ensures.holds c.if-not-outputs_enough.false)
    (c.chains_short.ensures.fails c.if-not-chains_short.true)

pub returns : goal.returns
returns c =
    let p = c.requires in
    let places = c.places-spots.ensures in
    told-linked p places.1 (node-room p.luts places.0) (c.luts_fed.ensures.holds c.if-not-luts_fed.false) (c.outputs_fed.ensures.holds c.if-not-outputs_fed.false)
    (c.luts_enough.ensures.holds c.if-not-luts_enough.false) (c.outputs_enough.ensures.holds c.if-not-outputs_enough.false)
    (c.chains_short.ensures.holds c.if-not-chains_short.false)
