use mathlib.Core.Path.{refl, ◌∙◌}
use Rattle.sequences.specs.Behind.{behind}
use Rattle.label_aim.specs.Aims.{mode_of}
use Rattle.job_map.specs.MapReading.{lacks_is, walk_refused, walk_mapping, walk-maps}
use Rattle.std.proofs.lemmas.Result.{err_from_is_err_and}
use Rattle.job_map.proofs.map_bytes.Goals as goal

pub returns-in_err-drawn : goal.returns-in_err-drawn
returns-in_err-drawn c =
    let a = c.args in
    let p = err_from_is_err_and c.from_residual.result c.from_residual.ensures.1 in
    rw (p.1, p.2) (walk_refused a.rules a.k a.target a.bytes.now c.in_err-drawn.field-0.0 c.in_err-drawn.ensures (mode_of a.forward) a.pairs.now a.area.now a.loader.now a.contents.now)

pub map_read-requires : goal.map_read-requires
map_read-requires c =
    let a = c.args in
    let l = a.bytes.now in
    let d = c.in_ok-drawn in
    let p = c.place_behind-at in
    let rest = behind l p.result ∙ p.ensures.behind in
    let f = c.requires.fit in
    walk_mapping a.rules a.k a.target l d.drawn _ _ d.ensures c.requires.offered _ rest refl refl c.read_drawn.auto.net c.read_drawn.auto.tables f.0 f.1 f.2 f.3 (lacks_is a.contents.now l p.result c.lacks_section-lacks.ensures)

pub returns : goal.returns
returns c =
    let a = c.args in
    let l = a.bytes.now in
    let d = c.in_ok-drawn in
    let p = c.place_behind-at in
    let rest = behind l p.result ∙ p.ensures.behind in
    walk-maps a.rules a.k a.target l d.drawn _ _ d.ensures c.requires.offered _ rest refl refl (lacks_is a.contents.now l p.result c.lacks_section-lacks.ensures) c.map_read.ensures
