use Rattle.std.proofs.Common.{◌*◌, ◌+◌, ◌≤◌, length, drop, sym, rules, arith}
use Rattle.std.proofs.lemmas.Result.{err_from_is_err_and}
use lib.ListN.{length-drop}
use Rattle.limits.specs.Limits.{most_pins}
use Rattle.cover_records.specs.CoverStages.{front}
use Rattle.cover_reader.specs.Reads.{held_in}
use Rattle.cover_reader.specs.CandidateLaws.{front-few, front-stopped, luts-stopped, bytes-over, cover-goes, cover-same}
use Rattle.cover_reader.proofs.read_cover.Goals as goal

pub returns-in_err-front : goal.returns-in_err-front
returns-in_err-front c =
    let a = c.args in
    let p = err_from_is_err_and c.from_residual.result c.from_residual.ensures.1 in
    rw (p.1, p.2) (front-stopped c.requires.inputs_le_most_inputs.3 a.bytes.now a.inputs a.gates a.k c.in_err-front.ensures)

pub read_luts-requires : goal.read_luts-requires
read_luts-requires c =
    let f = c.in_ok-front in
    let v = f.front.value in
    let z = c.requires.spacious in
    let s = c.args.bytes.now in
    let few = front-few c.requires.inputs_le_most_inputs.3 s (front v.period v.luts) (drop f.front.at s) f.ensures in
    (c.requires.inputs_le_most_inputs.2, few, record { at_rows = omega (arith, few, z.at_rows); at_lags = omega (arith, few, z.at_lags); at_tables = omega (arith, few, z.at_tables) })

pub returns-in_err-end : goal.returns-in_err-end
returns-in_err-end c =
    let a = c.args in
    let f = c.in_ok-front in
    let v = f.front.value in
    let y = c.read_luts in
    let p = err_from_is_err_and c.from_residual-in_err-end.result c.from_residual-in_err-end.ensures.1 in
    rw (p.1, p.2)
    (luts-stopped c.requires.inputs_le_most_inputs.3 a.bytes.now a.inputs a.gates a.k v.period v.luts f.front.at f.ensures
    (held_in v.luts y.new.w.rows.now y.new.w.lags.now y.new.w.tables.now) c.in_err-end.ensures.read)

pub returns-then-end-bytes : goal.returns-then-end-bytes
returns-then-end-bytes c =
    let a = c.args in
    let f = c.in_ok-front in
    let v = f.front.value in
    let y = c.read_luts in
    bytes-over c.requires.inputs_le_most_inputs.3 a.bytes.now a.inputs a.gates a.k v.period v.luts f.front.at f.ensures
    (held_in v.luts y.new.w.rows.now y.new.w.lags.now y.new.w.tables.now) c.in_ok-end.end c.in_ok-end.ensures.read (omega arith)

pub returns : goal.returns
returns c =
    let a = c.args in
    let s = a.bytes.now in
    let f = c.in_ok-front in
    let v = f.front.value in
    let n = v.luts in
    let y = c.read_luts in
    let z = c.requires.spacious in
    let few = front-few c.requires.inputs_le_most_inputs.3 s (front v.period n) (drop f.front.at s) f.ensures in
    let rows = y.new.w.rows.now in
    let same = y.ensures.same in
    let room : (2 + 2 * most_pins) * n ≤ length rows = omega (arith, few, z.at_rows, same.rows_long) in
    cover-same n (search (rules, sym same.rows)) (search (rules, sym same.lags)) (search (rules, sym same.tables))
    (cover-goes c.requires.inputs_le_most_inputs.3 s a.inputs a.gates a.k v.period n f.front.at f.ensures
    (held_in n rows y.new.w.lags.now y.new.w.tables.now) c.in_ok-end.end c.in_ok-end.ensures.read
    (omega arith) c.requires.inputs_le_most_inputs.2 (omega (arith, room)) (omega (arith, room, length-drop n rows)) (omega (arith, room, length-drop (2 * n) rows)) (omega (arith, room, length-drop ((2 + most_pins) * n) rows))
    (omega (arith, few, z.at_lags, same.lags_long)) (omega (arith, few, z.at_tables, same.tables_long)))
