use Rattle.std.proofs.Common.{refl, arith}
use Rattle.std.proofs.lemmas.Result.{err_from_is_err_and}
use Rattle.cover_reader.specs.Reads.{held_in}
use Rattle.cover_reader.specs.CandidateStoreLaws.{luts-none, luts-one, luts-stop, luts-all, luts-small, same-then}
use Rattle.cover_reader.proofs.read_luts.Goals as goal

pub loop-i-init : goal.loop-i-init
loop-i-init c =
    let a = c.args in
    (record { rows = refl; lags = refl; tables = refl; rows_long = refl; lags_long = refl; tables_long = refl }, luts-none a.two a.bytes.now a.at a.nodes a.k a.inputs a.n (held_in a.n a.w.now.rows.now a.w.now.lags.now a.w.now.tables.now))

pub returns-in_err-row : goal.returns-in_err-row
returns-in_err-row c =
    let a = c.args in
    let l = c.loop-i in
    let p = err_from_is_err_and c.from_residual.result c.from_residual.ensures.1 in
    rw (p.1, p.2)
    (record {
      same = l.invariant.0;
      read = record {
        result = luts-stop a.two a.bytes.now a.at a.nodes a.k a.inputs a.n (held_in a.n l.w.rows.now l.w.lags.now l.w.tables.now) l.next l.least l.i l.invariant.1 c.loop-i-test.true c.in_err-row.ensures;
        small = tt;
      };
    })

pub loop-i-preserved : goal.loop-i-preserved
loop-i-preserved c =
    let a = c.args in
    let l = c.loop-i in
    let r = c.in_ok-row in
    let t = c.store_lut in (
      same-then l.invariant.0 t.ensures.same,
      luts-one a.two a.bytes.now a.at a.nodes a.k a.inputs a.n (held_in a.n l.w.rows.now l.w.lags.now l.w.tables.now) l.next l.least l.i l.invariant.1 r.row
          (held_in a.n t.new.w.rows.now t.new.w.lags.now t.new.w.tables.now) _ c.loop-i-test.true r.ensures t.ensures.stored (omega arith),
    )

pub returns : goal.returns
returns c =
    let a = c.args in
    let l = c.loop-i in
    let h = held_in a.n l.w.rows.now l.w.lags.now l.w.tables.now in
    record {
      same = l.invariant.0;
      read = record {
        result = luts-all a.two a.bytes.now a.at a.nodes a.k a.inputs a.n h l.next l.least l.i l.invariant.1 c.loop-i-test.false;
        small = luts-small a.two a.bytes.now a.at a.nodes a.k a.inputs a.n h l.next l.least l.i l.invariant.1 c.loop-i-test.false;
      };
    }
