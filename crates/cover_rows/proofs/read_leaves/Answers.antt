use Rattle.std.proofs.Common.{sym, ◌∙◌, ◌%◌, take, drop, arith}
use Rattle.std.proofs.lemmas.Result.{err_from_is_err_and}
use Rattle.net_model.specs.Arrays.{copies_from}
use Rattle.cover_rows.specs.LutReadLaws.{leaves-made, depths-stop, rising-stop, leaves-go}
use Rattle.cover_rows.proofs.read_leaves.Goals as goal

pub returns-in_err-depths : goal.returns-in_err-depths
returns-in_err-depths c =
    let a = c.args in
    let s = a.bytes.now in
    let h = a.head in
    let x = c.in_ok-nodes in
    let m = c.count_of-m in
    let p = err_from_is_err_and c.from_residual-in_err-depths.result c.from_residual-in_err-depths.ensures.1 in
    rw (p.1, p.2)
    (record {
      result = depths-stop a.two s a.at a.nodes h.size h.map (take h.size x.field-0.value) (drop x.field-0.at s) x.ensures.result m.result m.ensures.is c.in_err-depths.ensures.result;
      small = tt;
    })

pub returns-then-not-rising : goal.returns-then-not-rising
returns-then-not-rising c =
    let a = c.args in
    let s = a.bytes.now in
    let h = a.head in
    let x = c.in_ok-nodes in
    let m = c.count_of-m in
    let y = c.in_ok-depths in
    let spread = c.spread-backs in
    let long = x.ensures.values.long in
    record {
      result = rising-stop a.two s a.at a.nodes h.size h.map (take h.size x.field-0.value) (drop x.field-0.at s) x.ensures.result m.result m.ensures.is
          (take m.result y.field-0.value) (drop y.field-0.at s) y.ensures.result
          (copies_from x.field-0.value spread.result 0 h.size)
          (leaves-made (h.map % 64) h.size m.result x.field-0.value y.field-0.value spread.result (omega (arith, c.requires))
          x.ensures.values.spare y.ensures.values.spare spread.ensures)
          (sym c.rising.ensures ∙ c.if-not-rising.true);
      small = tt;
    }

pub returns : goal.returns
returns c =
    let a = c.args in
    let s = a.bytes.now in
    let h = a.head in
    let x = c.in_ok-nodes in
    let m = c.count_of-m in
    let y = c.in_ok-depths in
    let spread = c.spread-backs in
    let long = x.ensures.values.long in
    record {
      result = leaves-go a.two s a.at a.nodes h.size h.map (take h.size x.field-0.value) (drop x.field-0.at s) x.ensures.result m.result m.ensures.is
          (take m.result y.field-0.value) (drop y.field-0.at s) y.ensures.result
          (copies_from x.field-0.value spread.result 0 h.size)
          (leaves-made (h.map % 64) h.size m.result x.field-0.value y.field-0.value spread.result (omega (arith, c.requires))
          x.ensures.values.spare y.ensures.values.spare spread.ensures)
          (sym c.rising.ensures ∙ c.if-not-rising.false);
      small = spread.ensures.small y.ensures.small;
    }
