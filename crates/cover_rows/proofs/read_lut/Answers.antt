use Rattle.std.proofs.Common.{◌∙◌, drop}
use Rattle.std.proofs.lemmas.Result.{err_from_is_err_and}
use Rattle.net_bytes.specs.Readers.{then-goes, then-stops}
use Rattle.cover_records.specs.CoverBytes.{lut_body}
use Rattle.cover_records.specs.LutStages.{lut_stages}
use Rattle.cover_rows.proofs.read_lut.Goals as goal

pub returns-in_err-root : goal.returns-in_err-root
returns-in_err-root c =
    let a = c.args in
    let p = err_from_is_err_and c.from_residual.result c.from_residual.ensures.1 in
    rw (p.1, p.2)
    (record {
      result = lut_stages a.two a.nodes a.k a.least (drop a.at a.bytes.now) ∙ then-stops (lut_body a.two a.nodes a.k) c.in_err-root.ensures.result;
      keeps = tt;
    })

pub returns : goal.returns
returns c =
    let a = c.args in
    let b = c.read_body in
    record {
      result = lut_stages a.two a.nodes a.k a.least (drop a.at a.bytes.now) ∙ then-goes (lut_body a.two a.nodes a.k) c.in_ok-root.ensures.result ∙ b.ensures.result;
      keeps = b.ensures.keeps;
    }
