use Rattle.std.proofs.Common.{sym, ap, ◌∙◌, ℕ, ◌/◌, get_or, take, drop, arith}
use mir.Syntax.{w64}
use mir.Val.{to_z, of_z}
use Rattle.signed.specs.RangeLaws.{back, fits-of}
use Rattle.net_fields.specs.FieldListLaws.{first_taken, from_bytes-take}
use Rattle.cover_records.specs.CoverBytes.{from_signed, half_range}
use Rattle.cover_rows.specs.SignedLaws.{signed-small, half-small}
use Rattle.cover_rows.specs.LutReadLaws.{tail-goes}
use Rattle.cover_rows.proofs.read_tail.Goals as goal

pub returns : goal.returns
returns c =
    let a = c.args in
    let s = a.bytes.now in
    let h = a.head in
    let q = c.from-q.result / 64 in
    let x = c.in_ok-lags in
    let b = c.table_bytes-b in
    let y = c.in_ok-table in
    λ root L. tail-goes a.two h.size h.map q b.result (ap (λ (m : ℕ). m / 64) c.from-q.ensures) b.ensures.is root L (drop a.at s)
    (take q x.lags.value) (drop x.lags.at s) x.ensures.result
    (take b.result y.table.value) (drop y.table.at s) y.ensures.result
    (to_z w64 (of_z w64 c.lag_of_number.result)) c.number.result
    (back c.lag_of_number.result (fits-of c.lag_of_number.result (half_range a.two) (omega (arith, half-small a.two))
    (rw c.lag_of_number.ensures (signed-small a.two (get_or x.lags.value 0 0)))) ∙ c.lag_of_number.ensures ∙ ap (from_signed a.two)
    (sym (first_taken q x.lags.value x.ensures.values.spare)))
    (c.number.ensures ∙ sym (from_bytes-take b.result y.table.value y.ensures.values.spare))
