use Rattle.std.proofs.Common.{sym, ap, ◌∙◌, cond, ℕ, arith}
use Rattle.std.proofs.lemmas.Result.{err_from_is_err_and}
use Rattle.limits.specs.CourseLaws.{offered_within}
use Rattle.net_model.specs.Arrays.{net_in}
use Rattle.net_model.specs.ArrayLaws.{size-net_in}
use Rattle.net_reader.specs.ReadAnswer.{arrays_of}
use Rattle.net_reader.specs.NetStored.{head_in}
use Rattle.net_reader.specs.NetLaws.{head-stops, body-stops, section-stops, bytes-over, drawn-read}
use Rattle.net_reader.proofs.read_drawn.Goals as goal

pub returns-in_err-head : goal.returns-in_err-head
returns-in_err-head c =
    let a = c.args in
    let p = err_from_is_err_and c.from_residual.result c.from_residual.ensures.1 in
    rw (p.1, p.2) (head-stops a.rules a.k a.bytes.now c.in_err-head.ensures.result)

pub returns-in_err-body : goal.returns-in_err-body
returns-in_err-body c =
    let a = c.args in
    let h = c.in_ok-head in
    let p = err_from_is_err_and c.from_residual-in_err-body.result c.from_residual-in_err-body.ensures.1 in
    rw (p.1, p.2) (body-stops a.rules a.k a.bytes.now (head_in h.head.value) h.head.at h.ensures.result c.in_err-body.ensures.result)

pub section_bytes-n-requires : goal.section_bytes-n-requires
section_bytes-n-requires c =
    let g = (offered_within c.requires.offered).gates in
    (c.in_ok-body.ensures.inputs, omega (arith, c.in_ok-body.ensures.gates, g))

pub returns-in_err-end : goal.returns-in_err-end
returns-in_err-end c =
    let a = c.args in
    let h = c.in_ok-head in
    let b = c.in_ok-body in
    let w = arrays_of b.body.value c.read_body.new.net c.read_body.new.tables in
    let n = c.section_bytes-n in
    let long = n.ensures ∙ ap (λ (m : ℕ). cond h.head.value.section m 0) (sym (size-net_in w)) in
    let p = err_from_is_err_and c.from_residual-in_err-end.result c.from_residual-in_err-end.ensures.1 in
    rw (p.1, p.2)
    (section-stops a.rules a.k a.bytes.now (head_in h.head.value) h.head.at h.ensures.result (net_in w) b.body.at b.ensures.result n.result long c.in_err-end.ensures)

pub returns-then-end-bytes : goal.returns-then-end-bytes
returns-then-end-bytes c =
    let a = c.args in
    let h = c.in_ok-head in
    let b = c.in_ok-body in
    let w = arrays_of b.body.value c.read_body.new.net c.read_body.new.tables in
    let n = c.section_bytes-n in
    let long = n.ensures ∙ ap (λ (m : ℕ). cond h.head.value.section m 0) (sym (size-net_in w)) in
    let e = c.in_ok-end in
    bytes-over a.rules a.k a.bytes.now (head_in h.head.value) h.head.at h.ensures.result (net_in w) b.body.at b.ensures.result n.result long e.ensures.0 e.end e.ensures.1 (omega arith)

pub returns : goal.returns
returns c =
    let a = c.args in
    let h = c.in_ok-head in
    let b = c.in_ok-body in
    let w = arrays_of b.body.value c.read_body.new.net c.read_body.new.tables in
    let n = c.section_bytes-n in
    let long = n.ensures ∙ ap (λ (m : ℕ). cond h.head.value.section m 0) (sym (size-net_in w)) in
    let e = c.in_ok-end in
    drawn-read a.rules a.k a.bytes.now (head_in h.head.value) h.head.at h.ensures.result (net_in w) b.body.at b.ensures.result n.result long e.ensures.0 e.end e.ensures.1 (omega arith)
