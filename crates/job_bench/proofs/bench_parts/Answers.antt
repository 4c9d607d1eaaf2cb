use Rattle.std.proofs.Common.{refl, sym, subst, ◌∙◌, ℕ}
use Rattle.std.proofs.lemmas.Result.{err_from_is_err_and}
use lib.ListN.{length-replicate}
use Rattle.limits.specs.Limits.{most_gates, most_packed}
use Rattle.limits.specs.Courses.{Offered, is-long}
use Rattle.net_reader.specs.ReadWires.{room_offered}
use Rattle.sequences.specs.Behind.{behind}
use Rattle.job_bench.specs.BenchInputs.{of-unknown, of-refused, of-drawn, drawn-got, section-most, benching}
use Rattle.job_bench.proofs.bench_parts.Goals as goal

pub returns-then-unknown : goal.returns-then-unknown
returns-then-unknown c = (of-unknown c.args.k c.args.bytes.now c.args.pairs.now (sym c.unknown.ensures ∙ c.if-unknown.true), refl)

pub read_drawn-requires : goal.read_drawn-requires
read_drawn-requires c = let offered = subst Offered (sym c.long_course.ensures) is-long in
    record { offered = offered; read_room = room_offered offered (length-replicate {A = ℕ} most_packed 0) (length-replicate {A = ℕ} most_gates 0) }

pub returns-in_err-d : goal.returns-in_err-d
returns-in_err-d c =
    let e = rw c.long_course.ensures at c.in_err-d.ensures in
    let p = err_from_is_err_and c.from_residual.result c.from_residual.ensures.1 in
    rw (p.1, p.2) (of-refused c.args.k c.args.bytes.now c.args.pairs.now (sym c.unknown.ensures ∙ c.if-unknown.false) e, refl)

pub bench_section-requires : goal.bench_section-requires
bench_section-requires c = let a = c.args in
    let l = a.bytes.now in
    let d = c.in_ok-d.d in
    let w = c.read_drawn in
    let e = rw c.long_course.ensures at c.in_ok-d.ensures in
    let p = c.place_behind-at in
    let rest = behind l p.result ∙ p.ensures.behind in
    record { benching = benching a.k l d w.new.net w.new.tables e w.auto.net w.auto.tables _ rest c.requires; section_len_bound = section-most a.k l d w.new.net w.new.tables e w.auto.net w.auto.tables _ rest }

pub returns : goal.returns
returns c =
    let a = c.args in
    let l = a.bytes.now in
    let d = c.in_ok-d.d in
    let w = c.read_drawn in
    let e = rw c.long_course.ensures at c.in_ok-d.ensures in
    let p = c.place_behind-at in
    let rest = behind l p.result ∙ p.ensures.behind in
    let k = sym c.unknown.ensures ∙ c.if-unknown.false in
    rw (of-drawn a.k l a.pairs.now k _ (drawn-got a.k l d w.new.net w.new.tables e w.auto.net w.auto.tables _ rest)) c.bench_section.ensures
