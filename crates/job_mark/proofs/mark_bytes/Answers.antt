use Rattle.job_mark.specs.MarkReading.{walk_refused, walk-marking, walk-marks}
use mathlib.Core.Path.{refl}
use Rattle.std.proofs.lemmas.Result.{err_from_is_err_and}
use Rattle.job_mark.proofs.mark_bytes.Goals as goal

pub returns-in_err-sizes : goal.returns-in_err-sizes
returns-in_err-sizes c =
    let a = c.args in
    let p = err_from_is_err_and c.from_residual.result c.from_residual.ensures.1 in
    rw (p.1, p.2) (walk_refused a.rules a.k a.bytes.now c.in_err-sizes.field-0.0 c.in_err-sizes.ensures a.cover.now)

pub mark_read-requires : goal.mark_read-requires
mark_read-requires c =
    let read = c.read_net in
    record {
      offered = c.requires.offered;
      marking = walk-marking c.args.rules c.args.k c.args.bytes.now c.in_ok-sizes.sizes _ _ c.in_ok-sizes.ensures c.requires.offered
          refl read.auto.net read.auto.tables c.requires.fit;
    }

pub returns : goal.returns
returns c = walk-marks c.args.rules c.args.k c.args.bytes.now c.in_ok-sizes.sizes _ _ c.in_ok-sizes.ensures c.requires.offered refl c.mark_read.ensures
