use mathlib.Core.Path.{◌≡◌, ◌∙◌}
use Rattle.std.proofs.Common.{rules, take, count_by}
use Rattle.cover_records.specs.CoverBytes.{not_zero}
use Rattle.cover_writer.specs.CoverBytesLaws.{marked_count}
use Rattle.cover_writer.proofs.count_luts.Goals as goal

pub returns : goal.returns
returns c =
    let e : c.count.result ≡ count_by not_zero (take c.args.gates c.args.marks.now) = search rules in
    e ∙ marked_count c.args.marks.now c.args.gates c.requires
