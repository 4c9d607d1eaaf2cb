use Rattle.std.proofs.Common.{sym, ap, ◌∙◌, arith}
use Rattle.net_bytes.specs.Reading.{refused}
use Rattle.net_fields.specs.Fields.{allowed_number, number_early, number_refusal}
use Rattle.net_fields.specs.FieldLaws.{two-cut}
use Rattle.net_fields.proofs.read_two.Goals as goal

pub returns-then-bytes-second : goal.returns-then-bytes-second
returns-then-bytes-second c =
    let a = c.args in
    record {
      result = two-cut (number_early a.field) (number_refusal a.field) (allowed_number a.field) a.bytes.now a.at (omega arith) (omega arith)
          ∙ ap refused (sym c.number_early-then-bytes-second.ensures);
      small = tt;
    }
