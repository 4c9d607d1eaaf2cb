use Rattle.text_digits.specs.PutLaws.{put_then, put_same, put-wrote}
use Rattle.text_readings.specs.ReadingTextLaws.{sizes-text}
use Rattle.text_readings.proofs.write_sizes.Goals as goal

pub returns : goal.returns
returns c =
    let start = c in
    put-wrote c.requires (put_same (sizes-text c.args.z.inputs c.args.z.gates c.args.z.outputs)
    (put_then (put_then (put_then c.put_field-a.ensures c.put_field-b.ensures)
    c.put_field-c.ensures) c.put_byte.ensures))
