use Rattle.std.proofs.Common.{Ok}
use Rattle.net_reader.specs.NetLaws.{body-read}
use Rattle.net_reader.proofs.read_body.Goals as goal

pub returns : goal.returns
returns c =
    let a = c.args in
    let z = c.in_ok-sizes in
    let v = z.sizes.value in
    let g = c.in_ok-gates_end in
    let o = c.in_ok-end in
    record {
      result = body-read a.rules a.k a.bytes.now a.at z.sizes.at (record { inputs = a.inputs; gates = v.gates; outputs = v.outputs }) _ _ (z.ensures.result a.k a.inputs)
          g.gates_end g.ensures _ (Ok o.end) o.ensures;
      inputs = c.requires.inputs_le_most_inputs.0;
      gates = z.ensures.gates;
    }
