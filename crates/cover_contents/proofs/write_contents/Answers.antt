use mathlib.Core.Path.{◌∙◌, ap}
use mathlib.Core.List.{List}
use Prim.Native.Nat.{ℕ}
use Rattle.cover_records.specs.Outcomes.{written}
use Rattle.cover_contents.specs.ContentsWritten.{rows-room, contents_are, registers-asked}
use Rattle.cover_contents.proofs.write_contents.Goals as goal

pub write_registers-requires : goal.write_registers-requires
write_registers-requires c = let start = c in
    let s = c.args in
    record { registers_asked = registers-asked s.s.inputs s.s.gates s.s.period s.labels.now s.rows.now c.requires c.run.ensures c.take_trace.ensures c.most_samples-n.ensures; gates_in_bounds = rows-room s.s.inputs s.s.gates s.s.period s.labels.now s.rows.now c.requires.leaves }

pub returns : goal.returns
returns c =
    let start = c in
    let s = c.args in
    c.write_registers.ensures ∙ ap (λ (bytes : List ℕ). written bytes s.contents.now) (contents_are s.s.inputs s.s.gates s.s.period s.labels.now s.rows.now c.requires c.run.ensures c.take_trace.ensures c.most_samples-n.ensures)
