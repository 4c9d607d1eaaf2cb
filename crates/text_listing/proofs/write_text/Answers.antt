use mathlib.Core.Path.{sym, ◌∙◌}
use native.Mathlib.Omega.{arith}
use Rattle.cover_records.specs.Rows.{sizes_in, nodes_in, backs_in, kept_in}
use Rattle.text_digits.specs.PutLaws.{put_then, put-wrote, put_same}
use Rattle.cover_registers.specs.LagLaws.{register_count_lem}
use Rattle.text_listing.specs.LineLaws.{cover-text}
use Rattle.text_listing.proofs.write_text.Goals as goal

pub returns : goal.returns
returns c =
    let start = c in
    let s = c.args in
    let p = c.requires.listable in
    let h = p.gates in
    let r = p.room in
    let count = c.count_luts-count in
    let registers = c.count_registers-registers in
    let w = put_then c.put_first-a.ensures c.put_lines.ensures in
    let a = (kept_in s.s.inputs s.s.gates s.s.period s.labels.now s.rows.now s.tables.now) in
    record {
      each = λ N e f.
          let same = register_count_lem s.s.inputs s.s.gates s.s.period s.labels.now s.rows.now (sizes_in s.s.gates s.rows.now) (nodes_in s.s.gates s.rows.now) (backs_in s.s.gates s.rows.now) s.tables.now N
          s.outs.now s.delays.now s.n e f.few f.nodes in
          put-wrote (omega arith) (put_same (cover-text N a count.result registers.result count.ensures (registers.ensures ∙ sym same)) w);
    }
