use Rattle.std.proofs.Common.{◌∙◌, arith, length-set}
use Rattle.cone_luts.specs.LutLaws.{tabulated_next}
use Rattle.cone_luts.proofs.tabulate.Goals as goal

pub loop-g-preserved : goal.loop-g-preserved
loop-g-preserved c =
    let loop = c.loop-g in (
      length-set loop.luts loop.g c.gate_table.result ∙ loop.invariant.0,
      tabulated_next _ loop.g _ (let a = c.requires.tabulates.1 in let e = loop.invariant.0 in omega arith) loop.invariant.1 c.gate_table.ensures.gate_table,
      c.gate_table.auto.work ∙ loop.invariant.2,
      c.gate_table.ensures.clear,
    )
