use Prim.Native.Nat.{◌+◌}
use native.Mathlib.Omega.{arith}
use Rattle.limits.specs.Limits.{most_outputs}
use Rattle.run_step.specs.SteppingLaws.{valued_step}
use Rattle.text_digits.specs.PutLaws.{put_then, put-more}
use Rattle.text_bench.specs.BenchTextLaws.{valued_more}
use Rattle.text_bench.proofs.put_step.Goals as goal

pub returns : goal.returns
returns c =
    let put-outputs = c.put_outputs-a in
    let start = c in
    record {
      step = valued_step c.requires.step (valued_more c.value_all.ensures put-outputs.ensures.more) c.advance.ensures;
      line = put-more (most_outputs + 1) (omega (arith, c.requires.outputs)) (put_then put-outputs.ensures.digits c.put_byte.ensures);
    }
