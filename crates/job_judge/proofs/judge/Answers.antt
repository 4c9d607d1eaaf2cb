use native.Mathlib.Omega.{arith}
use Rattle.net_model.specs.Arrays.{net_in}
use Rattle.net_model.specs.ArrayLaws.{inputs-net_in, size-net_in}
use Rattle.net_reader.specs.ReadAnswer.{arrays_of}
use Rattle.job_judge.specs.MarkOutcomeLaws.{read_held, judged-broken}
use Rattle.std.proofs.lemmas.Result.{err_from_is_err_and}
use Rattle.job_judge.proofs.judge.Goals as goal

pub returns-in_err-c : goal.returns-in_err-c
returns-in_err-c c = let a = c.args in
    let w = arrays_of a.z a.net.now a.tables.now in
    let p = err_from_is_err_and c.from_residual.result c.from_residual.ensures.1 in
    rw (p.1, p.2) (record { marks_net = rw c.in_err-c.ensures.told (judged-broken c.requires.judging a.rules a.cover.now (c.in_err-c.ensures.broken (net_in w) (inputs-net_in w) (size-net_in w))); clear = c.requires.most_table_in_bounds.1 })

pub judge_read-requires : goal.judge_read-requires
judge_read-requires c =
    let kept = c.read_cover.auto in
    record {
      judging = (
        c.requires.judging,
        read_held c.requires.offered c.requires.judging.settling c.in_ok-c.ensures (record { at_rows = omega (arith, kept.rows); at_lags = omega (arith, kept.lags); at_tables = omega (arith, kept.tables) }),
      );
      most_table_in_bounds = c.requires.most_table_in_bounds;
    }

pub returns : goal.returns
returns c = let a = c.args in
    let w = arrays_of a.z a.net.now a.tables.now in
    record { marks_net = c.judge_read.ensures.marks_read.marks a.rules a.cover.now (c.in_ok-c.ensures.read (net_in w) (inputs-net_in w) (size-net_in w)); clear = c.judge_read.ensures.clear }
