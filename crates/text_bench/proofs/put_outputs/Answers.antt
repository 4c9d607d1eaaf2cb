use mathlib.Core.Path.{◌≡◌, sym, ap, ◌∙◌, subst}
use mathlib.Core.List.{[], ◌∷◌, ◌++◌}
use Prim.Native.Nat.{ℕ, ◌+◌}
use native.Mathlib.Omega.{arith}
use lib.ListN.{get_or}
use Rattle.run_values.specs.Sheets.{sheet}
use Rattle.run_values.specs.SheetLaws.{more-none, more_trans}
use Rattle.text_digits.specs.Put.{Put}
use Rattle.text_digits.specs.PutLaws.{put-none, put_same, put_then}
use Rattle.text_bench.specs.BenchAsked.{first_digits}
use Rattle.text_bench.specs.BenchTextLaws.{digits-none, digits-all, output-asks, output-digit}
use Rattle.text_bench.proofs.put_outputs.Goals as goal

pub loop-o-init : goal.loop-o-init
loop-o-init c =
    (more-none c.requires.ready, put_same (sym (digits-none (sheet c.args.s.z c.args.s.net.now c.args.s.tables.now c.args.s.kept.now c.args.s.word))) (put-none c.args.at c.args.out.now))

pub node_value-value-requires : goal.node_value-value-requires
node_value-value-requires c =
    let loop = c.loop-o in
    output-asks loop.invariant.0.ready (omega arith) (ap (λ (i : ℕ). get_or c.args.s.net.now (i + loop.o) 0) c.outs_at-a.ensures) (ap (λ (i : ℕ). get_or c.args.s.net.now (i + loop.o) 0) c.delays_at-b.ensures)

pub loop-o-preserved : goal.loop-o-preserved
loop-o-preserved c =
    let loop = c.loop-o in
    let i = loop.invariant in
    let told = c.node_value-value.ensures in
    let digit = ap (λ (x : ℕ). first_digits (sheet c.args.s.z c.args.s.net.now c.args.s.tables.now c.args.s.kept.now c.args.s.word) loop.o ++ (x ∷ [])) c.bit_digit.ensures in
    (more_trans i.0 told.more, put_same (digit ∙ output-digit i.0.ready (omega arith) (ap (λ (i : ℕ). get_or c.args.s.net.now (i + loop.o) 0) c.outs_at-a.ensures) (ap (λ (i : ℕ). get_or c.args.s.net.now (i + loop.o) 0) c.delays_at-b.ensures) told) (put_then i.1 c.put_byte-at.ensures))

pub returns : goal.returns
returns c =
    let all : c.loop-o.o ≡ c.args.s.z.outputs = omega arith in
    record {
      more = c.loop-o.invariant.0;
      digits = put_same (digits-all (sheet c.args.s.z c.args.s.net.now c.args.s.tables.now c.args.s.kept.now c.args.s.word))
          (subst (λ (n : ℕ). Put n c.args.at (first_digits (sheet c.args.s.z c.args.s.net.now c.args.s.tables.now c.args.s.kept.now c.args.s.word) n) c.args.out.now c.loop-o.out c.loop-o.at) all c.loop-o.invariant.1);
    }
