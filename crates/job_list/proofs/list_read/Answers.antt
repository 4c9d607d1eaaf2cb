use mathlib.Core.Path.{refl, ◌∙◌}
use mathlib.Core.List.{List}
use Prim.Native.Nat.{ℕ}
use native.Mathlib.Omega.{arith}
use lib.ListN.{length-replicate}
use Rattle.net_model.specs.PackedNet.{outs_at, delays_at}
use Rattle.net_checks.specs.Parts.{two-parts, two-wholes}
use Rattle.cover_records.specs.Rows.{kept_in}
use Rattle.text_listing.specs.Text.{Listable, Lists}
use Rattle.job_settle.specs.SettlingLaws.{cover-settled}
use Rattle.job_plan.specs.Ready.{zero_room}
use Rattle.job_record.specs.Recording.{rows_long}
use Rattle.job_list.specs.Texts.{lists-refused, lists-cover, cover_listable}
use Rattle.refusals.specs.RefusalLaws.{number_positive}
use Rattle.job_list.proofs.list_read.Goals as goal

pub settle-settled-requires : goal.settle-settled-requires
settle-settled-requires c = let start = c in
    let f = c.requires.settling.facts in
    record { settling = c.requires.settling; gates_in_bounds = (omega (arith, f.gates-high), omega (arith, f.gates-high)); most_table_in_bounds = (omega (arith, length-replicate {A = ℕ} 27840 0), omega (arith, f.gates-high, f.inputs-high), zero_room c.args.z.gates f.gates-high) }

pub returns-in-Err : goal.returns-in-Err
returns-in-Err c = lists-refused c.in-Err.ensures.settled_as (number_positive c.in-Err.refusal) (c.from-in-Err.ensures ∙ c.from.ensures) c.write_refusal.ensures

pub write_text-requires : goal.write_text-requires
write_text-requires c = let settle = c.settle-settled in
    let start = c in
    let z = c.args.z in
    let k = settle.auto in
    let last = settle.new in
    let u = cover-settled c.in-Ok.ensures.settled_as in
    let h = c.requires.settling.facts.gates-high in
    record {
      listable = rw (c.outs_at-o.ensures, c.delays_at-d.ensures)
          (two-parts (λ (os oc : List ℕ). Listable (kept_in z.inputs z.gates c.in-Ok.period last.labels last.rows last.luts) os oc z.outputs c.args.out.now)
          settle.new.net (outs_at z.inputs z.gates) (delays_at z.inputs z.gates z.outputs)
          (cover_listable c.requires.settling c.in-Ok.ensures.settled_net.kept c.requires.room refl refl (rows_long h k.labels k.rows k.luts) u));
      gates_in_bounds = omega (arith, h, k.rows);
    }

pub returns : goal.returns
returns c =
    let settle = c.settle-settled in
    let start = c in
    let z = c.args.z in
    let last = settle.new in
    let text = c.write_text in
    lists-cover c.requires.settling c.in-Ok.ensures.settled_net.kept (cover-settled c.in-Ok.ensures.settled_as)
    (two-wholes (λ (os oc : List ℕ). Lists (kept_in z.inputs z.gates c.in-Ok.period last.labels last.rows last.luts) os oc z.outputs c.args.out.now text.new.out text.result)
    settle.new.net (outs_at z.inputs z.gates) (delays_at z.inputs z.gates z.outputs) (rw (c.outs_at-o.ensures, c.delays_at-d.ensures) at text.ensures))
