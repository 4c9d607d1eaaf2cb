use Rattle.std.proofs.Common.{◌≡◌, ◌+◌, ◌-◌, ◌*◌, ◌/◌, ◌%◌, ◌≤◌, length, ap, sym, ◌∙◌, arith}
use Rattle.std.proofs.lemmas.Bool.{false≢true}
use Rattle.limits.specs.Limits.{most_k}
use Rattle.cut_circuit.specs.Circuit.{ending_at, among}
use Rattle.cut_circuit.specs.CircuitLaws.{ends-unforced}
use Rattle.cut_circuit.specs.PackedLaws.{slot-places, slot-forced, any-held, none-held}
use Rattle.cut_circuit.proofs.is_forced.Goals as goal

pub returns-then-u-s : goal.returns-then-u-s
returns-then-u-s c = record { yes = λ e. absurd (false≢true e); no = λ e. ends-unforced c.args.s.inputs c.args.s.gates c.args.s.width c.args.s.border c.args.slots.now c.args.x (omega (arith, c.if-u-s.true)) }

pub returns-then-s-d : goal.returns-then-s-d
returns-then-s-d c = record { yes = λ e. absurd (false≢true e); no = λ e. ends-unforced c.args.s.inputs c.args.s.gates c.args.s.width c.args.s.border c.args.slots.now c.args.x (omega (arith, c.if-s-d.true)) }

pub returns : goal.returns
returns c =
    let e : ending_at c.args.s.inputs c.args.s.width c.args.s.border c.args.x ≡ 0 = omega (arith, c.if-u-s.false, c.if-s-d.false) in
    let a = c.args.s.gates + most_k * (c.args.x / c.args.s.width - c.args.s.inputs) in
    let d = c.args.x % c.args.s.width in
    let inside : a + c.number_at-n.result ≤ length c.args.slots.now = omega (arith, slot-places c.requires e, c.number_at-n.ensures) in
    let same = slot-forced c.requires e ∙ ap (λ n. among c.args.slots.now a n d) (sym c.number_at-n.ensures) in
    record {
      yes = λ h. rw same (any-held c.args.slots.now a c.number_at-n.result d inside (sym c.held.ensures ∙ h));
      no = λ h. same ∙ none-held c.args.slots.now a c.number_at-n.result d inside (sym c.held.ensures ∙ h);
    }
