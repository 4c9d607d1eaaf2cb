use Rattle.std.proofs.Common.{◌≡◌, sym, ap, subst, ◌∙◌, ℕ, ◌+◌, ◌-◌, arith}
use Rattle.net_model.specs.Arrays.{copy_at, copies_from}
use Rattle.cover_records.specs.CoverBytes.{before, rising_leaves}
use Rattle.cover_rows.specs.RisingLaws.{rising-one, rising-stops, rising-all}
use Rattle.cover_rows.proofs.rising.Goals as goal

pub returns-then-not-comes_before : goal.returns-then-not-comes_before
returns-then-not-comes_before c =
    let a = c.args in
    let i = c.loop-i.i in
    let next : i - 1 + 1 ≡ i = omega arith in
    rising-stops a.leaves.nodes a.leaves.backs a.n (i - 1) c.loop-i.invariant (omega arith)
    (ap (λ (k : ℕ). before (copy_at a.leaves.nodes a.leaves.backs (i - 1)) (copy_at a.leaves.nodes a.leaves.backs k)) next ∙ sym c.comes_before.ensures ∙ c.if-not-comes_before.true)

pub loop-i-preserved : goal.loop-i-preserved
loop-i-preserved c =
    let a = c.args in
    let i = c.loop-i.i in
    let next : i - 1 + 1 ≡ i = omega arith in
    let after : i - 1 + 1 ≡ i + 1 - 1 = omega arith in
    subst (λ (k : ℕ). rising_leaves (copies_from a.leaves.nodes a.leaves.backs 0 a.n) ≡ rising_leaves (copies_from a.leaves.nodes a.leaves.backs k (a.n - k))) after
    (rising-one a.leaves.nodes a.leaves.backs a.n (i - 1) c.loop-i.invariant (omega arith)
    (ap (λ (k : ℕ). before (copy_at a.leaves.nodes a.leaves.backs (i - 1)) (copy_at a.leaves.nodes a.leaves.backs k)) next ∙ sym c.comes_before.ensures ∙ c.if-not-comes_before.false))

pub returns : goal.returns
returns c = rising-all c.args.leaves.nodes c.args.leaves.backs c.args.n (c.loop-i.i - 1) c.loop-i.invariant (omega arith)
