use native.Mathlib.Omega.{arith}
use Rattle.job_sizes.specs.SizeLaws.{size_low, size-high, size-target, size-area, size-scratch, size_none}
use Rattle.job_sizes.proofs.check_sizes.Goals as goal

pub returns-then-k-lt-LEAST_K : goal.returns-then-k-lt-LEAST_K
returns-then-k-lt-LEAST_K c = let a = c.args in size_low a.rules a.k a.target a.area a.scratch c.if-k-lt-LEAST_K.true

pub returns-then-rules-k : goal.returns-then-rules-k
returns-then-rules-k c =
    let a = c.args in
    let low = c.if-k-lt-LEAST_K.false in
    size-high a.rules a.k a.target a.area a.scratch (omega arith) c.if-rules-k.true

pub returns-then-rules-target : goal.returns-then-rules-target
returns-then-rules-target c =
    let a = c.args in
    let low = c.if-k-lt-LEAST_K.false in
    let high = c.if-rules-k.false in
    size-target a.rules a.k a.target a.area a.scratch (omega arith) (omega arith) c.if-rules-target.true

pub returns-then-area-rules : goal.returns-then-area-rules
returns-then-area-rules c =
    let a = c.args in
    let low = c.if-k-lt-LEAST_K.false in
    let high = c.if-rules-k.false in
    let near = c.if-rules-target.false in
    size-area a.rules a.k a.target a.area a.scratch (omega arith) (omega arith) (omega arith) c.if-area-rules.true

pub returns-then-scratch-rules : goal.returns-then-scratch-rules
returns-then-scratch-rules c =
    let a = c.args in
    let low = c.if-k-lt-LEAST_K.false in
    let high = c.if-rules-k.false in
    let near = c.if-rules-target.false in
    let room = c.if-area-rules.false in
    size-scratch a.rules a.k a.target a.area a.scratch (omega arith) (omega arith) (omega arith) (omega arith) c.if-scratch-rules.true

pub returns : goal.returns
returns c =
    let a = c.args in
    let low = c.if-k-lt-LEAST_K.false in
    let high = c.if-rules-k.false in
    let near = c.if-rules-target.false in
    let room = c.if-area-rules.false in
    let space = c.if-scratch-rules.false in
    size_none a.rules a.k a.target a.area a.scratch (omega arith) (omega arith) (omega arith) (omega arith) (omega arith)
