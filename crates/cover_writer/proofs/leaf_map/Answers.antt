use mathlib.Core.Path.{◌≡◌, sym, ap, ◌∙◌}
use Prim.Native.Nat.{ℕ, suc, ◌≤◌, ◌+◌, ◌-◌, ◌*◌, ◌<◌}
use native.Mathlib.Omega.{arith}
use lib.ListN.{get_or}
use mathlib.Core.List.{List}
use Rattle.net_model.specs.Tables.{as_number}
use Rattle.cover_records.specs.CoverBytes.{not_zero}
use Rattle.cover_writer.specs.LutBytesLaws.{map_from, map-none, map-all, map_more, map-small}
use Rattle.cover_writer.proofs.leaf_map.Goals as goal

-- one leaf more
more : (backs : List ℕ) (at n j m r : ℕ) → 0 < j → j ≤ n → m ≡ map_from backs at n j → r ≡ as_number (not_zero (get_or backs (at + (j - 1)) 0)) → r + 2 * m ≡ map_from backs at n (j - 1)
more backs at n j m r p h e f =
    let s : suc (j - 1) ≡ j = omega arith in
    let g = map_more backs at n (j - 1) (omega arith) in
    let k = ap (map_from backs at n) s in
    omega arith

pub loop-j-init : goal.loop-j-init
loop-j-init c = sym (map-none c.args.backs.now c.args.at c.args.n)

pub overflow_mul-m : goal.overflow_mul-m
overflow_mul-m c =
    let s = map-small c.args.backs.now c.args.at c.args.n c.loop-j.j c.requires.0 in record { fits = omega arith }

pub overflow_add-m : goal.overflow_add-m
overflow_add-m c =
    let loop = c.loop-j in
    let e = more c.args.backs.now c.args.at c.args.n loop.j loop.m c.not_zero.result c.loop-j-test.true loop.auto.j
    loop.invariant c.not_zero.ensures in
    let s = map-small c.args.backs.now c.args.at c.args.n (loop.j - 1) c.requires.0 in
    record { fits = omega arith }

pub loop-j-preserved : goal.loop-j-preserved
loop-j-preserved c =
    let loop = c.loop-j in
    more c.args.backs.now c.args.at c.args.n loop.j loop.m c.not_zero.result c.loop-j-test.true loop.auto.j loop.invariant c.not_zero.ensures

pub returns : goal.returns
returns c =
    let e : c.loop-j.j ≡ 0 = omega arith in
    c.loop-j.invariant ∙ ap (map_from c.args.backs.now c.args.at c.args.n) e ∙ map-all c.args.backs.now c.args.at c.args.n
