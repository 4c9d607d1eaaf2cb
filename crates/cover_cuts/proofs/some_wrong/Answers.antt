use Rattle.std.proofs.Common.{◌≡◌, ℕ, ◌<◌, get_or, Some, true, false, refl, rules}
use Rattle.std.proofs.iter.runs.Sources.{ranges}
use Rattle.cover_cuts.specs.Cuts.{WrongTold}
use Rattle.cover_cuts.proofs.some_wrong.Goals as goal

told : (c : goal.After-any) → c.any.result ≡ false → (i : ℕ) → i < c.args.n → WrongTold (get_or c.args.tables.now i 0) (get_or c.args.sizes.now i 0) (get_or c.args.fulls.now i 0) false
told c e i h = let at : c.any.ensures.runs.0.at i ≡ Some i = search (rules, ranges) in search (rules, ranges)

some : (c : goal.After-any) → c.any.result ≡ true → (i : ℕ) × (i < c.args.n) × WrongTold (get_or c.args.tables.now i 0) (get_or c.args.sizes.now i 0) (get_or c.args.fulls.now i 0) true
some c e = search (rules, ranges)

pub returns : goal.returns
returns c = record { same = λ e. record { each = λ i h. (told c e i h).right refl }; differ = λ e s. let w = some c e in w.2.wrong refl (s.each w.0 w.1) }
