use Rattle.std.proofs.Common.{◌≡◌, ℕ, ◌+◌, ◌*◌, ◌<◌, get_or, Option, Some, None, true, false, refl, rules}
use Rattle.std.proofs.iter.runs.Sources.{ranges}
use Rattle.std.specs.Prelude.{MatchOption}
use Rattle.net_model.specs.Arrays.{stride}
use Rattle.sequences.specs.Tests.{Tells, First}
use Rattle.sequences.specs.TestLaws.{first-here}
use Rattle.net_reached.specs.Reaching.{Falls}
use Rattle.net_reached.proofs.first_near.Goals as goal

abbrev pins : goal.After-find → ℕ
pins c = get_or c.args.w.pins.now c.args.g 0

abbrev Near : goal.After-find → ℕ → Type 0
Near c j = Falls c.args.w.inputs c.args.seen.now c.args.ranks.now (get_or c.args.w.sources.now (stride * c.args.g + j) 0) c.args.level

none : (c : goal.After-find) → c.find.result ≡ None → (j : ℕ) → j < pins c → Tells false (Near c j)
none c e j h = let at : c.find.ensures.runs.0.at j ≡ Some j = search (rules, ranges) in search (rules, ranges)

inside : (c : goal.After-find) (i : ℕ) → c.find.result ≡ Some i → i < pins c
inside c i e = search (rules, ranges)

here : (c : goal.After-find) (i : ℕ) → c.find.result ≡ Some i → Tells true (Near c i)
here c i e = search (rules, ranges)

before : (c : goal.After-find) (i : ℕ) → c.find.result ≡ Some i → (j : ℕ) → j < i → Tells false (Near c j)
before c i e j h = let at : c.find.ensures.runs.0.at j ≡ Some j = search (rules, ranges) in search (rules, ranges)

pub returns : goal.returns
returns c = go c.find.result refl
  where
    go : (r : Option ℕ) → c.find.result ≡ r → MatchOption r ((j : ℕ) → j < pins c → ¬ Near c j) (λ i. (i < pins c) × First (Near c) (pins c) i)
    go None e = λ j h. (none c e j h).fails refl
    go (Some i) e = (inside c i e, first-here (Near c) (pins c) i (inside c i e) ((here c i e).holds refl) (λ j h. (before c i e j h).fails refl))
