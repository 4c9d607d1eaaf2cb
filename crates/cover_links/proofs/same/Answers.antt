use Rattle.std.proofs.Common.{◌≡◌, Bool, true, false, refl, sym, ap, ◌∙◌, true≢false, List, get_or, take, ◌<◌, arith, get_or-take, ext_get_or, length-take-le}
use Rattle.std.proofs.Math.Bool.{beq}
use lib.Pointwise.{pointwise_decides}
use Rattle.cover_links.proofs.same.Goals as goal

alike : (x y : Bool) → (beq x y ≡ true → x ≡ y) × (x ≡ y → beq x y ≡ true)
alike true true = (λ e. refl, λ e. refl)
alike true false = (λ e. absurd (true≢false (sym e)), λ e. absurd (true≢false e))
alike false true = (λ e. absurd (true≢false (sym e)), λ e. absurd (true≢false (sym e)))
alike false false = (λ e. refl, λ e. refl)

pub returns : goal.returns
returns c =
    let a = c.args.a.now in
    let b = c.args.b.now in
    let n = c.args.n in
    let d = pointwise_decides alike (take n a) (take n b) in
    let la = length-take-le n a c.requires.0 in
    let lb = length-take-le n b c.requires.1 in
    record {
      holds = λ q i h. sym (get_or-take n a i false h) ∙ ap (λ (l : List Bool). get_or l i false) (d.0 (sym c.eq.ensures ∙ q)) ∙ get_or-take n b i false h;
      fails = λ q s. true≢false (sym (d.1 (ext_get_or false (take n a) (take n b) (la ∙ sym lb) (λ i h. let k : i < n = omega (arith, h, la) in get_or-take n a i false k ∙ s i k ∙ sym (get_or-take n b i false k)))) ∙ (sym c.eq.ensures ∙ q));
    }
