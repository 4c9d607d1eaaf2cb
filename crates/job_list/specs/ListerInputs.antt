-- Laws of the parts of the listing program's input.
use Rattle.std.specs.Prelude.{◌≡◌, refl, List, [], ◌∷◌, ℕ, suc, ◌<◌, length, get_or, drop}
use Rattle.std.proofs.Common.{sym, ap, ◌∙◌, arith}
use Rattle.net_bytes.specs.Walk.{first, rest}
use Rattle.net_bytes.specs.Places.{place-first, place-second}
use Rattle.cover_records.specs.Program.{listing, listing_program}

-- the place of the net
pub place-net : (l : List ℕ) → drop 2 l ≡ rest (rest l)
place-net [] = refl
place-net (a ∷ []) = refl
place-net (a ∷ b ∷ l) = refl

pub place_none : (l : List ℕ) → length l < 2 → drop (length l) l ≡ rest (rest l)
place_none [] h = refl
place_none (a ∷ []) h = refl
place_none (a ∷ b ∷ l) h = absurd (none h)
  where
    none : suc (suc (length l)) < 2 → ⊥
    none h = omega arith

-- **the listing of the parts is the program's**
pub listed-parts : (l net : List ℕ) (k target : ℕ) → k ≡ get_or l 0 0 → target ≡ get_or l 1 0 → net ≡ rest (rest l) → listing_program l ≡ listing k target net
unfolding listing_program
listed-parts l net k target e f g =
    ap (λ (x : ℕ). listing x (first (rest l)) (rest (rest l))) (sym (e ∙ place-first l))
    ∙ ap (λ (x : ℕ). listing k x (rest (rest l))) (sym (f ∙ place-second l)) ∙ ap (listing k target) (sym g)
