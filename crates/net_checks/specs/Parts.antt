-- Laws of parts of one slice lent together.
use Rattle.std.specs.Prelude.{List, ℕ, ◌-◌, length, take, drop}
use Rattle.net_model.specs.PackedNetLaws.{to_part, from-part}

-- the part from place a on
abbrev pub part : List ℕ → ℕ → List ℕ
part net a = take (length net - a) (drop a net)

module _ (P : List ℕ → List ℕ → Type 0) (net : List ℕ) (a b : ℕ) where
  pub two-parts : P (drop a net) (drop b net) → P (part net a) (part net b)
  two-parts p = to_part (λ (x : List ℕ). P x (part net b)) net a (to_part (P (drop a net)) net b p)

  pub two-wholes : P (part net a) (part net b) → P (drop a net) (drop b net)
  two-wholes p = from-part (P (drop a net)) net b (from-part (λ (x : List ℕ). P x (part net b)) net a p)

module _ (P : List ℕ → List ℕ → List ℕ → List ℕ → Type 0) (net : List ℕ) (a b c d : ℕ) where
  pub four_parts : P (drop a net) (drop b net) (drop c net) (drop d net) → P (part net a) (part net b) (part net c) (part net d)
  four_parts p = two-parts (λ (x y : List ℕ). P x y (part net c) (part net d)) net a b (two-parts (P (drop a net) (drop b net)) net c d p)

  pub four_wholes : P (part net a) (part net b) (part net c) (part net d) → P (drop a net) (drop b net) (drop c net) (drop d net)
  four_wholes p = two-wholes (P (drop a net) (drop b net)) net c d (two-wholes (λ (x y : List ℕ). P x y (part net c) (part net d)) net a b p)
