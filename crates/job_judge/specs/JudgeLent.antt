-- Laws of the parts of the two slices, the net's and the record's, that are lent to checks 16 to 18.
use Rattle.std.specs.Prelude.{◌≡◌, List, ℕ, ◌+◌, ◌*◌, ℤ, drop}
use Rattle.limits.specs.Limits.{most_pins}
use Rattle.net_model.specs.PackedNet.{outs_at, delays_at}
use Rattle.net_model.specs.PackedNetLaws.{to_part, from-part}
use Rattle.net_reader.specs.declared.NetSizes.{NetSizes}
use Rattle.net_checks.specs.Parts.{part, two-parts, two-wholes}
use Rattle.cover_links.specs.Links.{Linking, LinksTold}
use Rattle.job_judge.specs.JudgeMarking.{LinksAsked, LinksToldOf}

-- the three parts of the rows of n LUTs
module _ (P : List ℕ → List ℕ → List ℕ → Type 0) (rows : List ℕ) (n : ℕ) where
  row-parts : P (drop n rows) (drop (2 * n) rows) (drop ((2 + most_pins) * n) rows) → P (part rows n) (part rows (2 * n)) (part rows ((2 + most_pins) * n))
  row-parts p =
      to_part (λ (x : List ℕ). P x (part rows (2 * n)) (part rows ((2 + most_pins) * n))) rows n
      (two-parts (λ (x y : List ℕ). P (drop n rows) x y) rows (2 * n) ((2 + most_pins) * n) p)

  row-wholes : P (part rows n) (part rows (2 * n)) (part rows ((2 + most_pins) * n)) → P (drop n rows) (drop (2 * n) rows) (drop ((2 + most_pins) * n) rows)
  row-wholes p =
      two-wholes (λ (x y : List ℕ). P (drop n rows) x y) rows (2 * n) ((2 + most_pins) * n)
      (from-part (λ (x : List ℕ). P x (part rows (2 * n)) (part rows ((2 + most_pins) * n))) rows n p)

module _ (z : NetSizes) (net : List ℕ) (n : ℕ) (rows : List ℕ) (lags : List ℤ) (period : ℕ) {o y : ℕ}
    (eo : o ≡ outs_at z.inputs z.gates) (ey : y ≡ delays_at z.inputs z.gates z.outputs) where
  pub linking-lent : LinksAsked z net n rows lags period
      → Linking z.inputs z.gates (part net o) (part net y) z.outputs rows (part rows n) (part rows (2 * n)) (part rows ((2 + most_pins) * n)) lags n period
  linking-lent h =
      rw (eo, ey)
      (two-parts (λ (s t : List ℕ). Linking z.inputs z.gates s t z.outputs rows (part rows n) (part rows (2 * n)) (part rows ((2 + most_pins) * n)) lags n period)
      net (outs_at z.inputs z.gates) (delays_at z.inputs z.gates z.outputs)
      (row-parts (λ (a b d : List ℕ). Linking z.inputs z.gates (drop (outs_at z.inputs z.gates) net) (drop (delays_at z.inputs z.gates z.outputs) net) z.outputs rows a b d lags n period)
      rows n h.linking))

  pub links_whole : {r : ℕ} → LinksTold z.inputs z.gates (part net o) (part net y) z.outputs rows (part rows n) (part rows (2 * n)) (part rows ((2 + most_pins) * n)) lags n period r
      → LinksToldOf z net n rows lags period r
  links_whole {r} t =
      row-wholes (λ (a b d : List ℕ). LinksTold z.inputs z.gates (drop (outs_at z.inputs z.gates) net) (drop (delays_at z.inputs z.gates z.outputs) net) z.outputs rows a b d lags n period r)
      rows n
      (two-wholes (λ (s t : List ℕ). LinksTold z.inputs z.gates s t z.outputs rows (part rows n) (part rows (2 * n)) (part rows ((2 + most_pins) * n)) lags n period r)
      net (outs_at z.inputs z.gates) (delays_at z.inputs z.gates z.outputs) (rw (eo, ey) at t))
