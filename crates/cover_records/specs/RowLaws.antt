-- Laws of LUTs in one slice: the parts that are lent.
use Rattle.std.specs.Prelude.{◌≡◌, List, ℕ, ◌+◌, ◌-◌, ◌*◌, length, get_or, take, drop}
use Rattle.std.proofs.Common.{sym, subst, get_or-drop}
use Rattle.limits.specs.Limits.{most_pins}
use Rattle.net_model.specs.PackedNetLaws.{to_part, from-part}
use Rattle.cover_records.specs.Rows.{sizes_in, nodes_in, backs_in}

module _ (n : ℕ) (rows : List ℕ) where
  -- the number of leaves
  pub size-at : (i : ℕ) → get_or rows (n + i) 0 ≡ get_or (sizes_in n rows) i 0
  size-at i = sym (get_or-drop n rows i 0)

  -- the leaves as they are lent
  abbrev pub nodes_lent : List ℕ
  nodes_lent = take (length rows - 2 * n) (drop (2 * n) rows)

  abbrev pub backs_lent : List ℕ
  backs_lent = take (length rows - (2 + most_pins) * n) (drop ((2 + most_pins) * n) rows)

  module _ (P : List ℕ → List ℕ → Type 0) where
    pub leaves-lent : P (nodes_in n rows) (backs_in n rows) → P nodes_lent backs_lent
    leaves-lent p = to_part (λ (l : List ℕ). P l backs_lent) rows (2 * n) (to_part (P (nodes_in n rows)) rows ((2 + most_pins) * n) p)

    pub leaves-whole : P nodes_lent backs_lent → P (nodes_in n rows) (backs_in n rows)
    leaves-whole p = from-part (P (nodes_in n rows)) rows ((2 + most_pins) * n) (from-part (λ (l : List ℕ). P l backs_lent) rows (2 * n) p)

  -- with the number of leaves of row i
  module _ (P : List ℕ → List ℕ → ℕ → Type 0) (i : ℕ) where
    pub row-lent : P (nodes_in n rows) (backs_in n rows) (get_or (sizes_in n rows) i 0) → P nodes_lent backs_lent (get_or rows (n + i) 0)
    row-lent p = leaves-lent (λ (a b : List ℕ). P a b (get_or rows (n + i) 0)) (subst (P (nodes_in n rows) (backs_in n rows)) (sym (size-at i)) p)

    pub row-whole : P nodes_lent backs_lent (get_or rows (n + i) 0) → P (nodes_in n rows) (backs_in n rows) (get_or (sizes_in n rows) i 0)
    row-whole p = subst (P (nodes_in n rows) (backs_in n rows)) (size-at i) (leaves-whole (λ (a b : List ℕ). P a b (get_or rows (n + i) 0)) p)
