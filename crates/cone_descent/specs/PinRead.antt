-- Laws of a pin read in the net's slice: where its source and its count stand, and the copy that feeds by it.
use Rattle.std.specs.Prelude.{◌≡◌, List, ℕ, ◌+◌, ◌*◌, ◌<◌, length, get_or, drop}
use Rattle.std.proofs.Common.{sym, ap, arith, length-drop, get_or-drop}
use Rattle.net_model.specs.Arrays.{stride}
use Rattle.net_model.specs.Copies.{copy}
use Rattle.net_model.proofs.CopyLaws.{copy-path}
use Rattle.net_model.specs.PackedNet.{sources_at, counts_at}
use Rattle.cone_copies.specs.CopyLists.{source_at}

module _ (G : ℕ) (net : List ℕ) where
  pub source-inside : {p : ℕ} → p < length (drop (sources_at G) net) → sources_at G + p < length net
  source-inside h = omega (arith, h, length-drop (sources_at G) net)

  pub count-inside : {p : ℕ} → p < length (drop (counts_at G) net) → counts_at G + p < length net
  count-inside h = omega (arith, h, length-drop (counts_at G) net)

  pub source-read : (g b j : ℕ)
      → copy (get_or net (sources_at G + (stride * g + j)) 0) (b + get_or net (counts_at G + (stride * g + j)) 0) ≡ source_at (drop (sources_at G) net) (drop (counts_at G) net) g b j
  source-read g b j = copy-path (sym (get_or-drop (sources_at G) net (stride * g + j) 0)) (ap (λ (x : ℕ). b + x) (sym (get_or-drop (counts_at G) net (stride * g + j) 0)))
