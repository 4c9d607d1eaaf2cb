-- Feeding by pins: what feeds a copy of a gate, in any net with this wiring.
use Rattle.std.specs.Prelude.{◌≡◌, refl, List, ℕ, ◌+◌, ◌*◌, ◌<◌, get_or}
use Rattle.std.proofs.Common.{sym, ap, ◌∙◌}
use Rattle.net_model.specs.Net.{Net, Pin}
use Rattle.net_model.specs.Arrays.{stride}
use Rattle.net_model.specs.ArrayLaws.{pin_at}
use Rattle.net_model.specs.Wired.{Wired}
use Rattle.net_model.specs.WiredLaws.{wired-gate, wired-pin, pin-wired}
use Rattle.net_model.specs.Copies.{Copy, copy, Feeds}
use Rattle.net_model.proofs.CopyLaws.{copy-path}
use Rattle.cone_copies.specs.CopyLists.{source_at}

module _ {N : Net} {I G : ℕ} {ps sources counts : List ℕ} (w : Wired N I G ps sources counts) where
  -- pin j of gate g feeds each copy of it
  pub pin-feeds : (g b j : ℕ) → g < G → j < get_or ps g 0 → Feeds N (source_at sources counts g b j) (copy (I + g) b)
  pin-feeds g b j h k = record {
    gate = wired-gate w g h;
    pin = pin_at sources counts (stride * g + j);
    is_pin = wired-pin w g j h k;
    source = refl;
    depth = refl;
  }

  -- and nothing else does
  pub feeds-pin : (g b : ℕ) (y : Copy) → g < G → Feeds N y (copy (I + g) b) → (j : ℕ) × (j < get_or ps g 0) × (source_at sources counts g b j ≡ y)
  feeds-pin g b y h f =
      let r = pin-wired w g h f.pin f.is_pin in
      (r.0, r.1, copy-path (sym (ap (λ (p : Pin). p.src) r.2) ∙ sym f.source) (sym (ap (λ (p : Pin). b + p.count) r.2) ∙ sym f.depth))
