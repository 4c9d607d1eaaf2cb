-- Laws: how a call of map ends, for every input.
use Rattle.std.specs.Prelude.{◌≡◌, List, ◌⊎◌, length}
use Rattle.std.proofs.Math.Path.{refl, subst}
use Rattle.std.proofs.Common.{sym, ap, ◌∙◌, inl, inr}
use Prim.Native.Nat.{ℕ, zero, suc, ◌≤◌, ◌<◌, suc-le-suc, zero-le}
use native.Mathlib.Omega.{arith}
use Rattle.limits.specs.Limits.{most_period, cover_area, scratch_area}
use Rattle.limits.specs.Courses.{long}
use Rattle.net_model.specs.Net.{Net}
use Rattle.net_model.specs.Checks.{Passed}
use Rattle.label_theory.specs.Labels.{Reachable}
use Rattle.cover_theory.specs.Key.{Key}
use Rattle.cover_period.specs.Joined.{key?, key-reachable}
use Rattle.cover_period.specs.KeyOf.{key_of}
use Rattle.cover_period.specs.Period.{least_period, least_key}
use Rattle.cover_records.specs.Outcomes.{turned_back, Checked, passes, fails, check_net, cleared, MapOutcome, map_sizes, covered, for_target, map_written, mapped_in, mapped, map_checked_in, map_checked, map_sized, map_outcome}
use Rattle.job_sizes.specs.Sizes.{sizes_of, Fit}
use Rattle.job_sizes.specs.SizeLaws.{map-sizes_are}
use Rattle.demands.specs.TurnedBack.{IsNet, NetFails, MapFails, Outside, First, OfMap}
use Rattle.demands.proofs.OrderLaws.{sizes_said, one-net, net-range, net-ends, net-passes, first_of}
use Rattle.demands.specs.Endings.{Said, fits, said1, said2, said3, Told, NetEnds, stops, goes, MapEnds}

module _ (net : List ℕ) (k target : ℕ) (area scratch : List ℕ) where
  abbrev MapBad : ℕ → Type 0
  MapBad n = MapFails net k target area scratch n

  pub map_range : (n : ℕ) → MapFails net k target area scratch n → OfMap n
  map_range n (MapFails.outside f q) = (omega arith, omega arith)
  map_range n (MapFails.above f q) = (omega arith, omega arith)
  map_range n (MapFails.room f q) = (omega arith, omega arith)
  map_range n (MapFails.space f q) = (omega arith, omega arith)
  map_range n (MapFails.of_net f) = let r = net-range k net n f in (omega arith, omega arith)
  map_range n (MapFails.unreachable N i t f q) = (omega arith, omega arith)

  map-least : (n : ℕ) → (Outside k → n ≤ 1) → (most_period < target → n ≤ 2) → ((length area < cover_area) ⊎ (length scratch < scratch_area) → n ≤ 3) → ((m : ℕ) → NetFails k net m → n ≤ m)
      → ((N : Net) → IsNet k net N → ¬ (target ≡ 0) → ¬ Reachable N k target → n ≤ 12) → (m : ℕ) → MapBad m → n ≤ m
  map-least n a b c d e m (MapFails.outside f q) = omega (arith, a f)
  map-least n a b c d e m (MapFails.above f q) = omega (arith, b f)
  map-least n a b c d e m (MapFails.room f q) = omega (arith, c (inl f))
  map-least n a b c d e m (MapFails.space f q) = omega (arith, c (inr f))
  map-least n a b c d e m (MapFails.of_net f) = d m f
  map-least n a b c d e m (MapFails.unreachable N i t f q) = omega (arith, e N i t f)

  map-none : ((m : ℕ) → MapBad m → 13 ≤ m) → (m : ℕ) → ¬ MapBad m
  map-none l m f = let a = l m f in let b = map_range m f in omega (arith, b.1)

  module _ (sizes : map_sizes long k target area scratch ≡ 0) (fit : Fit long k target (length area) (length scratch)) where
    inside : (n : ℕ) → Outside k → n ≤ 1
    inside n f = absurd (f (fit.low, fit.high))

    near : (n : ℕ) → most_period < target → n ≤ 2
    near n f = absurd (let a = fit.near in omega arith)

    wide : (n : ℕ) → (length area < cover_area) ⊎ (length scratch < scratch_area) → n ≤ 3
    wide n (inl f) = absurd (let a = fit.room in omega arith)
    wide n (inr f) = absurd (let a = fit.space in omega arith)

    map-passed : (N : Net) (P : Passed N k) → check_net long k net ≡ passes N P → IsNet k net N → ((m : ℕ) → ¬ NetFails k net m)
        → (t : ℕ) → target ≡ t → MapEnds net k target area scratch (map_written long (mapped N k t P) area scratch)
    unfolding mapped_in for_target map_written
    map-passed N P p i none zero e =
        MapEnds.wrote N P (least_period P) (least_key P) sizes p i
        (map-none (map-least 13 (inside 13) (near 13) (wide 13) (λ m f. absurd (none m f)) (λ M j t f. absurd (t e)))) (λ q. refl) (λ q. absurd (q e)) refl
    map-passed N P p i none (suc t) e = go (key? P (suc-le-suc zero-le))
      where
        not-zero : ¬ (target ≡ 0)
        not-zero q = omega arith

        reach : (M : Net) → IsNet k net M → Reachable N k (suc t) → Reachable M k target
        reach M j r = subst (λ (x : Net). Reachable x k target) (one-net k net i j) (subst (Reachable N k) (sym e) r)

        go : (d : Dec (Key N k (suc t))) → MapEnds net k target area scratch (map_written long (for_target N k (suc t) d) area scratch)
        go (yes K) =
            MapEnds.wrote N P (suc t) K sizes p i
            (map-none (map-least 13 (inside 13) (near 13) (wide 13) (λ m f. absurd (none m f)) (λ M j q f. absurd (f (reach M j (key-reachable P (suc-le-suc zero-le) K)))))) (λ q. absurd (not-zero q))
            (λ q. sym e) refl
        go (no n) =
            MapEnds.late 12 (omega arith)
            (first_of (MapFails.unreachable N i not-zero (λ r. n (key_of P (subst (Reachable N k) e r))) refl)
            (map-least 12 (inside 12) (near 12) (wide 12) (λ m f. absurd (none m f)) (λ M j q f. omega arith))) refl

    map-netted : NetEnds k net (check_net long k net) → MapEnds net k target area scratch (map_checked long k target (check_net long k net) area scratch)
    unfolding map_checked_in
    map-netted (stops n e f least) =
        let r = net-range k net n f in
        MapEnds.late n (omega arith) (first_of (MapFails.of_net f) (map-least n (inside n) (near n) (wide n) least (λ M j q g. omega arith)))
        (ap (λ (c : Checked k). map_checked long k target c area scratch) e)
    map-netted (goes N P e i none) =
        subst (λ (c : Checked k). MapEnds net k target area scratch (map_checked long k target c area scratch)) (sym e) (map-passed N P e i none target refl)

  map-small : (m : ℕ) → NetFails k net m → 3 ≤ m
  map-small m f = let r = net-range k net m f in omega arith

  pub map-ends : MapEnds net k target area scratch (map_outcome long net k target area scratch)
  unfolding map_outcome map_sized
  map-ends = go (sizes_said k target (length area) (length scratch))
    where
      sizes : {n : ℕ} → sizes_of long k target (length area) (length scratch) ≡ n → map_sizes long k target area scratch ≡ n
      sizes e = map-sizes_are long k target area scratch ∙ e

      back : {n : ℕ} → map_sizes long k target area scratch ≡ suc n → map_sized long (map_sizes long k target area scratch) k target net area scratch ≡ record { answer = turned_back (suc n); area = area; scratch = scratch }
      back e = ap (λ (n : ℕ). map_sized long n k target net area scratch) e

      go : Said k target (length area) (length scratch) (sizes_of long k target (length area) (length scratch)) → MapEnds net k target area scratch (map_sized long (map_sizes long k target area scratch) k target net area scratch)
      go (said1 e f) = MapEnds.early 1 (omega arith) (first_of (MapFails.outside f refl) (λ m g. let r = map_range m g in r.0)) (back (sizes e))
      go (said2 e l h f) =
          MapEnds.early 2 (omega arith) (first_of (MapFails.above f refl) (map-least 2 (λ g. absurd (g (l, h))) (λ g. omega arith) (λ g. omega arith) (λ m g. let r = map-small m g in omega arith) (λ M j q g. omega arith))) (back (sizes e))
      go (said3 e l h t f) =
          MapEnds.early 3 (omega arith)
          (first_of (small f) (map-least 3 (λ g. absurd (g (l, h))) (λ g. absurd (omega arith)) (λ g. omega arith) map-small (λ M j q g. omega arith))) (back (sizes e))
        where
          small : (length area < cover_area) ⊎ (length scratch < scratch_area) → MapBad 3
          small (inl g) = MapFails.room g refl
          small (inr g) = MapFails.space g refl
      go (fits e f) = subst (λ (n : ℕ). MapEnds net k target area scratch (map_sized long n k target net area scratch)) (sym (sizes e)) (map-netted (sizes e) f (net-ends k net))

  pub map-told : Told MapBad (map_outcome long net k target area scratch).answer
  unfolding map_written
  map-told = go map-ends
    where
      go : {o : MapOutcome} → MapEnds net k target area scratch o → Told MapBad o.answer
      go (MapEnds.early n h f e) = subst (λ (o : MapOutcome). Told MapBad o.answer) (sym e) f
      go (MapEnds.late n h f e) = subst (λ (o : MapOutcome). Told MapBad o.answer) (sym e) f
      go (MapEnds.wrote N P φ K s p i none z t e) = subst (λ (o : MapOutcome). Told MapBad o.answer) (sym e) none

  -- where no check of the sizes fails, the test of the sizes passes
  pub map-sized : ((m : ℕ) → m < 4 → ¬ MapBad m) → map_sizes long k target area scratch ≡ 0
  map-sized none = go (sizes_said k target (length area) (length scratch))
    where
      go : Said k target (length area) (length scratch) (sizes_of long k target (length area) (length scratch)) → map_sizes long k target area scratch ≡ 0
      go (fits e f) = map-sizes_are long k target area scratch ∙ e
      go (said1 e f) = absurd (none 1 (omega arith) (MapFails.outside f refl))
      go (said2 e l h f) = absurd (none 2 (omega arith) (MapFails.above f refl))
      go (said3 e l h t (inl f)) = absurd (none 3 (omega arith) (MapFails.room f refl))
      go (said3 e l h t (inr f)) = absurd (none 3 (omega arith) (MapFails.space f refl))

  -- where checks 1 to 11 pass, sizes and net are right
  pub map-taken : (N : Net) → IsNet k net N → ((m : ℕ) → m < 12 → ¬ MapBad m) → (map_sizes long k target area scratch ≡ 0) × ((P : Passed N k) × (check_net long k net ≡ passes N P))
  map-taken N i none =
      (map-sized (λ m h. none m (omega arith)), net-passes k net N i (λ m f. let r = net-range k net m f in none m (omega arith) (MapFails.of_net f)))
