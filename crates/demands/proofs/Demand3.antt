-- Demand 3, about the outcome of map for a net that passed: where some cover meets the target the record written reads back as a cover that meets it; with target 0 the
-- period written is met and no cover meets a smaller one. That a target is refused exactly when no cover meets it is CallLaws.unreached.
use Rattle.std.specs.Prelude.{◌≡◌, Bool, true, false, List, [], ◌∷◌, ◌++◌, ◌↔◌, ℕ, zero, suc, ◌≤◌, ◌<◌, drop}
use Rattle.std.proofs.Math.Path.{refl, subst, ap}
use Rattle.std.proofs.Common.{sym, ◌∙◌, suc-le-suc, zero-le, le_trans, arith}
use Rattle.std.proofs.Math.ListN.{length}
use Rattle.net_model.specs.Net.{Net, Pin, IsGate, gate, pins}
use Rattle.sequences.specs.Member.{◌∈◌}
use Rattle.net_model.specs.Checks.{Passed}
use Rattle.cover_theory.specs.Covers.{IsCover, Meets, Met, LeastPeriod}
use Rattle.label_theory.specs.Labels.{Mode}
use Rattle.cover_theory.specs.Key.{KeyIn, Key, Entry, entries, as_cover}
use Rattle.cover_period.specs.Joined.{key?, key-met, key_meets, met-reachable}
use Rattle.cover_period.specs.KeyOf.{key_of}
use Rattle.cover_period.specs.Period.{least_period, least_period-is, least_key, least_period-bound}
use Rattle.limits.specs.Limits.{most_k, most_period}
use Rattle.limits.specs.Courses.{long, is-long}
use Rattle.net_bytes.specs.Reading.{got, refused, Result}
use Rattle.net_bytes.specs.Walk.{net_reader}
use Rattle.net_bytes.specs.Sound.{walk-facts, walk-gate, NetFacts}
use Rattle.cover_records.specs.CoverBytes.{Record, cover_bytes, cover_reader}
use Rattle.cover_records.specs.KeyRecord.{roomy, WithinLimits, key_back}
use Rattle.cover_records.specs.Outcomes.{Answer, accepted, turned_back, Checked, passes, fails, check_graph, check_read, check_net, MapOutcome, map_sizes, cleared, written, Mapped, covered, unreachable, for_target, map_written, mapped_in, mapped, map_checked_in, map_checked, map_sized, map_outcome}
use Rattle.job_sizes.specs.Sizes.{Fit}
use Rattle.job_sizes.specs.SizeLaws.{fit, map-sizes_are}
use Rattle.demands.proofs.OrderLaws.{passes-net}
use Rattle.demands.specs.Right.{Wrote}

-- ---- what map does with a net that passed

module _ (net area scratch : List ℕ) (k target : ℕ) (N : Net) (P : Passed N k)
    (sizes : map_sizes long k target area scratch ≡ 0) (passed : check_net long k net ≡ passes N P) where
  pub outcome-is : map_outcome long net k target area scratch ≡ map_written long (mapped N k target P) area scratch
  unfolding map_outcome map_sized map_checked_in
  outcome-is =
      ap (λ (n : ℕ). map_sized long n k target net area scratch) sizes
      ∙ ap (λ (c : Checked k). map_checked long k target c area scratch) passed

unfoldable pub wrote-key : {M : Mode} {N : Net} {k φ : ℕ} (P : Passed N k) → WithinLimits long N k → 1 ≤ φ → φ ≤ most_period → (K : KeyIn M N k φ) (area : List ℕ)
    → Wrote N k φ area (written (cover_bytes long φ (entries K)) area) (length (cover_bytes long φ (entries K)))
wrote-key {M} {N} {k} {φ} P l h h' K area = record {
  bytes = cover_bytes long φ (entries K);
  size = refl;
  front = refl;
  period = φ;
  luts = entries K;
  reads = key_back (roomy is-long) P l h K h';
  stated = refl;
  is_cover = (key-met P h K).0;
  meets = (key-met P h K).1;
}

-- a net that passed is within the limits
pub limits : (net : List ℕ) (k : ℕ) (N : Net) (P : Passed N k) → k ≤ most_k → check_net long k net ≡ passes N P → WithinLimits long N k
limits net k N P h e =
    let i = passes-net k net e in
    let f = (walk-facts long k net N i.0 i.1).0 in
    record {
      gate = f.gates-low;
      gates = f.gates-high;
      counts = λ v g p m. ((walk-gate long k net N i.0 i.1 v g).pin p m).count;
      size = h;
    }

-- what passed checks of sizes give
pub map-fit : (k target : ℕ) (area scratch : List ℕ) → map_sizes long k target area scratch ≡ 0 → Fit long k target (length area) (length scratch)
map-fit k target area scratch e = fit long k target (length area) (length scratch) (sym (map-sizes_are long k target area scratch) ∙ e)

-- ---- a target from 1 to 32

module _ (net area scratch : List ℕ) (k t : ℕ) (N : Net) (P : Passed N k)
    (sizes : map_sizes long k (suc t) area scratch ≡ 0) (passed : check_net long k net ≡ passes N P) where
  -- **Where some cover meets it, the record written reads back as a cover that meets the target.**
  pub met-written : Met N k (suc t)
      → (n : ℕ) × ((map_outcome long net k (suc t) area scratch).answer ≡ accepted n) × Wrote N k (suc t) area (map_outcome long net k (suc t) area scratch).area n
  unfolding map_written mapped_in for_target
  met-written m =
      subst (λ (o : MapOutcome). (n : ℕ) × (o.answer ≡ accepted n) × Wrote N k (suc t) area o.area n) (sym (outcome-is net area scratch k (suc t) N P sizes passed))
      (go (key? P (suc-le-suc zero-le)))
    where
      sized : Fit long k (suc t) (length area) (length scratch)
      sized = map-fit k (suc t) area scratch sizes

      go : (d : Dec (Key N k (suc t)))
          → (n : ℕ) × ((map_written long (for_target N k (suc t) d) area scratch).answer ≡ accepted n) × Wrote N k (suc t) area (map_written long (for_target N k (suc t) d) area scratch).area n
      go (yes K) = (length (cover_bytes long (suc t) (entries K)), refl, wrote-key P (limits net k N P sized.high passed) (suc-le-suc zero-le) sized.near K area)
      go (no n) = absurd (n (key_of P (met-reachable P (suc-le-suc zero-le) m)))

-- ---- target 0

module _ (net area scratch : List ℕ) (k : ℕ) (N : Net) (P : Passed N k)
    (sizes : map_sizes long k 0 area scratch ≡ 0) (passed : check_net long k net ≡ passes N P) where
  -- **The period written is met, and no cover meets a smaller one.**
  pub least-written : (φ n : ℕ) × ((map_outcome long net k 0 area scratch).answer ≡ accepted n) × Wrote N k φ area (map_outcome long net k 0 area scratch).area n × LeastPeriod N k φ
  unfolding map_written mapped_in
  least-written =
      let l = limits net k N P (map-fit k 0 area scratch sizes).high passed in
      subst (λ (o : MapOutcome). (φ n : ℕ) × (o.answer ≡ accepted n) × Wrote N k φ area o.area n × LeastPeriod N k φ) (sym (outcome-is net area scratch k 0 N P sizes passed)) (
        least_period P,
        length (cover_bytes long (least_period P) (entries (least_key P))),
        refl,
        wrote-key P l (least_period-is P).positive (le_trans (least_period-bound P l.gate) l.gates) (least_key P) area,
        least_period-is P,
      )
