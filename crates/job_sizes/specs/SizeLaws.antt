-- Laws of checks 1, 2 and 3, and of areas that may be lent.
use Rattle.std.specs.Prelude.{◌≡◌, refl, Bool, not, ◌||◌, ◌&&◌, List, ℕ, ◌≤◌, ◌<◌, length}
use Rattle.std.proofs.Common.{sym, ◌∙◌}
use Rattle.std.proofs.Math.Path.{ap, ap₂}
use Rattle.std.proofs.Math.Bool.{true, false, cond}
use native.Mathlib.Omega.{arith}
use borrow.Author.Tests.{lt-ltb, le-ltb, ltb-false}
use Rattle.std.proofs.Math.Dec.{ltb}
use Rattle.limits.specs.Limits.{cover_area, least_k, most_k, most_period, scratch_area}
use Rattle.limits.specs.Courses.{long}
use Rattle.limits.specs.CourseLaws.{Within}
use Rattle.limits.specs.declared.Rules.{Rules}
use Rattle.net_bytes.specs.Reading.{between}
use Rattle.net_bytes.specs.Sound.{between-true}
use Rattle.cover_records.specs.Outcomes.{map_sizes, mark_sizes, check_net}
use Rattle.cover_records.specs.Listing.{refusal_text}
use Rattle.cover_records.specs.Program.{listing, list_checked}
use Rattle.net_fields.specs.FieldLaws.{in_range, below-range, above-range}
use Rattle.job_sizes.specs.Sizes.{sizes_of, Fit, lent_size, LentFits}

-- ---- one law for each way out

module _ (R : Rules) (k target area scratch : ℕ) where
  sizes-k : (t : Bool) → between least_k R.most k ≡ t → sizes_of R k target area scratch ≡ cond (not t) 1 (cond (ltb R.period target) 2 (cond (ltb area R.area || ltb scratch R.scratch) 3 0))
  unfolding sizes_of
  sizes-k t e = ap (λ (x : Bool). cond (not x) 1 (cond (ltb R.period target) 2 (cond (ltb area R.area || ltb scratch R.scratch) 3 0))) e

  pub size_low : k < least_k → 1 ≡ sizes_of R k target area scratch
  size_low h = sym (sizes-k false (sym (below-range least_k R.most k h)))

  pub size-high : least_k ≤ k → R.most < k → 1 ≡ sizes_of R k target area scratch
  size-high l h = sym (sizes-k false (sym (above-range least_k R.most k l h)))

  module _ (low : least_k ≤ k) (high : k ≤ R.most) where
    sizes-target : (t : Bool) → ltb R.period target ≡ t → sizes_of R k target area scratch ≡ cond t 2 (cond (ltb area R.area || ltb scratch R.scratch) 3 0)
    sizes-target t e = sizes-k true (sym (in_range least_k R.most k low high)) ∙ ap (λ (x : Bool). cond x 2 (cond (ltb area R.area || ltb scratch R.scratch) 3 0)) e

    pub size-target : R.period < target → 2 ≡ sizes_of R k target area scratch
    size-target h = sym (sizes-target true (lt-ltb R.period target h))

    module _ (near : target ≤ R.period) where
      sizes-room : (s t : Bool) → ltb area R.area ≡ s → ltb scratch R.scratch ≡ t → sizes_of R k target area scratch ≡ cond (s || t) 3 0
      sizes-room s t e f = sizes-target false (le-ltb R.period target near) ∙ ap₂ (λ (x y : Bool). cond (x || y) 3 0) e f

      pub size-area : area < R.area → 3 ≡ sizes_of R k target area scratch
      size-area h = sym (sizes-room true (ltb scratch R.scratch) (lt-ltb area R.area h) refl)

      pub size-scratch : R.area ≤ area → scratch < R.scratch → 3 ≡ sizes_of R k target area scratch
      size-scratch l h = sym (sizes-room false true (le-ltb area R.area l) (lt-ltb scratch R.scratch h))

      pub size_none : R.area ≤ area → R.scratch ≤ scratch → 0 ≡ sizes_of R k target area scratch
      size_none l h = sym (sizes-room false false (le-ltb area R.area l) (le-ltb scratch R.scratch h))

  -- what passed checks give
  pub fit : sizes_of R k target area scratch ≡ 0 → Fit R k target area scratch
  fit e = go (between least_k R.most k) refl (ltb R.period target) refl (ltb area R.area) refl (ltb scratch R.scratch) refl
    where
      no_one : ◌≡◌ {A = ℕ} 1 0 → ⊥
      no_one q = omega arith

      no_two : ◌≡◌ {A = ℕ} 2 0 → ⊥
      no_two q = omega arith

      no_three : ◌≡◌ {A = ℕ} 3 0 → ⊥
      no_three q = omega arith

      range : between least_k R.most k ≡ true → (least_k ≤ k) × (k ≤ R.most)
      range q = between-true least_k R.most k q

      go : (a : Bool) → between least_k R.most k ≡ a → (b : Bool) → ltb R.period target ≡ b → (c : Bool) → ltb area R.area ≡ c → (d : Bool) → ltb scratch R.scratch ≡ d → Fit R k target area scratch
      go false p b q c r d s = absurd (no_one (sym (sizes-k false p) ∙ e))
      go true p true q c r d s = let t = range p in absurd (no_two (sym (sizes-target t.0 t.1 true q) ∙ e))
      go true p false q true r d s = let t = range p in absurd (no_three (sym (sizes-room t.0 t.1 (ltb-false R.period target q) true d r s) ∙ e))
      go true p false q false r true s = let t = range p in absurd (no_three (sym (sizes-room t.0 t.1 (ltb-false R.period target q) false true r s) ∙ e))
      go true p false q false r false s =
          let t = range p in
          record { low = t.0; high = t.1; near = ltb-false R.period target q; room = ltb-false area R.area r; space = ltb-false scratch R.scratch s }

  -- the numbers are bytes
  pub sizes-small : sizes_of R k target area scratch < 256
  unfolding sizes_of
  sizes-small = go (between least_k R.most k) (ltb R.period target) (ltb area R.area || ltb scratch R.scratch)
    where
      go : (a b c : Bool) → cond (not a) 1 (cond b 2 (cond c 3 0)) < 256
      go false b c = omega arith
      go true true c = omega arith
      go true false true = omega arith
      go true false false = omega arith

-- what fits under rules within the limits fits under document 01's
pub fit-within : {R : Rules} {k target area scratch : ℕ} → Within R → Fit R k target area scratch → Fit long k target area scratch
fit-within w f =
    let high = f.high in
    let near = f.near in
    let room = f.room in
    let space = f.space in
    let most = w.most in
    let period = w.period in
    let large = w.area in
    let long = w.scratch in
    record { low = f.low; high = omega arith; near = omega arith; room = omega arith; space = omega arith }

-- ---- an area that may be lent

module _ (least number n : ℕ) where
  lent_as : (s t : Bool) → ltb 0 n ≡ s → ltb n least ≡ t → lent_size least number n ≡ cond (s && t) number 0
  unfolding lent_size
  lent_as s t e f = ap₂ (λ (x y : Bool). cond (x && y) number 0) e f

  pub lent_none : n ≡ 0 → 0 ≡ lent_size least number n
  lent_none e = sym (lent_as false (ltb n least) (le-ltb 0 n (omega arith)) refl)

  pub lent-short : ¬ (n ≡ 0) → n < least → number ≡ lent_size least number n
  lent-short z h = sym (lent_as true true (lt-ltb 0 n (omega (arith, z))) (lt-ltb n least h))

  pub lent-long : ¬ (n ≡ 0) → least ≤ n → 0 ≡ lent_size least number n
  lent-long z h = sym (lent_as true false (lt-ltb 0 n (omega (arith, z))) (le-ltb n least h))

  -- what the number tells of the area
  pub told-short : 0 < lent_size least number n → ((ltb 0 n && ltb n least) ≡ true) × (lent_size least number n ≡ number)
  unfolding lent_size
  told-short h = go (ltb 0 n && ltb n least) h
    where
      none : 0 < 0 → ⊥
      none h = omega arith

      go : (b : Bool) → 0 < cond b number 0 → (b ≡ true) × (cond b number 0 ≡ number)
      go true h = (refl, refl)
      go false h = absurd (none h)

  pub told-fits : 0 < number → lent_size least number n ≡ 0 → ((ltb 0 n && ltb n least) ≡ false) × LentFits least n
  unfolding lent_size
  told-fits some e = (flat, λ z. ltb-false n least (sym (ap (λ (t : Bool). t && ltb n least) (lt-ltb 0 n (more z))) ∙ flat))
    where
      more : ¬ (n ≡ 0) → 0 < n
      more z = omega (arith, z)

      go : (b : Bool) → cond b number 0 ≡ 0 → b ≡ false
      go true e = absurd (let x : ⊥ = omega (arith, e, some) in x)
      go false e = refl

      flat : (ltb 0 n && ltb n least) ≡ false
      flat = go (ltb 0 n && ltb n least) e

-- a number that is 0
pub zero_of : {r n : ℕ} → r ≡ n → r ≤ 0 → n ≡ 0
zero_of e h = omega arith

-- ---- the checks of the three jobs

pub map-sizes_are : (R : Rules) (k target : ℕ) (area scratch : List ℕ) → map_sizes R k target area scratch ≡ sizes_of R k target (length area) (length scratch)
unfolding map_sizes sizes_of
map-sizes_are R k target area scratch = refl

pub mark-sizes_are : (R : Rules) (k : ℕ) (scratch : List ℕ) → mark_sizes R k scratch ≡ sizes_of R k 0 R.area (length scratch)
unfolding mark_sizes sizes_of
mark-sizes_are R k scratch =
    let s : Bool = ltb (length scratch) R.scratch in
    ap₂ (λ (x y : Bool). cond (not (between least_k R.most k)) 1 (cond x 2 (cond (y || s) 3 0)))
    (sym (le-ltb R.period 0 (omega arith))) (sym (le-ltb R.area R.area (omega arith)))

-- the listing lends areas that are large enough
module _ (k target : ℕ) (net : List ℕ) where
  listed : (a b : Bool) (r : ℕ) → r ≡ cond (not a) 1 (cond b 2 0)
      → cond (not a) (refusal_text 1) (cond b (refusal_text 2) (list_checked k target (check_net long k net))) ≡ cond (ltb 0 r) (refusal_text r) (list_checked k target (check_net long k net))
  listed false b r e = rw e refl
  listed true true r e = rw e refl
  listed true false r e = rw e refl

  list-sizes : (r : ℕ) → r ≡ sizes_of long k target cover_area scratch_area → listing k target net ≡ cond (ltb 0 r) (refusal_text r) (list_checked k target (check_net long k net))
  unfolding listing sizes_of
  list-sizes r e = listed (between least_k most_k k) (ltb most_period target) r e

  pub list-refused : (r : ℕ) → r ≡ sizes_of long k target cover_area scratch_area → 0 < r → listing k target net ≡ refusal_text r
  list-refused r e h = list-sizes r e ∙ ap (λ (t : Bool). cond t (refusal_text r) (list_checked k target (check_net long k net))) (lt-ltb 0 r h)

  pub list-passed : (r : ℕ) → r ≡ sizes_of long k target cover_area scratch_area → r ≤ 0 → listing k target net ≡ list_checked k target (check_net long k net)
  list-passed r e h = list-sizes r e ∙ ap (λ (t : Bool). cond t (refusal_text r) (list_checked k target (check_net long k net))) (le-ltb 0 r h)
