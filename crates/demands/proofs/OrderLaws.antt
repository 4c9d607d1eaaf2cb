-- Laws of the order of checks: what checks 1 to 3 told, how checks 4 to 11 end, and that an answer is the number that the order picks.
use Rattle.std.proofs.Math.Path.{◌≡◌}
use Rattle.std.specs.Prelude.{refl, List, ◌⊎◌, ◌↔◌, ℕ, ◌≤◌, ◌<◌}
use Rattle.std.proofs.Common.{sym, subst, ap, ◌∙◌, inl, inr}
use Rattle.std.proofs.Math.Decide.{dec_le}
use native.Mathlib.Omega.{arith}
use Rattle.limits.specs.Limits.{least_k, most_k, most_period, cover_area, scratch_area}
use Rattle.limits.specs.Courses.{long}
use Rattle.net_model.specs.Net.{Net}
use Rattle.net_model.specs.Checks.{Loopless, AllReached, AllLeading, Passed}
use Rattle.cone_theory.specs.ChecksDecided.{loopless?, reached?, leading?}
use Rattle.net_bytes.specs.Reading.{Result, got, refused}
use Rattle.net_bytes.specs.Readers.{refused-not-got, got-value}
use Rattle.net_bytes.specs.Refusals.{only-net}
use Rattle.net_bytes.specs.Walk.{net_reader}
use Rattle.cover_records.specs.CheckLaws.{check-refused, check-loop, check-unreached, check-unled, check-passes}
use Rattle.cover_records.specs.Outcomes.{Answer, accepted, turned_back, Checked, passes, fails, check_net}
use Rattle.job_sizes.specs.Sizes.{sizes_of, Fit}
use Rattle.job_sizes.specs.SizeLaws.{size_low, size-high, size-target, size-area, size-scratch, size_none}
use Rattle.demands.specs.TurnedBack.{IsNet, NetFails, Outside, First}
use Rattle.demands.specs.Endings.{Said, fits, said1, said2, said3, Told, NetEnds, stops, goes}

-- ---- checks 1 to 3

pub sizes_said : (k target area scratch : ℕ) → Said k target area scratch (sizes_of long k target area scratch)
sizes_said k t a s = go (dec_le least_k k) (dec_le k most_k) (dec_le t most_period) (dec_le cover_area a) (dec_le scratch_area s)
  where
    go : Dec (least_k ≤ k) → Dec (k ≤ most_k) → Dec (t ≤ most_period) → Dec (cover_area ≤ a) → Dec (scratch_area ≤ s) → Said k t a s (sizes_of long k t a s)
    go (no l) h x y z = said1 (sym (size_low long k t a s (omega arith))) (λ r. l r.0)
    go (yes l) (no h) x y z = said1 (sym (size-high long k t a s l (omega arith))) (λ r. h r.1)
    go (yes l) (yes h) (no x) y z = said2 (sym (size-target long k t a s l h (omega arith))) l h (omega arith)
    go (yes l) (yes h) (yes x) (no y) z = said3 (sym (size-area long k t a s l h x (omega arith))) l h x (inl (omega arith))
    go (yes l) (yes h) (yes x) (yes y) (no z) = said3 (sym (size-scratch long k t a s l h x y (omega arith))) l h x (inr (omega arith))
    go (yes l) (yes h) (yes x) (yes y) (yes z) = fits (sym (size_none long k t a s l h x y z)) (record { low = l; high = h; near = x; room = y; space = z })

-- ---- checks 4 to 11

module _ (k : ℕ) (net : List ℕ) where
  pub one-net : {N M : Net} → IsNet k net N → IsNet k net M → N ≡ M
  one-net {N} {M} a b = got-value N a.0 M b.0 (sym a.1 ∙ b.1)

  pub net-range : (n : ℕ) → NetFails k net n → (4 ≤ n) × (n ≤ 11)
  net-range n (NetFails.walk e) = let r = only-net long k net n e in (r.0, omega (arith, r.1))
  net-range n (NetFails.loop N i f q) = (omega arith, omega arith)
  net-range n (NetFails.unreached N i f q) = (omega arith, omega arith)
  net-range n (NetFails.unled N i f q) = (omega arith, omega arith)

  -- what fails comes no sooner than n
  net-least : (n : ℕ) → ((m : ℕ) → net_reader long k net ≡ refused m → n ≤ m) → ((N : Net) → IsNet k net N → ¬ Loopless N → n ≤ 9)
      → ((N : Net) → IsNet k net N → ¬ AllReached N → n ≤ 10) → ((N : Net) → IsNet k net N → ¬ AllLeading N → n ≤ 11) → (m : ℕ) → NetFails k net m → n ≤ m
  net-least n a b c d m (NetFails.walk e) = a m e
  net-least n a b c d m (NetFails.loop N i f q) = omega (arith, b N i f)
  net-least n a b c d m (NetFails.unreached N i f q) = omega (arith, c N i f)
  net-least n a b c d m (NetFails.unled N i f q) = omega (arith, d N i f)

  pub net-ends : NetEnds k net (check_net long k net)
  net-ends = go (net_reader long k net) refl
    where
      graph : (N : Net) (rest : List ℕ) → net_reader long k net ≡ got N rest → Dec (Loopless N) → Dec (AllReached N) → Dec (AllLeading N) → NetEnds k net (check_net long k net)
      graph N rest e = ends
        where
          i : IsNet k net N
          i = (rest, e)

          read : (n m : ℕ) → net_reader long k net ≡ refused m → n ≤ m
          read n m q = absurd (refused-not-got m N rest (sym q ∙ e))

          same : (X : Net → Type 0) → X N → (M : Net) → IsNet k net M → X M
          same X x M j = subst X (one-net i j) x

          ends : Dec (Loopless N) → Dec (AllReached N) → Dec (AllLeading N) → NetEnds k net (check_net long k net)
          ends (no a) b c =
              stops 9 (check-loop long k net N rest e a) (NetFails.loop N i a refl) (net-least 9 (read 9) (λ M j f. omega arith) (λ M j f. omega arith) (λ M j f. omega arith))
          ends (yes a) (no b) c =
              stops 10 (check-unreached long k net N rest e a b) (NetFails.unreached N i b refl)
              (net-least 10 (read 10) (λ M j f. absurd (f (same Loopless a M j))) (λ M j f. omega arith) (λ M j f. omega arith))
          ends (yes a) (yes b) (no c) =
              stops 11 (check-unled long k net N rest e a b c) (NetFails.unled N i c refl)
              (net-least 11 (read 11) (λ M j f. absurd (f (same Loopless a M j))) (λ M j f. absurd (f (same AllReached b M j))) (λ M j f. omega arith))
          ends (yes a) (yes b) (yes c) =
              let p = check-passes long k net N rest e a b c in
              let least = net-least 12 (read 12) (λ M j f. absurd (f (same Loopless a M j))) (λ M j f. absurd (f (same AllReached b M j))) (λ M j f. absurd (f (same AllLeading c M j))) in
              goes N p.0 p.1 i (λ m f. let r = net-range m f in let l = least m f in omega arith)

      go : (r : Result Net) → net_reader long k net ≡ r → NetEnds k net (check_net long k net)
      go (refused n) e =
          let r = only-net long k net n e in
          stops n (check-refused long k net n e) (NetFails.walk e)
          (net-least n (λ m q. let same : n ≡ m = refused-same (sym e ∙ q) in omega arith) (λ M j f. omega (arith, r.1)) (λ M j f. omega (arith, r.1)) (λ M j f. omega (arith, r.1)))
        where
          refused-same : {m n : ℕ} → ◌≡◌ {A = Result Net} (refused m) (refused n) → m ≡ n
          refused-same q = cc
      go (got N rest) e = graph N rest e (loopless? N) (reached? N) (leading? N)

  net_of : Checked k → Net → Net
  net_of (passes M p) N = M
  net_of (fails n) N = N

  -- a net that passed is that of the bytes
  pub passes-net : {N : Net} {P : Passed N k} → check_net long k net ≡ passes N P → IsNet k net N
  unfolding net_of
  passes-net {N} {P} e = go net-ends
    where
      not-passed : (n : ℕ) → fails n ≡ passes N P → ⊥
      not-passed n q = let z : ◌≡◌ {A = ℕ} 0 1 = cc in omega arith

      go : NetEnds k net (check_net long k net) → IsNet k net N
      go (stops n q f l) = absurd (not-passed n (sym q ∙ e))
      go (goes M p q i none) = subst (IsNet k net) (ap (λ (c : Checked k). net_of c N) (sym q ∙ e)) i

  -- a net that passes is one that no check of the net turns back
  pub net-passes : (N : Net) → IsNet k net N → ((m : ℕ) → ¬ NetFails k net m) → (P : Passed N k) × (check_net long k net ≡ passes N P)
  net-passes N i none = go (loopless? N) (reached? N) (leading? N)
    where
      go : Dec (Loopless N) → Dec (AllReached N) → Dec (AllLeading N) → (P : Passed N k) × (check_net long k net ≡ passes N P)
      go (no a) b c = absurd (none 9 (NetFails.loop N i a refl))
      go (yes a) (no b) c = absurd (none 10 (NetFails.unreached N i b refl))
      go (yes a) (yes b) (no c) = absurd (none 11 (NetFails.unled N i c refl))
      go (yes a) (yes b) (yes c) = check-passes long k net N i.0 i.1 a b c

-- ---- the order

pub first_of : {Fails : ℕ → Type 0} {n : ℕ} → Fails n → ((m : ℕ) → Fails m → n ≤ m) → First Fails n
first_of f l = record { fails = f; none = λ m h g. let b = l m g in omega arith }

-- the order picks one number
first_one : {Fails : ℕ → Type 0} {m n : ℕ} → First Fails m → First Fails n → m ≡ n
first_one {Fails} {m} {n} a b = go (dec_le m n) (dec_le n m)
  where
    go : Dec (m ≤ n) → Dec (n ≤ m) → m ≡ n
    go (no h) y = absurd (a.none n (omega arith) b.fails)
    go (yes h) (no y) = absurd (b.none m (omega arith) a.fails)
    go (yes h) (yes y) = omega arith

module _ {Fails : ℕ → Type 0} (a : Answer) (t : Told Fails a) where
  pub told-first : (n : ℕ) → (a ≡ turned_back n) ↔ First Fails n
  told-first n = (λ e. subst (Told Fails) e t, λ f. go a t f)
    where
      go : (a : Answer) → Told Fails a → First Fails n → a ≡ turned_back n
      go (accepted m) t f = absurd (t n f.fails)
      go (turned_back m) t f = ap turned_back (first_one t f)

  pub told_none : ((n : ℕ) × (a ≡ accepted n)) ↔ ((m : ℕ) → ¬ Fails m)
  told_none = (λ e. subst (Told Fails) e.1 t, λ f. go a t f)
    where
      go : (a : Answer) → Told Fails a → ((m : ℕ) → ¬ Fails m) → (n : ℕ) × (a ≡ accepted n)
      go (accepted m) t f = (m, refl)
      go (turned_back m) t f = absurd (f m t.fails)
