-- Laws of checks 4 to 11: what the walk and the graph say decides the outcome.
use Rattle.std.specs.Prelude.{◌≡◌, List, ℕ}
use Rattle.std.proofs.Math.Path.{refl, sym, ap₂, path_j}
use Rattle.std.proofs.Common.{◌∙◌}
use Rattle.std.proofs.Math.Bridge.{le_prop}
use Rattle.limits.specs.declared.Rules.{Rules}
use Rattle.net_model.specs.Net.{Net}
use Rattle.net_model.specs.Checks.{Sound, Fits, Loopless, AllReached, AllLeading, Passed}
use Rattle.net_bytes.specs.Reading.{Result, got, refused}
use Rattle.net_bytes.specs.Walk.{net_reader}
use Rattle.net_bytes.specs.Sound.{walk-sound, walk-fits}
use Rattle.cone_theory.specs.ChecksDecided.{loopless?, reached?, leading?}
use Rattle.cover_records.specs.Outcomes.{passes, fails, check_net, check_read, check_graph}

-- the walk's result may be named by any equal one
read_as : (R : Rules) (k : ℕ) (s : List ℕ) (r : Result Net) (e : net_reader R k s ≡ r) → check_net R k s ≡ check_read R k s r e
unfolding check_net
read_as R k s r e = path_j (λ (x : Result Net) (q : net_reader R k s ≡ x). check_read R k s (net_reader R k s) refl ≡ check_read R k s x q) refl e

pub check-refused : (R : Rules) (k : ℕ) (s : List ℕ) (n : ℕ) → net_reader R k s ≡ refused n → check_net R k s ≡ fails n
unfolding check_read
check-refused R k s n e = read_as R k s (refused n) e

module _ (R : Rules) (k : ℕ) (s : List ℕ) (N : Net) (rest : List ℕ) (e : net_reader R k s ≡ got N rest) where
  as_graph : check_net R k s ≡ check_graph N k (walk-sound R k s N rest e) (walk-fits R k s N rest e) (loopless? N) (reached? N) (leading? N)
  unfolding check_read
  as_graph = read_as R k s (got N rest) e

  pub check-loop : ¬ Loopless N → check_net R k s ≡ fails 9
  unfolding check_graph
  check-loop n = as_graph ∙ go (loopless? N)
    where
      go : (d : Dec (Loopless N)) → check_graph N k (walk-sound R k s N rest e) (walk-fits R k s N rest e) d (reached? N) (leading? N) ≡ fails 9
      go (yes a) = absurd (n a)
      go (no a) = refl

  pub check-unreached : Loopless N → ¬ AllReached N → check_net R k s ≡ fails 10
  unfolding check_graph
  check-unreached l n = as_graph ∙ go (loopless? N) (reached? N)
    where
      go : (d : Dec (Loopless N)) (f : Dec (AllReached N)) → check_graph N k (walk-sound R k s N rest e) (walk-fits R k s N rest e) d f (leading? N) ≡ fails 10
      go (no a) f = absurd (a l)
      go (yes a) (yes b) = absurd (n b)
      go (yes a) (no b) = refl

  pub check-unled : Loopless N → AllReached N → ¬ AllLeading N → check_net R k s ≡ fails 11
  unfolding check_graph
  check-unled l r n = as_graph ∙ go (loopless? N) (reached? N) (leading? N)
    where
      go : (d : Dec (Loopless N)) (f : Dec (AllReached N)) (h : Dec (AllLeading N)) → check_graph N k (walk-sound R k s N rest e) (walk-fits R k s N rest e) d f h ≡ fails 11
      go (no a) f h = absurd (a l)
      go (yes a) (no b) h = absurd (b r)
      go (yes a) (yes b) (yes c) = absurd (n c)
      go (yes a) (yes b) (no c) = refl

  pub check-passes : Loopless N → AllReached N → AllLeading N → (P : Passed N k) × (check_net R k s ≡ passes N P)
  unfolding check_graph
  check-passes l r t = (passed_with (loopless? N) (reached? N) (leading? N), as_graph ∙ go (loopless? N) (reached? N) (leading? N))
    where
      sound : Sound N
      sound = walk-sound R k s N rest e

      fits : Fits N k
      fits = walk-fits R k s N rest e

      passed_with : Dec (Loopless N) → Dec (AllReached N) → Dec (AllLeading N) → Passed N k
      passed_with (yes a) (yes b) (yes c) = record { sound = sound; fits = fits; loopless = a; reached = b; leading = c }
      passed_with (yes a) (yes b) (no c) = absurd (c t)
      passed_with (yes a) (no b) h = absurd (b r)
      passed_with (no a) f h = absurd (a l)

      go : (d : Dec (Loopless N)) (f : Dec (AllReached N)) (h : Dec (AllLeading N)) → check_graph N k sound fits d f h ≡ passes N (passed_with d f h)
      go (yes a) (yes b) (yes c) = refl
      go (yes a) (yes b) (no c) = absurd (c t)
      go (yes a) (no b) h = absurd (b r)
      go (no a) f h = absurd (a l)

-- ---- the rules matter as far as the walk depends on them

sound-same : {N : Net} (p q : Sound N) → p ≡ q
sound-same p q i = record { pin = λ v g x m. le_prop (p.pin v g x m) (q.pin v g x m) i; output = λ o m. le_prop (p.output o m) (q.output o m) i }

fits-same : {N : Net} {k : ℕ} (p q : Fits N k) → p ≡ q
fits-same p q i v g = le_prop (p v g) (q v g) i

-- **Rules and records under which the walk reads the same give the same checks.**
pub check-same : (R S : Rules) (k : ℕ) (s t : List ℕ) → net_reader R k s ≡ net_reader S k t → check_net R k s ≡ check_net S k t
check-same R S k s t e = read_as R k s (net_reader S k t) e ∙ go (net_reader S k t) e refl
  where
    go : (r : Result Net) (p : net_reader R k s ≡ r) (q : net_reader S k t ≡ r) → check_read R k s r p ≡ check_net S k t
    go (refused n) p q = unfold check_read in sym (check-refused S k t n q)
    go (got N rest) p q =
        unfold check_read in
        ap₂ (λ (a : Sound N) (b : Fits N k). check_graph N k a b (loopless? N) (reached? N) (leading? N)) (sound-same (walk-sound R k s N rest p) (walk-sound S k t N rest q))
        (fits-same (walk-fits R k s N rest p) (walk-fits S k t N rest q)) ∙ sym (as_graph S k t N rest q)
