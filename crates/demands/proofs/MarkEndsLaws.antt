-- Laws: how a call of mark ends, for every input.
use Rattle.std.specs.Prelude.{◌≡◌, List, ◌⊎◌, ℕ, zero, suc, ◌-◌, ◌≤◌, ◌<◌, length}
use Rattle.std.proofs.Math.Path.{refl, subst}
use Rattle.std.proofs.Common.{sym, ap, ◌∙◌, inl, inr, arith}
use Rattle.limits.specs.Limits.{most_period, cover_area, scratch_area}
use Rattle.limits.specs.Courses.{long}
use Rattle.net_model.specs.Net.{Net}
use Rattle.net_model.specs.Checks.{Passed}
use Rattle.cone_theory.specs.Ranks.{ranked}
use Rattle.cover_period.specs.Period.{least_period}
use Rattle.net_bytes.specs.Reading.{Result, got, refused}
use Rattle.net_bytes.specs.Readers.{refused-not-got, got-value}
use Rattle.cover_records.specs.CoverBytes.{Record, cover_reader}
use Rattle.cover_records.specs.CoverRefusals.{only-cover}
use Rattle.cover_records.specs.MarkingDecided.{cuts_right?, tables_right?, all_fed?, enough?, short_chains?}
use Rattle.cover_records.specs.Marking.{CutsRight, TablesRight, AllFed, EnoughRegisters, ShortChains}
use Rattle.cover_records.specs.Outcomes.{Answer, accepted, turned_back, Checked, passes, fails, check_net, cleared, MarkOutcome, mark_sizes, judged, mark_read, mark_checked, mark_sized, mark_outcome}
use Rattle.job_sizes.specs.Sizes.{sizes_of, Fit}
use Rattle.job_sizes.specs.SizeLaws.{mark-sizes_are}
use Rattle.demands.specs.TurnedBack.{IsNet, IsRecord, NetFails, MarkFails, Outside, First, OfMark}
use Rattle.demands.proofs.OrderLaws.{sizes_said, one-net, net-range, net-ends, net-passes, first_of}
use Rattle.demands.specs.Endings.{Said, fits, said1, said2, said3, Told, NetEnds, stops, goes, MarkEnds}

module _ (net : List ℕ) (k : ℕ) (bytes scratch : List ℕ) where
  abbrev MarkBad : ℕ → Type 0
  MarkBad n = MarkFails net k bytes scratch n

  pub mark-range : (n : ℕ) → MarkFails net k bytes scratch n → OfMark n
  mark-range n (MarkFails.outside f q) = (omega arith, omega arith, λ e. omega arith, λ e. omega arith)
  mark-range n (MarkFails.space f q) = (omega arith, omega arith, λ e. omega arith, λ e. omega arith)
  mark-range n (MarkFails.of_net f) = let r = net-range k net n f in (omega arith, omega arith, λ e. omega arith, λ e. omega arith)
  mark-range n (MarkFails.layout N i e) = let q = only-cover long N k bytes n e in (omega arith, omega arith, λ e. omega arith, λ e. omega arith)
  mark-range n (MarkFails.cuts N r i j f q) = (omega arith, omega arith, λ e. omega arith, λ e. omega arith)
  mark-range n (MarkFails.tables N r i j f q) = (omega arith, omega arith, λ e. omega arith, λ e. omega arith)
  mark-range n (MarkFails.fed N r i j f q) = (omega arith, omega arith, λ e. omega arith, λ e. omega arith)
  mark-range n (MarkFails.enough N r i j f q) = (omega arith, omega arith, λ e. omega arith, λ e. omega arith)
  mark-range n (MarkFails.chains N r i j f q) = (omega arith, omega arith, λ e. omega arith, λ e. omega arith)

  -- a record's checks come no sooner than n
  pub record NoSooner (n : ℕ) : Type 0 where
    pub layout : (N : Net) → IsNet k net N → (m : ℕ) → cover_reader long N k bytes ≡ refused m → n ≤ 13
    pub cuts : (N : Net) (r : Record) → IsNet k net N → IsRecord N k bytes r → ¬ CutsRight N k r.entries → n ≤ 14
    pub tables : (N : Net) (r : Record) → IsNet k net N → IsRecord N k bytes r → ¬ TablesRight N k r.entries → n ≤ 15
    pub fed : (N : Net) (r : Record) → IsNet k net N → IsRecord N k bytes r → ¬ AllFed N r.entries → n ≤ 16
    pub enough : (N : Net) (r : Record) → IsNet k net N → IsRecord N k bytes r → ¬ EnoughRegisters N r.entries → n ≤ 17
    pub chains : (N : Net) (r : Record) → IsNet k net N → IsRecord N k bytes r → ¬ ShortChains N r.period r.entries → n ≤ 18

  -- where n is at most 13 there is nothing to ask of the record
  no_sooner : (n : ℕ) → n ≤ 13 → NoSooner n
  no_sooner n h = record {
    layout = λ N i m e. h;
    cuts = λ N r i j f. omega arith;
    tables = λ N r i j f. omega arith;
    fed = λ N r i j f. omega arith;
    enough = λ N r i j f. omega arith;
    chains = λ N r i j f. omega arith;
  }

  mark-least : (n : ℕ) → (Outside k → n ≤ 1) → (length scratch < scratch_area → n ≤ 3) → ((m : ℕ) → NetFails k net m → n ≤ m) → NoSooner n → (m : ℕ) → MarkBad m → n ≤ m
  mark-least n a c d s m (MarkFails.outside f q) = omega (arith, a f)
  mark-least n a c d s m (MarkFails.space f q) = omega (arith, c f)
  mark-least n a c d s m (MarkFails.of_net f) = d m f
  mark-least n a c d s m (MarkFails.layout N i e) = let q = only-cover long N k bytes m e in omega (arith, s.layout N i m e)
  mark-least n a c d s m (MarkFails.cuts N r i j f q) = omega (arith, s.cuts N r i j f)
  mark-least n a c d s m (MarkFails.tables N r i j f q) = omega (arith, s.tables N r i j f)
  mark-least n a c d s m (MarkFails.fed N r i j f q) = omega (arith, s.fed N r i j f)
  mark-least n a c d s m (MarkFails.enough N r i j f q) = omega (arith, s.enough N r i j f)
  mark-least n a c d s m (MarkFails.chains N r i j f q) = omega (arith, s.chains N r i j f)

  module _ (sizes : mark_sizes long k scratch ≡ 0) (fit : Fit long k 0 cover_area (length scratch)) where
    inside : (n : ℕ) → Outside k → n ≤ 1
    inside n f = absurd (f (fit.low, fit.high))

    wide : (n : ℕ) → length scratch < scratch_area → n ≤ 3
    wide n f = absurd (let a = fit.space in omega arith)

    abbrev Done : Answer → Type 0
    Done a = MarkEnds net k bytes scratch (record { answer = a; scratch = cleared scratch_area scratch })

    module _ (N : Net) (i : IsNet k net N) (none : (m : ℕ) → ¬ NetFails k net m) where
      -- a check of the record is the first to fail
      record_fails : (n : ℕ) → 13 ≤ n → MarkBad n → NoSooner n → Done (turned_back n)
      record_fails n h f s = MarkEnds.late n (omega arith) (first_of f (mark-least n (inside n) (wide n) (λ m g. absurd (none m g)) s)) refl

      module _ (r : Record) (j : IsRecord N k bytes r) where
        -- what holds of this record and net holds of every reading
        same : (X : Net → Record → Type 0) → X N r → (M : Net) (q : Record) → IsNet k net M → IsRecord M k bytes q → X M q
        same X x M q i' j' = go (one-net k net i i') j'
          where
            go : {M : Net} → N ≡ M → IsRecord M k bytes q → X M q
            go {M} e j' = subst (λ (z : Net). IsRecord z k bytes q → X z q) e (λ j''. subst (X N) (got-value r j.0 q j''.0 (sym j.1 ∙ j''.1)) x) j'

        got_no : (M : Net) → IsNet k net M → (m : ℕ) → cover_reader long M k bytes ≡ refused m → ⊥
        got_no M i' m e = refused-not-got m r j.0 (sym (subst (λ (z : Net). cover_reader long z k bytes ≡ refused m) (sym (one-net k net i i')) e) ∙ j.1)

        -- the checks before n pass
        passing : (n : ℕ) → (14 < n → CutsRight N k r.entries) → (15 < n → TablesRight N k r.entries) → (16 < n → AllFed N r.entries) → (17 < n → EnoughRegisters N r.entries)
            → (18 < n → ShortChains N r.period r.entries) → NoSooner n
        passing n a b c d e = record {
          layout = λ M i' m q. absurd (got_no M i' m q);
          cuts = λ M q i' j' f. not-below 14 (λ l. f (same (λ (X : Net) (z : Record). CutsRight X k z.entries) (a l) M q i' j'));
          tables = λ M q i' j' f. not-below 15 (λ l. f (same (λ (X : Net) (z : Record). TablesRight X k z.entries) (b l) M q i' j'));
          fed = λ M q i' j' f. not-below 16 (λ l. f (same (λ (X : Net) (z : Record). AllFed X z.entries) (c l) M q i' j'));
          enough = λ M q i' j' f. not-below 17 (λ l. f (same (λ (X : Net) (z : Record). EnoughRegisters X z.entries) (d l) M q i' j'));
          chains = λ M q i' j' f. not-below 18 (λ l. f (same (λ (X : Net) (z : Record). ShortChains X z.period z.entries) (e l) M q i' j'));
        }
          where
            not-below : (m : ℕ) → ¬ (m < n) → n ≤ m
            not-below m f = omega arith

        judged-ends : (a : Dec (CutsRight N k r.entries)) (b : Dec (TablesRight N k r.entries)) (c : Dec (AllFed N r.entries)) (d : Dec (EnoughRegisters N r.entries))
            (e : Dec (ShortChains N r.period r.entries)) (x : ℕ) → Done (judged N k r a b c d e x)
        unfolding judged
        judged-ends (no a) b c d e x =
            record_fails 14 (omega arith) (MarkFails.cuts N r i j a refl)
            (passing 14 (λ h. absurd (omega arith)) (λ h. absurd (omega arith)) (λ h. absurd (omega arith)) (λ h. absurd (omega arith)) (λ h. absurd (omega arith)))
        judged-ends (yes a) (no b) c d e x =
            record_fails 15 (omega arith) (MarkFails.tables N r i j b refl)
            (passing 15 (λ h. a) (λ h. absurd (omega arith)) (λ h. absurd (omega arith)) (λ h. absurd (omega arith)) (λ h. absurd (omega arith)))
        judged-ends (yes a) (yes b) (no c) d e x =
            record_fails 16 (omega arith) (MarkFails.fed N r i j c refl) (passing 16 (λ h. a) (λ h. b) (λ h. absurd (omega arith)) (λ h. absurd (omega arith)) (λ h. absurd (omega arith)))
        judged-ends (yes a) (yes b) (yes c) (no d) e x =
            record_fails 17 (omega arith) (MarkFails.enough N r i j d refl) (passing 17 (λ h. a) (λ h. b) (λ h. c) (λ h. absurd (omega arith)) (λ h. absurd (omega arith)))
        judged-ends (yes a) (yes b) (yes c) (yes d) (no e) x =
            record_fails 18 (omega arith) (MarkFails.chains N r i j e refl) (passing 18 (λ h. a) (λ h. b) (λ h. c) (λ h. d) (λ h. absurd (omega arith)))
        judged-ends (yes a) (yes b) (yes c) (yes d) (yes e) x = MarkEnds.marked x sizes nothing refl
          where
            nothing : (m : ℕ) → ¬ MarkBad m
            nothing m f =
                let l = mark-least 19 (inside 19) (wide 19) (λ m g. absurd (none m g)) (passing 19 (λ h. a) (λ h. b) (λ h. c) (λ h. d) (λ h. e)) m f in
                let q = mark-range m f in
                omega (arith, q.1)

      read-ends : (P : Passed N k) → (x : Result Record) → cover_reader long N k bytes ≡ x → Done (mark_read N k P x)
      unfolding mark_read
      read-ends P (refused m) e = let q = only-cover long N k bytes m e in record_fails m (omega arith) (MarkFails.layout N i e) (no_sooner m (omega arith))
      read-ends P (got r rest) e =
          judged-ends r (rest, e) (cuts_right? (ranked P.reached) k r.entries) (tables_right? P r.entries) (all_fed? N r.entries) (enough? N r.entries)
          (short_chains? N r.period r.entries) (r.period - least_period P)

    netted : NetEnds k net (check_net long k net) → Done (mark_checked long k (check_net long k net) bytes)
    unfolding mark_checked
    netted (stops n e f least) =
        let r = net-range k net n f in
        MarkEnds.late n (omega arith) (first_of (MarkFails.of_net f) (mark-least n (inside n) (wide n) least (no_sooner n (omega arith))))
        (ap (λ (c : Checked k). record { answer = mark_checked long k c bytes; scratch = cleared scratch_area scratch }) e)
    netted (goes N P e i none) = subst (λ (c : Checked k). Done (mark_checked long k c bytes)) (sym e) (read-ends N i none P (cover_reader long N k bytes) refl)

  pub mark-ends : MarkEnds net k bytes scratch (mark_outcome long net k bytes scratch)
  unfolding mark_outcome mark_sized
  mark-ends = go (sizes_said k 0 cover_area (length scratch))
    where
      sizes : {n : ℕ} → sizes_of long k 0 cover_area (length scratch) ≡ n → mark_sizes long k scratch ≡ n
      sizes e = mark-sizes_are long k scratch ∙ e

      back : {n : ℕ} → mark_sizes long k scratch ≡ suc n → mark_sized long (mark_sizes long k scratch) k net bytes scratch ≡ record { answer = turned_back (suc n); scratch = scratch }
      back e = ap (λ (n : ℕ). mark_sized long n k net bytes scratch) e

      go : Said k 0 cover_area (length scratch) (sizes_of long k 0 cover_area (length scratch)) → MarkEnds net k bytes scratch (mark_sized long (mark_sizes long k scratch) k net bytes scratch)
      go (said1 e f) = MarkEnds.early 1 (omega arith) (first_of (MarkFails.outside f refl) (λ m g. let r = mark-range m g in r.0)) (back (sizes e))
      go (said2 e l h f) = absurd (omega arith)
      go (said3 e l h t f) =
          MarkEnds.early 3 (omega arith)
          (first_of (small f) (mark-least 3 (λ g. absurd (g (l, h))) (λ g. omega arith) (λ m g. let r = net-range k net m g in omega arith) (no_sooner 3 (omega arith)))) (back (sizes e))
        where
          small : (cover_area < cover_area) ⊎ (length scratch < scratch_area) → MarkBad 3
          small (inl g) = absurd (omega arith)
          small (inr g) = MarkFails.space g refl
      go (fits e f) = subst (λ (n : ℕ). MarkEnds net k bytes scratch (mark_sized long n k net bytes scratch)) (sym (sizes e)) (netted (sizes e) f (net-ends k net))

  pub mark-told : Told MarkBad (mark_outcome long net k bytes scratch).answer
  mark-told = go mark-ends
    where
      go : {o : MarkOutcome} → MarkEnds net k bytes scratch o → Told MarkBad o.answer
      go (MarkEnds.early n h f e) = subst (λ (o : MarkOutcome). Told MarkBad o.answer) (sym e) f
      go (MarkEnds.late n h f e) = subst (λ (o : MarkOutcome). Told MarkBad o.answer) (sym e) f
      go (MarkEnds.marked n s none e) = subst (λ (o : MarkOutcome). Told MarkBad o.answer) (sym e) none

  -- where no check of the sizes fails, the test of the sizes passes
  pub mark-sized : ((m : ℕ) → m < 4 → ¬ MarkBad m) → mark_sizes long k scratch ≡ 0
  mark-sized none = go (sizes_said k 0 cover_area (length scratch))
    where
      go : Said k 0 cover_area (length scratch) (sizes_of long k 0 cover_area (length scratch)) → mark_sizes long k scratch ≡ 0
      go (fits e f) = mark-sizes_are long k scratch ∙ e
      go (said1 e f) = absurd (none 1 (omega arith) (MarkFails.outside f refl))
      go (said2 e l h f) = absurd (omega arith)
      go (said3 e l h t (inl f)) = absurd (omega arith)
      go (said3 e l h t (inr f)) = absurd (none 3 (omega arith) (MarkFails.space f refl))

  -- where checks 1 to 11 pass, sizes and net are right
  pub mark-taken : (N : Net) → IsNet k net N → ((m : ℕ) → m < 12 → ¬ MarkBad m) → (mark_sizes long k scratch ≡ 0) × ((P : Passed N k) × (check_net long k net ≡ passes N P))
  mark-taken N i none =
      (mark-sized (λ m h. none m (omega arith)), net-passes k net N i (λ m f. let r = net-range k net m f in none m (omega arith) (MarkFails.of_net f)))
