-- From what was settled to the outcome that the definition has.
use Rattle.std.proofs.Math.Path.{◌≡◌, refl, sym, ap, ap₂}
use Rattle.std.proofs.Common.{subst, ◌∙◌, arith}
use Rattle.std.specs.Prelude.{Bool, ℕ, ◌≤◌, ◌<◌, length}
use Rattle.std.proofs.Math.Bool.{true, false}
use mathlib.Core.List.{List, []}
use Rattle.net_model.specs.Net.{Net}
use Rattle.net_model.specs.Checks.{Passed}
use Rattle.limits.specs.Limits.{cover_area}
use Rattle.limits.specs.Courses.{long, Offered, is-long, is-short}
use Rattle.limits.specs.declared.Rules.{Rules}
use Rattle.net_bytes.specs.Reading.{refused}
use Rattle.net_bytes.specs.Walk.{net_reader}
use Rattle.run_theory.specs.BenchBytes.{kept_after}
use Rattle.label_theory.specs.Labels.{Mode, ReachableIn}
use Rattle.cover_theory.specs.Key.{Entry, entries}
use Rattle.cover_period.specs.KeyUnique.{entries_unique}
use Rattle.cover_records.specs.CoverBytes.{cover_bytes}
use Rattle.cover_records.specs.Kept.{Kept, entries_in}
use Rattle.cover_records.specs.Outcomes.{accepted, turned_back, MapOutcome, Checked, passes, fails, check_net, MappedIn, unmet, mapped_in, map_written, map_checked_in, cleared, written}
use Rattle.cover_records.specs.LoaderImage.{loaded}
use Rattle.cover_records.specs.LoaderOutcome.{loader_written, loader_checked_in}
use Rattle.cover_records.specs.ForwardOutcome.{section_of, lacking, sectioned, contents_written, contents_checked}
use Rattle.cover_records.specs.CheckLaws.{check-refused, check-loop, check-unreached, check-unled, check-passes}
use Rattle.label_aim.specs.Aims.{mode_of}
use Rattle.job_plan.specs.Planned.{Covered}
use Rattle.job_plan.specs.Mapped.{mapped-none, mapped-some}
use Rattle.job_settle.specs.Settling.{Ended, CoverSettled}
use Rattle.job_settle.specs.SettlingLaws.{unmet-small}
use Rattle.job_settle.specs.Settling as settling
use Rattle.job_settle.specs.declared.Call.{Call}
use Rattle.job_record.specs.Mapping.{filled, checks_of, MapsTo, MapsNet}

-- the outcome of a refusal, and of a cover
abbrev refusing : Rules → ℕ → List ℕ → List ℕ → MapOutcome
refusing R n area s = record { answer = turned_back n; area = area; scratch = cleared R.scratch s }

abbrev writing : Rules → List ℕ → List ℕ → List ℕ → MapOutcome
writing R bytes area s = record { answer = accepted (length bytes); area = written bytes area; scratch = cleared R.scratch s }

-- the rules that are offered write a cover alike
offered_bytes : {R : Rules} → Offered R → (φ : ℕ) (es : List Entry) → cover_bytes R φ es ≡ cover_bytes long φ es
unfolding cover_bytes
offered_bytes is-long φ es = refl
offered_bytes is-short φ es = refl

module _ (M : Mode) (R : Rules) (k target : ℕ) (net pairs area loader contents : List ℕ) where
  -- a check failed, 21 among them
  maps-fails : (n : ℕ) → n < 256 → checks_of R k net contents ≡ fails n → MapsTo M R k target net pairs area area loader loader contents contents (turned_back n)
  unfolding map_checked_in loader_checked_in contents_checked
  maps-fails n h e = record {
    small = h;
    outcome = λ s. ap (λ (c : Checked k). map_checked_in M R k target c area s) e;
    image = ap (λ (c : Checked k). loader_checked_in M k target c loader) e;
    cells = ap (λ (c : Checked k). contents_checked M (λ N. kept_after pairs N (section_of R k net)) k target c contents) e;
  }

  -- one of 4 to 11
  pub maps-early : (n : ℕ) → n < 256 → check_net R k net ≡ fails n → MapsTo M R k target net pairs area area loader loader contents contents (turned_back n)
  unfolding sectioned
  maps-early n h e = maps-fails n h (ap (sectioned (lacking contents (section_of R k net))) e ∙ stays (lacking contents (section_of R k net)))
    where
      stays : (b : Bool) → ◌≡◌ {A = Checked k} (sectioned b (fails n)) (fails n)
      stays b = refl

  pub maps-refused : (n : ℕ) → n < 256 → net_reader R k net ≡ refused n → MapsTo M R k target net pairs area area loader loader contents contents (turned_back n)
  maps-refused n h e = maps-early n h (check-refused R k net n e)

  -- ---- a net that passes
  module _ {N : Net} (P : Passed N k) (e : check_net R k net ≡ passes N P) where
    -- 21
    maps_lacks : lacking contents (section_of R k net) ≡ true → MapsTo M R k target net pairs area area loader loader contents contents (turned_back 21)
    unfolding sectioned
    maps_lacks l = maps-fails 21 (omega arith) (ap₂ (λ (b : Bool) (c : Checked k). sectioned b c) l e ∙ told)
      where
        told : sectioned true (passes N P) ≡ fails 21
        told = refl

    module _ (l : lacking contents (section_of R k net) ≡ false) where
      passing : checks_of R k net contents ≡ passes N P
      unfolding sectioned
      passing = ap₂ (λ (b : Bool) (c : Checked k). sectioned b c) l e ∙ told
        where
          told : sectioned false (passes N P) ≡ passes N P
          told = refl

      outcome_as : (s : List ℕ) → map_checked_in M R k target (checks_of R k net contents) area s ≡ map_written R (mapped_in M N k target P) area s
      unfolding map_checked_in
      outcome_as s = ap (λ (c : Checked k). map_checked_in M R k target c area s) passing

      image_as : loader_checked_in M k target (checks_of R k net contents) loader ≡ loader_written (mapped_in M N k target P) loader
      unfolding loader_checked_in
      image_as = ap (λ (c : Checked k). loader_checked_in M k target c loader) passing

      cells_as : contents_checked M (λ N. kept_after pairs N (section_of R k net)) k target (checks_of R k net contents) contents ≡ contents_written (kept_after pairs N (section_of R k net)) (mapped_in M N k target P) contents
      unfolding contents_checked
      cells_as = ap (λ (c : Checked k). contents_checked M (λ N. kept_after pairs N (section_of R k net)) k target c contents) passing

      -- **12 or 22**
      maps-unmet : 1 ≤ target → ¬ ReachableIn M N k target → MapsTo M R k target net pairs area area loader loader contents contents (turned_back (unmet M))
      unfolding map_written loader_written contents_written
      maps-unmet h n =
          let z = mapped-none M P target h n in
          record {
            small = unmet-small M;
            outcome = λ s. outcome_as s ∙ ap (λ (m : MappedIn M N k). map_written R m area s) z;
            image = image_as ∙ ap (λ (m : MappedIn M N k). loader_written m loader) z;
            cells = cells_as ∙ ap (λ (m : MappedIn M N k). contents_written (kept_after pairs N (section_of R k net)) m contents) z;
          }

      -- **a cover: the definition's record, image and contents are those of the arrays**
      maps-covered : Offered R → {a : Kept} {area' loader' contents' : List ℕ} {n : ℕ} → Covered M N k target a → length (cover_bytes long a.period (entries_in a)) ≤ cover_area
          → n ≡ length (cover_bytes long a.period (entries_in a)) → area' ≡ written (cover_bytes long a.period (entries_in a)) area → loader' ≡ loaded (entries_in a) loader
          → contents' ≡ filled N (entries_in a) (kept_after pairs N (section_of R k net)) contents → MapsTo M R k target net pairs area area' loader loader' contents contents' (accepted n)
      unfolding map_written loader_written contents_written
      maps-covered o {a} {area'} {loader'} {contents'} {n} c few d f i j =
          let x = mapped-some M P target c in
          let same : entries x.key ≡ entries_in a = entries_unique P x.key c.key ∙ c.same in
          record {
            small = omega (arith, few, d);
            outcome = λ s. outcome_as s ∙ ap (λ (m : MappedIn M N k). map_written R m area s) x.is ∙ ap (λ (es : List Entry). writing R (cover_bytes R a.period es) area s) same
                ∙ ap (λ (bytes : List ℕ). writing R bytes area s) (offered_bytes o a.period (entries_in a))
                ∙ ap₂ (λ (m : ℕ) (l : List ℕ). record { answer = accepted m; area = l; scratch = cleared R.scratch s }) (sym d) (sym f);
            image = image_as ∙ ap (λ (m : MappedIn M N k). loader_written m loader) x.is ∙ ap (λ (es : List Entry). loaded es loader) same ∙ sym i;
            cells = cells_as ∙ ap (λ (m : MappedIn M N k). contents_written (kept_after pairs N (section_of R k net)) m contents) x.is
                ∙ ap (λ (es : List Entry). filled N es (kept_after pairs N (section_of R k net)) contents) same ∙ sym j;
          }

-- a refusal's number may be named by any equal one
refused_as : {M : Mode} {R : Rules} {k target n r : ℕ} {net pairs area loader contents : List ℕ} → r ≡ n → MapsTo M R k target net pairs area area loader loader contents contents (turned_back n)
    → MapsTo M R k target net pairs area area loader loader contents contents (turned_back r)
refused_as {M} {R} {k} {target} {net = net} {pairs = pairs} {area = area} {loader = loader} {contents = contents} e m =
    subst (λ (x : ℕ). MapsTo M R k target net pairs area area loader loader contents contents (turned_back x)) (sym e) m

module _ {c : Call} {N : Net} (section pairs area loader contents : List ℕ) where
  -- **a refusal**
  net-refused : {W : Type 0} {r : ℕ} → Ended (mode_of c.forward) c.lacks c.k c.target N W r → 0 < r → MapsNet c N section pairs area area loader loader contents contents (turned_back r)
  net-refused (settling.loops e n) h = record {
    maps = λ R o net q s l. refused_as e (maps-early (mode_of c.forward) R c.k c.target net pairs area loader contents 9 (omega arith) (check-loop R c.k net N [] q n));
  }
  net-refused (settling.cut_off e l n) h = record {
    maps = λ R o net q s y. refused_as e (maps-early (mode_of c.forward) R c.k c.target net pairs area loader contents 10 (omega arith) (check-unreached R c.k net N [] q l n));
  }
  net-refused (settling.idle e l t n) h = record {
    maps = λ R o net q s y. refused_as e (maps-early (mode_of c.forward) R c.k c.target net pairs area loader contents 11 (omega arith) (check-unled R c.k net N [] q l t n));
  }
  net-refused (settling.sectionless e P b) h = record {
    maps = λ R o net q s y.
        let t = check-passes R c.k net N [] q P.loopless P.reached P.leading in
        refused_as e (maps_lacks (mode_of c.forward) R c.k c.target net pairs area loader contents t.0 t.1 (ap (lacking contents) s ∙ y ∙ b));
  }
  net-refused (settling.unreachable e P b h' n) h = record {
    maps = λ R o net q s y.
        let t = check-passes R c.k net N [] q P.loopless P.reached P.leading in
        refused_as e (maps-unmet (mode_of c.forward) R c.k c.target net pairs area loader contents t.0 t.1 (ap (lacking contents) s ∙ y ∙ b) h' n);
  }
  net-refused (settling.covered e P b w) h = absurd (none e h)
    where
      none : {r : ℕ} → r ≡ 0 → 0 < r → ⊥
      none e h = omega arith

  -- its number as a byte
  pub net-refused_as : {W : Type 0} {r n : ℕ} → Ended (mode_of c.forward) c.lacks c.k c.target N W r → 0 < r → n ≡ r → MapsNet c N section pairs area area loader loader contents contents (turned_back n)
  net-refused_as t h e = subst (λ (x : ℕ). MapsNet c N section pairs area area loader loader contents contents (turned_back x)) (sym e) (net-refused t h)

  -- **a cover**
  pub net-covered : {a : Kept} {area' loader' contents' : List ℕ} {n : ℕ} → CoverSettled (mode_of c.forward) c.lacks c.k c.target N a
      → length (cover_bytes long a.period (entries_in a)) ≤ cover_area → n ≡ length (cover_bytes long a.period (entries_in a))
      → area' ≡ written (cover_bytes long a.period (entries_in a)) area → loader' ≡ loaded (entries_in a) loader → contents' ≡ filled N (entries_in a) (kept_after pairs N section) contents
      → MapsNet c N section pairs area area' loader loader' contents contents' (accepted n)
  net-covered {a} {contents' = contents'} u few d e i j = record {
    maps = λ R o net q s y.
        let P = u.passed in
        let t = check-passes R c.k net N [] q P.loopless P.reached P.leading in
        maps-covered (mode_of c.forward) R c.k c.target net pairs area loader contents t.0 t.1 (ap (lacking contents) s ∙ y ∙ u.sectioned) o u.cover few d e i
        (subst (λ (x : List ℕ). contents' ≡ filled N (entries_in a) (kept_after pairs N x) contents) (sym s) j);
  }
