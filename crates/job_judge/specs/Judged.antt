-- From what checks 14 to 18 tell to the answer that the definition has.
use Rattle.std.specs.Prelude.{◌≡◌, [], ℕ, ◌-◌, ◌≤◌, ◌<◌}
use Rattle.std.proofs.Math.Path.{refl}
use Rattle.std.proofs.Common.{sym, ap, ◌∙◌, arith}
use Rattle.net_model.specs.Net.{Net}
use Rattle.net_model.specs.Checks.{Passed}
use Rattle.net_bytes.specs.Reading.{got}
use Rattle.cone_theory.specs.Ranks.{ranked}
use Rattle.cover_period.specs.Period.{least_period}
use Rattle.cover_records.specs.CoverBytes.{Record}
use Rattle.cover_records.specs.MarkingDecided.{cuts_right?, tables_right?, all_fed?, enough?, short_chains?}
use Rattle.cover_records.specs.Marking.{CutsRight, TablesRight, AllFed, EnoughRegisters, ShortChains}
use Rattle.cover_records.specs.Outcomes.{Answer, accepted, turned_back, judged, mark_read}
use Rattle.cover_cuts.specs.Cuts.{CutAs}
use Rattle.cover_cuts.specs.Cuts as cuts
use Rattle.cover_links.specs.Links.{LinkedAs}
use Rattle.cover_links.specs.Links as links

module _ (N : Net) (k : ℕ) (r : Record) (x : ℕ) where
  abbrev Answers : Answer → Type 0
  Answers y = (a : Dec (CutsRight N k r.entries)) (b : Dec (TablesRight N k r.entries)) (c : Dec (AllFed N r.entries)) (d : Dec (EnoughRegisters N r.entries))
      (e : Dec (ShortChains N r.period r.entries)) → judged N k r a b c d e x ≡ y

  judged_14 : ¬ CutsRight N k r.entries → Answers (turned_back 14)
  unfolding judged
  judged_14 n (yes p) b c d e = absurd (n p)
  judged_14 n (no p) b c d e = refl

  judged_15 : CutsRight N k r.entries → ¬ TablesRight N k r.entries → Answers (turned_back 15)
  unfolding judged
  judged_15 u n (no p) b c d e = absurd (p u)
  judged_15 u n (yes p) (yes q) c d e = absurd (n q)
  judged_15 u n (yes p) (no q) c d e = refl

  module _ (u : CutsRight N k r.entries) (v : TablesRight N k r.entries) where
    judged_16 : ¬ AllFed N r.entries → Answers (turned_back 16)
    unfolding judged
    judged_16 n (no p) b c d e = absurd (p u)
    judged_16 n (yes p) (no q) c d e = absurd (q v)
    judged_16 n (yes p) (yes q) (yes s) d e = absurd (n s)
    judged_16 n (yes p) (yes q) (no s) d e = refl

    judged_17 : AllFed N r.entries → ¬ EnoughRegisters N r.entries → Answers (turned_back 17)
    unfolding judged
    judged_17 w n (no p) b c d e = absurd (p u)
    judged_17 w n (yes p) (no q) c d e = absurd (q v)
    judged_17 w n (yes p) (yes q) (no s) d e = absurd (s w)
    judged_17 w n (yes p) (yes q) (yes s) (yes t) e = absurd (n t)
    judged_17 w n (yes p) (yes q) (yes s) (no t) e = refl

    judged_18 : AllFed N r.entries → EnoughRegisters N r.entries → ¬ ShortChains N r.period r.entries → Answers (turned_back 18)
    unfolding judged
    judged_18 w y n (no p) b c d e = absurd (p u)
    judged_18 w y n (yes p) (no q) c d e = absurd (q v)
    judged_18 w y n (yes p) (yes q) (no s) d e = absurd (s w)
    judged_18 w y n (yes p) (yes q) (yes s) (no t) e = absurd (t y)
    judged_18 w y n (yes p) (yes q) (yes s) (yes t) (yes z) = absurd (n z)
    judged_18 w y n (yes p) (yes q) (yes s) (yes t) (no z) = refl

    judged-all : AllFed N r.entries → EnoughRegisters N r.entries → ShortChains N r.period r.entries → Answers (accepted x)
    unfolding judged
    judged-all w y z (no p) b c d e = absurd (p u)
    judged-all w y z (yes p) (no q) c d e = absurd (q v)
    judged-all w y z (yes p) (yes q) (no s) d e = absurd (s w)
    judged-all w y z (yes p) (yes q) (yes s) (no t) e = absurd (t y)
    judged-all w y z (yes p) (yes q) (yes s) (yes t) (no i) = absurd (i z)
    judged-all w y z (yes p) (yes q) (yes s) (yes t) (yes i) = refl

-- what 14 and 15 ask
pub record Cuts (N : Net) (k : ℕ) (r : Record) : Type 0 where
  pub cuts : CutsRight N k r.entries
  pub tables : TablesRight N k r.entries

-- what 16, 17 and 18 ask
pub record Links (N : Net) (r : Record) : Type 0 where
  pub fed : AllFed N r.entries
  pub enough : EnoughRegisters N r.entries
  pub short : ShortChains N r.period r.entries

over : {n m : ℕ} → n ≡ m → 1 ≤ m → n ≤ 0 → ⊥
over e h l = omega arith

none : {n : ℕ} → n ≡ 0 → 0 < n → ⊥
none e h = omega arith

pub cuts-sure : {N : Net} {k n : ℕ} (r : Record) → CutAs N k r.entries n → n ≤ 0 → Cuts N k r
cuts-sure r (cuts.no_cut e q) h = absurd (over e (omega arith) h)
cuts-sure r (cuts.wrong e p q) h = absurd (over e (omega arith) h)
cuts-sure r (cuts.right e p q) h = record { cuts = p; tables = q }

pub links_sure : {N : Net} {n : ℕ} (r : Record) → LinkedAs N r.period r.entries n → n ≤ 0 → Links N r
links_sure r (links.unfed e q) h = absurd (over e (omega arith) h)
links_sure r (links.short e p q) h = absurd (over e (omega arith) h)
links_sure r (links.long e p q s) h = absurd (over e (omega arith) h)
links_sure r (links.linked e p q s) h = record { fed = p; enough = q; short = s }

pub cuts-small : {N : Net} {k n : ℕ} (r : Record) → CutAs N k r.entries n → n < 256
cuts-small r (cuts.no_cut e q) = omega arith
cuts-small r (cuts.wrong e p q) = omega arith
cuts-small r (cuts.right e p q) = omega arith

pub links_small : {N : Net} {n : ℕ} (r : Record) → LinkedAs N r.period r.entries n → n < 256
links_small r (links.unfed e q) = omega arith
links_small r (links.short e p q) = omega arith
links_small r (links.long e p q s) = omega arith
links_small r (links.linked e p q s) = omega arith

module _ {N : Net} {k : ℕ} (P : Passed N k) (r : Record) where
  read_as : {y : Answer} → Answers N k r (r.period - least_period P) y → mark_read N k P (got r []) ≡ y
  unfolding mark_read
  read_as f = f (cuts_right? (ranked P.reached) k r.entries) (tables_right? P r.entries) (all_fed? N r.entries) (enough? N r.entries) (short_chains? N r.period r.entries)

  -- **14 or 15**
  pub read-cuts : {n : ℕ} → CutAs N k r.entries n → 0 < n → mark_read N k P (got r []) ≡ turned_back n
  read-cuts (cuts.no_cut e q) h = read_as (judged_14 N k r (r.period - least_period P) q) ∙ ap turned_back (sym e)
  read-cuts (cuts.wrong e p q) h = read_as (judged_15 N k r (r.period - least_period P) p q) ∙ ap turned_back (sym e)
  read-cuts (cuts.right e p q) h = absurd (none e h)

  -- **16, 17 or 18**
  pub read_links : {n : ℕ} → Cuts N k r → LinkedAs N r.period r.entries n → 0 < n → mark_read N k P (got r []) ≡ turned_back n
  read_links c (links.unfed e q) h = read_as (judged_16 N k r (r.period - least_period P) c.cuts c.tables q) ∙ ap turned_back (sym e)
  read_links c (links.short e p q) h = read_as (judged_17 N k r (r.period - least_period P) c.cuts c.tables p q) ∙ ap turned_back (sym e)
  read_links c (links.long e p q s) h = read_as (judged_18 N k r (r.period - least_period P) c.cuts c.tables p q s) ∙ ap turned_back (sym e)
  read_links c (links.linked e p q s) h = absurd (none e h)

  -- **the excess**
  pub read_right : Cuts N k r → Links N r → mark_read N k P (got r []) ≡ accepted (r.period - least_period P)
  read_right c l = read_as (judged-all N k r (r.period - least_period P) c.cuts c.tables l.fed l.enough l.short)
