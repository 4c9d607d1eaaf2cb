-- From what the parts of mark tell to the answer that the definition has.
use Rattle.std.specs.Prelude.{◌≡◌, false, ℕ, ◌-◌, ◌≤◌, ◌<◌, ℤ, Ok}
use Rattle.std.proofs.Common.{sym, subst, ◌∙◌, arith}
use Rattle.std.proofs.Math.Path.{ap}
use Rattle.std.proofs.lemmas.Bool.{false≢true}
use mathlib.Core.List.{List, []}
use Rattle.net_model.specs.Net.{Net}
use Rattle.net_model.specs.Arrays.{net_in}
use Rattle.net_model.specs.ArrayLaws.{inputs-net_in, size-net_in, outputs-net_in}
use Rattle.net_model.specs.WiredLaws.{net_in-wired}
use Rattle.net_model.specs.Checks.{Passed}
use Rattle.net_model.specs.Copies.{copy}
use Rattle.net_model.specs.PackedNet.{outs_at, delays_at, NetKept}
use Rattle.net_model.specs.PackedNetLaws.{length_part}
use Rattle.limits.specs.Limits.{most_period, most_luts}
use Rattle.limits.specs.Courses.{Offered}
use Rattle.limits.specs.CourseLaws.{offered_within}
use Rattle.limits.specs.declared.Rules.{Rules}
use Rattle.net_bytes.specs.Reading.{got, refused}
use Rattle.net_bytes.specs.Walk.{net_reader}
use Rattle.cone_theory.specs.Ranks.{ranked}
use Rattle.label_theory.specs.Labels.{plain}
use Rattle.cover_theory.specs.Covers.{LeastPeriod}
use Rattle.cover_period.specs.Period.{least_period-is, least_period_unique}
use Rattle.cover_records.specs.Accepted.{Covering, excess-is}
use Rattle.cover_records.specs.CoverBytes.{cover_reader}
use Rattle.cover_records.specs.Held.{Held}
use Rattle.cover_records.specs.Outcomes.{Answer, accepted, turned_back, Checked, fails, check_net, mark_read, mark_checked}
use Rattle.net_reader.specs.ReadAnswer.{arrays_of}
use Rattle.net_reader.specs.declared.NetSizes.{NetSizes}
use Rattle.cover_cuts.specs.Cuts.{CutAs}
use Rattle.cover_links.specs.Links.{LinkedAs}
use Rattle.cover_links.specs.LinkLaws.{well_held_wired}
use Rattle.cover_records.specs.CheckLaws.{check-refused, check-loop, check-unreached, check-unled, check-passes}
use Rattle.job_plan.specs.Ready.{net-wires, tabled-net_in}
use Rattle.job_settle.specs.Settling.{Ended, LeastOf}
use Rattle.job_settle.specs.Settling as settling
use Rattle.job_settle.specs.SettlingLaws.{settling-same, settling-kept, ended-passing}
use Rattle.cover_reader.specs.Reads.{CoverKept, held_in, Spacious, record_of}
use Rattle.cover_reader.specs.declared.Candidate.{Candidate}
use Rattle.job_judge.specs.MarkAnswers.{InRange}
use Rattle.job_judge.specs.JudgeMarking.{Judging, HeldFor, CutsAsked, CutsToldOf, LinksAsked, LinksToldOf, MarksTo, MarksNet, MarksRead}
use Rattle.job_judge.specs.Judged.{cuts-sure, links_sure, cuts-small, links_small, read-cuts, read_links, read_right}

-- a check of the net failed
pub marks-fails : (R : Rules) (k n : ℕ) (net bytes : List ℕ) → n < 256 → check_net R k net ≡ fails n → MarksTo R k net bytes (turned_back n)
unfolding mark_checked
marks-fails R k n net bytes h e = record { small = h; outcome = ap (λ (c : Checked k). mark_checked R k c bytes) e }

pub marks-refused : (R : Rules) (k n : ℕ) (net bytes : List ℕ) → n < 256 → net_reader R k net ≡ refused n → MarksTo R k net bytes (turned_back n)
marks-refused R k n net bytes h e = marks-fails R k n net bytes h (check-refused R k net n e)

module _ (R : Rules) {k : ℕ} {N : Net} (bytes : List ℕ) where
  -- **9, 10 and 11**
  pub net-refused : {W : Type 0} {r n : ℕ} → Ended plain false k 0 N W r → 0 < r → n ≡ r → MarksNet R k N bytes (turned_back n)
  net-refused {n = n} (settling.loops e q) h f = record { marks = λ net i. marks-fails R k n net bytes (omega arith) (check-loop R k net N [] i q ∙ ap fails (sym (f ∙ e))) }
  net-refused {n = n} (settling.cut_off e l q) h f = record { marks = λ net i. marks-fails R k n net bytes (omega arith) (check-unreached R k net N [] i l q ∙ ap fails (sym (f ∙ e))) }
  net-refused {n = n} (settling.idle e l t q) h f = record { marks = λ net i. marks-fails R k n net bytes (omega arith) (check-unled R k net N [] i l t q ∙ ap fails (sym (f ∙ e))) }
  net-refused (settling.sectionless e P l) h f = absurd (false≢true l)
  net-refused (settling.unreachable e P l h' q) h f = absurd (none h')
    where
      none : 1 ≤ 0 → ⊥
      none h = omega arith
  net-refused (settling.covered e P l c) h f = absurd (none e h)
    where
      none : {r : ℕ} → r ≡ 0 → 0 < r → ⊥
      none e h = omega arith

  -- a net that passes: the answer of the record's reading
  pub net-marks : Passed N k → {y : Answer} → InRange y → ((Q : Passed N k) → mark_read N k Q (cover_reader R N k bytes) ≡ y) → MarksNet R k N bytes y
  unfolding mark_checked
  net-marks P {y} h f = record {
    marks = λ net q.
        let t = check-passes R k net N [] q P.loopless P.reached P.leading in
        record { small = h; outcome = ap (λ (c : Checked k). mark_checked R k c bytes) t.1 ∙ f t.0 };
  }

-- the least period, with the slice written in other parts
pub least_judging : {k : ℕ} {sizes : NetSizes} {net ts net' : List ℕ} {φ : ℕ} → settling.Settling k 0 sizes net ts → NetKept sizes.inputs sizes.gates net net'
    → LeastOf k (net_in (arrays_of sizes net ts)) (Ok φ) → Judging k sizes net' ts φ
least_judging {k} {sizes} {net} {ts} {φ = φ} g q l =
    let u = ended-passing l (omega arith) in
    let e = settling-same g q in
    record {
      settling = settling-kept g q;
      passed = subst (λ (N : Net). Passed N k) (sym e) u.passed;
      least = subst (λ (N : Net). LeastPeriod N k φ) (sym e) u.wanted;
    }

-- the answer is that for the net as it was
pub marks-same : {R : Rules} {k : ℕ} {sizes : NetSizes} {net ts net' bytes : List ℕ} {y : Answer} → settling.Settling k 0 sizes net ts → NetKept sizes.inputs sizes.gates net net'
    → MarksNet R k (net_in (arrays_of sizes net' ts)) bytes y → MarksNet R k (net_in (arrays_of sizes net ts)) bytes y
marks-same {R} {k} {bytes = bytes} {y = y} g q m = subst (λ (N : Net). MarksNet R k N bytes y) (settling-same g q) m

module _ {k : ℕ} {sizes : NetSizes} {net ts : List ℕ} {least : ℕ} (j : Judging k sizes net ts least) where
  abbrev N : Net
  N = net_in (arrays_of sizes net ts)

  -- **13**
  pub judged-broken : (R : Rules) (bytes : List ℕ) → cover_reader R N k bytes ≡ refused 13 → MarksNet R k N bytes (turned_back 13)
  unfolding mark_read
  judged-broken R bytes e = net-marks R bytes j.passed (omega arith) (λ Q. ap (mark_read N k Q) e)

  module _ (c : Candidate) (rows : List ℕ) (lags : List ℤ) (luts : List ℕ) where
    abbrev a : Held
    a = held_in c.luts rows lags luts

    -- what 14 and 15 tell of the record
    pub cut_as : {r : ℕ} → CutsToldOf sizes net ts k c.luts rows luts r → CutAs N k (record_of c a).entries r
    cut_as t = t.tells N (net_in-wired (arrays_of sizes net ts)) (tabled-net_in (arrays_of sizes net ts)) (ranked j.passed.reached) j.passed.loopless lags

    -- what 16, 17 and 18 tell of it
    pub linked_as : {r : ℕ} → LinksToldOf sizes net c.luts rows lags c.period r → LinkedAs N (record_of c a).period (record_of c a).entries r
    linked_as t = t.tells N (inputs-net_in (arrays_of sizes net ts)) (size-net_in (arrays_of sizes net ts)) (outputs-net_in (arrays_of sizes net ts)) luts

    read-marks : {y : Answer} → InRange y → ((Q : Passed N k) → mark_read N k Q (got (record_of c a) []) ≡ y) → MarksRead k N c a y
    read-marks h f = record { marks = λ R bytes e. net-marks R bytes j.passed h (λ Q. ap (mark_read N k Q) e ∙ f Q) }

    -- **14, 15**
    pub judged-cuts : {r n : ℕ} → CutAs N k (record_of c a).entries r → 0 < r → n ≡ r → MarksRead k N c a (turned_back n)
    judged-cuts {r} t h e = subst (λ (x : ℕ). MarksRead k N c a (turned_back x)) (sym e) (read-marks (cuts-small (record_of c a) t) (λ Q. read-cuts Q (record_of c a) t h))

    -- **16, 17, 18**
    pub judged_links : {m r n : ℕ} → CutAs N k (record_of c a).entries m → m ≤ 0 → LinkedAs N (record_of c a).period (record_of c a).entries r → 0 < r → n ≡ r → MarksRead k N c a (turned_back n)
    judged_links t z l h e = subst (λ (x : ℕ). MarksRead k N c a (turned_back x)) (sym e) (read-marks (links_small (record_of c a) l) (λ Q. read_links Q (record_of c a) (cuts-sure (record_of c a) t z) l h))

    module _ {m r : ℕ} (t : CutAs N k (record_of c a).entries m) (z : m ≤ 0) (l : LinkedAs N (record_of c a).period (record_of c a).entries r) (z' : r ≤ 0) where
      -- the excess is not below 0
      pub no_less : 1 ≤ c.period → least ≤ c.period
      no_less h =
          let p = cuts-sure (record_of c a) t z in
          let b = links_sure (record_of c a) l z' in
          let v : Covering N k (record_of c a).entries = record { roots = λ e i. let x = p.cuts e i in x.is_cone.gates (copy e.root 0) x.is_cone.root; cuts = p.cuts; fed = b.fed; enough = b.enough } in
          subst (λ (x : ℕ). x ≤ c.period) (least_period_unique (least_period-is j.passed) j.least) (excess-is j.passed h v b.short)

      -- **the excess**
      pub judged-right : c.period ≤ most_period → MarksRead k N c a (accepted (c.period - least))
      judged-right h = read-marks (omega arith)
          (λ Q. read_right Q (record_of c a) (cuts-sure (record_of c a) t z) (links_sure (record_of c a) l z') ∙ ap (λ (x : ℕ). accepted (c.period - x)) (least_period_unique (least_period-is Q) j.least))

-- ---- what the checks are asked

module _ {k : ℕ} {sizes : NetSizes} {net ts : List ℕ} {c : Candidate} {rows : List ℕ} {lags : List ℤ} {luts : List ℕ} (h : HeldFor k sizes net ts c rows lags luts) where
  pub held-cutting : CutsAsked k sizes net ts c.luts rows luts
  held-cutting = record {
    cutting = record {
      wires = net-wires h.settling.facts h.settling.room;
      at_tables = h.settling.room.tabled;
      few = h.settling.high;
      at_roots = h.well.at_roots;
      at_sizes = h.well.at_sizes;
      at_nodes = h.well.at_nodes;
      at_backs = h.well.at_backs;
      low = h.well.low;
      high = h.well.high;
      most = h.well.few;
      rising = h.well.rising;
    };
    room = h.settling.room;
    at_rows = h.space.at_rows;
    tables = h.space.at_tables;
    few = h.few;
  }

  pub held-linking : LinksAsked sizes net c.luts rows lags c.period
  held-linking = record {
    linking = record {
      luts = well_held_wired (held_in c.luts rows lags luts) h.well h.settling.facts.inputs-high h.settling.facts.gates-high h.settling.high h.few;
      limit = h.high;
      at_outs = length_part net (outs_at sizes.inputs sizes.gates) sizes.outputs (omega (arith, h.settling.room.packed));
      at_delays = length_part net (delays_at sizes.inputs sizes.gates sizes.outputs) sizes.outputs (omega (arith, h.settling.room.packed));
      out = h.settling.facts.out-source;
      delay = h.settling.facts.out-count;
    };
    packed = h.settling.room.packed;
    gates = h.settling.facts.gates-high;
    at_rows = h.space.at_rows;
    few = h.few;
  }

-- a record that was read is held
pub read_held : {R : Rules} {k : ℕ} {sizes : NetSizes} {net ts : List ℕ} {c : Candidate} {bytes rows : List ℕ} {lags : List ℤ} {luts : List ℕ} → Offered R → settling.Settling k 0 sizes net ts
    → CoverKept R bytes sizes.inputs sizes.gates k c (held_in c.luts rows lags luts) → Spacious most_luts rows lags luts → HeldFor k sizes net ts c rows lags luts
read_held o g r z =
    let most = offered_within o in
    let high = r.high_period in
    let few = r.few in
    let period = most.period in
    let luts = most.luts in
    record {
      settling = g;
      well = r.well;
      space = record { at_rows = omega (arith, z.at_rows); at_lags = omega (arith, z.at_lags); at_tables = omega (arith, z.at_tables) };
      low = r.low_period;
      high = omega arith;
      few = omega arith;
    }
