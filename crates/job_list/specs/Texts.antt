-- From what was read and settled to the text that the definition has.
use Rattle.std.specs.Prelude.{◌≡◌, refl, false, List, [], ℕ, ◌≤◌, ◌<◌, length, get_or, drop, Ok}
use Rattle.std.proofs.Common.{sym, ap, subst, subst₂, ◌∙◌, arith, zero-add, length-append}
use Rattle.std.proofs.lemmas.Bool.{false≢true}
use Rattle.sequences.specs.Member.{◌∈◌}
use Rattle.net_model.specs.Net.{Net}
use Rattle.net_model.specs.Arrays.{net_in, pins_in}
use Rattle.net_model.specs.PackedNet.{outs_at, delays_at, NetKept}
use Rattle.net_model.specs.PackedNetLaws.{length_part}
use Rattle.net_model.specs.ArrayLaws.{outputs-net_in}
use Rattle.net_model.specs.Checks.{Passed}
use Rattle.limits.specs.Limits.{most_gates, most_packed, cover_area, text_room}
use Rattle.limits.specs.Courses.{long, is-long}
use Rattle.net_bytes.specs.Reading.{Result, got, refused}
use Rattle.net_bytes.specs.Walk.{net_reader}
use Rattle.net_bytes.specs.Sound.{walk-facts, walk-sound, walk-fits}
use Rattle.label_theory.specs.Labels.{plain}
use Rattle.cover_theory.specs.Key.{Entry}
use Rattle.cover_records.specs.Kept.{Kept, entries_in}
use Rattle.cover_records.specs.Listing.{refusal_text, entry_taps}
use Rattle.cover_records.specs.TapLaws.{key-sources}
use Rattle.cover_records.specs.Outcomes.{Checked, passes, fails, check_net, mapped}
use Rattle.cover_records.specs.Program.{list_mapped, list_checked}
use Rattle.net_reader.specs.ReadAnswer.{arrays_of, result_of}
use Rattle.net_reader.specs.WalkFacts.{read-gives, read-facts}
use Rattle.net_reader.specs.ReadWires.{room-read}
use Rattle.net_reader.specs.declared.NetSizes.{NetSizes}
use Rattle.cover_writer.specs.Writing.{Wrote}
use Rattle.cover_records.specs.CheckLaws.{check-refused, check-loop, check-unreached, check-unled, check-passes}
use Rattle.job_sizes.specs.Sizes.{Fit}
use Rattle.job_settle.specs.Settling.{Settling, Ended}
use Rattle.job_settle.specs.Settling as settling
use Rattle.text_digits.specs.PutLaws.{wrote_as}
use Rattle.text_listing.specs.Text.{Listable, FedBy, Lists}
use Rattle.job_settle.specs.Settling.{CoverSettled}
use Rattle.job_settle.specs.SettlingLaws.{settling-same, settling-kept}
use Rattle.job_record.specs.Recording.{Long, cover-writable}
use Rattle.job_list.specs.Asked.{Listing, ListsNet}
use Rattle.job_list.specs.Lines.{listed-cover, listed-none}

-- a check failed
pub list-fails : (k target n : ℕ) (net : List ℕ) → check_net long k net ≡ fails n → list_checked k target (check_net long k net) ≡ refusal_text n
unfolding list_checked
list-fails k target n net e = ap (λ (c : Checked k). list_checked k target c) e

-- all passed
list-passes : (k target : ℕ) (net : List ℕ) (N : Net) (P : Passed N k) → check_net long k net ≡ passes N P → list_checked k target (check_net long k net) ≡ list_mapped (mapped N k target P)
unfolding list_checked
list-passes k target net N P e = ap (λ (c : Checked k). list_checked k target c) e

module _ {k target : ℕ} {N : Net} where
  -- the number of the refusal
  refused-text : {W : Type 0} {r : ℕ} → Ended plain false k target N W r → 0 < r → (net : List ℕ) → net_reader long k net ≡ got N [] → list_checked k target (check_net long k net) ≡ refusal_text r
  refused-text (settling.loops e n) h net q = list-fails k target 9 net (check-loop long k net N [] q n) ∙ ap refusal_text (sym e)
  refused-text (settling.cut_off e l n) h net q = list-fails k target 10 net (check-unreached long k net N [] q l n) ∙ ap refusal_text (sym e)
  refused-text (settling.idle e l t n) h net q = list-fails k target 11 net (check-unled long k net N [] q l t n) ∙ ap refusal_text (sym e)
  refused-text (settling.sectionless e P l) h net q = absurd (false≢true l)
  refused-text (settling.unreachable e P l h' n) h net q =
      let t = check-passes long k net N [] q P.loopless P.reached P.leading in
      list-passes k target net N t.0 t.1 ∙ listed-none t.0 target h' n ∙ ap refusal_text (sym e)
  refused-text (settling.covered e P l c) h net q = absurd (none e h)
    where
      none : {r : ℕ} → r ≡ 0 → 0 < r → ⊥
      none e h = omega arith

  -- **a refusal**
  pub lists-refused : {W : Type 0} {r m n : ℕ} {before after : List ℕ} → Ended plain false k target N W r → 0 < r → m ≡ r → Wrote (refusal_text m) before after n → ListsNet k target N before after n
  lists-refused s h d t = record { lists = λ net q. wrote_as (refused-text s h net q ∙ ap refusal_text (sym d)) t }

  -- what feeds the cover are nodes of the net
  cover-fed : {a : Kept} → CoverSettled plain false k target N a → (net : List ℕ) → net_reader long k net ≡ got N [] → FedBy N (entries_in a)
  cover-fed u net q = record {
    few = let f = (walk-facts long k net N [] q).0 in omega arith;
    nodes = λ t m. key-sources u.passed.sound u.cover.key t (subst (λ (es : List Entry). t ∈ entry_taps N es) (sym u.cover.same) m);
  }

  -- **a cover**
  pub lists-covered : {a : Kept} {r : ℕ} {before after : List ℕ} → CoverSettled plain false k target N a → {os oc : List ℕ} {n : ℕ} → N.outputs ≡ pins_in os oc 0 n → Lists a os oc n before after r → ListsNet k target N before after r
  lists-covered {a} u o l = record {
    lists = λ net q.
        let P = u.passed in
        let t = check-passes long k net N [] q P.loopless P.reached P.leading in
        wrote_as (list-passes k target net N t.0 t.1 ∙ listed-cover t.0 target u.cover) (l.each N o (cover-fed u net q));
  }

-- ---- the outputs stand in the slice after checks and cover
module _ {k target : ℕ} {z : NetSizes} {net ts net' : List ℕ} (g : Settling k target z net ts) (q : NetKept z.inputs z.gates net net') where
  abbrev os : List ℕ
  os = drop (outs_at z.inputs z.gates) net'

  abbrev oc : List ℕ
  oc = drop (delays_at z.inputs z.gates z.outputs) net'

  pub lists-cover : {a : Kept} {r : ℕ} {before after : List ℕ} → CoverSettled plain false k target (net_in (arrays_of z net ts)) a → Lists a os oc z.outputs before after r
      → ListsNet k target (net_in (arrays_of z net ts)) before after r
  lists-cover u l = lists-covered u (ap (λ (N : Net). N.outputs) (sym (settling-same g q)) ∙ outputs-net_in (arrays_of z net' ts)) l

  -- what the text asks
  pub cover_listable : {a : Kept} {out : List ℕ} → text_room ≤ length out → a.inputs ≡ z.inputs → a.gates ≡ z.gates → Long a → CoverSettled plain false k target (net_in (arrays_of z net ts)) a
      → Listable a os oc z.outputs out
  cover_listable {a} {out} room i e sizes u =
      let x = cover-writable g i e sizes u.passed u.cover out (omega (arith, room)) in
      let s = settling-kept g q in
      let f = s.facts in
      record {
        arrays = x.arrays;
        luts = x.luts;
        gates = let h = f.gates-high in omega arith;
        sources = length_part net' (outs_at z.inputs z.gates) z.outputs (omega (arith, s.room.packed));
        counts = length_part net' (delays_at z.inputs z.gates z.outputs) z.outputs (omega (arith, s.room.packed));
        small = record { each = λ j h. let b = f.out-count j h in let y = ap (λ (n : ℕ). get_or oc n 0) (zero-add j) in omega arith };
        room = room;
      }

-- **refusals 4 to 8**
pub walk_refused : (k target : ℕ) (bytes : List ℕ) {n m c : ℕ} {before after : List ℕ} → net_reader long k bytes ≡ refused n → m ≡ n → Wrote (refusal_text m) before after c
    → Wrote (list_checked k target (check_net long k bytes)) before after c
walk_refused k target bytes {n} e d t = wrote_as (list-fails k target n bytes (check-refused long k bytes n e) ∙ ap refusal_text (sym d)) t

module _ (k target : ℕ) (bytes : List ℕ) (z : NetSizes) (net ts : List ℕ) (e : net_reader long k bytes ≡ result_of (Ok z) net ts) where
  abbrev N : Net
  N = net_in (arrays_of z net ts)

  module _ {k' target' : ℕ} (a : k' ≡ k) (b : target' ≡ target) where
    pub walk-listing : {area scratch : ℕ} → length net ≡ most_packed → length ts ≡ most_gates → Fit long k target area scratch → {out : List ℕ} → text_room ≤ length out → Listing k' target' z net ts out
    walk-listing ln lt fit {out} room =
        let facts = read-facts long k bytes z net ts e is-long in
        subst₂ (λ (x y : ℕ). Listing x y z net ts out) (sym a) (sym b) (record {
          settling = record {
            facts = facts;
            room = room-read facts ln lt;
            sound = walk-sound long k bytes N [] (read-gives long k bytes z net ts e);
            fits = walk-fits long k bytes N [] (read-gives long k bytes z net ts e);
            low = fit.low;
            high = fit.high;
            near = fit.near;
          };
          room = room;
        })

    pub walk-lists : {before after : List ℕ} {c : ℕ} → ListsNet k' target' N before after c → Wrote (list_checked k target (check_net long k bytes)) before after c
    walk-lists {before} {after} {c} m = (subst₂ (λ (x y : ℕ). ListsNet x y N before after c) a b m).lists bytes (read-gives long k bytes z net ts e)
