-- What the reader gave, and what it means to map.
use Rattle.std.specs.Prelude.{◌≡◌, Bool, true, false, ◌&&◌, List, [], ◌⊎◌, ℕ, ◌+◌, ◌-◌, ◌≤◌, ltb, eqb, length, take, drop, Ok}
use Rattle.std.proofs.Common.{sym, ap, ap₂, subst₂, ◌∙◌, true≢false, inl, inr, arith, lt-ltb, length-drop, length-take-le}
use Rattle.net_model.specs.Net.{Net, size}
use Rattle.net_model.specs.Arrays.{net_in}
use Rattle.net_model.specs.ArrayLaws.{size-net_in}
use Rattle.limits.specs.Limits.{contents_area, loader_area, most_gates, most_nodes, most_packed}
use Rattle.limits.specs.Courses.{Offered}
use Rattle.limits.specs.CourseLaws.{offered_within}
use Rattle.limits.specs.declared.Rules.{Rules}
use Rattle.net_bytes.specs.Reading.{got, refused}
use Rattle.net_bytes.specs.Walk.{drawn, drawn_reader, net_reader}
use Rattle.net_bytes.specs.Sound.{walk-sound, walk-fits, drawn-facts}
use Rattle.label_theory.specs.Labels.{Mode}
use Rattle.cover_records.specs.Outcomes.{Answer, turned_back}
use Rattle.cover_records.specs.ForwardOutcome.{section_of, lacking}
use Rattle.cover_records.specs.ForwardLaws.{section-read}
use Rattle.refusals.specs.declared.Refusal.{Refusal}
use Rattle.refusals.specs.Refusals.{number_of}
use Rattle.refusals.specs.RefusalLaws.{number_small}
use Rattle.net_reader.specs.ReadAnswer.{arrays_of, drawn_of}
use Rattle.net_reader.specs.NetLaws.{net-alone}
use Rattle.net_reader.specs.WalkFacts.{WalkFacts, read-facts}
use Rattle.net_reader.specs.ReadWires.{room-read}
use Rattle.net_reader.specs.declared.DrawnRead.{DrawnRead}
use Rattle.label_aim.specs.Aims.{mode_of}
use Rattle.job_sizes.specs.Sizes.{Fit, LentFits}
use Rattle.job_sizes.specs.SizeLaws.{fit-within}
use Rattle.job_settle.specs.Settling.{Settling}
use Rattle.job_settle.specs.declared.Call.{Call}
use Rattle.job_record.specs.Mapping.{Mapping, MapsTo, MapsNet}
use Rattle.job_record.specs.MapOutcomeLaws.{maps-refused}

-- what is lacking, by lengths
pub lacks_is : (contents l : List ℕ) (at : ℕ) {b : Bool} → b ≡ (ltb 0 (length contents) && eqb (length l - at) 0) → b ≡ lacking contents (take (length l - at) (drop at l))
lacks_is contents l at e =
    e ∙ ap (λ (n : ℕ). ltb 0 (length contents) && eqb n 0) (sym (length-take-le (length l - at) (drop at l) (omega (arith, length-drop at l))))

-- **refusals 4 to 8**
pub walk_refused : (R : Rules) (k target : ℕ) (bytes : List ℕ) (r : Refusal) → drawn_reader R k bytes ≡ refused (number_of r)
    → (M : Mode) (pairs area loader contents : List ℕ) → MapsTo M R k target bytes pairs area area loader loader contents contents (turned_back (number_of r))
walk_refused R k target bytes r e M pairs area loader contents =
    maps-refused M R k target bytes pairs area loader contents (number_of r) (let h = number_small r in omega arith) (net-alone R k bytes (refused (number_of r)) e)

module _ (R : Rules) (k target : ℕ) (bytes : List ℕ) (r : DrawnRead) (net ts : List ℕ) (e : drawn_reader R k bytes ≡ drawn_of (Ok r) net ts bytes) where
  abbrev N : Net
  N = net_in (arrays_of r.sizes net ts)

  gives : net_reader R k bytes ≡ got N []
  gives = net-alone R k bytes (got (drawn N (drop r.at bytes)) []) e

  module _ (offered : Offered R) (section : List ℕ) (rest : section ≡ drop r.at bytes) where
    drawn-got : drawn_reader R k bytes ≡ got (drawn N section) []
    drawn-got = e ∙ ap (λ (l : List ℕ). got (drawn N l) []) (sym rest)

    section-is : section_of R k bytes ≡ section
    section-is = section-read R k bytes (drawn N section) [] drawn-got

    -- a byte a node where a section is there
    section-whole : ¬ (length section ≡ 0) → r.sizes.inputs + r.sizes.gates ≤ length section
    section-whole some = by (drawn-facts R k bytes (drawn N section) [] drawn-got).0.long
      where
        by : (length section ≡ 0) ⊎ (length section ≡ size N) → r.sizes.inputs + r.sizes.gates ≤ length section
        by (inl p) = absurd (some p)
        by (inr p) = omega (arith, p, size-net_in (arrays_of r.sizes net ts))

    -- and never more
    section-short : WalkFacts k (arrays_of r.sizes net ts) → length section ≤ most_nodes
    section-short facts = by (drawn-facts R k bytes (drawn N section) [] drawn-got).0.long
      where
        by : (length section ≡ 0) ⊎ (length section ≡ size N) → length section ≤ most_nodes
        by (inl p) = omega (arith, p)
        by (inr p) = omega (arith, p, size-net_in (arrays_of r.sizes net ts), facts.inputs-high, facts.gates-high)

    -- where one is wanted and not lacking it is there
    not-lacking : (contents : List ℕ) → ¬ (length contents ≡ 0) → lacking contents section ≡ false → ¬ (length section ≡ 0)
    not-lacking contents lent f z = true≢false (sym (ap₂ (λ (x y : Bool). x && y) (lt-ltb 0 (length contents) (omega (arith, lent))) (ap (λ (n : ℕ). eqb n 0) z)) ∙ f)

    pub walk_mapping : {c : Call} → c.k ≡ k → c.target ≡ target → {area work loader contents : List ℕ} → length net ≡ most_packed → length ts ≡ most_gates → Fit R k target (length area) (length work) → LentFits loader_area (length loader)
        → LentFits contents_area (length contents) → (¬ (length contents ≡ 0) → c.forward ≡ true) → c.lacks ≡ lacking contents section → Mapping c r.sizes net ts section area work loader contents
    walk_mapping a b {contents = contents} ln lt fit load fill ahead l =
        let f = fit-within (offered_within offered) fit in
        let facts = read-facts R k bytes r.sizes net ts gives offered in
        record {
          settling = subst₂ (λ (x y : ℕ). Settling x y r.sizes net ts) (sym a) (sym b) (record {
            facts = facts;
            room = room-read facts ln lt;
            sound = walk-sound R k bytes N [] gives;
            fits = walk-fits R k bytes N [] gives;
            low = f.low;
            high = f.high;
            near = f.near;
          });
          room = f.room;
          space = f.space;
          load = load;
          fill = fill;
          ahead = ahead;
          whole = λ lent q. section-whole (not-lacking contents lent (sym l ∙ q));
          short = section-short facts;
        }

    pub walk-maps : {c : Call} → c.k ≡ k → c.target ≡ target → {pairs area area' loader loader' contents contents' : List ℕ} {answer : Answer} → c.lacks ≡ lacking contents section → MapsNet c N section pairs area area' loader loader' contents contents' answer
        → MapsTo (mode_of c.forward) R k target bytes pairs area area' loader loader' contents contents' answer
    walk-maps {c} a b {pairs} {area} {area'} {loader} {loader'} {contents} {contents'} {answer} l m =
        subst₂ (λ (x y : ℕ). MapsTo (mode_of c.forward) R x y bytes pairs area area' loader loader' contents contents' answer) a b
        (m.maps R offered bytes (ap (λ (x : ℕ). net_reader R x bytes) a ∙ gives) (ap (λ (x : ℕ). section_of R x bytes) a ∙ section-is) (sym l))
