-- What the reader gave, and what it means to mark.
use Rattle.std.specs.Prelude.{◌≡◌, List, [], ℕ, length, Ok}
use Rattle.std.proofs.Common.{sym, subst, arith}
use Rattle.net_model.specs.Net.{Net}
use Rattle.net_model.specs.Arrays.{net_in}
use Rattle.limits.specs.Limits.{most_gates, most_packed}
use Rattle.limits.specs.Courses.{Offered}
use Rattle.limits.specs.CourseLaws.{offered_within}
use Rattle.limits.specs.declared.Rules.{Rules}
use Rattle.net_bytes.specs.Reading.{refused}
use Rattle.net_bytes.specs.Walk.{net_reader}
use Rattle.net_bytes.specs.Sound.{walk-sound, walk-fits}
use Rattle.cover_records.specs.Outcomes.{Answer, turned_back}
use Rattle.refusals.specs.declared.Refusal.{Refusal}
use Rattle.refusals.specs.Refusals.{number_of}
use Rattle.refusals.specs.RefusalLaws.{number_small}
use Rattle.net_reader.specs.ReadAnswer.{arrays_of, result_of}
use Rattle.net_reader.specs.WalkFacts.{read-gives, read-facts}
use Rattle.net_reader.specs.ReadWires.{room-read}
use Rattle.net_reader.specs.declared.NetSizes.{NetSizes}
use Rattle.job_sizes.specs.Sizes.{Fit}
use Rattle.job_sizes.specs.SizeLaws.{fit-within}
use Rattle.job_judge.specs.JudgeMarking.{Marking, MarksTo, MarksNet}
use Rattle.job_judge.specs.MarkOutcomeLaws.{marks-refused}

-- **refusals 4 to 8**
pub walk_refused : (R : Rules) (k : ℕ) (net : List ℕ) (r : Refusal) → net_reader R k net ≡ refused (number_of r) → (bytes : List ℕ) → MarksTo R k net bytes (turned_back (number_of r))
walk_refused R k net r e bytes = marks-refused R k (number_of r) net bytes (let h = number_small r in omega arith) e

module _ (R : Rules) (k : ℕ) (net : List ℕ) (z : NetSizes) (packed ts : List ℕ) (e : net_reader R k net ≡ result_of (Ok z) packed ts) where
  abbrev N : Net
  N = net_in (arrays_of z packed ts)

  module _ (offered : Offered R) {k' : ℕ} (a : k' ≡ k) where
    pub walk-marking : {area : ℕ} {work : List ℕ} → length packed ≡ most_packed → length ts ≡ most_gates → Fit R k 0 area (length work) → Marking k' z packed ts work
    walk-marking {area} {work} ln lt fit =
        let f = fit-within (offered_within offered) fit in
        let gives = read-gives R k net z packed ts e in
        let facts = read-facts R k net z packed ts e offered in
        subst (λ (x : ℕ). Marking x z packed ts work) (sym a) (record {
          settling = record {
            facts = facts;
            room = room-read facts ln lt;
            sound = walk-sound R k net N [] gives;
            fits = walk-fits R k net N [] gives;
            low = f.low;
            high = f.high;
            near = f.near;
          };
          space = f.space;
        })

    pub walk-marks : {bytes : List ℕ} {answer : Answer} → MarksNet R k' N bytes answer → MarksTo R k net bytes answer
    walk-marks {bytes} {answer} m = (subst (λ (x : ℕ). MarksNet R x N bytes answer) a m).marks net (read-gives R k net z packed ts e)
