-- Laws of document 02, E8: where the two courses agree, and what the short one tells beyond.
use Rattle.std.specs.Prelude.{◌≡◌, Bool, true, false, cond, not, ◌&&◌, ◌||◌, List, [], ◌∷◌, leb, ltb, length, get_or}
use Rattle.std.proofs.Math.Path.{refl, ap}
use Rattle.std.proofs.Common.{sym, ap₂, ◌∙◌, arith, le-leb}
use Prim.Native.Nat.{ℕ, zero, suc, ◌≤◌, ◌<◌}
use Rattle.std.proofs.lemmas.Bool.{lt-leb}
use Rattle.limits.specs.Limits.{least_k, most_inputs, most_period, cover_area, scratch_area}
use Rattle.limits.specs.Courses.{long, short}
use Rattle.limits.specs.declared.Rules.{Rules}
use Rattle.net_model.specs.Net.{Net}
use Rattle.net_bytes.specs.Reading.{Result, and_then, give, check, between, got, refused}
use Rattle.net_bytes.specs.Walk.{Head, head_of, is_head, net_reader, drawn_reader, body_reader}
use Rattle.net_bytes.specs.Stages.{from_gates, from_head, from_body, net_of}
use Rattle.cover_records.specs.CoverBytes.{Record, cover_bytes, cover_reader}
use Rattle.cover_records.specs.CheckLaws.{check-same, check-refused}
use Rattle.cover_records.specs.Outcomes.{Answer, turned_back, Checked, passes, fails, check_net, cleared, MapOutcome, MarkOutcome, Mapped, covered, unreachable, map_sizes, map_written, mapped, map_checked_in, map_checked, map_sized, map_outcome, mark_sizes, mark_read, mark_checked, mark_sized, mark_outcome}
use Rattle.demands.specs.ShortCourse.{gates_said, ShortCourse}

-- ---- the walk

few : (b : ℕ) → b ≤ short.gates → between 1 short.gates b ≡ between 1 long.gates b
few b h = ap (λ (t : Bool). leb 1 b && t) (le-leb b short.gates h ∙ sym (le-leb b long.gates (omega arith)))

many : (b : ℕ) → short.gates < b → between 1 short.gates b ≡ false
many b h = ap₂ (λ (s t : Bool). s && t) (le-leb 1 b (omega arith)) (lt-leb b short.gates h)

-- behind the byte of G the two read alike
abbrev after : ℕ → Head → ℕ → List ℕ → Bool → Result Net
after k head b r t = and_then (and_then (and_then (check t 5 b r) (from_gates false k head.inputs)) (from_body head.section)) net_of

-- the walk, where the test of the first byte says t
abbrev behind_head : Rules → ℕ → ℕ → List ℕ → Bool → Result Net
behind_head R k b r t = and_then (and_then (and_then (check t 5 b r) (λ c. give (head_of c))) (from_head R k)) net_of

pub courses_same : (k : ℕ) (s : List ℕ) → gates_said s ≤ short.gates → net_reader short k s ≡ net_reader long k s
unfolding net_reader drawn_reader body_reader
courses_same k [] h = refl
courses_same k (b ∷ []) h = go (is_head b)
  where
    go : (t : Bool) → behind_head short k b [] t ≡ behind_head long k b [] t
    go true = refl
    go false = refl
courses_same k (b ∷ g ∷ r) h = go (is_head b)
  where
    go : (t : Bool) → behind_head short k b (g ∷ r) t ≡ behind_head long k b (g ∷ r) t
    go true = ap (after k (head_of b) g r) (few g h)
    go false = refl

pub too_many : (k : ℕ) (s : List ℕ) → short.gates < gates_said s → net_reader short k s ≡ refused 5
unfolding net_reader drawn_reader body_reader
too_many k [] h = absurd (omega (arith, h))
too_many k (b ∷ []) h = absurd (omega (arith, h))
too_many k (b ∷ g ∷ r) h = go (is_head b)
  where
    go : (t : Bool) → behind_head short k b (g ∷ r) t ≡ refused 5
    go true = ap (after k (head_of b) g r) (many g h)
    go false = refl

-- ---- the sizes

inside : (k : ℕ) → k ≤ short.most → between least_k short.most k ≡ between least_k long.most k
inside k h = ap (λ (t : Bool). leb least_k k && t) (le-leb k short.most h ∙ sym (le-leb k long.most (omega arith)))

outside : (k : ℕ) → short.most < k → between least_k short.most k ≡ false
outside k h = ap₂ (λ (s t : Bool). s && t) (le-leb least_k k (omega arith)) (lt-leb k short.most h)

module _ (k target : ℕ) (area scratch : List ℕ) where
  abbrev map-rest : Bool → ℕ
  map-rest t = cond (not t) 1 (cond (ltb most_period target) 2 (cond (ltb (length area) cover_area || ltb (length scratch) scratch_area) 3 0))

  map-sizes-same : k ≤ short.most → map_sizes short k target area scratch ≡ map_sizes long k target area scratch
  unfolding map_sizes
  map-sizes-same h = ap map-rest (inside k h)

  map-sizes-one : short.most < k → map_sizes short k target area scratch ≡ 1
  unfolding map_sizes
  map-sizes-one h = ap map-rest (outside k h)

module _ (k : ℕ) (scratch : List ℕ) where
  abbrev mark-rest : Bool → ℕ
  mark-rest t = cond (not t) 1 (cond (ltb (length scratch) scratch_area) 3 0)

  mark-sizes-same : k ≤ short.most → mark_sizes short k scratch ≡ mark_sizes long k scratch
  unfolding mark_sizes
  mark-sizes-same h = ap mark-rest (inside k h)

  mark-sizes-one : short.most < k → mark_sizes short k scratch ≡ 1
  unfolding mark_sizes
  mark-sizes-one h = ap mark-rest (outside k h)

-- ---- the outcomes

module _ (net : List ℕ) (k target : ℕ) (area scratch : List ℕ) where
  written_same : {N : Net} (m : Mapped N k) → map_written short m area scratch ≡ map_written long m area scratch
  unfolding map_written cover_bytes
  written_same (covered φ K) = refl
  written_same unreachable = refl

  checked-same : (c : Checked k) → map_checked short k target c area scratch ≡ map_checked long k target c area scratch
  unfolding map_checked_in
  checked-same (fails n) = refl
  checked-same (passes N p) = written_same (mapped N k target p)

  sized_same : (n : ℕ) → (n ≡ 0 → check_net short k net ≡ check_net long k net) → map_sized short n k target net area scratch ≡ map_sized long n k target net area scratch
  unfolding map_sized
  sized_same zero e = ap (λ (c : Checked k). map_checked short k target c area scratch) (e refl) ∙ checked-same (check_net long k net)
  sized_same (suc n) e = refl

  map-alike : k ≤ short.most → (map_sizes short k target area scratch ≡ 0 → check_net short k net ≡ check_net long k net)
      → map_outcome short net k target area scratch ≡ map_outcome long net k target area scratch
  unfolding map_outcome
  map-alike h e =
      sized_same (map_sizes short k target area scratch) e ∙ ap (λ (n : ℕ). map_sized long n k target net area scratch) (map-sizes-same k target area scratch h)

  map-told : (n : ℕ) → map_sizes short k target area scratch ≡ suc n → map_outcome short net k target area scratch ≡ record { answer = turned_back (suc n); area = area; scratch = scratch }
  unfolding map_outcome map_sized
  map-told n e = ap (λ (m : ℕ). map_sized short m k target net area scratch) e

  map-refused : (n : ℕ) → map_sizes short k target area scratch ≡ 0 → net_reader short k net ≡ refused n
      → map_outcome short net k target area scratch ≡ record { answer = turned_back n; area = area; scratch = cleared scratch_area scratch }
  unfolding map_outcome map_sized map_checked_in
  map-refused n s e =
      ap (λ (m : ℕ). map_sized short m k target net area scratch) s ∙ ap (λ (c : Checked k). map_checked short k target c area scratch) (check-refused short k net n e)

module _ (net : List ℕ) (k : ℕ) (bytes scratch : List ℕ) where
  mark-checked-same : (c : Checked k) → mark_checked short k c bytes ≡ mark_checked long k c bytes
  unfolding mark_checked cover_reader
  mark-checked-same (fails n) = refl
  mark-checked-same (passes N p) = refl

  mark-sized-same : (n : ℕ) → (n ≡ 0 → check_net short k net ≡ check_net long k net) → mark_sized short n k net bytes scratch ≡ mark_sized long n k net bytes scratch
  unfolding mark_sized
  mark-sized-same zero e =
      ap (λ (a : Answer). record { answer = a; scratch = cleared scratch_area scratch })
      (ap (λ (c : Checked k). mark_checked short k c bytes) (e refl) ∙ mark-checked-same (check_net long k net))
  mark-sized-same (suc n) e = refl

  mark-alike : k ≤ short.most → (mark_sizes short k scratch ≡ 0 → check_net short k net ≡ check_net long k net) → mark_outcome short net k bytes scratch ≡ mark_outcome long net k bytes scratch
  unfolding mark_outcome
  mark-alike h e = mark-sized-same (mark_sizes short k scratch) e ∙ ap (λ (n : ℕ). mark_sized long n k net bytes scratch) (mark-sizes-same k scratch h)

  mark-told : (n : ℕ) → mark_sizes short k scratch ≡ suc n → mark_outcome short net k bytes scratch ≡ record { answer = turned_back (suc n); scratch = scratch }
  unfolding mark_outcome mark_sized
  mark-told n e = ap (λ (m : ℕ). mark_sized short m k net bytes scratch) e

  mark-refused : (n : ℕ) → mark_sizes short k scratch ≡ 0 → net_reader short k net ≡ refused n → mark_outcome short net k bytes scratch ≡ record { answer = turned_back n; scratch = cleared scratch_area scratch }
  unfolding mark_outcome mark_sized mark_checked
  mark-refused n s e =
      ap (λ (m : ℕ). mark_sized short m k net bytes scratch) s
      ∙ ap (λ (c : Checked k). record { answer = mark_checked short k c bytes; scratch = cleared scratch_area scratch }) (check-refused short k net n e)

-- **All of it is proved.**
pub short-course : ShortCourse
short-course = record {
  map_same = λ net k target area scratch h g. map-alike net k target area scratch h (λ e. check-same short long k net net (courses_same k net g));
  mark-same = λ net k bytes scratch h g. mark-alike net k bytes scratch h (λ e. check-same short long k net net (courses_same k net g));
  map-early = λ net k target area scratch h n. map-alike net k target area scratch h (λ e. absurd (n e));
  mark-early = λ net k bytes scratch h n. mark-alike net k bytes scratch h (λ e. absurd (n e));
  map-one = λ net k target area scratch h. map-told net k target area scratch 0 (map-sizes-one k target area scratch h);
  mark-one = λ net k bytes scratch h. mark-told net k bytes scratch 0 (mark-sizes-one k scratch h);
  map_five = λ net k target area scratch s h. map-refused net k target area scratch 5 s (too_many k net h);
  mark_five = λ net k bytes scratch s h. mark-refused net k bytes scratch 5 s (too_many k net h);
}
