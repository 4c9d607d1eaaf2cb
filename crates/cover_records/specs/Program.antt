-- Definitions: the listing program (document 01, "Listing and marked examples") and the marking program, from the bytes they read to the bytes they print.
use Rattle.std.specs.Prelude.{List, [], ◌∷◌, ℕ, zero, suc, ◌+◌, ◌*◌, ltb, take, drop, replicate, cond, not}
use Rattle.net_model.specs.Net.{Net}
use Rattle.cover_theory.specs.Key.{Key, entries}
use Rattle.limits.specs.Courses.{long}
use Rattle.limits.specs.Limits.{least_k, most_k, most_period, scratch_area}
use Rattle.net_bytes.specs.Reading.{between}
use Rattle.net_bytes.specs.Walk.{first, rest}
use Rattle.cover_records.specs.Listing.{cover_text, refusal_text, excess_text}
use Rattle.cover_records.specs.Outcomes.{Answer, accepted, turned_back, Checked, passes, fails, check_net, Mapped, covered, unreachable, mapped_in, mapped, mark_outcome}

-- the cover with its labels, or refusal 12
unfoldable pub list_mapped : {N : Net} {k : ℕ} → Mapped N k → List ℕ
list_mapped {N} (covered φ K) = cover_text N φ K.label (entries K)
list_mapped unreachable = refusal_text 12

unfoldable pub list_checked : (k target : ℕ) → Checked k → List ℕ
unfolding list_mapped mapped_in
list_checked k target (fails n) = refusal_text n
list_checked k target (passes N p) = list_mapped (mapped N k target p)

-- Refusals in 01's order; the program lends areas that are large enough, so that 3 never arises.
unfoldable pub listing : ℕ → ℕ → List ℕ → List ℕ
unfolding list_checked check_net
listing k target net =
    let wanted = list_checked k target (check_net long k net) in
    let in_time = cond (ltb most_period target) (refusal_text 2) wanted in
    cond (not (between least_k most_k k)) (refusal_text 1) in_time

-- "The listing program reads k, target, net from standard input; a missing k or target byte reads as 0."
unfoldable pub listing_program : List ℕ → List ℕ
unfolding listing
listing_program input = listing (first input) (first (rest input)) (rest (rest input))

-- ---- marking

-- `excess N` or `refused N`
unfoldable pub answer_text : Answer → List ℕ
answer_text (accepted n) = excess_text n
answer_text (turned_back n) = refusal_text n

-- what mark says of the record; the program lends a scratch of 65,536 bytes, so that 3 never arises
unfoldable pub marking : ℕ → List ℕ → List ℕ → List ℕ
unfolding answer_text
marking k net bytes = answer_text (mark_outcome long net k bytes (replicate scratch_area 0)).answer

-- The marking program reads k, the net's length in two bytes, low first, the net, then the record; a missing k or length byte reads as 0, the net is what there is of it,
-- whatever follows is the record.
unfoldable pub marking_program : List ℕ → List ℕ
unfolding marking
marking_program input =
    let n = first (rest input) + 256 * first (rest (rest input)) in
    let behind = rest (rest (rest input)) in
    marking (first input) (take n behind) (drop n behind)
