-- The programs take a limited number of bytes from their input: what they print for these is what the definitions say of the whole input.
use Rattle.std.specs.Prelude.{◌≡◌, refl, Bool, not, List, [], ◌∷◌, ◌++◌, ℕ, zero, suc, ◌+◌, ◌*◌, ◌≤◌, ◌<◌, ltb, length, take, drop, replicate}
use Rattle.std.proofs.Common.{sym, ap₂, ◌∙◌, append-nil, arith, lit≤, take-append-drop, length-drop, take_all, take-take, length-take-le}
use Rattle.std.proofs.Math.Path.{ap}
use Rattle.std.proofs.Math.Bool.{true, false, cond}
use Rattle.std.proofs.Math.Decide.{dec_le}
use Rattle.std.proofs.lemmas.List.{take-append-le, drop-append-le}
use Rattle.limits.specs.Limits.{least_k, most_k, most_period, cover_area, scratch_area, most_net_bytes, input_room}
use Rattle.limits.specs.Courses.{long}
use Rattle.sequences.specs.Member.{◌∈◌, there, in_append_left, in_append_right}
use Rattle.net_bytes.specs.Reading.{between}
use Rattle.net_bytes.specs.Readers.{Each}
use Rattle.net_bytes.specs.Sound.{between-true}
use Rattle.net_bytes.specs.Short.{Bytes, short-refuses, short-net}
use Rattle.cover_records.specs.CoverBytes.{cover_reader}
use Rattle.cover_records.specs.Listing.{refusal_text}
use Rattle.cover_records.specs.Outcomes.{Checked, passes, fails, check_net, mark_read, mark_checked, mark_sizes, mark_sized, mark_outcome}
use Rattle.cover_records.specs.Program.{list_checked, listing, listing_program, answer_text, marking, marking_program}
use Rattle.cover_records.specs.ShortCover.{short-cover}
use Rattle.cover_records.specs.CheckLaws.{check-refused}

-- the parts of bytes are bytes
module _ (n : ℕ) (s : List ℕ) (b : Bytes s) where
  in_parts : (a : ℕ) → a ∈ take n s ++ drop n s → a < 256
  in_parts a h = b a (rw take-append-drop at h)

  bytes-front : Bytes (take n s)
  bytes-front a h = in_parts a (in_append_left (drop n s) h)

  bytes-behind : Bytes (drop n s)
  bytes-behind a h = in_parts a (in_append_right (take n s) h)

-- what is the same whatever follows s is the same of s alone
same-alone : {A : Type 0} (f : List ℕ → A) (s : List ℕ) {x : A} → ((t : List ℕ) → f (s ++ t) ≡ x) → (t : List ℕ) → f s ≡ f (s ++ t)
same-alone f s h t = ap f (sym (append-nil s)) ∙ h [] ∙ sym (h t)

-- a net that begins with more bytes than a net can have fails alike, whatever follows
net-fails : (k : ℕ) (s : List ℕ) → Bytes s → most_net_bytes < length s → (e : ℕ) × ((t : List ℕ) → check_net long k (s ++ t) ≡ fails e)
net-fails k s b l = let r = short-refuses (short-net long k) s b l in (r.0, λ t. check-refused long k (s ++ t) r.0 (r.1 t))

-- ---- listing

listing-net : (k target : ℕ) (net net' : List ℕ) → check_net long k net ≡ check_net long k net' → listing k target net ≡ listing k target net'
unfolding listing
listing-net k target net net' e =
    ap (λ (c : Checked k). cond (not (between least_k most_k k)) (refusal_text 1) (cond (ltb most_period target) (refusal_text 2) (list_checked k target c))) e

listing-cut : (s t : List ℕ) → Bytes s → 2 + most_net_bytes < length s → listing_program s ≡ listing_program (s ++ t)
unfolding listing_program
listing-cut [] t b l = absurd (omega arith)
listing-cut (k ∷ []) t b l = absurd (omega arith)
listing-cut (k ∷ target ∷ s) t b l =
    listing-net k target s (s ++ t) (same-alone (check_net long k) s (net-fails k s (λ a h. b a (there (there h))) (omega arith)).1 t)

-- ---- marking

-- mark looks at the net and the record only for a k in its range
module _ (k : ℕ) (net net' bytes bytes' : List ℕ) (same : k ≤ most_k → mark_checked long k (check_net long k net) bytes ≡ mark_checked long k (check_net long k net') bytes') where
  outcome_as : (scratch : List ℕ) → (mark_outcome long net k bytes scratch).answer ≡ (mark_outcome long net' k bytes' scratch).answer
  unfolding mark_outcome mark_sizes mark_sized
  outcome_as scratch = sized (mark_sizes long k scratch) (in_range (between least_k most_k k) (cond (ltb (length scratch) scratch_area) 3 0) refl)
    where
      in_range : (t : Bool) (n : ℕ) → between least_k most_k k ≡ t → cond (not t) 1 n ≡ 0 → k ≤ most_k
      in_range true n e h = (between-true least_k most_k k e).1
      in_range false n e h = absurd (omega arith)

      sized : (n : ℕ) → (n ≡ 0 → k ≤ most_k) → (mark_sized long n k net bytes scratch).answer ≡ (mark_sized long n k net' bytes' scratch).answer
      sized zero h = same (h refl)
      sized (suc n) h = refl

  marking_as : marking k net bytes ≡ marking k net' bytes'
  unfolding marking
  marking_as = ap answer_text (outcome_as (replicate scratch_area 0))

marking-net : (k e : ℕ) (net net' bytes bytes' : List ℕ) → check_net long k net ≡ fails e → check_net long k net' ≡ fails e → marking k net bytes ≡ marking k net' bytes'
unfolding mark_checked
marking-net k e net net' bytes bytes' p q =
    marking_as k net net' bytes bytes' λ h. ap (λ (c : Checked k). mark_checked long k c bytes) p ∙ sym (ap (λ (c : Checked k). mark_checked long k c bytes') q)

marking_record : (k : ℕ) (net bytes t : List ℕ) → Bytes bytes → cover_area < length bytes → marking k net bytes ≡ marking k net (bytes ++ t)
unfolding mark_checked
marking_record k net bytes t b l = marking_as k net net bytes (bytes ++ t) λ h. checked h (check_net long k net)
  where
    checked : k ≤ most_k → (c : Checked k) → mark_checked long k c bytes ≡ mark_checked long k c (bytes ++ t)
    checked h (fails n) = refl
    checked h (passes N p) = ap (mark_read N k p) (same-alone (cover_reader long N k) bytes (short-refuses (short-cover long N k h) bytes b l).1 t)

-- a net of few bytes is there whole, and what follows it is more than a cover record can have; a longer net fails
marking-parts : (k n : ℕ) (s t : List ℕ) → Bytes s → suc most_net_bytes + cover_area < length s
    → marking k (take n s) (drop n s) ≡ marking k (take n (s ++ t)) (drop n (s ++ t))
marking-parts k n s t b l = go (dec_le n (suc most_net_bytes))
  where
    front : List ℕ
    front = take (suc most_net_bytes) s

    refusal : (e : ℕ) × ((u : List ℕ) → check_net long k (front ++ u) ≡ fails e)
    refusal = net-fails k front (bytes-front (suc most_net_bytes) s b) (omega (arith, length-take-le (suc most_net_bytes) s (omega arith)))

    longer : (u : List ℕ) → suc most_net_bytes < n → take (suc most_net_bytes) u ≡ front → check_net long k (take n u) ≡ fails refusal.0
    longer u h e =
        ap (check_net long k) (sym (take-append-drop (suc most_net_bytes) (take n u)) ∙ ap (λ (x : List ℕ). x ++ drop (suc most_net_bytes) (take n u)) (take-take (suc most_net_bytes) n u (omega arith) ∙ e))
        ∙ refusal.1 (drop (suc most_net_bytes) (take n u))

    go : Dec (n ≤ suc most_net_bytes) → marking k (take n s) (drop n s) ≡ marking k (take n (s ++ t)) (drop n (s ++ t))
    go (yes h) =
        marking_record k (take n s) (drop n s) t (bytes-behind n s b) (omega (arith, length-drop n s))
        ∙ ap₂ (marking k) (sym (take-append-le n s t (omega arith))) (sym (drop-append-le n s t (omega arith)))
    go (no h) =
        marking-net k refusal.0 (take n s) (take n (s ++ t)) (drop n s) (drop n (s ++ t)) (longer s (omega arith) refl)
        (longer (s ++ t) (omega arith) (take-append-le (suc most_net_bytes) s t (omega arith)))

marking-cut : (s t : List ℕ) → Bytes s → 4 + most_net_bytes + cover_area < length s → marking_program s ≡ marking_program (s ++ t)
unfolding marking_program
marking-cut [] t b l = absurd (omega arith)
marking-cut (k ∷ []) t b l = absurd (omega arith)
marking-cut (k ∷ low ∷ []) t b l = absurd (omega arith)
marking-cut (k ∷ low ∷ high ∷ s) t b l = marking-parts k (low + 256 * high) s t (λ a h. b a (there (there (there h)))) (omega arith)

-- ---- every input

-- a program for which more than n bytes settle the answer
cut-same : (P : List ℕ → List ℕ) (n : ℕ) → n < input_room → ((s t : List ℕ) → Bytes s → n < length s → P s ≡ P (s ++ t))
    → (input : List ℕ) → Bytes input → P (take input_room input) ≡ P input
cut-same P n h f input b = go (dec_le (length input) input_room)
  where
    go : Dec (length input ≤ input_room) → P (take input_room input) ≡ P input
    go (yes l) = ap P (take_all input_room input l)
    go (no l) =
        f (take input_room input) (drop input_room input) (bytes-front input_room input b) (omega (arith, length-take-le input_room input (omega arith)))
        ∙ ap P (take-append-drop input_room input)

-- **The listing program needs no more of its input than it takes**,
pub listing-long : (input : List ℕ) → Each (λ (b : ℕ). b < 256) input → listing_program (take input_room input) ≡ listing_program input
listing-long = cut-same listing_program (2 + most_net_bytes) (lit≤ tt) listing-cut

-- **nor does the marking program.**
pub marking-long : (input : List ℕ) → Each (λ (b : ℕ). b < 256) input → marking_program (take input_room input) ≡ marking_program input
marking-long = cut-same marking_program (4 + most_net_bytes + cover_area) (lit≤ tt) marking-cut
