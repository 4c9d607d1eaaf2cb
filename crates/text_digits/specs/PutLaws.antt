-- Bytes put one behind the other.
use Rattle.std.specs.Prelude.{◌≡◌, refl, List, [], ◌∷◌, ◌++◌, ℕ, suc, ◌+◌, ◌-◌, ◌*◌, ◌/◌, ◌%◌, ◌^◌, ◌≤◌, ◌<◌, ℤ}
use Rattle.std.proofs.Common.{sym, ap, ◌∙◌, add-one, add-zero, add-suc, suc-add, pow-suc, arith, to_z, of_z}
use lib.ListN.{length, set, drop, length-append}
use Rattle.std.proofs.Math.Nat.{div-div-eq-div-mul}
use Rattle.std.proofs.lemmas.List.{set_comm}
use Rattle.std.proofs.lemmas.List.Edits.{sets, sets-eq}
use Rattle.std.proofs.Math.Seq.{length-sets, take-length, paste}
use Rattle.std.specs.Int.{w64}
use Rattle.cover_records.specs.Listing.{digit, decimal, signed, newline, refused_word, refusal_text, excess_word, excess_text}
use Rattle.signed.specs.Range.{Small}
use Rattle.signed.specs.RangeLaws.{back, small-fits}
use Rattle.cover_writer.specs.Writing.{Wrote}
use Rattle.text_digits.specs.Put.{Put, hex_text}
use Rattle.text_digits.specs.DigitLaws.{hex_front}

pub put-none : (at : ℕ) (s : List ℕ) → Put 0 at [] s s at
put-none at s = record { ends = sym (add-zero at); few = omega arith; area = refl }

pub put-held : {m at r : ℕ} {bytes before after : List ℕ} → Put m at bytes before after r → length after ≡ length before
put-held {m} {at} {r} {bytes} {before} w = ap length w.area ∙ length-sets before at bytes

sets_append : (a b s : List ℕ) (at : ℕ) → sets (sets s at a) (at + length a) b ≡ sets s at (a ++ b)
sets_append [] b s at = ap (λ (i : ℕ). sets s i b) (add-zero at)
sets_append (v ∷ a) b s at =
    ap (λ (i : ℕ). sets (sets (set s at v) (suc at) a) i b) (add-suc at (length a) ∙ sym (suc-add at (length a))) ∙ sets_append a b (set s at v) (suc at)

-- **A byte put before others.**
before_sets : (vs s : List ℕ) (i j d : ℕ) → i < j → set (sets s j vs) i d ≡ sets (set s i d) j vs
before_sets [] s i j d h = refl
before_sets (v ∷ vs) s i j d h = before_sets vs (set s j v) i (suc j) d (omega arith) ∙ ap (λ (l : List ℕ). sets l (suc j) vs) (set_comm s j i v d (λ e. h_less e))
  where
    h_less : j ≡ i → ⊥
    h_less e = omega arith

pub set_before : (vs s : List ℕ) (i d : ℕ) → set (sets s (i + 1) vs) i d ≡ sets s i (d ∷ vs)
set_before vs s i d = rw (add-one i) (before_sets vs s i (suc i) d (omega arith))

-- **Bytes put behind others.**
pub put_then : {m k at e r : ℕ} {a b before after last : List ℕ} → Put m at a before after e → Put k e b after last r → Put (m + k) at (a ++ b) before last r
put_then {m} {k} {at} {e} {r} {a} {b} {before} {after} {last} v w =
    let i = v.ends in
    let j = w.ends in
    let l = length-append a b in
    let p = v.few in
    let q = w.few in
    record {
      ends = omega arith;
      few = omega arith;
      area = w.area ∙ ap (λ (s : List ℕ). sets s e b) v.area ∙ ap (λ (i : ℕ). sets (sets before at a) i b) v.ends ∙ sets_append a b before at;
    }

-- there is room for what comes behind
pub put-room : {m at e : ℕ} {a before after : List ℕ} (k : ℕ) → Put m at a before after e → at + (m + k) ≤ length before → e + k ≤ length after
put-room {m} {at} {e} {a} {before} {after} k v h = let i = v.ends in let p = v.few in let l = put-held v in omega arith

pub put-few : {m at r : ℕ} {bytes before after : List ℕ} (k : ℕ) → length bytes ≤ k → Put m at bytes before after r → Put k at bytes before after r
put-few k h w = record { ends = w.ends; few = h; area = w.area }

pub put-more : {m at r : ℕ} {bytes before after : List ℕ} (k : ℕ) → m ≤ k → Put m at bytes before after r → Put k at bytes before after r
put-more k h w = let p = w.few in put-few k (omega arith) w

-- the same bytes, by an equation
pub put_same : {m at r : ℕ} {a b before after : List ℕ} → a ≡ b → Put m at a before after r → Put m at b before after r
put_same e w = rw e at w

-- other words for the same bytes
pub wrote_as : {text text' before after : List ℕ} {r : ℕ} → text ≡ text' → Wrote text' before after r → Wrote text before after r
wrote_as e t = rw (sym e) at t

-- the text lies within the area
pub wrote-within : {text before after : List ℕ} {r : ℕ} → Wrote text before after r → r ≤ length after
wrote-within {text} {before} w = let e = ap length w.area ∙ length-append text (drop (length text) before) in let n = w.count in omega arith

-- from the front
pub put-wrote : {m r : ℕ} {bytes before after : List ℕ} → m ≤ length before → Put m 0 bytes before after r → Wrote bytes before after r
put-wrote {m} {r} {bytes} {before} h w =
    let i = w.ends in
    let p = w.few in
    let e : 0 + length bytes ≡ length bytes = omega arith in
    record {
      count = omega arith;
      area = w.area ∙ sets-eq bytes before 0 (omega arith) ∙ ap (λ (n : ℕ). bytes ++ lib.ListN.drop n before) e;
    }

-- a whole word copied
pub put-copied : (word s : List ℕ) (at : ℕ) → at + length word ≤ length s → Put (length word) at word s (paste s at word (length word)) (at + length word)
put-copied word s at h = record { ends = refl; few = omega arith; area = rw (take-length word) (sym (sets-eq word s at h)) }

-- a stored number
pub put-stored : {m at r : ℕ} {before after : List ℕ} (word : List ℕ) (z : ℤ) → Small z → Put m at (word ++ signed (to_z w64 (of_z w64 z))) before after r → Put m at (word ++ signed z) before after r
put-stored word z s w = rw (back z (small-fits z s)) at w

-- lines of a word and a number
pub refusal-text : (n : ℕ) → (refused_word ++ decimal n) ++ newline ≡ refusal_text n
unfolding refusal_text
refusal-text n = refl

pub excess-text : (n : ℕ) → (excess_word ++ decimal n) ++ newline ≡ excess_text n
unfolding excess_text
excess-text n = refl

-- digits put from the last place to the first: one digit more
pub hex_put : (at w : ℕ) (s : List ℕ) {k i v d : ℕ} {out : List ℕ} → 0 < i → i ≤ k → v ≡ w / 16 ^ (k - i) → out ≡ sets s (at + i) (hex_text (k - i) w) → d ≡ digit (v % 16)
    → (v / 16 ≡ w / 16 ^ (k - (i - 1))) × (set out (at + (i - 1)) d ≡ sets s (at + (i - 1)) (hex_text (k - (i - 1)) w))
hex_put at w s {k} {i} {v} {d} h l e p q =
    let j = k - i in
    let a : suc j ≡ k - (i - 1) = omega arith in
    let b : at + i ≡ at + (i - 1) + 1 = omega arith in
    let m : 16 ^ j * 16 ≡ 16 ^ suc j = let r = pow-suc 16 j in omega arith in
    let f = rw a at (ap (λ (x : ℕ). x / 16) e ∙ div-div-eq-div-mul w (16 ^ j) 16 ∙ ap (λ (x : ℕ). w / x) m) in
    let t = ap (λ (l : List ℕ). set l (at + (i - 1)) d) (p ∙ ap (λ (x : ℕ). sets s x (hex_text j w)) b) ∙ set_before (hex_text j w) s (at + (i - 1)) d in
    let u = ap (λ (x : ℕ). x ∷ hex_text j w) (q ∙ ap (λ (x : ℕ). digit (x % 16)) e) ∙ sym (hex_front j w) in
    let y = t ∙ ap (λ (l : List ℕ). sets s (at + (i - 1)) l) u in
    (f, rw a at y)
