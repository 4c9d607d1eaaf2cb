-- The last section: nets without it read as document 01 says, and with bit and section taken off a net reads to the same net.
use Rattle.std.specs.Prelude.{◌≡◌, refl, Bool, true, false, List, [], ◌∷◌, ◌++◌, ℕ, zero, suc, ◌/◌, ◌%◌, ◌^◌, ◌<◌, eqb}
use Rattle.std.proofs.Common.{sym, ap, ap₂, ◌∙◌, append-nil, arith}
use Rattle.net_model.specs.Net.{Net}
use Rattle.limits.specs.Limits.{most_inputs}
use Rattle.limits.specs.declared.Rules.{Rules}
use Rattle.net_bytes.specs.Reading.{Result, Reader, ◌>>=◌, and_then, check, byte, times, at_end, between, give, got, refused}
use Rattle.net_bytes.specs.Readers.{refused-not-got, got-value, then-got, then-goes, check-got, at_end-got}
use Rattle.net_bytes.specs.Walk.{Head, head_of, is_head, Drawn, drawn, net_byte, head_reader, body_reader, section_reader, drawn_reader, net_reader}
use Rattle.net_bytes.specs.Stages.{from_head, from_body, drawn_stages, net_of, net_stages}
use Rattle.net_bytes.specs.Frames.{framed_body}

plain-head : (b : ℕ) → b < 128 → head_of b ≡ record { inputs = b; section = false }
plain-head b h =
    let low : b % 128 ≡ b = omega arith in
    let high : b / 2 ^ 7 % 2 ≡ 0 = omega arith in
    ap₂ (λ (i n : ℕ). record { inputs = i; section = eqb n 1 }) low high

-- ---- without a section

-- document 01's walk: "Net record, bytes: I, G, O; then the gates; then the outputs.", "8. Bytes follow the last output."
abbrev pub plain_reader : Rules → ℕ → Reader Net
plain_reader R k = net_byte 5 (between 1 most_inputs) >>= λ inputs. body_reader R k inputs >>= at_end 8

plain_end : (N : Net) (s : List ℕ) → and_then (at_end 8 (drawn N []) s) net_of ≡ at_end 8 N s
plain_end N [] = refl
plain_end N (b ∷ s) = refl

plain_body_lem : (x : Result Net) → and_then (and_then x (from_body false)) net_of ≡ and_then x (at_end 8)
unfolding times
plain_body_lem (got N t) = plain_end N t
plain_body_lem (refused n) = refl

-- **Without bit 7 a net reads as document 01 says**, refusals too.
pub net-plain : (R : Rules) (k b : ℕ) (r : List ℕ) → b < 128 → net_reader R k (b ∷ r) ≡ plain_reader R k (b ∷ r)
net-plain R k b r h =
    net_stages R k (b ∷ r) ∙ ap (λ (x : Result Drawn). and_then x net_of) (drawn_stages R k (b ∷ r))
    ∙ ap (λ (i : ℕ). and_then (and_then (and_then (check (between 1 most_inputs i) 5 b r) (λ c. give (head_of c))) (from_head R k)) net_of) low ∙ go (between 1 most_inputs b)
  where
    low : b % 128 ≡ b
    low = omega arith

    go : (t : Bool) → and_then (and_then (and_then (check t 5 b r) (λ c. give (head_of c))) (from_head R k)) net_of ≡ and_then (check t 5 b r) (λ i. body_reader R k i >>= at_end 8)
    go true = ap (λ (head : Head). and_then (from_head R k head r) net_of) (plain-head b h) ∙ plain_body_lem (body_reader R k b r)
    go false = refl

pub net-empty : (R : Rules) (k : ℕ) → net_reader R k [] ≡ plain_reader R k []
unfolding net_reader drawn_reader
net-empty R k = refl

-- ---- with a section

-- bytes read one by one are those in front
pub times-bytes : (early bad : ℕ) (ok : ℕ → Bool) (n : ℕ) (s l r : List ℕ) → times n (byte early bad ok) s ≡ got l r → s ≡ l ++ r
unfolding times
times-bytes early bad ok zero s l r e = let a : [] ≡ l = cc in let b : s ≡ r = cc in b ∙ ap (λ (x : List ℕ). x ++ r) a
times-bytes early bad ok (suc n) [] l r e = absurd (refused-not-got early l r e)
times-bytes early bad ok (suc n) (b ∷ s) l r e =
    let x = then-got (check (ok b) bad b s) (λ a t. and_then (times n (byte early bad ok) t) (λ more u. got (a ∷ more) u)) l r e in
    let h = check-got (ok b) bad b s x.0 x.1 x.2 in
    let y = then-got (times n (byte early bad ok) x.1) (λ more u. got (x.0 ∷ more) u) l r x.3 in
    let z = times-bytes early bad ok n x.1 y.0 y.1 y.2 in
    let k : x.0 ∷ y.0 ≡ l = cc y.3 in
    let end : y.1 ≡ r = cc y.3 in
    ap₂ (λ (c : ℕ) (t : List ℕ). c ∷ t) h.1 (h.2 ∙ z ∙ ap (λ (t : List ℕ). y.0 ++ t) end) ∙ ap (λ (m : List ℕ). m ++ r) k

head_read : (b : ℕ) (r : List ℕ) → is_head b ≡ true → head_reader (b ∷ r) ≡ got (head_of b) r
head_read b r h = ap (λ (t : Bool). and_then (check t 5 b r) (λ c. give (head_of c))) h

body-read : (R : Rules) (k i : ℕ) (l : List ℕ) (N : Net) → body_reader R k i (l ++ []) ≡ got N [] → from_head R k (record { inputs = i; section = false }) l ≡ got (drawn N []) []
unfolding times
body-read R k i l N q = ap (λ (t : List ℕ). from_head R k (record { inputs = i; section = false }) t) (sym (append-nil l)) ∙ then-goes (from_body false) q

-- the record without bit 7 and without its section
pub record Unsectioned (R : Rules) (k b : ℕ) (r : List ℕ) (d : Drawn) : Type 0 where
  pub body : List ℕ
  pub parts : r ≡ body ++ d.section
  pub same : drawn_reader R k (b % 128 ∷ body) ≡ got (drawn d.net []) []

module _ (R : Rules) (k b : ℕ) (r : List ℕ) (d : Drawn) (end : List ℕ) (e : drawn_reader R k (b ∷ r) ≡ got d end) where
  -- **With bit and section taken off a net reads to the same net**,
  pub section-off : Unsectioned R k b r d
  section-off =
      let x = then-got (head_reader (b ∷ r)) (from_head R k) d end (sym (drawn_stages R k (b ∷ r)) ∙ e) in
      let x0 = then-got (check (is_head b) 5 b r) (λ c. give (head_of c)) x.0 x.1 x.2 in
      let h = check-got (is_head b) 5 b r x0.0 x0.1 x0.2 in
      let start : from_head R k (head_of b) r ≡ got d end = sym (then-goes (from_head R k) (head_read b r h.0)) ∙ sym (drawn_stages R k (b ∷ r)) ∙ e in
      let y = then-got (body_reader R k (b % 128) r) (from_body (head_of b).section) d end start in
      let f = framed_body R k (b % 128) r y.0 y.1 y.2 in
      let z = then-got (section_reader (head_of b).section y.0 y.1) (λ section. at_end 8 (drawn y.0 section)) d end y.3 in
      let bytes = times-bytes 4 6 _ _ y.1 z.0 z.1 z.2 in
      let w = at_end_lem (drawn y.0 z.0) z.1 z.3 in
      record {
        body = f.used;
        parts = f.is ∙ ap (λ (t : List ℕ). f.used ++ t) (bytes ∙ ap (λ (t : List ℕ). z.0 ++ t) w.1 ∙ append-nil z.0 ∙ ap (λ (c : Drawn). c.section) w.0);
        same = drawn_stages R k (b % 128 ∷ f.used) ∙ then-goes (from_head R k) (head_read (b % 128) f.used (ap (between 1 most_inputs) again ∙ h.0))
            ∙ ap (λ (head : Head). from_head R k head f.used) (plain-head (b % 128) (omega arith)) ∙ body-read R k (b % 128) f.used y.0 (f.again [])
            ∙ ap (λ (c : Drawn). got (drawn c.net []) []) w.0;
      }
    where
      again : b % 128 % 128 ≡ b % 128
      again = omega arith

      at_end_lem : (a : Drawn) (s : List ℕ) → at_end 8 a s ≡ got d end → (a ≡ d) × (s ≡ [])
      at_end_lem a [] q = ((at_end-got 8 a [] d end q).0, refl)
      at_end_lem a (x ∷ s) q = absurd (refused-not-got 8 d end q)

  -- **so map and mark do with it what they do with the other.**
  pub net-off : net_reader R k (b ∷ r) ≡ net_reader R k (b % 128 ∷ section-off.body)
  net-off =
      net_stages R k (b ∷ r) ∙ then-goes net_of e ∙ ap (λ (t : List ℕ). got d.net t) none ∙ sym (net_stages R k (b % 128 ∷ section-off.body) ∙ then-goes net_of section-off.same)
    where
      none : end ≡ []
      none =
          let x = then-got (head_reader (b ∷ r)) (from_head R k) d end (sym (drawn_stages R k (b ∷ r)) ∙ e) in
          let y = then-got (body_reader R k x.0.inputs x.1) (from_body x.0.section) d end x.3 in
          let z = then-got (section_reader x.0.section y.0 y.1) (λ section. at_end 8 (drawn y.0 section)) d end y.3 in
          (at_end-got 8 (drawn y.0 z.0) z.1 d end z.3).1
