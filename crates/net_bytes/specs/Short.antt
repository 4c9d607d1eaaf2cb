-- Laws of readers that look at a limited number of bytes: what follows more bytes than that changes nothing. The reader of a net record looks at no more than 803.
use Rattle.std.specs.Prelude.{◌≡◌, Bool, true, false, cond, List, [], ◌∷◌, ◌++◌, leb, length}
use Rattle.std.proofs.Math.Path.{refl}
use Rattle.std.proofs.Common.{sym, ap, ◌∙◌, mul-le-mul_right, arith, leb-true, eqb-true, pow_mono}
use Prim.Native.Nat.{ℕ, zero, suc, ◌+◌, ◌*◌, ◌≤◌, ◌<◌}
use Rattle.std.proofs.Math.Nat.{zero-mul, suc-mul}
use Rattle.std.proofs.lemmas.Nat.{and_le_r, ones-le}
use Rattle.std.specs.Int.Count.{ones}
use Rattle.limits.specs.Limits.{most_inputs, most_items, most_net_bytes, most_outputs, most_pins}
use Rattle.limits.specs.Courses.{long}
use Rattle.limits.specs.declared.Rules.{Rules}
use Rattle.sequences.specs.Member.{here, there}
use Rattle.net_model.specs.Net.{Net, size}
use Rattle.net_bytes.specs.Reading.{Result, Reader, ◌>>=◌, and_then, give, check, byte, number, times, at_end, got, refused}
use Rattle.net_bytes.specs.Walk.{drawn, head_of, is_head, net_reader, drawn_reader, head_reader, body_reader, section_reader, gate_reader, output_reader, only_bits, table_bytes}
use Rattle.net_bytes.specs.Readers.{Each}
use Rattle.net_bytes.specs.Maps.{only_mask}
use Rattle.net_bytes.specs.Sound.{between-true}

abbrev pub Bytes : List ℕ → Type 0
Bytes s = Each (λ (b : ℕ). b < 256) s

-- What a reader makes of some bytes, by what follows them: always the same refusal; or always the same value, of which P holds, with more than n of the bytes left.
pub data Steady {A : Type 0} (P : A → Type 0) (n : ℕ) : (List ℕ → Result A) → Type 0 where
  stops : (e : ℕ) → Steady P n (λ t. refused e)
  goes : {a : A} {s : List ℕ} → P a → Bytes s → n < length s → Steady P n (λ t. got a (s ++ t))

-- m looks at no more than c bytes: what follows more than c + n does not matter, and more than n are left
pub record Short {A : Type 0} (c : ℕ) (P : A → Type 0) (m : Reader A) : Type 0 where
  pub steady : (n : ℕ) (s : List ℕ) → Bytes s → c + n < length s → Steady P n (λ t. m (s ++ t))

-- of a value: nothing is known; there is none
abbrev pub Anything : {A : Type 0} → A → Type 0
Anything a = Unit {0}

abbrev pub Nothing : {A : Type 0} → A → Type 0
Nothing a = ⊥

-- a byte that passed its test
abbrev pub Tested : (ℕ → Bool) → ℕ → Type 0
Tested ok b = (b < 256) × (ok b ≡ true)

-- a reader that gives no value for more than c bytes refuses them with one number, whatever follows
pub short-refuses : {A : Type 0} {c : ℕ} {m : Reader A} → Short c Nothing m → (s : List ℕ) → Bytes s → c < length s
    → (e : ℕ) × ((t : List ℕ) → m (s ++ t) ≡ refused e)
short-refuses {A} x s b l = go (x.steady 0 s b (omega arith))
  where
    go : {q : List ℕ → Result A} → Steady Nothing 0 q → (e : ℕ) × ((t : List ℕ) → q t ≡ refused e)
    go (stops e) = (e, λ t. refl)
    go (goes p b l) = absurd p

module _ {A : Type 0} where
  pub short-value : {P : A → Type 0} {a : A} → P a → Short 0 P (give a)
  short-value p = record { steady = λ n s b l. goes p b (omega arith) }

  pub short-give : {a : A} → Short 0 Anything (give a)
  short-give = short-value tt

  pub short-check : {P : A → Type 0} (t : Bool) (e : ℕ) (a : A) → P a → Short 0 P (check t e a)
  short-check true e a p = record { steady = λ n s b l. goes p b (omega arith) }
  short-check false e a p = record { steady = λ n s b l. stops e }

  pub short_end : (e : ℕ) (a : A) → Short 0 Nothing (at_end e a)
  short_end e a = record { steady = over }
    where
      over : (n : ℕ) (s : List ℕ) → Bytes s → 0 + n < length s → Steady Nothing n (λ t. at_end e a (s ++ t))
      over n [] b l = absurd (omega arith)
      over n (c ∷ s) b l = stops e

pub short-byte : (early bad : ℕ) (ok : ℕ → Bool) → Short 1 (Tested ok) (byte early bad ok)
short-byte early bad ok = record { steady = one }
  where
    told : (t : Bool) (n c : ℕ) (s : List ℕ) → ok c ≡ t → c < 256 → Bytes s → n < length s → Steady (Tested ok) n (λ u. check t bad c (s ++ u))
    told true n c s e h b l = goes (h, e) b l
    told false n c s e h b l = stops bad

    one : (n : ℕ) (s : List ℕ) → Bytes s → 1 + n < length s → Steady (Tested ok) n (λ t. byte early bad ok (s ++ t))
    one n [] b l = absurd (omega arith)
    one n (c ∷ s) b l = told (ok c) n c s refl (b c (here refl)) (λ a m. b a (there m)) (omega arith)

module _ {A : Type 0} {P : A → Type 0} where
  pub short-most : {c d : ℕ} {m : Reader A} → c ≤ d → Short c P m → Short d P m
  short-most h x = record { steady = λ n s b l. x.steady n s b (omega arith) }

  pub short-known : {Q : A → Type 0} {c : ℕ} {m : Reader A} → ((a : A) → P a → Q a) → Short c P m → Short c Q m
  short-known {Q} f x = record { steady = λ n s b l. go n (x.steady n s b l) }
    where
      go : (n : ℕ) {q : List ℕ → Result A} → Steady P n q → Steady Q n q
      go n (stops e) = stops e
      go n (goes {a} p b l) = goes (f a p) b l

  pub short-then : {B : Type 0} {Q : B → Type 0} {c d : ℕ} {m : Reader A} {f : A → Reader B} → Short c P m → ((a : A) → P a → Short d Q (f a)) → Short (c + d) Q (m >>= f)
  short-then {B} {Q} {c} {d} {m} {f} x y = record { steady = λ n s b l. go n (x.steady (d + n) s b (omega arith)) }
    where
      go : (n : ℕ) {q : List ℕ → Result A} → Steady P (d + n) q → Steady Q n (λ t. and_then (q t) f)
      go n (stops e) = stops e
      go n (goes {a} {s} p b l) = (y a p).steady n s b l

module _ {A : Type 0} {P : A → Type 0} where
  -- n things of at most c bytes each
  short-all : {c : ℕ} {m : Reader A} (n : ℕ) → Short c P m → Short (n * c) (λ l. length l ≡ n) (times n m)
  unfolding times
  short-all {c} zero x = record { steady = λ n s b l. goes refl b (omega (arith, zero-mul c)) }
  short-all {c} (suc n) x = short-most (omega (arith, suc-mul n c)) (short-then x λ a p. short-then (short-all n x) λ l q. short-value {a = a ∷ l} (ap suc q))

  pub short-times : {c n most : ℕ} {m : Reader A} → n ≤ most → Short c P m → Short (most * c) (λ l. length l ≡ n) (times n m)
  short-times {c} {n} h x = short-most (mul-le-mul_right c h) (short-all n x)

-- a number is one byte, or two
abbrev pub number_bytes : Bool → ℕ
number_bytes wide = cond wide 2 1

pub short-number : (wide : Bool) (early bad : ℕ) (ok : ℕ → Bool) → Short (number_bytes wide) (λ n. ok n ≡ true) (number wide early bad ok)
short-number false early bad ok = short-known (λ n h. h.1) (short-byte early bad ok)
short-number true early bad ok =
    short-then (short-byte early bad (λ x. true)) λ low hl.
    short-then (short-byte early bad (λ x. true)) λ high hh. test (low + 256 * high) (ok (low + 256 * high)) refl
  where
    test : (n : ℕ) (t : Bool) → ok n ≡ t → Short 0 (λ m. ok m ≡ true) (check t bad n)
    test n true e = short-check true bad n e
    test n false e = record { steady = λ m s b l. stops bad }

pub table_bytes-most : {m n : ℕ} → m ≤ n → table_bytes m ≤ table_bytes n
table_bytes-most h = omega (arith, pow_mono h)

-- a map with only bits of a map of six bits
map-most : (p r : ℕ) → p ≤ 63 → r < 256 → only_bits 8 p r ≡ true → ones r ≤ most_pins
map-most p r h l e = ones-le most_pins r (omega (arith, and_le_r r p, eqb-true _ r (sym (only_mask 8 p r l) ∙ e)))

-- ---- the net

-- bytes of a gate, of an output, of a net: as `limits/Limits` counts them, node numbers of one byte or two
abbrev pub gate_bytes : Bool → ℕ
gate_bytes wide = 2 + (most_pins * number_bytes wide + (most_pins + most_items))

abbrev pub output_bytes : Bool → ℕ
output_bytes wide = 1 + (number_bytes wide + 1)

abbrev pub body_bytes : Rules → ℕ
body_bytes R = number_bytes R.wide + (1 + (R.gates * gate_bytes R.wide + most_outputs * output_bytes R.wide))

abbrev pub net_bytes : Rules → ℕ
net_bytes R = 1 + body_bytes R + (most_inputs + R.gates)

short-gate : (wide : Bool) (k nodes : ℕ) → Short (gate_bytes wide) Anything (gate_reader wide k nodes)
unfolding gate_reader
short-gate wide k nodes =
    short-most (omega arith) (short-then (short-byte 4 6 _) λ p hp.
    let high = (between-true 1 63 p hp.1).1 in
    short-then (short-check {P = λ m. m ≤ most_pins} (leb (ones p) k) 7 (ones p) (ones-le most_pins p (omega arith))) λ m few.
    short-then (short-byte 4 6 _) λ r hr.
    short-then (short-times few (short-number wide 4 6 _)) λ s hs.
    short-then (short-times (map-most p r high hr.0 hr.1) (short-byte 4 6 _)) λ c hc.
    short-then (short-times (table_bytes-most few) (short-byte 4 6 _)) λ t ht. short-give)

short-output : (wide : Bool) (nodes : ℕ) → Short (output_bytes wide) Anything (output_reader wide nodes)
unfolding output_reader
short-output wide nodes =
    short-then (short-byte 4 6 _) λ m hm.
    short-then (short-number wide 4 6 _) λ s hs.
    short-then (short-times (leb-true m 1 hm.1) (short-byte 4 6 _)) λ c hc. short-give

short-body : (R : Rules) (k i : ℕ) → i ≤ most_inputs → Short (body_bytes R) (λ N. size N ≤ most_inputs + R.gates) (body_reader R k i)
unfolding body_reader
short-body R k i low =
    short-most (omega arith) (short-then (short-number R.wide 4 5 _) λ g hg.
    short-then (short-byte 4 5 _) λ o ho.
    short-then (short-times (between-true 1 R.gates g hg).1 (short-gate R.wide k (i + g))) λ gs hgs.
    short-then (short-times (between-true 1 most_outputs o ho.1).1 (short-output R.wide (i + g))) λ os hos. short-value (omega (arith, hgs, low, (between-true 1 R.gates g hg).1)))

short-section : (follows : Bool) (N : Net) {most : ℕ} → size N ≤ most → Short (most * 1) Anything (section_reader follows N)
short-section true N h = short-known (λ l q. tt) (short-times h (short-byte 4 6 _))
short-section false N h = short-known (λ l q. tt) (short-times (omega arith) (short-byte 4 6 _))

short-head : Short 1 (λ h. h.inputs ≤ most_inputs) head_reader
short-head = short-most (omega arith) (short-then (short-byte 4 5 is_head) λ b hb. short-value (between-true 1 most_inputs (head_of b).inputs hb.1).1)

short-drawn : (R : Rules) (k : ℕ) → Short (net_bytes R) Nothing (drawn_reader R k)
unfolding drawn_reader
short-drawn R k =
    short-most (omega arith) (short-then short-head λ h hh.
    short-then (short-body R k h.inputs hh) λ N h_n.
    short-then (short-section h.section N h_n) λ section hs. short_end 8 (drawn N section))

-- **A net record has at most so many bytes under rules R**,
pub short-net : (R : Rules) (k : ℕ) → Short (net_bytes R) Nothing (net_reader R k)
unfolding net_reader
short-net R k = short-most (omega arith) (short-then {d = 0} (short-drawn R k) λ d none. absurd none)

-- **803 under document 01's.**
pub net-bytes-long : net_bytes long ≡ most_net_bytes
net-bytes-long = refl
