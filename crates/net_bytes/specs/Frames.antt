-- Laws of readers that gave a value: they used the bytes in front of what is left, and with these in front they give the same value, whatever follows.
use Rattle.std.specs.Prelude.{◌≡◌, Bool, true, false, List, [], ◌∷◌, ◌++◌, ℕ, zero, suc, ◌+◌, ◌*◌, leb}
use Rattle.std.proofs.Common.{sym, ap, ap₂, ◌∙◌, append_assoc}
use Rattle.std.specs.Int.Count.{ones}
use Rattle.limits.specs.declared.Rules.{Rules}
use Rattle.net_bytes.specs.Reading.{Reader, ◌>>=◌, and_then, give, check, byte, number, times, got}
use Rattle.net_bytes.specs.Readers.{refused-not-got, got-value, then-got, then-goes, check-got}
use Rattle.net_bytes.specs.Walk.{table_bytes, gate_reader, output_reader, body_reader}

-- m gave a and left r
pub record Frame {A : Type 0} (m : Reader A) (s : List ℕ) (a : A) (r : List ℕ) : Type 0 where
  pub used : List ℕ
  pub is : s ≡ used ++ r
  pub again : (v : List ℕ) → m (used ++ v) ≡ got a v

-- readers of which this holds for all bytes
abbrev pub Framed : {A : Type 0} → Reader A → Type 0
Framed {A} m = (s : List ℕ) (a : A) (r : List ℕ) → m s ≡ got a r → Frame m s a r

pub framed_give : {A : Type 0} (b : A) → Framed (give b)
framed_give b s a r e =
    let value = got-value b s a r e in
    record { used = []; is = cc; again = λ v. ap (λ (c : _). got c v) value }

pub framed_check : {A : Type 0} (t : Bool) (n : ℕ) (b : A) → Framed (check t n b)
framed_check true n b s a r e = framed_give b s a r e
framed_check false n b s a r e = absurd (refused-not-got n a r e)

pub framed_byte : (early bad : ℕ) (ok : ℕ → Bool) → Framed (byte early bad ok)
framed_byte early bad ok [] a r e = absurd (refused-not-got early a r e)
framed_byte early bad ok (b ∷ s) a r e =
    let h = check-got (ok b) bad b s a r e in
    record {
      used = b ∷ [];
      is = ap (λ (l : List ℕ). b ∷ l) h.2;
      again = λ v. ap₂ (λ (t : Bool) (c : ℕ). check t bad c v) h.0 h.1;
    }

module _ {A B : Type 0} where
  pub framed_then : {m : Reader A} {f : A → Reader B} → Framed m → ((a : A) → Framed (f a)) → Framed (m >>= f)
  framed_then {m} {f} x y s b r e =
      let z = then-got (m s) f b r e in
      let p = x s z.0 z.1 z.2 in
      let q = y z.0 z.1 b r z.3 in
      record {
        used = p.used ++ q.used;
        is = p.is ∙ ap (λ (l : List ℕ). p.used ++ l) q.is ∙ sym (append_assoc p.used q.used r);
        again = λ v. ap (λ (l : List ℕ). and_then (m l) f) (append_assoc p.used q.used v) ∙ then-goes f (p.again (q.used ++ v)) ∙ q.again v;
      }

pub framed_number : (w : Bool) (early bad : ℕ) (ok : ℕ → Bool) → Framed (number w early bad ok)
framed_number false early bad ok = framed_byte early bad ok
framed_number true early bad ok = framed_then (framed_byte early bad (λ x. true)) λ low. framed_then (framed_byte early bad (λ x. true)) λ high. framed_check (ok (low + 256 * high)) bad (low + 256 * high)

pub framed_times : {A : Type 0} {m : Reader A} → Framed m → (n : ℕ) → Framed (times n m)
unfolding times
framed_times x zero = framed_give []
framed_times x (suc n) = framed_then x λ a. framed_then (framed_times x n) λ l. framed_give (a ∷ l)

-- ---- the parts of a net record

framed_gate : (w : Bool) (k nodes : ℕ) → Framed (gate_reader w k nodes)
unfolding gate_reader
framed_gate w k nodes =
    framed_then (framed_byte 4 6 _) λ p.
    framed_then (framed_check (leb (ones p) k) 7 (ones p)) λ m.
    framed_then (framed_byte 4 6 _) λ r.
    framed_then (framed_times (framed_number w 4 6 _) m) λ sources.
    framed_then (framed_times (framed_byte 4 6 _) (ones r)) λ counts.
    framed_then (framed_times (framed_byte 4 6 _) (table_bytes m)) λ table. framed_give _

framed_output : (w : Bool) (nodes : ℕ) → Framed (output_reader w nodes)
unfolding output_reader
framed_output w nodes =
    framed_then (framed_byte 4 6 _) λ m.
    framed_then (framed_number w 4 6 _) λ source.
    framed_then (framed_times (framed_byte 4 6 _) m) λ counts. framed_give _

pub framed_body : (R : Rules) (k i : ℕ) → Framed (body_reader R k i)
unfolding body_reader
framed_body R k i =
    framed_then (framed_number R.wide 4 5 _) λ g.
    framed_then (framed_byte 4 5 _) λ o.
    framed_then (framed_times (framed_gate R.wide k (i + g)) g) λ gates.
    framed_then (framed_times (framed_output R.wide (i + g)) o) λ outputs. framed_give _
