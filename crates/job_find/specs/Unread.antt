-- Laws: what stands behind the lookup's stop never changes its answer.
use Rattle.std.specs.Prelude.{◌≡◌, Bool, true, false, cond, List, [], ◌++◌, ℕ, zero, suc, ◌+◌, ◌-◌, ltb, eqb, length, take}
use Rattle.std.proofs.Math.Path.{refl}
use Rattle.std.proofs.Common.{sym, ap, ap₂, ◌∙◌, append_assoc, arith, length-append}
use Rattle.std.proofs.Math.Seq.{take-append_seam}
use Rattle.limits.specs.Limits.{most_k}
use Rattle.limits.specs.declared.Rules.{Rules}
use Rattle.net_bytes.specs.Reading.{Result, and_then, got}
use Rattle.net_bytes.specs.Readers.{got-value, then-got, then-goes}
use Rattle.cover_theory.specs.Key.{Entry}
use Rattle.cover_records.specs.CoverBytes.{root_reader, lut_body}
use Rattle.cover_records.specs.CoverStages.{front_reader, front-got, front_goes, got-rest}
use Rattle.job_find.specs.RootLookup.{Lookup, found, absent, any_node, look_luts, look_reader, told, look_up}
use Rattle.job_find.specs.LookupTold.{Unread}
use Rattle.net_bytes.specs.Frames.{Frame, framed_number}
use Rattle.job_find.specs.Frames.{framed_lut, framed_front}

-- LUTs that stand c bytes behind the record's start
record LutsFrame (w : Bool) (g n least c : ℕ) (s : List ℕ) (a : Lookup) (r : List ℕ) : Type 0 where
  used : List ℕ
  is : s ≡ used ++ r
  again : (v : List ℕ) → look_luts w (c + length (used ++ v)) g n least (used ++ v) ≡ got a v

-- what is read behind a root
unfoldable pub from_root : Bool → ℕ → ℕ → ℕ → List ℕ → ℕ → List ℕ → Result Lookup
from_root w total g n s root behind =
    cond (ltb root g) (and_then (lut_body w any_node most_k root behind) (λ e after. look_luts w total g n (suc root) after)) (got (cond (eqb root g) (found (total - length s)) absent) behind)

pub look_more : (w : Bool) (total g n least : ℕ) (s : List ℕ) → look_luts w total g (suc n) least s ≡ and_then (root_reader w any_node least s) (from_root w total g n s)
unfolding look_luts from_root
look_more w total g n least s = refl

module _ (w : Bool) (total g n : ℕ) (s : List ℕ) (root : ℕ) (behind : List ℕ) where
  pub root_below : ltb root g ≡ true → from_root w total g n s root behind ≡ and_then (lut_body w any_node most_k root behind) (λ e after. look_luts w total g n (suc root) after)
  unfolding from_root
  root_below e = rw e refl

  pub root-not-below : ltb root g ≡ false → from_root w total g n s root behind ≡ got (cond (eqb root g) (found (total - length s)) absent) behind
  unfolding from_root
  root-not-below e = rw e refl

-- the reading ends at a root that is not below g
ends-here : (w : Bool) (g n least c : ℕ) (s : List ℕ) (a : Lookup) (r : List ℕ) (root : ℕ) (behind : List ℕ) → Frame (root_reader w any_node least) s root behind → ltb root g ≡ false
    → from_root w (c + length s) g n s root behind ≡ got a r → LutsFrame w g (suc n) least c s a r
ends-here w g n least c s a r root behind p t e =
    let h = sym (root-not-below w (c + length s) g n s root behind t) ∙ e in
    record {
      used = p.used;
      is = p.is ∙ ap (λ (l : List ℕ). p.used ++ l) (got-rest (told_at (length s)) behind a r h);
      again = λ v. look_more w (c + length (p.used ++ v)) g n least (p.used ++ v) ∙ then-goes (from_root w (c + length (p.used ++ v)) g n (p.used ++ v)) (p.again v)
          ∙ root-not-below w (c + length (p.used ++ v)) g n (p.used ++ v) root v t
          ∙ ap (λ (b : Lookup). got b v) (same (length (p.used ++ v)) ∙ sym (same (length s)) ∙ got-value (told_at (length s)) behind a r h);
    }
  where
    told_at : ℕ → Lookup
    told_at l = cond (eqb root g) (found (c + l - l)) absent

    same : (l : ℕ) → told_at l ≡ cond (eqb root g) (found c) absent
    same l = let z : c + l - l ≡ c = omega arith in ap (λ (o : ℕ). cond (eqb root g) (found o) absent) z

-- the reading goes on behind a LUT
goes_on : (w : Bool) (g n least c d : ℕ) (s : List ℕ) (a : Lookup) (r : List ℕ) (root : ℕ) (behind : List ℕ) (e : Entry) (after : List ℕ)
    (p : Frame (root_reader w any_node least) s root behind) (q : Frame (lut_body w any_node most_k root) behind e after) → ltb root g ≡ true
    → d ≡ c + (length p.used + length q.used) → LutsFrame w g n (suc root) d after a r → LutsFrame w g (suc n) least c s a r
goes_on w g n least c d s a r root behind e after p q t from f = record {
  used = p.used ++ (q.used ++ f.used);
  is = p.is ∙ ap (λ (l : List ℕ). p.used ++ l) (q.is ∙ ap (λ (l : List ℕ). q.used ++ l) f.is ∙ sym (append_assoc q.used f.used r)) ∙ sym (append_assoc p.used (q.used ++ f.used) r);
  again = again;
}
  where
    again : (v : List ℕ) → look_luts w (c + length ((p.used ++ (q.used ++ f.used)) ++ v)) g (suc n) least ((p.used ++ (q.used ++ f.used)) ++ v) ≡ got a v
    again v =
        let l = p.used ++ (q.used ++ (f.used ++ v)) in
        let same : (p.used ++ (q.used ++ f.used)) ++ v ≡ l =
        append_assoc p.used (q.used ++ f.used) v ∙ ap (λ (k : List ℕ). p.used ++ k) (append_assoc q.used f.used v) in
        let total : c + length l ≡ d + length (f.used ++ v) =
        omega (arith, length-append p.used (q.used ++ (f.used ++ v)), length-append q.used (f.used ++ v), from) in
        ap (λ (k : List ℕ). look_luts w (c + length k) g (suc n) least k) same ∙ look_more w (c + length l) g n least l
        ∙ then-goes (from_root w (c + length l) g n l) (p.again (q.used ++ (f.used ++ v)))
        ∙ behind-root (c + length l) l (q.used ++ (f.used ++ v)) (q.again (f.used ++ v))
        ∙ ap (λ (k : ℕ). look_luts w k g n (suc root) (f.used ++ v)) total ∙ f.again v
      where
        behind-root : (total : ℕ) (l u : List ℕ) {x : List ℕ} → lut_body w any_node most_k root u ≡ got e x → from_root w total g n l root u ≡ look_luts w total g n (suc root) x
        behind-root total l u h = root_below w total g n l root u t ∙ then-goes (λ e after. look_luts w total g n (suc root) after) h

luts-frame : (w : Bool) (g n least c : ℕ) (s : List ℕ) (a : Lookup) (r : List ℕ) → look_luts w (c + length s) g n least s ≡ got a r → LutsFrame w g n least c s a r
unfolding look_luts
luts-frame w g zero least c s a r e = record { used = []; is = got-rest absent s a r e; again = λ v. ap (λ (b : Lookup). got b v) (got-value absent s a r e) }
luts-frame w g (suc n) least c s a r e =
    let x = then-got (root_reader w any_node least s) (from_root w (c + length s) g n s) a r (sym (look_more w (c + length s) g n least s) ∙ e) in
    go x.0 x.1 (framed_number w 13 13 _ s x.0 x.1 x.2) x.3 (luts-frame w g n) (ltb x.0 g) refl
  where
    go : (root : ℕ) (behind : List ℕ) → Frame (root_reader w any_node least) s root behind → from_root w (c + length s) g n s root behind ≡ got a r
        → ((least c : ℕ) (s : List ℕ) (a : Lookup) (r : List ℕ) → look_luts w (c + length s) g n least s ≡ got a r → LutsFrame w g n least c s a r)
        → (t : Bool) → ltb root g ≡ t → LutsFrame w g (suc n) least c s a r
    go root behind p h again false t = ends-here w g n least c s a r root behind p t h
    go root behind p h again true t =
        let y = then-got (lut_body w any_node most_k root behind) (λ e after. look_luts w (c + length s) g n (suc root) after) a r (sym (root_below w (c + length s) g n s root behind t) ∙ h) in
        let after = y.1 in
        let q = framed_lut w any_node most_k root behind y.0 after y.2 in
        let d = c + (length p.used + length q.used) in
        let total : c + length s ≡ d + length after =
        omega (arith, ap length p.is, ap length q.is, length-append p.used behind, length-append q.used after) in
        goes_on w g n least c d s a r root behind y.0 after p q t refl (again (suc root) d after a r (ap (λ (k : ℕ). look_luts w k g n (suc root) after) (sym total) ∙ y.3))

pub unread : (R : Rules) (g : ℕ) → Unread R g
unfolding look_up look_reader
unread R g bytes rest a e v =
    let x = front-got R (λ period n. look_luts R.wide (length bytes) g n 0) bytes a rest e in
    let fr = x.0 in
    let u = x.1 in
    let p = framed_front R bytes fr u x.2 in
    let c = length p.used in
    let total : length bytes ≡ c + length u = ap length p.is ∙ length-append p.used u in
    let f = luts-frame R.wide g fr.luts 0 c u a rest (ap (λ (k : ℕ). look_luts R.wide k g fr.luts 0 u) (sym total) ∙ x.3) in
    let used = p.used ++ f.used in
    let whole : bytes ≡ used ++ rest = p.is ∙ ap (λ (l : List ℕ). p.used ++ l) f.is ∙ sym (append_assoc p.used f.used rest) in
    let front : take (length bytes - length rest) bytes ≡ used = taken bytes used rest whole in
    let l = used ++ v in
    let long : length l ≡ c + length (f.used ++ v) = ap length (append_assoc p.used f.used v) ∙ length-append p.used (f.used ++ v) in
    ap (λ (k : List ℕ). told (look_reader R (length (k ++ v)) g (k ++ v))) front
    ∙ ap told (front_goes R (λ period n. look_luts R.wide (length l) g n 0) l (ap (front_reader R) (append_assoc p.used f.used v) ∙ p.again (f.used ++ v))
    ∙ ap (λ (k : ℕ). look_luts R.wide k g fr.luts 0 (f.used ++ v)) long ∙ f.again v)
  where
    taken : (s u r : List ℕ) → s ≡ u ++ r → take (length s - length r) s ≡ u
    taken s u r e =
        let l : length s - length r ≡ length u = omega (arith, ap length e, length-append u r) in
        ap₂ (λ (n : ℕ) (k : List ℕ). take n k) l e ∙ take-append_seam u r
