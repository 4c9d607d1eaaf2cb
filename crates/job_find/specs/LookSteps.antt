-- Laws of the loop over the LUTs: at the start, behind one LUT, at a stop, at a refusal, at the end; and of what stands before them.
use Rattle.std.specs.Prelude.{◌≡◌, refl, Bool, true, false, cond, List, ℕ, zero, suc, ◌+◌, ◌-◌, ◌≤◌, ◌<◌, eqb, length, drop}
use Rattle.std.proofs.Math.Path.{sym}
use Rattle.std.proofs.Common.{ap, ◌∙◌, add-one, arith, lt-ltb, le-ltb, eq-eqb, ne_eqb, length-drop}
use Rattle.limits.specs.Courses.{long}
use Rattle.limits.specs.Limits.{most_k}
use Rattle.limits.specs.declared.Rules.{Rules}
use Rattle.cover_theory.specs.Key.{Entry}
use Rattle.net_bytes.specs.Reading.{and_then, got, refused}
use Rattle.net_bytes.specs.Readers.{then-goes, then-stops}
use Rattle.net_bytes.specs.Short.{number_bytes}
use Rattle.cover_records.specs.CoverBytes.{root_reader, lut_body}
use Rattle.cover_records.specs.CoverStages.{Front, front_reader, front_goes, front-stops}
use Rattle.job_find.specs.RootLookup.{found, absent, turned_back, any_node, look_luts, look_reader, told, look_up, find_root}
use Rattle.job_find.specs.Unread.{from_root, look_more, root_below, root-not-below}
use Rattle.job_find.specs.LookupLaws.{number-length}

-- i of the n LUTs are passed, and the rest begins at place `next`
pub record LookedSoFar (w : Bool) (s : List ℕ) (g n at next least i : ℕ) : Type 0 where
  pub result : look_luts w (length s) g n 0 (drop at s) ≡ look_luts w (length s) g (n - i) least (drop next s)
  pub most : i ≤ n

look_none : (w : Bool) (total g least : ℕ) (s : List ℕ) → look_luts w total g zero least s ≡ got absent s
unfolding look_luts
look_none w total g least s = refl

module _ (w : Bool) (s : List ℕ) (g n at : ℕ) where
  pub looked_none : LookedSoFar w s g n at at 0 0
  looked_none = let all : n ≡ n - 0 = omega arith in record { result = ap (λ (m : ℕ). look_luts w (length s) g m 0 (drop at s)) all; most = omega arith }

  module _ (next least i : ℕ) (so : LookedSoFar w s g n at next least i) where
    pub looked_all : n ≤ i → look_luts w (length s) g n 0 (drop at s) ≡ got absent (drop next s)
    looked_all h =
        let none : n - i ≡ 0 = omega arith in
        so.result ∙ ap (λ (m : ℕ). look_luts w (length s) g m least (drop next s)) none ∙ look_none w (length s) g least (drop next s)

    module _ (more : i < n) where
      next-root : look_luts w (length s) g n 0 (drop at s) ≡ and_then (root_reader w any_node least (drop next s)) (from_root w (length s) g (n - (i + 1)) (drop next s))
      next-root =
          let left : n - i ≡ suc (n - (i + 1)) = omega arith in
          so.result ∙ ap (λ (m : ℕ). look_luts w (length s) g m least (drop next s)) left ∙ look_more w (length s) g (n - (i + 1)) least (drop next s)

      pub root-stops : {j : ℕ} → root_reader w any_node least (drop next s) ≡ refused j → look_luts w (length s) g n 0 (drop at s) ≡ refused j
      root-stops e = next-root ∙ then-stops (from_root w (length s) g (n - (i + 1)) (drop next s)) e

      module _ (root : ℕ) (u : List ℕ) (e : root_reader w any_node least (drop next s) ≡ got root u) where
        at-root : look_luts w (length s) g n 0 (drop at s) ≡ from_root w (length s) g (n - (i + 1)) (drop next s) root u
        at-root = next-root ∙ then-goes (from_root w (length s) g (n - (i + 1)) (drop next s)) e

        -- a root that was read stands before the record's end
        here : length s - length (drop next s) ≡ next
        here =
            let a = number-length w _ (drop next s) root u e in
            let b = length-drop next s in
            let c = some w in
            omega arith
          where
            some : (w : Bool) → 1 ≤ number_bytes w
            some true = omega arith
            some false = omega arith

        -- the reading stops at this root
        stop-here : g ≤ root → look_luts w (length s) g n 0 (drop at s) ≡ got (cond (eqb root g) (found next) absent) u
        stop-here h =
            at-root ∙ root-not-below w (length s) g (n - (i + 1)) (drop next s) root u (le-ltb root g h)
            ∙ ap (λ (o : ℕ). got (cond (eqb root g) (found o) absent) u) here

        pub looked_at : root ≡ g → look_luts w (length s) g n 0 (drop at s) ≡ got (found next) u
        looked_at h = stop-here (omega arith) ∙ ap (λ (t : Bool). got (cond t (found next) absent) u) (eq-eqb root g h)

        pub looked_beyond : g < root → look_luts w (length s) g n 0 (drop at s) ≡ got absent u
        looked_beyond h = stop-here (omega arith) ∙ ap (λ (t : Bool). got (cond t (found next) absent) u) (ne_eqb root g (λ z. omega arith))

        module _ (lower : root < g) where
          at_body : look_luts w (length s) g n 0 (drop at s) ≡ and_then (lut_body w any_node most_k root u) (λ e after. look_luts w (length s) g (n - (i + 1)) (suc root) after)
          at_body = at-root ∙ root_below w (length s) g (n - (i + 1)) (drop next s) root u (lt-ltb root g lower)

          pub body-stops : {j : ℕ} → lut_body w any_node most_k root u ≡ refused j → look_luts w (length s) g n 0 (drop at s) ≡ refused j
          body-stops f = at_body ∙ then-stops (λ e after. look_luts w (length s) g (n - (i + 1)) (suc root) after) f

          pub looked_one : (lut : Entry) (after low : ℕ) → lut_body w any_node most_k root u ≡ got lut (drop after s) → low ≡ root + 1 → LookedSoFar w s g n at after low (i + 1)
          looked_one lut after low f z = record {
            result = at_body ∙ then-goes (λ e after. look_luts w (length s) g (n - (i + 1)) (suc root) after) f
                ∙ ap (λ (m : ℕ). look_luts w (length s) g (n - (i + 1)) m (drop after s)) (sym (z ∙ add-one root));
            most = omega arith;
          }

-- ---- the front

module _ (R : Rules) (g : ℕ) (s : List ℕ) where
  pub front-stopped : {j : ℕ} → front_reader R s ≡ refused j → turned_back 19 ≡ look_up R g s
  unfolding look_up look_reader
  front-stopped e = sym (ap told (front-stops R (λ period n. look_luts R.wide (length s) g n 0) s e))

  pub front_looked : (a : Front) (t : List ℕ) → front_reader R s ≡ got a t → told (look_luts R.wide (length s) g a.luts 0 t) ≡ look_up R g s
  unfolding look_up look_reader
  front_looked a t e = sym (ap told (front_goes R (λ period n. look_luts R.wide (length s) g n 0) s e))

-- under document 01's rules
pub look_long : (R : Rules) (g : ℕ) (s : List ℕ) → R ≡ long → look_up R g s ≡ find_root g s
look_long R g s e = ap (λ (S : Rules). look_up S g s) e
