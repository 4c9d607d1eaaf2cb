-- Laws of checks 14 and 15: from the walk's answers to what the definitions ask of the LUTs.
use Rattle.std.specs.Prelude.{◌≡◌, refl, Bool, true, false, List, ℕ, ◌+◌, ◌-◌, ◌*◌, ◌^◌, ◌≤◌, ◌<◌, ℤ, length, get_or, set, Some, None}
use Rattle.std.proofs.Common.{sym, ap, ap₂, subst₂, ◌∙◌, true≢false, not-suc-le-zero, mod-eq_of_lt, arith, get_or-set_same, get_or-set_other}
use Rattle.std.proofs.Math.Path.{subst}
use Rattle.std.proofs.lemmas.Bool.{false≢true}
use Rattle.std.proofs.Math.Decide.{ℕ_discrete}
use Rattle.net_model.specs.Net.{Net}
use Rattle.net_model.specs.Checks.{Loopless}
use Rattle.limits.specs.Limits.{most_pins}
use Rattle.net_model.specs.Copies.{Copy, IsCut}
use Rattle.net_model.specs.Arrays.{stride, copies_from}
use Rattle.net_model.specs.ArrayLaws.{length-copies_from}
use Rattle.net_model.specs.Tables.{table_of}
use Rattle.net_model.specs.FullTables.{repeated_table, full_of}
use Rattle.cone_values.specs.Values.{table-small}
use Rattle.cone_values.specs.FullTableLaws.{repeated-low, full-repeated, full-low}
use Rattle.net_model.specs.Wired.{Wired}
use Rattle.cone_theory.specs.Ranks.{Ranked}
use Rattle.cover_theory.specs.Key.{Entry}
use Rattle.cover_records.specs.Held.{held, lut_at, luts_in}
use Rattle.cover_records.specs.Kept.{short_table}
use Rattle.cover_records.specs.HeldLaws.{luts_in_in, in_luts_in}
use Rattle.cover_records.specs.Marking.{CutsRight, TableRight, TablesRight}
use Rattle.cone_table.specs.ConeWords.{Tabled}
use Rattle.cone_luts.specs.Luts.{Row}
use Rattle.cone_luts.specs.Luts.{LutCut}
use Rattle.cover_cuts.specs.Cuts.{Cutting, TriedAt, Good, AllGood, CutsTried, ShortOf, WrongTold, Same, Compared, no_cut, wrong, right, CutsTold}

-- ---- one table

module _ (N : Net) (v : ℕ) (C L : List Copy) (n t : ℕ) (many : length L ≡ n) (few : n ≤ most_pins) where
  -- **a table is right exactly if it is the short form of the full one**
  right-short : t ≡ table_of N v C L → ShortOf t n (full_of N v C L)
  right-short e = record {
    short = mod-eq_of_lt (subst₂ (λ (x m : ℕ). x < 2 ^ (2 ^ m)) (sym e) many (table-small N v C L));
    whole = sym (full-repeated N v C L ∙ ap₂ repeated_table many (sym e));
  }

  short-right : ShortOf t n (full_of N v C L) → t ≡ table_of N v C L
  short-right s =
      sym s.short ∙ sym (repeated-low n t few) ∙ ap (short_table n) s.whole
      ∙ ap (λ (m : ℕ). short_table m (full_of N v C L)) (sym many) ∙ full-low N v C L (omega (arith, many, few))

-- ---- one LUT

module _ {I G : ℕ} {ps so co ts roots sizes nodes backs : List ℕ} where
  module _ {k n : ℕ} (a : Cutting I G ps so co ts roots sizes nodes backs k n) where
    -- LUT i has its row
    pub lut-row : (i : ℕ) → i < n → Row sizes nodes backs i
    lut-row i h =
        let f = a.few in
        let m = a.most i h in
        let s = a.at_sizes in
        let u = a.at_nodes in
        let b = a.at_backs in
        record { at_sizes = omega arith; few = omega arith; at_nodes = omega arith; at_backs = omega arith; rising = a.rising i h }

    pub few-leaves : (i : ℕ) → i < n → get_or sizes i 0 ≤ most_pins
    few-leaves i h = let f = a.few in let m = a.most i h in omega arith

    root_is : (i : ℕ) → i < n → I + (get_or roots i 0 - I) ≡ get_or roots i 0
    root_is i h = let l = a.low i h in omega arith

    good-lut : (i : ℕ) → i < n → {r : ℕ} → LutCut I G ps so co ts (copies_from nodes backs (stride * i) (get_or sizes i 0)) (get_or roots i 0 - I) r → Good I G ps so co ts roots sizes nodes backs k i r
    good-lut i h t = record {
      cut = λ N w. subst (λ (v : ℕ). IsCut N k v (copies_from nodes backs (stride * i) (get_or sizes i 0))) (root_is i h)
          (t.cut N w k (let l = length-copies_from nodes backs (stride * i) (get_or sizes i 0) in let m = a.most i h in omega arith));
      table = t.table;
    }

    -- ---- all LUTs

    pub good_none : {ts' : List ℕ} → AllGood I G ps so co ts roots sizes nodes backs k 0 ts'
    good_none = record { each = λ i h. absurd (not-suc-le-zero h) }

    pub good-next : (tables : List ℕ) (m : ℕ) → m < n → m < length tables → AllGood I G ps so co ts roots sizes nodes backs k m tables → (r : ℕ)
        → TriedAt I G ps so co ts roots sizes nodes backs m (Some r)
        → AllGood I G ps so co ts roots sizes nodes backs k (m + 1) (set tables m r)
    good-next tables m h room s r t = record { each = λ i l. go i l (ℕ_discrete i m) }
      where
        At : ℕ → ℕ → Type 0
        At i x = Good I G ps so co ts roots sizes nodes backs k i x

        go : (i : ℕ) → i < m + 1 → Dec (i ≡ m) → At i (get_or (set tables m r) i 0)
        go i l (yes q) = subst (λ (x : ℕ). At x (get_or (set tables m r) x 0)) (sym q) (subst (At m) (sym (get_or-set_same tables m r 0 room)) (good-lut m h t))
        go i l (no q) = subst (At i) (sym (get_or-set_other tables m i r 0 q)) (s.each i (omega arith))

    pub cuts-all : {tables : List ℕ} {m : ℕ} → n ≤ m → AllGood I G ps so co ts roots sizes nodes backs k m tables → CutsTried I G ps so co ts roots sizes nodes backs k n tables false
    cuts-all h s = record { good = λ e. record { each = λ i l. s.each i (omega arith) }; bad = λ e. absurd (false≢true e) }

    pub cuts-not : {tables : List ℕ} (i : ℕ) → i < n → TriedAt I G ps so co ts roots sizes nodes backs i None
        → CutsTried I G ps so co ts roots sizes nodes backs k n tables true
    cuts-not i h t = record {
      good = λ q. absurd (true≢false q);
      bad = λ q. (i, h, λ N w R. subst (λ (v : ℕ). ¬ IsCut N k v (copies_from nodes backs (stride * i) (get_or sizes i 0))) (root_is i h) (t N w R k));
    }

    -- ---- the definitions

    module _ (luts : List ℕ) where
      -- LUT i, whatever its lag
      cut_at : (N : Net) (lags : List ℤ) (i : ℕ) → i < n → CutsRight N k (luts_in (held roots sizes nodes backs lags luts) n)
          → IsCut N k (get_or roots i 0) (copies_from nodes backs (stride * i) (get_or sizes i 0))
      unfolding lut_at
      cut_at N lags i h c = c (lut_at (held roots sizes nodes backs lags luts) i) (in_luts_in (held roots sizes nodes backs lags luts) n i h)

    module _ (luts : List ℕ) {found : List ℕ} where
      all-cuts : AllGood I G ps so co ts roots sizes nodes backs k n found → (N : Net) → Wired N I G ps so co → (lags : List ℤ) → CutsRight N k (luts_in (held roots sizes nodes backs lags luts) n)
      all-cuts s N w lags e m =
          let t = luts_in_in (held roots sizes nodes backs lags luts) n e m in
          subst (λ (x : Entry). IsCut N k x.root x.leaves) (sym t.2) (at t.0 t.1)
        where
          at : (i : ℕ) → i < n → IsCut N k (lut_at (held roots sizes nodes backs lags luts) i).root (lut_at (held roots sizes nodes backs lags luts) i).leaves
          at i h = unfold lut_at in (s.each i h).cut N w

      -- 14 fails
      pub told_no_cut : {b : Bool} → CutsTried I G ps so co ts roots sizes nodes backs k n found b → b ≡ true → CutsTold I G ps so co ts roots sizes nodes backs luts k n 14
      told_no_cut s e = record { tells = λ N w t R A lags. let b = s.bad e in no_cut refl (λ c. b.2 N w R (cut_at luts N lags b.0 b.1 c)) }

      table-right : AllGood I G ps so co ts roots sizes nodes backs k n found → (N : Net) → Wired N I G ps so co → Tabled N I G ts → Ranked N → Loopless N → (i : ℕ) → i < n
          → (J : IsCut N k (get_or roots i 0) (copies_from nodes backs (stride * i) (get_or sizes i 0))) → get_or found i 0 ≡ full_of N (get_or roots i 0) J.cone (copies_from nodes backs (stride * i)
          (get_or sizes i 0))
      table-right s N w t R A i h J = moved (root_is i h) J
        where
          moved : {v : ℕ} → I + (get_or roots i 0 - I) ≡ v → (J : IsCut N k v (copies_from nodes backs (stride * i) (get_or sizes i 0)))
              → get_or found i 0 ≡ full_of N v J.cone (copies_from nodes backs (stride * i) (get_or sizes i 0))
          moved e = subst (λ (v : ℕ). (J : IsCut N k v (copies_from nodes backs (stride * i) (get_or sizes i 0))) → get_or found i 0 ≡ full_of N v J.cone (copies_from nodes backs (stride * i)
              (get_or sizes i 0))) e
              (λ K. (s.each i h).table.table N w t R A k K)

      -- 15 fails
      pub told-wrong : {b d : Bool} → CutsTried I G ps so co ts roots sizes nodes backs k n found b → b ≡ false → Compared luts sizes found n d → d ≡ true
          → CutsTold I G ps so co ts roots sizes nodes backs luts k n 15
      told-wrong s p d q = record { tells = λ N w t R A lags. wrong refl (all-cuts (s.good p) N w lags) (λ z. d.differ q (record { each = λ i h. same N w t R A lags z i h })) }
        where
          same : (N : Net) → Wired N I G ps so co → Tabled N I G ts → Ranked N → Loopless N → (lags : List ℤ) → TablesRight N k (luts_in (held roots sizes nodes backs lags luts) n) → (i : ℕ)
              → i < n → ShortOf (get_or luts i 0) (get_or sizes i 0) (get_or found i 0)
          same N w t R A lags z i h = at (z (lut_at (held roots sizes nodes backs lags luts) i) (in_luts_in (held roots sizes nodes backs lags luts) n i h))
            where
              at : TableRight N k (lut_at (held roots sizes nodes backs lags luts) i) → ShortOf (get_or luts i 0) (get_or sizes i 0) (get_or found i 0)
              at z = unfold lut_at in subst (ShortOf (get_or luts i 0) (get_or sizes i 0)) (sym (table-right (s.good p) N w t R A i h z.cut))
                  (right-short N (get_or roots i 0) z.cut.cone (copies_from nodes backs (stride * i) (get_or sizes i 0)) (get_or sizes i 0) (get_or luts i 0) (length-copies_from nodes backs (stride * i) (get_or sizes i 0)) (few-leaves i h) z.table)

      -- all are right
      pub told-right : {b d : Bool} → CutsTried I G ps so co ts roots sizes nodes backs k n found b → b ≡ false → Compared luts sizes found n d → d ≡ false
          → CutsTold I G ps so co ts roots sizes nodes backs luts k n 0
      told-right s p d q = record { tells = λ N w t R A lags. right refl (all-cuts (s.good p) N w lags) (tables N w t R A lags) }
        where
          tables : (N : Net) → Wired N I G ps so co → Tabled N I G ts → Ranked N → Loopless N → (lags : List ℤ) → TablesRight N k (luts_in (held roots sizes nodes backs lags luts) n)
          tables N w t R A lags e m = let z = luts_in_in (held roots sizes nodes backs lags luts) n e m in subst (TableRight N k) (sym z.2) (at z.0 z.1)
            where
              at : (i : ℕ) → i < n → TableRight N k (lut_at (held roots sizes nodes backs lags luts) i)
              at i h = unfold lut_at in record {
                cut = ((s.good p).each i h).cut N w;
                table = short-right N (get_or roots i 0) (((s.good p).each i h).cut N w).cone (copies_from nodes backs (stride * i) (get_or sizes i 0)) (get_or sizes i 0) (get_or luts i 0) (length-copies_from nodes backs (stride * i) (get_or sizes i 0)) (few-leaves i h)
                    (subst (ShortOf (get_or luts i 0) (get_or sizes i 0)) (table-right (s.good p) N w t R A i h (((s.good p).each i h).cut N w)) ((d.same q).each i h));
              }

-- ---- tables and full tables

pub wrong-spare : {t n full : ℕ} → ¬ (short_table n t ≡ t) → WrongTold t n full true
wrong-spare d = record { right = λ e. absurd (true≢false e); wrong = λ e z. d z.short }

pub wrong-whole : {t n full : ℕ} → ¬ (repeated_table n t ≡ full) → WrongTold t n full true
wrong-whole d = record { right = λ e. absurd (true≢false e); wrong = λ e z. d z.whole }

pub wrong-none : {t n full : ℕ} → short_table n t ≡ t → repeated_table n t ≡ full → WrongTold t n full false
wrong-none s w = record { right = λ e. record { short = s; whole = w }; wrong = λ e. absurd (false≢true e) }

pub same_none : {a s b : List ℕ} → Same a s b 0
same_none = record { each = λ i h. absurd (not-suc-le-zero h) }

pub same_next : {a s b : List ℕ} {m : ℕ} → Same a s b m → ShortOf (get_or a m 0) (get_or s m 0) (get_or b m 0) → Same a s b (m + 1)
same_next {a} {s} {b} {m} t e = record { each = λ i h. go i h (ℕ_discrete i m) }
  where
    go : (i : ℕ) → i < m + 1 → Dec (i ≡ m) → ShortOf (get_or a i 0) (get_or s i 0) (get_or b i 0)
    go i h (yes q) = subst (λ (x : ℕ). ShortOf (get_or a x 0) (get_or s x 0) (get_or b x 0)) (sym q) e
    go i h (no q) = t.each i (omega arith)

pub compared_same : {a s b : List ℕ} {m n : ℕ} → n ≤ m → Same a s b m → Compared a s b n false
compared_same h t = record { same = λ e. record { each = λ i l. t.each i (omega arith) }; differ = λ e. absurd (false≢true e) }

pub compared_different : {a s b : List ℕ} {n : ℕ} (i : ℕ) → i < n → ¬ ShortOf (get_or a i 0) (get_or s i 0) (get_or b i 0) → Compared a s b n true
compared_different i h d = record { same = λ e. absurd (true≢false e); differ = λ e t. d (t.each i h) }
