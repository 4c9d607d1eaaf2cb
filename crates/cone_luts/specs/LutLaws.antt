-- Laws of LUTs' full tables: the walk's cone gives the table of the cut, and one gate after the other is tabulated.
use Rattle.std.specs.Prelude.{◌≡◌, List, ℕ, ◌+◌, ◌-◌, ◌*◌, ◌≤◌, ◌<◌, length, get_or, set, take, drop, Option, Some, None, unwrap_or}
use Rattle.std.proofs.Math.Path.{sym, ap}
use Rattle.std.proofs.Common.{ap₂, subst, ◌∙◌, zero-add, not-suc-le-zero, arith, get_or-set_same, get_or-set_other, get_or-drop}
use Rattle.std.proofs.Math.Decide.{ℕ_discrete}
use Rattle.std.proofs.Math.Seq.{ext_get_or}
use Rattle.sequences.specs.Behind.{behind}
use Rattle.net_model.specs.Copies.{Copy, copy, Rising}
use Rattle.net_model.proofs.CopyLaws.{copy-path}
use Rattle.net_model.specs.Arrays.{stride, copy_at, copies_from}
use Rattle.net_model.specs.ArrayLaws.{length-copies_from, get_or_copies_from}
use Rattle.cover_records.specs.Rows.{sizes_in, nodes_in, backs_in}
use Rattle.cone_theory.specs.CopyOrder.{levels}
use Rattle.cone_theory.specs.Part.{cone_determined}
use Rattle.cone_theory.specs.Reach.{reach_of, reach}
use Rattle.cone_values.specs.FullTableLaws.{full-same}
use Rattle.cone_copies.specs.CopyLists.{copies_in}
use Rattle.cone_copies.specs.CopyListLaws.{length-copies_in}
use Rattle.cone_walk.specs.WalkTold.{WalkCut, WalkNone}
use Rattle.cone_walk.specs.WalkToldLaws.{cone-cut}
use Rattle.cone_table.specs.ConeWords.{TableOver}
use Rattle.cone_walk.specs.declared.Cone.{Cone}
use Rattle.cone_luts.specs.Luts.{LutTable, LutCut, LutNone, LutTried, Row, GateTable, Tabulates, Tabulated}

module _ {I G : ℕ} {ps so co ts ln lb : List ℕ} {n g : ℕ} {c : Cone} (w : WalkCut I G ps so co ln lb n g c) where
  -- the walk's cone gives the table
  lut-cut : {r : ℕ} → TableOver I G ps so co ts (copies_in ln lb n) (copies_in c.nodes c.backs c.len) (I + g) r → LutTable I G ps so co ts (copies_in ln lb n) g r
  lut-cut t = record {
    table = λ N d b R A k J.
        let i = w.cone N d in
        let l = w.leaves N d in
        t N d b i l (w.order N d A)
        ∙ full-same (levels A) i l (length (copies_in ln lb n) * reach_of N) (λ x m. let a = reach R i l x m in omega arith) J.cone (cone_determined i J.is_cone l J.is_leaves);
  }

  -- its leaves are a cut
  pub tried_cut : {t : ℕ} → TableOver I G ps so co ts (copies_in ln lb n) (copies_in c.nodes c.backs c.len) (I + g) t → LutCut I G ps so co ts (copies_in ln lb n) g t
  tried_cut t = record { cut = λ N d k h. cone-cut w N k d (let l = length-copies_in ln lb n in omega arith); table = lut-cut t }

-- no cut has these leaves
pub tried_none : (I G : ℕ) (ps so co ln lb : List ℕ) (n g : ℕ) → WalkNone I G ps so co ln lb n g → LutNone I G ps so co (copies_in ln lb n) g
tried_none I G ps so co ln lb n g w = w

-- a table that is right where the leaves are a cut
pub tried_table : {I G : ℕ} {ps so co ts : List ℕ} {L : List Copy} {g : ℕ} (r : Option ℕ) → LutTried I G ps so co ts L g r → LutTable I G ps so co ts L g (unwrap_or r 0)
tried_table (Some r) t = t.table
tried_table None t = record { table = λ N d b R A k J. absurd (t N d R k J) }

-- row i of n: the numbers from the places of its leaves on
module _ (rows : List ℕ) (n i : ℕ) where
  abbrev pub nodes_from : ℕ
  nodes_from = 2 * n + stride * i

  abbrev pub backs_from : ℕ
  backs_from = (2 + stride) * n + stride * i

  abbrev pub leaf_count : ℕ
  leaf_count = get_or rows (n + i) 0

  -- a number of a part
  number-part : (a j : ℕ) → get_or (drop (a + stride * i) rows) j 0 ≡ get_or (drop a rows) (stride * i + j) 0
  number-part a j = get_or-drop (a + stride * i) rows j 0 ∙ ap (λ (x : ℕ). get_or rows x 0) (omega arith) ∙ sym (get_or-drop a rows (stride * i + j) 0)

  copies-part : (m : ℕ) → copies_in (drop nodes_from rows) (drop backs_from rows) m ≡ copies_from (nodes_in n rows) (backs_in n rows) (stride * i) m
  unfolding copies_in
  copies-part m = ext_get_or (copy 0 0) (copies_from (drop nodes_from rows) (drop backs_from rows) 0 m) (copies_from (nodes_in n rows) (backs_in n rows) (stride * i) m)
      (length-copies_from (drop nodes_from rows) (drop backs_from rows) 0 m ∙ sym (length-copies_from (nodes_in n rows) (backs_in n rows) (stride * i) m))
      (λ j h.
      let l : j < m = omega (arith, h, length-copies_from (drop nodes_from rows) (drop backs_from rows) 0 m) in
      get_or_copies_from (drop nodes_from rows) (drop backs_from rows) 0 m j (copy 0 0) l
      ∙ ap (copy_at (drop nodes_from rows) (drop backs_from rows)) (zero-add j)
      ∙ copy-path (number-part (2 * n) j) (number-part ((2 + stride) * n) j)
      ∙ sym (get_or_copies_from (nodes_in n rows) (backs_in n rows) (stride * i) m j (copy 0 0) l))

  -- the leaves that are lent
  abbrev pub lent_leaves : List Copy
  lent_leaves = copies_in (take (length rows - nodes_from) (drop nodes_from rows)) (take (length rows - backs_from) (drop backs_from rows)) leaf_count

  row-part : lent_leaves ≡ copies_from (nodes_in n rows) (backs_in n rows) (stride * i) (get_or (sizes_in n rows) i 0)
  row-part =
      ap₂ (λ (a b : List ℕ). copies_in a b leaf_count) (behind rows nodes_from) (behind rows backs_from) ∙ copies-part leaf_count
      ∙ ap (copies_from (nodes_in n rows) (backs_in n rows) (stride * i)) (sym (get_or-drop n rows i 0))

  pub rising-row : Row (sizes_in n rows) (nodes_in n rows) (backs_in n rows) i → Rising lent_leaves
  rising-row r = subst Rising (sym row-part) r.rising

  pub row-few : Row (sizes_in n rows) (nodes_in n rows) (backs_in n rows) i → leaf_count ≤ stride
  row-few r = let f = r.few in omega (arith, f, get_or-drop n rows i 0)

  pub tried_row : (I G : ℕ) (ps so co ts : List ℕ) (g : ℕ) (r : Option ℕ) → LutTried I G ps so co ts lent_leaves g r
      → LutTried I G ps so co ts (copies_from (nodes_in n rows) (backs_in n rows) (stride * i) (get_or (sizes_in n rows) i 0)) g r
  tried_row I G ps so co ts g r = subst (λ (L : List Copy). LutTried I G ps so co ts L g r) row-part

module _ {I G : ℕ} {ps so co ts marks sizes nodes backs : List ℕ} where
  -- a gate with a mark has its row
  pub gate-row : Tabulates I G ps so co ts marks sizes nodes backs → (g : ℕ) → g < G → ¬ (get_or marks g 0 ≡ 0) → Row sizes nodes backs g
  gate-row t g h m =
      let s = t.at_sizes in
      let n = t.at_nodes in
      let b = t.at_backs in
      record { at_sizes = omega arith; few = t.few g h m; at_nodes = omega arith; at_backs = omega arith; rising = t.rising g h m }

  pub gate-none : (g r : ℕ) → get_or marks g 0 ≡ 0 → GateTable I G ps so co ts marks sizes nodes backs g r
  gate-none g r z = record { marked = λ n. absurd (n z) }

  pub gate-lut : (g : ℕ) (r : Option ℕ) → LutTried I G ps so co ts (copies_from nodes backs (stride * g) (get_or sizes g 0)) g r → GateTable I G ps so co ts marks sizes nodes backs g (unwrap_or r 0)
  gate-lut g r t = record { marked = λ n. tried_table r t }

  pub tabulated_none : (luts : List ℕ) → Tabulated I G ps so co ts marks sizes nodes backs luts 0
  tabulated_none luts = record { each = λ g h. absurd (not-suc-le-zero h) }

  -- one gate more
  pub tabulated_next : (luts : List ℕ) (n r : ℕ) → n < length luts → Tabulated I G ps so co ts marks sizes nodes backs luts n
      → GateTable I G ps so co ts marks sizes nodes backs n r → Tabulated I G ps so co ts marks sizes nodes backs (set luts n r) (n + 1)
  tabulated_next luts n r room t w = record { each = λ g h. go g h (ℕ_discrete g n) }
    where
      At : ℕ → ℕ → Type 0
      At = GateTable I G ps so co ts marks sizes nodes backs

      go : (g : ℕ) → g < n + 1 → Dec (g ≡ n) → At g (get_or (set luts n r) g 0)
      go g h (yes e) = subst (λ (x : ℕ). At x (get_or (set luts n r) x 0)) (sym e) (subst (At n) (sym (get_or-set_same luts n r 0 room)) w)
      go g h (no q) = subst (At g) (sym (get_or-set_other luts n g r 0 q)) (t.each g (omega arith))

  pub tabulated_all : {luts : List ℕ} {n : ℕ} → n ≤ G → G ≤ n → Tabulated I G ps so co ts marks sizes nodes backs luts n → Tabulated I G ps so co ts marks sizes nodes backs luts G
  tabulated_all h k t = record { each = λ g l. t.each g (omega arith) }
