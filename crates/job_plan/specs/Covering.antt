-- What was found, chosen and tabulated is the written cover.
use Rattle.std.specs.Prelude.{◌≡◌, refl, Some, None, List, map, ℕ, ◌+◌, ◌*◌, ◌≤◌, ◌<◌, ℤ, length, get_or, drop}
use Rattle.std.proofs.Math.Path.{sym, ap, subst}
use Rattle.std.proofs.Common.{ap₂, ◌∙◌, arith}
use Rattle.integers.specs.Lag.{lag}
use Rattle.sequences.specs.Member.{◌∈◌}
use Rattle.net_model.specs.Net.{Net}
use Rattle.net_model.specs.Arrays.{stride, pins_in, copies_from}
use Rattle.net_model.specs.ArrayLaws.{length-copies_from}
use Rattle.net_model.specs.Wired.{Wired}
use Rattle.net_model.specs.WiredLaws.{wired-gate, gate-wired}
use Rattle.net_model.specs.Checks.{Passed}
use Rattle.net_model.specs.Copies.{Copy, IsCut, Rising}
use Rattle.net_model.specs.Tables.{table_of}
use Rattle.net_model.specs.FullTables.{repeated_table, full_of}
use Rattle.cone_values.specs.FullTableLaws.{full-low, full-repeated}
use Rattle.label_theory.specs.Labels.{Mode, ReachableIn}
use Rattle.cover_theory.specs.Key.{KeyIn, Root, entries}
use Rattle.cover_period.specs.KeyOf.{key_of, entry_of, root-gate}
use Rattle.cover_period.specs.KeyUnique.{numbers_unique}
use Rattle.cover_records.specs.Kept.{Kept, kept, short_table, entry_at, entries_in}
use Rattle.cone_table.specs.ConeWords.{Tabled}
use Rattle.signed.specs.Range.{label_in}
use Rattle.cut_circuit.specs.Packed.{sources_at, counts_at}
use Rattle.cut_circuit.specs.declared.Extent.{Extent}
use Rattle.label_visit.specs.LabelVisits.{Suits, wiring, tops_in}
use Rattle.label_sweep.specs.Sweeps.{outs_in, delays_in}
use Rattle.cover_roots.specs.Choosing.{Keyed, RootsTold}
use Rattle.cone_luts.specs.Luts.{Tabulated}
use Rattle.job_plan.specs.Found.{cap_in, Found, Missed}
use Rattle.job_plan.specs.Entries.{roots_from, entries-roots, roots_in, in_roots, roots-rising}
use Rattle.job_plan.specs.Planned.{Covered, CoverTold}

-- the labels of a key are those that it was made of
key-label : {M : Mode} {N : Net} {k φ : ℕ} (P : Passed N k) (r : ReachableIn M N k φ) (u : ℕ) → (key_of P r).label u ≡ r.label u
unfolding key_of
key-label P r u = refl

-- the target is not reachable
pub told_none : {M : Mode} {s : Extent} {n : ℕ} {net ts : List ℕ} {k target : ℕ} {a : ℕ → Kept} → Missed M (wiring s net) k target (tops_in s net (cap_in M)) (outs_in s net) (delays_in s net n) n
    → CoverTold M s n net ts k target a None
told_none f = record { cover = λ N S P T o. (f.0, f.1 N S o) }

module _ {M : Mode} {s : Extent} {net os oc : List ℕ} {n : ℕ} {tops : List ℕ} {k target : ℕ} {ls : List ℤ} {marks sizes nodes backs : List ℕ} where
  module _ {r : ℕ} (six : k ≤ stride) (f : Found M (wiring s net) k target tops os oc n ls r)
      (told : RootsTold M (wiring s net) ls os n r k marks sizes nodes backs)
      (N : Net) (S : Suits M (wiring s net) k tops N) (P : Passed N k) (o : N.outputs ≡ pins_in os oc 0 n) where
    reachable : ReachableIn M N k r
    reachable = let l = f.labels N S P o in record { label = label_in ls; least = l.0; outputs = l.1 }

    wired : Wired N s.inputs s.gates net (drop (sources_at s.gates) net) (drop (counts_at s.gates) net)
    wired = let h = S.holds in record { inputs = h.inputs; gates = h.gates; wiring = h.lists }

    key : KeyIn M N k r
    key = key_of P reachable

    label_is : (u : ℕ) → key.label u ≡ label_in ls u
    unfolding key reachable
    label_is u = key-label P reachable u

    keyed : Keyed M (wiring s net) ls r k
    keyed = record {
      net = N;
      key = key;
      holds = let h = S.holds in record { inputs = h.inputs; gates = h.gates; lists = h.lists };
      ranked = S.ranked;
      loopless = S.loopless;
      sound = S.sound;
      border = S.border;
      label = label_is;
    }

    leaves_are : (g : ℕ) → g < s.gates → ¬ (get_or marks g 0 ≡ 0) → copies_from nodes backs (stride * g) (get_or sizes g 0) ≡ key.leaves (s.inputs + g)
    unfolding keyed
    leaves_are g h m = told.leaves keyed g h m

    pub few-leaves : (g : ℕ) → g < s.gates → ¬ (get_or marks g 0 ≡ 0) → get_or sizes g 0 ≤ stride
    few-leaves g h m = let z = told.size keyed g h m in omega arith

    pub rising-leaves : (g : ℕ) → g < s.gates → ¬ (get_or marks g 0 ≡ 0) → Rising (copies_from nodes backs (stride * g) (get_or sizes g 0))
    rising-leaves g h m =
        let v = wired-gate wired g h in
        subst Rising (sym (leaves_are g h m ∙ key.is_leaves (s.inputs + g) v)) (key.cut (s.inputs + g) v).is_leaves.rising

    module _ {ts : List ℕ} (luts : List ℕ) (tab : Tabulated s.inputs s.gates net (drop (sources_at s.gates) net) (drop (counts_at s.gates) net) ts marks sizes nodes backs luts s.gates) (T : Tabled N s.inputs s.gates ts) where
      abbrev a : Kept
      a = kept s.inputs s.gates r ls marks sizes nodes backs luts

      -- the leaves are a cut, and the number is its full table
      full_is : (g : ℕ) → g < s.gates → ¬ (get_or marks g 0 ≡ 0) → get_or luts g 0 ≡ full_of N (s.inputs + g) (key.cone (s.inputs + g)) (key.leaves (s.inputs + g))
      full_is g h m =
          let v = wired-gate wired g h in
          let c = key.cut (s.inputs + g) v in
          let L = copies_from nodes backs (stride * g) (get_or sizes g 0) in
          let e : L ≡ c.leaves = leaves_are g h m ∙ key.is_leaves (s.inputs + g) v in
          subst (λ (X : List Copy). (i : IsCut N k (s.inputs + g) X) → get_or luts g 0 ≡ full_of N (s.inputs + g) i.cone X) e (((tab.each g h).marked m).table N wired T S.ranked S.loopless k)
          (record { cone = c.cone; is_cone = c.is_cone; is_leaves = c.is_leaves; few = c.few })
          ∙ ap (λ (C : List Copy). full_of N (s.inputs + g) C c.leaves) (sym (key.is_cone (s.inputs + g) v)) ∙ ap (full_of N (s.inputs + g) (key.cone (s.inputs + g))) (sym (key.is_leaves (s.inputs + g) v))

      many : (g : ℕ) → g < s.gates → ¬ (get_or marks g 0 ≡ 0) → get_or sizes g 0 ≡ length (key.leaves (s.inputs + g))
      many g h m = sym (length-copies_from nodes backs (stride * g) (get_or sizes g 0)) ∙ ap length (leaves_are g h m)

      -- its low bits are the table
      table_is : (g : ℕ) → g < s.gates → ¬ (get_or marks g 0 ≡ 0)
          → short_table (get_or sizes g 0) (get_or luts g 0) ≡ table_of N (s.inputs + g) (key.cone (s.inputs + g)) (key.leaves (s.inputs + g))
      table_is g h m =
          ap₂ short_table (many g h m) (full_is g h m)
          ∙ full-low N (s.inputs + g) (key.cone (s.inputs + g)) (key.leaves (s.inputs + g)) (let e = many g h m in let f = few-leaves g h m in omega arith)

      -- and the number is the table repeated
      whole-at : (g : ℕ) → g < s.gates → ¬ (get_or marks g 0 ≡ 0) → get_or luts g 0 ≡ repeated_table (get_or sizes g 0) (short_table (get_or sizes g 0) (get_or luts g 0))
      whole-at g h m =
          full_is g h m ∙ full-repeated N (s.inputs + g) (key.cone (s.inputs + g)) (key.leaves (s.inputs + g))
          ∙ sym (ap₂ repeated_table (many g h m) (table_is g h m))

      entry-is : (g : ℕ) → g < s.gates → ¬ (get_or marks g 0 ≡ 0) → entry_at a g ≡ entry_of key (s.inputs + g)
      unfolding entry_at
      entry-is g h m = λ i. record {
        root = s.inputs + g;
        leaves = leaves_are g h m i;
        lag = lag r (sym (label_is (s.inputs + g)) i);
        table = table_is g h m i;
      }

      roots_are : key.roots ≡ roots_from a 0 s.gates
      unfolding keyed
      roots_are = numbers_unique key.roots (roots_from a 0 s.gates) key.rising (roots-rising a 0 s.gates) within without
        where
          within : (v : ℕ) → v ∈ key.roots → v ∈ roots_from a 0 s.gates
          within v m =
              let t = key.is_root v m in
              let q = gate-wired wired v (root-gate N key.leaves t) in
              subst (λ (x : ℕ). x ∈ roots_from a 0 s.gates) (sym q.2)
              (in_roots a 0 s.gates q.0 (omega arith) (omega (arith, q.1)) (told.all keyed (oc, o) q.0 q.1 (subst (Root N key.leaves) q.2 t)))

          without : (v : ℕ) → v ∈ roots_from a 0 s.gates → v ∈ key.roots
          without v m =
              let q = roots_in a 0 s.gates v m in
              key.all_roots v (subst (Root N key.leaves) (sym q.4) (told.root keyed (oc, o) q.0 (omega (arith, q.2)) q.3))

      same_entries : entries key ≡ entries_in a
      unfolding entries entries_in
      same_entries = ap (map (entry_of key)) roots_are ∙ sym (entries-roots a (entry_of key) 0 s.gates (λ g p q m. entry-is g (omega arith) m))

      pub covered : Covered M N k target a
      unfolding keyed
      covered = record {
        positive = f.positive;
        given = f.given;
        least = λ z. f.least z N S P o;
        key = key;
        same = same_entries;
        labels = λ v g. label_is v;
        small = λ g h. f.fine.small (s.inputs + g);
        few = few-leaves;
        whole = record { each = whole-at };
      }

-- **the cover**
pub told-cover : {M : Mode} {s : Extent} {n : ℕ} {net ts : List ℕ} {k target : ℕ} {ls : List ℤ} {marks sizes nodes backs luts : List ℕ} {r : ℕ} → k ≤ stride
    → Found M (wiring s net) k target (tops_in s net (cap_in M)) (outs_in s net) (delays_in s net n) n ls r → RootsTold M (wiring s net) ls (outs_in s net) n r k marks sizes nodes backs
    → Tabulated s.inputs s.gates net (drop (sources_at s.gates) net) (drop (counts_at s.gates) net) ts marks sizes nodes backs luts s.gates
    → CoverTold M s n net ts k target (λ φ. kept s.inputs s.gates φ ls marks sizes nodes backs luts) (Some r)
told-cover {luts = luts} six f told tab = record { cover = λ N S P T o. covered six f told N S P o luts tab T }
