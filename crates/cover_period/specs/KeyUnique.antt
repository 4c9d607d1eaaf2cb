-- The written cover is unique: any two keys of a net, k and φ have the same entries.
use Rattle.std.specs.Prelude.{◌≡◌, refl, List, [], ◌∷◌, map, ◌⊎◌, ℕ, zero, suc, ◌+◌, ◌*◌, ◌≤◌, ◌<◌, ℤ, pos, length, ◌≤ℤ◌}
use Rattle.std.proofs.Math.Path.{sym, ap}
use Rattle.std.proofs.Common.{subst, ◌∙◌, inl, inr, lt_irrefl, lt_trans, arith}
use Rattle.integers.specs.Height.{height}
use Rattle.integers.specs.Lag.{lag}
use Rattle.sequences.specs.Member.{◌∈◌, Within}
use Rattle.sequences.specs.Rising.{Rising, rising_nil, rising_cons, rising_unique}
use Rattle.net_model.specs.Net.{Net, Pin, IsGate, IsInput, IsNode}
use Rattle.net_model.specs.Checks.{Passed}
use Rattle.net_model.specs.Copies.{Copy, copy, Cut, Chosen}
use Rattle.net_model.specs.Tables.{table_of}
use Rattle.cone_theory.specs.Ranks.{ranked}
use Rattle.cone_theory.specs.Reach.{reach_of, cut-reach}
use Rattle.cone_theory.specs.CopyOrder.{levels}
use Rattle.cut_theory.specs.Choice.{chosen-cone, chosen-leaves}
use Rattle.cone_values.specs.Values.{map_same, table_same}
use Rattle.label_theory.specs.Labels.{Mode, Inside, Low, LowCutIn}
use Rattle.label_theory.specs.Lower.{recut, remember, input_or_gate, leaf-node, least_unique}
use Rattle.cover_theory.specs.Key.{KeyIn, Root, source, leaf, RisingNumbers, Entry, entries}
use Rattle.cover_period.specs.KeyOf.{root-gate, roots-gate, entry_of}

rising-numbers : (l : List ℕ) → RisingNumbers l → Rising ◌<◌ l
rising-numbers [] r = rising_nil
rising-numbers (a ∷ l) r = rising_cons r.0 (rising-numbers l r.1)

pub numbers_unique : (l m : List ℕ) → RisingNumbers l → RisingNumbers m → Within l m → Within m l → l ≡ m
numbers_unique l m r s = rising_unique lt_irrefl (λ a b c p q. omega arith) (rising-numbers l r) (rising-numbers m s)

module _ {M : Mode} {N : Net} {k φ : ℕ} (P : Passed N k) where
  -- labels agree on nodes
  label-node : (K J : KeyIn M N k φ) (u : ℕ) → IsNode N u → K.label u ≡ J.label u
  label-node K J u h = go (input_or_gate N u h)
    where
      go : IsInput N u ⊎ IsGate N u → K.label u ≡ J.label u
      go (inl i) = K.least.labelling.inputs u i ∙ sym (J.least.labelling.inputs u i)
      go (inr g) = least_unique N k φ K.label J.label K.least J.least u g

  pub label_same : (K J : KeyIn M N k φ) (v : ℕ) → IsGate N v → K.label v ≡ J.label v
  label_same K J v g = label-node K J v g.high

  -- a cut under one key's labels is a cut under the other's
  across : (K J : KeyIn M N k φ) (v : ℕ) → IsGate N v → LowCutIn M N k φ K.label v (K.label v) → LowCutIn M N k φ J.label v (J.label v)
  across K J v g c =
      remember (recut c (λ y m a. subst (λ (h : ℤ). height φ (J.label y.node) y.back ≤ℤ h) (label_same K J v g)
      (subst (λ (b : ℤ). height φ b y.back ≤ℤ K.label v) (label-node K J y.node (leaf-node P.sound c.is_leaves m)) a))) (λ x m a. subst (λ (h : ℤ). Inside M φ h x) (label_same K J v g) a)

  -- the chosen cut of one key, under the other's labels, is chosen there
  across-chosen : (K J : KeyIn M N k φ) (v : ℕ) (g : IsGate N v) → Chosen N k v (Low φ K.label (K.label v)) (Inside M φ (K.label v)) (across J K v g (J.cut v g))
  unfolding across recut remember
  across-chosen K J v g = record {
    fewest = λ I. (J.chosen v g).fewest (across K J v g I);
    smallest = λ I e x m. (J.chosen v g).smallest (across K J v g I) e x m;
  }

  pub leaves-same : (K J : KeyIn M N k φ) (v : ℕ) → IsGate N v → K.leaves v ≡ J.leaves v
  unfolding across recut remember
  leaves-same K J v g = K.is_leaves v g ∙ chosen-leaves (K.chosen v g) (across-chosen K J v g) ∙ sym (J.is_leaves v g)

  cone-within : (K J : KeyIn M N k φ) (v : ℕ) (g : IsGate N v) → Within (K.cut v g).cone (J.cut v g).cone
  unfolding across recut remember
  cone-within K J v g = chosen-cone (K.chosen v g) (across-chosen K J v g)

  pub table-of : (K J : KeyIn M N k φ) (v : ℕ) → IsGate N v → table_of N v (K.cone v) (K.leaves v) ≡ table_of N v (J.cone v) (J.leaves v)
  table-of K J v g =
      let c = K.cut v g in
      ap (λ (C : List Copy). table_of N v C (K.leaves v)) (K.is_cone v g) ∙ ap (table_of N v c.cone) (K.is_leaves v g)
      ∙ table_same (levels P.loopless) c.is_cone c.is_leaves (k * reach_of N) (λ x m. let a = cut-reach (ranked P.reached) c x m in omega arith)
      (J.cut v g).cone (cone-within K J v g)
      ∙ ap (λ (C : List Copy). table_of N v C c.leaves) (sym (J.is_cone v g)) ∙ ap (table_of N v (J.cone v)) (sym (K.is_leaves v g) ∙ leaves-same K J v g)

  root-across : (K J : KeyIn M N k φ) {v : ℕ} → Root N K.leaves v → Root N J.leaves v
  root-across K J (source o i e g) = source o i e g
  root-across K J (leaf u y r m e g) =
      leaf u y (root-across K J r) (subst (λ (L : List Copy). y ∈ L) (leaves-same K J u (root-gate N K.leaves r)) m) e g

  pub roots-same : (K J : KeyIn M N k φ) → K.roots ≡ J.roots
  roots-same K J =
      numbers_unique K.roots J.roots K.rising J.rising (λ v m. J.all_roots v (root-across K J (K.is_root v m))) (λ v m. K.all_roots v (root-across J K (J.is_root v m)))

  -- **Any two keys have the same entries**, so the record is a function of net, k and φ.
  pub entries_unique : (K J : KeyIn M N k φ) → entries K ≡ entries J
  unfolding entries
  entries_unique K J = map_same (entry_of K) (entry_of J) K.roots (λ v m. same v (roots-gate K v m)) ∙ ap (map (entry_of J)) (roots-same K J)
    where
      same : (v : ℕ) → IsGate N v → entry_of K v ≡ entry_of J v
      same v g = λ i. record {
        root = v;
        leaves = leaves-same K J v g i;
        lag = lag φ (label_same K J v g i);
        table = table-of K J v g i;
      }
