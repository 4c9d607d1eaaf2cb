-- Laws of what is kept from step to step.
use Rattle.std.specs.Prelude.{◌≡◌, refl, Bool, List, ◌++◌, ◌⊎◌, ℕ, zero, suc, ◌+◌, ◌-◌, ◌*◌, ◌/◌, ◌%◌, ◌^◌, ◌≤◌, ◌<◌, eqb, length, set, take, drop}
use Rattle.std.proofs.Common.{sym, ap₂, ◌∙◌, subst, inl, inr, add-one, length-set, get_or-set_same, get_or-set_other, take_all}
use Rattle.std.proofs.Math.Path.{ap}
use native.Mathlib.Omega.{arith}
use Rattle.std.proofs.Math.Decide.{ℕ_discrete, dec_lt}
use Rattle.std.proofs.Math.ListN.{get_or}
use Rattle.std.proofs.lemmas.List.{take-append-le}
use Rattle.limits.specs.Limits.{most_count}
use Rattle.net_model.specs.Net.{IsNode}
use Rattle.net_model.specs.Arrays.{net_in}
use Rattle.net_model.specs.ArrayLaws.{size-net_in}
use Rattle.net_model.specs.PackedNet.{order_at}
use Rattle.net_model.specs.Tables.{bit, as_number}
use Rattle.cone_values.specs.Words.{as_number_small, bit-low, bit_high}
use Rattle.net_reader.specs.ReadAnswer.{arrays_of}
use Rattle.net_reader.specs.declared.NetSizes.{NetSizes}
use Rattle.run_theory.specs.Bench.{ago, value_at, Keeps}
use Rattle.run_theory.specs.BenchBytes.{section_in, pair_at, pairs_in}
use Rattle.run_theory.proofs.BenchLaws.{bench}
use Rattle.run_theory.proofs.StepLaws.{keeps-zero, step_keeps}
use Rattle.run_values.specs.Sheets.{Runnable, Sheet, sheet, value_of, told, StepReady, NodeTold}
use Rattle.run_values.specs.SheetLaws.{runnable-sound, runnable-counts, sheet-bench, told-right, told-input, told-gate}
use Rattle.run_step.specs.Stepping.{Ordering, Valued, next_byte, AdvanceAsked, Advanced, StepAsked, StepTold, RunTo}

-- ---- the bits of the next byte

pub next-newest : (byte : ℕ) (b : Bool) → bit (next_byte byte (as_number b)) 0 ≡ b
next-newest byte b =
    let turned : 2 * (byte % 4) + as_number b ≡ as_number b + 2 * (byte % 4) = omega arith in
    ap (λ (x : ℕ). bit x 0) turned ∙ bit-low b (byte % 4)

low_bits : (byte j : ℕ) → suc j < most_count → bit (byte % 4) j ≡ bit byte j
low_bits byte zero h = let same : byte % 4 / 2 ^ 0 % 2 ≡ byte / 2 ^ 0 % 2 = omega arith in ap (λ (x : ℕ). eqb x 1) same
low_bits byte (suc zero) h = let same : byte % 4 / 2 ^ 1 % 2 ≡ byte / 2 ^ 1 % 2 = omega arith in ap (λ (x : ℕ). eqb x 1) same
low_bits byte (suc (suc j)) h = absurd (omega arith)

pub next-older : (byte : ℕ) (b : Bool) (j : ℕ) → suc j < most_count → bit (next_byte byte (as_number b)) (suc j) ≡ bit byte j
next-older byte b j h =
    let turned : 2 * (byte % 4) + as_number b ≡ as_number b + 2 * (byte % 4) = omega arith in
    ap (λ (x : ℕ). bit x (suc j)) turned ∙ bit_high b (byte % 4) j ∙ low_bits byte j h

-- ---- the gates in order

module _ {S : Sheet} {known₀ : List ℕ} where
  pub ordering_none : StepReady S known₀ → Ordering S known₀ known₀ 0
  ordering_none r = record { ready = r; long = refl; noted = λ i h. absurd (omega arith) }

  pub ordering_more : {known known' : List ℕ} {n : ℕ} (g r : ℕ) → Ordering S known₀ known n → g ≡ get_or S.net (order_at S.sizes.inputs S.sizes.gates + n) 0
      → NodeTold S known known' (S.sizes.inputs + g) 0 r → Ordering S known₀ known' (n + 1)
  ordering_more {known} {known'} {n} g r o e t = record { ready = t.more.ready; long = t.more.long ∙ o.long; noted = noted }
    where
      noted : (i : ℕ) → i < n + 1 → 1 ≤ get_or known' (get_or S.net (order_at S.sizes.inputs S.sizes.gates + i) 0) 0
      noted i h = go (ℕ_discrete i n)
        where
          go : Dec (i ≡ n) → 1 ≤ get_or known' (get_or S.net (order_at S.sizes.inputs S.sizes.gates + i) 0) 0
          go (yes q) =
              let at : S.sizes.inputs + g - S.sizes.inputs ≡ get_or S.net (order_at S.sizes.inputs S.sizes.gates + i) 0 =
              omega (arith, ap (λ (x : ℕ). get_or S.net (order_at S.sizes.inputs S.sizes.gates + x) 0) q) in
              subst (λ (x : ℕ). 1 ≤ get_or known' x 0) at (t.noted refl (omega arith))
          go (no m) = t.more.stays (get_or S.net (order_at S.sizes.inputs S.sizes.gates + i) 0) (o.noted i (omega arith))

  pub ordering_all : {known : List ℕ} → Ordering S known₀ known S.sizes.gates → Valued S known₀ known
  ordering_all {known} o = record { long = o.long; all = all }
    where
      by : {x y : ℕ} → (x ≡ 0) ⊎ (x ≡ y) → 1 ≤ x → x ≡ y
      by (inl e) k = absurd (omega arith)
      by (inr e) k = e

      all : (g : ℕ) → g < S.sizes.gates → get_or known g 0 ≡ suc (as_number (value_of S (S.sizes.inputs + g) 0))
      all g h =
          let at = o.ready.net.ordered.ordered g h in
          by (o.ready.right g h) (subst (λ (x : ℕ). 1 ≤ get_or known x 0) at.2 (o.noted at.0 at.1))

-- ---- one step on

pub advanced_none : (I word : ℕ) (known kept : List ℕ) → Advanced I word known kept kept 0
advanced_none I word known kept = record { long = refl; next = λ v h. absurd (omega arith); rest = λ v h. refl }

pub advanced_more : {I word : ℕ} {known kept kept' : List ℕ} {n : ℕ} (byte : ℕ) → Advanced I word known kept kept' n → n < length kept'
    → byte ≡ next_byte (get_or kept' n 0) (told I kept word known n 0 - 1) → Advanced I word known kept (set kept' n byte) (n + 1)
advanced_more {I} {word} {known} {kept} {kept'} {n} byte a h e = record { long = length-set kept' n byte ∙ a.long; next = next; rest = rest }
  where
    next : (v : ℕ) → v < n + 1 → get_or (set kept' n byte) v 0 ≡ next_byte (get_or kept v 0) (told I kept word known v 0 - 1)
    next v l = go (ℕ_discrete v n)
      where
        go : Dec (v ≡ n) → get_or (set kept' n byte) v 0 ≡ next_byte (get_or kept v 0) (told I kept word known v 0 - 1)
        go (yes q) =
            ap (λ (x : ℕ). get_or (set kept' n byte) x 0) q ∙ get_or-set_same kept' n byte 0 h ∙ e ∙ ap (λ (x : ℕ). next_byte x (told I kept word known n 0 - 1)) (a.rest n (omega arith))
            ∙ ap (λ (x : ℕ). next_byte (get_or kept x 0) (told I kept word known x 0 - 1)) (sym q)
        go (no m) = get_or-set_other kept' n v byte 0 m ∙ a.next v (omega arith)

    rest : (v : ℕ) → n + 1 ≤ v → get_or (set kept' n byte) v 0 ≡ get_or kept v 0
    rest v l = get_or-set_other kept' n v byte 0 (λ q. absurd (omega arith)) ∙ a.rest v (omega arith)

-- a value that is told is a bit
pub told-bit : {z : NetSizes} {known kept : List ℕ} (word v : ℕ) → AdvanceAsked z known kept → v < z.inputs + z.gates → (1 ≤ told z.inputs kept word known v 0) × (told z.inputs kept word known v 0 ≤ 2)
told-bit {z} {known} {kept} word v a h = go (dec_lt v z.inputs)
  where
    go : Dec (v < z.inputs) → (1 ≤ told z.inputs kept word known v 0) × (told z.inputs kept word known v 0 ≤ 2)
    go (yes l) =
        let small = as_number_small (bit word v) in
        let e = told-input z.inputs kept word known v 0 (omega arith) l in
        (omega arith, omega arith)
    go (no m) =
        let e = told-gate z.inputs kept word known v 0 (omega arith) (omega arith) in
        (omega (arith, a.low (v - z.inputs) (omega arith)), omega (arith, a.high (v - z.inputs) (omega arith)))

-- nothing is noted yet
pub none-noted : {S : Sheet} {known known' : List ℕ} → StepAsked S.sizes S.net S.tables S.kept known → length known' ≡ length known → ((g : ℕ) → g < length known → get_or known' g 0 ≡ 0) → StepReady S known'
none-noted a l z = record { net = a.runnable; kept = a.room; size = omega (arith, a.size, l); right = λ g h. inl (z g (omega (arith, a.size, h))) }

module _ {S : Sheet} {known known' : List ℕ} (q : StepAsked S.sizes S.net S.tables S.kept known) (w : Valued S known known') where
  pub valued_ready : StepReady S known'
  valued_ready = record { net = q.runnable; kept = q.room; size = omega (arith, q.size, w.long); right = λ g h. inr (w.all g h) }

  pub valued_asks : AdvanceAsked S.sizes known' S.kept
  valued_asks = record {
    inputs = q.runnable.inputs;
    room = q.room;
    size = omega (arith, q.size, w.long);
    low = λ g h. omega (arith, w.all g h);
    high = λ g h. omega (arith, w.all g h, as_number_small (value_of S (S.sizes.inputs + g) 0));
  }

  pub valued_step : {kept' : List ℕ} → Advanced S.sizes.inputs S.word known' S.kept kept' (S.sizes.inputs + S.sizes.gates) → StepTold S kept' known known'
  unfolding ago
  valued_step {kept'} a = record { next = next; long = a.long; size = w.long }
    where
      next : (v : ℕ) → v < S.sizes.inputs + S.sizes.gates → get_or kept' v 0 ≡ next_byte (get_or S.kept v 0) (as_number (value_of S v 0))
      next v h =
          let e = told-right valued_ready v 0 h (told-bit S.word v valued_asks h).0 in
          let value : told S.sizes.inputs S.kept S.word known' v 0 - 1 ≡ as_number (value_of S v 0) = omega arith in
          a.next v h ∙ ap (next_byte (get_or S.kept v 0)) value

-- ---- the run

module _ {z : NetSizes} {net tables : List ℕ} (pairs kept known : List ℕ) where
  pub run_none : RunTo z net tables pairs kept known kept known 0
  run_none = record { keeps = keeps-zero (net_in (arrays_of z net tables)) most_count (section_in kept) (value_at (net_in (arrays_of z net tables)) (section_in kept) (pairs_in pairs)); long = refl; size = refl }

  pub run_more : {kept' known' kept'' known'' : List ℕ} {T : ℕ} → Runnable z net tables → RunTo z net tables pairs kept known kept' known' T
      → StepTold (sheet z net tables kept' (pair_at pairs T)) kept'' known' known'' → RunTo z net tables pairs kept known kept'' known'' (T + 1)
  run_more {kept'} {known'} {kept''} {known''} {T} r u t = record {
    keeps = subst (Keeps (net_in (arrays_of z net tables)) most_count (section_in kept) (value_at (net_in (arrays_of z net tables)) (section_in kept) (pairs_in pairs)) (section_in kept'')) (sym (add-one T))
        (step_keeps (runnable-sound r) r.loopless (runnable-counts r) (bench (runnable-sound r) r.loopless (section_in kept) (pairs_in pairs)) u.keeps
        (sheet-bench (sheet z net tables kept' (pair_at pairs T)) r) (λ v h. refl) (section_in kept'') newest older);
    long = t.long ∙ u.long;
    size = t.size ∙ u.size;
  }
    where
      node : (v : ℕ) → IsNode (net_in (arrays_of z net tables)) v → v < z.inputs + z.gates
      node v i = omega (arith, size-net_in (arrays_of z net tables))

      S : Sheet
      S = sheet z net tables kept' (pair_at pairs T)

      newest : (v : ℕ) → IsNode (net_in (arrays_of z net tables)) v → section_in kept'' v 0 ≡ value_of S v 0
      newest v i = ap (λ (x : ℕ). bit x 0) (t.next v (node v i)) ∙ next-newest (get_or kept' v 0) (value_of S v 0)

      older : (v j : ℕ) → IsNode (net_in (arrays_of z net tables)) v → suc j < most_count → section_in kept'' v (suc j) ≡ section_in kept' v j
      older v j i h = ap (λ (x : ℕ). bit x (suc j)) (t.next v (node v i)) ∙ next-older (get_or kept' v 0) (value_of S v 0) j h

-- the next step may be made
pub step-asks : {z : NetSizes} {net tables pairs kept known kept' known' : List ℕ} {T : ℕ} → StepAsked z net tables kept known → RunTo z net tables pairs kept known kept' known' T
    → StepAsked z net tables kept' known'
step-asks a u = record { runnable = a.runnable; room = omega (arith, a.room, u.long); size = omega (arith, a.size, u.size) }

-- ---- what is kept at first: a copy of the section

-- what was copied stands in front
pub copied : (l before after : List ℕ) (n : ℕ) → n ≡ length l → after ≡ take (length l) l ++ drop (length l) before → take n after ≡ l
copied l before after n e f =
    ap₂ (λ (m : ℕ) (x : List ℕ). take m x) e (f ∙ ap (λ (x : List ℕ). x ++ drop (length l) before) (take_all (length l) l (omega arith)))
    ∙ take-append-le (length l) l (drop (length l) before) (omega arith) ∙ take_all (length l) l (omega arith)
