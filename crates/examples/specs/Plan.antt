-- Examples by computation: labels and cones, given gate by gate and checked, are the key and so what map writes; labels too high for an output are refusal 12.
use Rattle.std.specs.Prelude.{◌≡◌, Bool, true, false, ◌⊎◌, ℕ, zero, suc, ◌-◌, ◌*◌, ◌≤◌, T, ltb, ℤ, pos, ◌-ℤ◌, length, get_or, ◌≤ℤ◌}
use Rattle.std.proofs.Math.Path.{refl, subst}
use Rattle.std.proofs.Common.{sym, ap, ◌∙◌, inl, inr, suc-le-suc, zero-le, arith, le-ltb}
use mathlib.Core.List.{List, [], map}
use Rattle.std.proofs.Math.Decide.{dec_le}
use Rattle.integers.specs.Height.{height}
use Rattle.integers.specs.Lag.{lag, ceil_div}
use Rattle.integers.specs.Order.{≤ℤ?, ℤ_dec, ≤ℤ_trans}
use Rattle.sequences.specs.Member.{◌∈◌}
use Rattle.sequences.specs.Decide.{all?, below?, dec_map, dec-×, dec-⊎, dec-¬, up_to}
use Rattle.sequences.specs.Grow.{reach?}
use Rattle.sequences.specs.Rising.{rising-keep}
use Rattle.sequences.specs.Subsets.{any_subset?}
use Rattle.net_model.specs.Net.{Net, Pin, IsGate, IsInput, gate, pins}
use Rattle.net_model.specs.Checks.{Sound, Fits, Loopless, AllReached, AllLeading, Passed}
use Rattle.net_model.specs.Copies.{Copy, copy, Leads, stop, step, Chosen, Any}
use Rattle.net_model.specs.Tables.{table_of, pack, value_in, at_leaf}
use Rattle.cone_theory.specs.Basics.{Copy-dec, leaves_of}
use Rattle.cone_theory.specs.FewCopies.{gate_numbers, in_gate_numbers}
use Rattle.cone_theory.specs.ChecksDecided.{loopless?, reached?, leading?, passed?}
use Rattle.cone_theory.specs.Part.{is_cone?}
use Rattle.cone_theory.specs.Ranks.{Ranked, ranked}
use Rattle.cone_theory.specs.Reach.{reach_of}
use Rattle.cut_theory.specs.Choice.{tighten}
use Rattle.cut_theory.specs.CutDecision.{CutSet, cut_set?, cut?}
use Rattle.label_theory.specs.Labels.{plain, Low, LowCut, OutputsMet}
use Rattle.label_theory.specs.Lower.{InputsZero, outputs-under, replace}
use Rattle.label_theory.proofs.Pins.{pin-input}
use Rattle.label_bounds.specs.Bounds.{LowerBound, settled-least, raised, pin-bound}
use Rattle.label_theory.specs.Forced.{Forced, root, behind, forced-inside}
use Rattle.label_theory.specs.Modes.{inside?}
use Rattle.label_bounds.specs.LabelDecision.{low_cut?, start, start-bound}
use Rattle.cover_theory.specs.Key.{Key, Entry, entries}
use Rattle.cover_period.specs.KeyOf.{root_list, root_of?, root_list-root, root-root_list, numbers-rising, rising-gates}
use Rattle.cover_period.specs.KeyUnique.{label_same, entries_unique}
use Rattle.cover_period.specs.Joined.{key?}
use Rattle.limits.specs.Limits.{least_k, most_k, most_period, cover_area, scratch_area}
use Rattle.limits.specs.Courses.{long}
use Rattle.net_bytes.specs.Reading.{Result, got, between}
use Rattle.net_bytes.specs.Walk.{net_reader}
use Rattle.net_bytes.specs.Sound.{walk-sound, walk-fits}
use Rattle.cover_records.specs.CoverBytes.{cover_bytes}
use Rattle.cover_records.specs.Outcomes.{accepted, turned_back, passes, check_graph, check_read, check_net, map_sizes, cleared, written, for_target, map_written, mapped_in, map_outcome}
use Rattle.demands.proofs.Demand3.{outcome-is}
use Rattle.examples.specs.Statements.{labels, Room, Refuses, Maps}

-- ---- what a decision computes to

abbrev pub is_yes : {X : Type 0} → Dec X → Bool
is_yes (yes x) = true
is_yes (no n) = false

pub given : {X : Type 0} (d : Dec X) → T (is_yes d) → X
given (yes x) t = x
given (no n) t = absurd t

-- ---- lower bounds of the labels

-- `low` is 0 at inputs and nowhere above `lo`
pub record Weaker (N : Net) (lo low : ℕ → ℤ) : Type 0 where
  pub inputs : InputsZero N low
  pub gates : (v : ℕ) → v ∈ gate_numbers N → low v ≤ℤ lo v

unfoldable pub weaker? : (N : Net) (lo low : ℕ → ℤ) → Dec (Weaker N lo low)
unfolding dec_map dec-× below? all? ℤ_dec ≤ℤ? gate_numbers
weaker? N lo low = dec_map (λ h. record { inputs = h.0; gates = h.1 }) (λ w. (w.inputs, w.gates))
    (dec-× (below? N.inputs (λ v h. ℤ_dec (low v) (pos 0))) (all? (gate_numbers N) (λ v h. ≤ℤ? (low v) (lo v))))

module _ {N : Net} {k φ : ℕ} where
  pub weaken : {lo low : ℕ → ℤ} → LowerBound N k φ lo → Weaker N lo low → LowerBound N k φ low
  weaken b w = record { inputs = w.inputs; below = λ lab l v g. ≤ℤ_trans (w.gates v (in_gate_numbers g)) (b.below lab l v g) }

  -- a gate is no lower than a pin asks
  pub by-input : {lo : ℕ → ℤ} → Sound N → LowerBound N k φ lo → (v : ℕ) (q : Pin) → IsGate N v → q ∈ pins N v → IsInput N q.src
      → LowerBound N k φ (replace lo v (height φ (pos 0) q.count))
  by-input {lo} s b v q g i h = raised N k φ s lo v (height φ (pos 0) q.count) b g (λ lab l. pin-input N k φ s lab v q l g i h)

  pub by-pin : {lo : ℕ → ℤ} → Sound N → LowerBound N k φ lo → (v : ℕ) (q : Pin) → IsGate N v → q ∈ pins N v
      → LowerBound N k φ (replace lo v (lo q.src -ℤ pos (φ * q.count)))
  by-pin {lo} s b v q g i = raised N k φ s lo v (lo q.src -ℤ pos (φ * q.count)) b g (pin-bound N k φ s lo v q b g i)

  -- **No key where a lower bound does not meet the outputs.**
  pub no_key : {lo : ℕ → ℤ} → Sound N → LowerBound N k φ lo → ¬ OutputsMet N φ lo → ¬ Key N k φ
  no_key {lo} s b n K =
      n (outputs-under N φ lo K.label s b.inputs K.least.labelling.inputs (b.below K.label K.least.labelling) K.outputs)

-- from the floor
pub from-floor : {N : Net} {k : ℕ} (φ : ℕ) (P : Passed N k) (zs : List ℤ) → T (is_yes (weaker? N (start P φ) (labels N zs))) → LowerBound N k φ (labels N zs)
from-floor {N} φ P zs w = weaken (start-bound P φ plain (ranked P.reached)) (given (weaker? N (start P φ) (labels N zs)) w)

-- no cut of the height of gate v's number
unfoldable pub no_cut? : (N : Net) (k φ : ℕ) → Ranked N → (lab : ℕ → ℤ) (v : ℕ) → Dec (¬ LowCut N k φ lab v (lab v))
unfolding dec-¬ low_cut? inside? cut? any_subset? is_cone? leaves_of all? up_to dec_le ≤ℤ? reach_of gate
no_cut? N k φ R lab v = dec-¬ (low_cut? plain N k φ R lab v (lab v))

unfoldable pub outputs_met? : (N : Net) (φ : ℕ) (lab : ℕ → ℤ) → Dec (OutputsMet N φ lab)
unfolding all? ≤ℤ?
outputs_met? N φ lab = all? N.outputs (λ o h. ≤ℤ? (lab o.src -ℤ pos (φ * o.count)) (pos φ))

-- ---- a plan: labels, and the cones of the gates in order

abbrev pub cones : Net → List (List Copy) → ℕ → List Copy
cones N cs v = get_or cs (v - N.inputs) []

module _ (N : Net) (k φ : ℕ) (lab : ℕ → ℤ) (cone : ℕ → List Copy) where
  abbrev leaves_at : ℕ → List Copy
  leaves_at v = (leaves_of N (cone v)).0

  -- the cone of gate v has at most k leaves, no higher than its label; there is no such cut with fewer; each of its members but the root would be too high as a leaf
  pub record GatePlan (v : ℕ) : Type 0 where
    pub cut : CutSet N k v (Low φ lab (lab v)) Any (cone v)
    pub fewest : ¬ LowCut N (length (leaves_of N (cone v)).0 - 1) φ lab v (lab v)
    pub needed : (x : Copy) → x ∈ cone v → (x ≡ copy v 0) ⊎ (¬ Low φ lab (lab v) x)

  pub record Plan : Type 0 where
    pub gates : (v : ℕ) → v ∈ gate_numbers N → GatePlan v
    pub outputs : OutputsMet N φ lab

  pub gate_plan_of : {v : ℕ} → CutSet N k v (Low φ lab (lab v)) Any (cone v) × ((¬ LowCut N (length (leaves_of N (cone v)).0 - 1) φ lab v (lab v))
      × ((x : Copy) → x ∈ cone v → (x ≡ copy v 0) ⊎ (¬ Low φ lab (lab v) x))) → GatePlan v
  gate_plan_of h = record { cut = h.0; fewest = h.1.0; needed = h.1.1 }

  pub of_gate_plan : {v : ℕ} → GatePlan v → CutSet N k v (Low φ lab (lab v)) Any (cone v) × ((¬ LowCut N (length (leaves_of N (cone v)).0 - 1) φ lab v (lab v))
      × ((x : Copy) → x ∈ cone v → (x ≡ copy v 0) ⊎ (¬ Low φ lab (lab v) x)))
  of_gate_plan p = (p.cut, (p.fewest, p.needed))

  unfoldable pub gate_plan? : Ranked N → (v : ℕ) → Dec (GatePlan v)
  unfolding dec_map dec-× dec-¬ dec-⊎ all? up_to cut_set? is_cone? leaves_of low_cut? inside? cut? any_subset? Copy-dec ≤ℤ? dec_le reach_of gate
  gate_plan? R v =
      let low : (y : Copy) → Dec (Low φ lab (lab v) y) = λ y. ≤ℤ? (height φ (lab y.node) y.back) (lab v) in
      dec_map gate_plan_of of_gate_plan (dec-× (cut_set? low (λ x. yes tt) k (cone v)) (dec-× (dec-¬ (low_cut? plain N (length (leaves_of N (cone v)).0 - 1) φ R lab v (lab v)))
      (all? (cone v) (λ x h. dec-⊎ (Copy-dec x (copy v 0)) (dec-¬ (low x))))))

  unfoldable pub plan? : Ranked N → Dec Plan
  unfolding gate_plan? dec_map dec-× all? gate_numbers outputs_met?
  plan? R = dec_map (λ h. record { gates = h.0; outputs = h.1 }) (λ p. (p.gates, p.outputs)) (dec-× (all? (gate_numbers N) (λ v h. gate_plan? R v)) (outputs_met? N φ lab))

  -- the LUTs of a plan
  unfoldable pub planned : List Entry
  unfolding root_list reach? gate_numbers leaves_of lag ceil_div table_of pack value_in at_leaf gate
  planned = map (λ (v : ℕ). record { root = v; leaves = (leaves_of N (cone v)).0; lag = lag φ (lab v); table = table_of N v (cone v) (leaves_of N (cone v)).0 }) (root_list N leaves_at)

  module _ (b : LowerBound N k φ lab) (p : Plan) where
    unfoldable pub cut_at : (v : ℕ) → IsGate N v → LowCut N k φ lab v (lab v)
    cut_at v g =
        let c = (p.gates v (in_gate_numbers g)).cut in
        record {
          cone = cone v;
          leaves = (leaves_of N (cone v)).0;
          is_cone = c.is_cone;
          is_leaves = (leaves_of N (cone v)).1;
          few = c.few;
          allowed = c.allowed;
          inside = c.inside;
        }

    -- every member is forced
    forced : (v : ℕ) → GatePlan v → {x : Copy} → x ∈ cone v → Leads N (cone v) (copy v 0) x → Forced N v (Low φ lab (lab v)) x
    forced v q m (stop e) = root e
    forced v q {x} m (step z i f l) = go (q.needed x m) (forced v q i l)
      where
        go : (x ≡ copy v 0) ⊎ (¬ Low φ lab (lab v) x) → Forced N v (Low φ lab (lab v)) z → Forced N v (Low φ lab (lab v)) x
        go (inl e) t = root e
        go (inr n) t = behind z t f n

    pub chosen_at : (v : ℕ) (g : IsGate N v) → Chosen N k v (Low φ lab (lab v)) Any (cut_at v g)
    unfolding cut_at tighten
    chosen_at v g = record { fewest = λ J. few J (dec_le (length (leaves_of N (cone v)).0) (length J.leaves)); smallest = λ J e x m. forced-inside J (forced v q m (q.cut.is_cone.leads x m)) }
      where
        q : GatePlan v
        q = p.gates v (in_gate_numbers g)

        few : (J : LowCut N k φ lab v (lab v)) → Dec (length (leaves_of N (cone v)).0 ≤ length J.leaves) → length (leaves_of N (cone v)).0 ≤ length J.leaves
        few J (yes h) = h
        few J (no n) = absurd (q.fewest (tighten J (omega arith)))

    -- **A plan whose labels are a lower bound is the key.**
    unfoldable pub plan_key : Key N k φ
    unfolding cut_at root_list
    plan_key = record {
      label = lab;
      least = settled-least k φ b cut_at;
      outputs = p.outputs;
      cut = cut_at;
      chosen = chosen_at;
      leaves = leaves_at;
      cone = cone;
      is_leaves = λ v g. refl;
      is_cone = λ v g. refl;
      roots = root_list N leaves_at;
      rising = numbers-rising (rising-keep (root_of? N leaves_at) (rising-gates N));
      is_root = root_list-root N leaves_at;
      all_roots = root-root_list N leaves_at;
    }

    pub plan_key-entries : entries plan_key ≡ planned
    unfolding plan_key planned entries
    plan_key-entries = refl

    pub plan_key-label : (v : ℕ) → plan_key.label v ≡ lab v
    unfolding plan_key
    plan_key-label v = refl

-- ---- what map does

module _ (bytes : List ℕ) (k : ℕ) (N : Net) (P : Passed N k) (reads : net_reader long k bytes ≡ got N []) where
  graph-passes : (s : Sound N) (f : Fits N k) (a : Dec (Loopless N)) (b : Dec (AllReached N)) (c : Dec (AllLeading N)) → (Q : Passed N k) × (check_graph N k s f a b c ≡ passes N Q)
  unfolding check_graph
  graph-passes s f (no a) b c = absurd (a P.loopless)
  graph-passes s f (yes a) (no b) c = absurd (b P.reached)
  graph-passes s f (yes a) (yes b) (no c) = absurd (c P.leading)
  graph-passes s f (yes a) (yes b) (yes c) = (record { sound = s; fits = f; loopless = a; reached = b; leading = c }, refl)

  -- a net that passes the checks passes them in map
  pub net-passes : (Q : Passed N k) × (check_net long k bytes ≡ passes N Q)
  unfolding check_net check_read
  net-passes = subst (λ (r : Result Net). (e : net_reader long k bytes ≡ r) → (Q : Passed N k) × (check_read long k bytes r e ≡ passes N Q)) (sym reads) from refl
    where
      from : (e : net_reader long k bytes ≡ got N []) → (Q : Passed N k) × (check_read long k bytes (got N []) e ≡ passes N Q)
      from e = graph-passes (walk-sound long k bytes N [] e) (walk-fits long k bytes N [] e) (loopless? N) (reached? N) (leading? N)

  module _ (t : ℕ) (area scratch : List ℕ) (sizes : map_sizes long k (suc t) area scratch ≡ 0) where
    -- **Where there is a key, map writes its entries.**
    pub map_writes : Key N k (suc t) → (es : List Entry) → ((K : Key N k (suc t)) → entries K ≡ es)
        → map_outcome long bytes k (suc t) area scratch
        ≡ record { answer = accepted (length (cover_bytes long (suc t) es)); area = written (cover_bytes long (suc t) es) area; scratch = cleared scratch_area scratch }
    unfolding mapped_in map_written for_target
    map_writes K es same = outcome-is bytes area scratch k (suc t) N Q sizes net-passes.1 ∙ go (key? Q (suc-le-suc zero-le))
      where
        Q : Passed N k
        Q = net-passes.0

        go : (d : Dec (Key N k (suc t))) → map_written long (for_target N k (suc t) d) area scratch
            ≡ record { answer = accepted (length (cover_bytes long (suc t) es)); area = written (cover_bytes long (suc t) es) area; scratch = cleared scratch_area scratch }
        go (yes J) = ap (λ (l : List Entry). record { answer = accepted (length (cover_bytes long (suc t) l)); area = written (cover_bytes long (suc t) l) area; scratch = cleared scratch_area scratch }) (same J)
        go (no n) = absurd (n K)

    -- **Where there is none, map says 12.**
    pub map-refuses : ¬ Key N k (suc t) → map_outcome long bytes k (suc t) area scratch ≡ record { answer = turned_back 12; area = area; scratch = cleared scratch_area scratch }
    unfolding mapped_in map_written for_target
    map-refuses n = outcome-is bytes area scratch k (suc t) N Q sizes net-passes.1 ∙ go (key? Q (suc-le-suc zero-le))
      where
        Q : Passed N k
        Q = net-passes.0

        go : (d : Dec (Key N k (suc t))) → map_written long (for_target N k (suc t) d) area scratch ≡ record { answer = turned_back 12; area = area; scratch = cleared scratch_area scratch }
        go (yes K) = absurd (n K)
        go (no m) = refl

-- ---- examples by computation

pub sizes-pass : (k target : ℕ) (area scratch : List ℕ) → between least_k most_k k ≡ true → ltb most_period target ≡ false → Room area scratch → map_sizes long k target area scratch ≡ 0
unfolding map_sizes
sizes-pass k target area scratch a b r = rw (a, b, le-ltb (length area) cover_area r.cover, le-ltb (length scratch) scratch_area r.work) refl

-- the net passes the checks and reads; k and the target are in range
abbrev pub InRange : List ℕ → Net → ℕ → ℕ → Type 0
InRange net N k target = T (is_yes (passed? N k)) × (net_reader long k net ≡ got N []) × (between least_k most_k k ≡ true) × (ltb most_period target ≡ false)

-- **A lower bound `zs` of the labels that does not meet an output: refused with 12.**
pub refuses : (net : List ℕ) (N : Net) (k t : ℕ) (zs : List ℤ) → (Passed N k → LowerBound N k (suc t) (labels N zs)) → InRange net N k (suc t)
    → T (is_yes (dec-¬ (outputs_met? N (suc t) (labels N zs)))) → Refuses net k (suc t) 12
refuses net N k t zs bound (p, e, a, b) n area scratch r =
    let P = given (passed? N k) p in
    map-refuses net k N P e t area scratch (sizes-pass k (suc t) area scratch a b r)
    (no_key P.sound (bound P) (given (dec-¬ (outputs_met? N (suc t) (labels N zs))) n))

-- **A lower bound `zs` that the cones `cs` settle: the written cover, and map writes it.**
module _ (net : List ℕ) (N : Net) (t : ℕ) (zs : List ℤ) (cs : List (List Copy)) (luts : List Entry) where
  -- what is computed of it
  abbrev pub Computed : ℕ → Type 0
  Computed k =
      ((R : Ranked N) → T (is_yes (plan? N k (suc t) (labels N zs) (cones N cs) R))) × (planned N k (suc t) (labels N zs) (cones N cs) ≡ luts) × InRange net N k (suc t)

  pub maps : (k : ℕ) → (Passed N k → LowerBound N k (suc t) (labels N zs)) → Computed k → Maps net N k (suc t) zs luts
  maps k bound (plan, q, (ok, e, a, b)) = record {
    reads = e;
    key = K;
    label = λ I v g. label_same P I K v g ∙ plan_key-label N k (suc t) (labels N zs) (cones N cs) l p v;
    cover = cover;
    outcome = λ area scratch r. map_writes net k N P e t area scratch (sizes-pass k (suc t) area scratch a b r) K luts cover;
  }
    where
      P : Passed N k
      P = given (passed? N k) ok

      R : Ranked N
      R = ranked P.reached

      l : LowerBound N k (suc t) (labels N zs)
      l = bound P

      p : Plan N k (suc t) (labels N zs) (cones N cs)
      p = given (plan? N k (suc t) (labels N zs) (cones N cs) R) (plan R)

      K : Key N k (suc t)
      K = plan_key N k (suc t) (labels N zs) (cones N cs) l p

      cover : (I : Key N k (suc t)) → entries I ≡ luts
      cover I = entries_unique P I K ∙ plan_key-entries N k (suc t) (labels N zs) (cones N cs) l p ∙ q

  -- where it is computed for each k
  pub maps-all : ((k : ℕ) → Passed N k → LowerBound N k (suc t) (labels N zs)) → Computed 2 → Computed 3 → Computed 4 → Computed 5 → Computed 6
      → (k : ℕ) → 2 ≤ k → k ≤ 6 → Maps net N k (suc t) zs luts
  maps-all bound a b c d e zero h l = absurd (omega (arith, h))
  maps-all bound a b c d e (suc zero) h l = absurd (omega (arith, h))
  maps-all bound a b c d e (suc (suc zero)) h l = maps 2 (bound 2) a
  maps-all bound a b c d e (suc (suc (suc zero))) h l = maps 3 (bound 3) b
  maps-all bound a b c d e (suc (suc (suc (suc zero)))) h l = maps 4 (bound 4) c
  maps-all bound a b c d e (suc (suc (suc (suc (suc zero))))) h l = maps 5 (bound 5) d
  maps-all bound a b c d e (suc (suc (suc (suc (suc (suc zero)))))) h l = maps 6 (bound 6) e
  maps-all bound a b c d e (suc (suc (suc (suc (suc (suc (suc k))))))) h l = absurd (omega (arith, l))
