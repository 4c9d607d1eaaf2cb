-- From a net read and checked to the engine's arrays.
use Rattle.std.specs.Prelude.{◌≡◌, Option, Some, None, refl, List, ◌++◌, ℕ, ◌+◌, ◌-◌, ◌*◌, ◌≤◌, ◌<◌, ℤ, pos, length, get_or, take, drop, replicate}
use Rattle.std.proofs.Common.{sym, ap, subst, ◌∙◌, mul-le-mul, mul-le-mul_left, arith, take_at, get_or-drop}
use Rattle.std.proofs.lemmas.List.{length-replicate}
use Rattle.std.proofs.Math.ListN.{get_or-append}
use Rattle.net_model.specs.Net.{Net, Gate}
use Rattle.net_model.specs.Arrays.{Arrays, stride, pins_in, net_in}
use Rattle.net_model.specs.ArrayLaws.{gate-net_in, outputs-net_in}
use Rattle.net_model.specs.Wired.{Wired}
use Rattle.net_model.specs.WiredLaws.{net_in-wired}
use Rattle.net_model.specs.Checks.{Passed}
use Rattle.net_model.specs.PackedNet.{first_at, sources_at, counts_at, order_at, tops_at, outs_at, delays_at, packed_room, NetKept}
use Rattle.net_model.specs.PackedNetLaws.{length_part, kept-between, kept-net}
use Rattle.label_theory.specs.Labels.{Mode, plain, forward}
use Rattle.label_theory.proofs.Pins.{OutPath}
use Rattle.limits.specs.Limits.{most_beyond, most_count, most_gates, most_nodes, most_period, most_pins, most_reach, most_rows, most_table, most_held}
use Rattle.cone_theory.specs.Ranks.{ranked}
use Rattle.cone_theory.specs.Reach.{reach_of}
use Rattle.cover_records.specs.Kept.{Kept, entries_in}
use Rattle.cover_records.specs.Rows.{kept_in}
use Rattle.cover_records.specs.Outcomes.{cleared}
use Rattle.signed.specs.Range.{room, Small}
use Rattle.net_reader.specs.ReadAnswer.{arrays_of}
use Rattle.net_reader.specs.Rooms.{NetRoom}
use Rattle.net_reader.specs.ReadWires.{read-wires, kept-facts, kept-room}
use Rattle.net_reader.specs.WalkFacts.{WalkFacts}
use Rattle.net_reader.specs.declared.NetSizes.{NetSizes}
use Rattle.cone_copies.specs.CopyLists.{SmallWires}
use Rattle.cone_table.specs.ConeWords.{Tabled}
use Rattle.cut_circuit.specs.Circuit.{Layout}
use Rattle.cut_circuit.specs.Packed.{packed_of}
use Rattle.cut_circuit.specs.declared.Extent.{Extent}
use Rattle.cut_circuit.specs.PinLinks.{LinkAsked, LinkedIn, Links}
use Rattle.cut_circuit.specs.PinLinksLaws.{chains}
use Rattle.label_sweep.specs.Sweeps.{order_in, outs_in, delays_in}
use Rattle.label_visit.specs.LabelVisits.{Ceiled, Suits, wiring, Ceilings, tops_in}
use Rattle.label_visit.specs.TopLaws.{tops-own, top-capped, capped}
use Rattle.job_plan.specs.Counts.{SumCounts, Extending, extent_by, ExtentOf}
use Rattle.job_plan.specs.CountLaws.{sum-reach}
use Rattle.job_plan.specs.Found.{cap_in, PeriodAsked}
use Rattle.job_plan.specs.Planned.{Covered, Planned, Planning, Roomy, Engine, CoverTold}
use Rattle.job_plan.specs.Entries.{with_labels, entries_in_lem}
use Rattle.sequences.specs.Zeros.{zeros}

-- the tables of a net kept in arrays
pub tabled-net_in : (a : Arrays) → Tabled (net_in a) a.inputs a.gates a.tables
tabled-net_in a = record { table = λ g h. ap (λ (x : Gate). x.table) (gate-net_in a (a.inputs + g) g refl h) }

-- the same cover with labels that agree on the gates
covered_with : {M : Mode} {N : Net} {k target : ℕ} {a : Kept} {ls : List ℤ} → ((u : ℕ) → u < a.inputs + a.gates → get_or a.labels u (pos 0) ≡ get_or ls u (pos 0))
    → Covered M N k target a → N.inputs ≡ a.inputs → length N.gates ≡ a.gates → Covered M N k target (with_labels a ls)
covered_with {N = N} {a = a} {ls} same c i g = record {
  positive = c.positive;
  given = c.given;
  least = c.least;
  key = c.key;
  same = c.same ∙ entries_are;
  labels = λ v q. c.labels v q ∙ same v (let h = q.high in omega arith);
  small = λ x h. subst Small (same (a.inputs + x) (omega arith)) (c.small x h);
  few = c.few;
  whole = record { each = c.whole.each };
}
  where
    entries_are : entries_in a ≡ entries_in (with_labels a ls)
    entries_are = entries_in_lem a ls (λ h l. same (a.inputs + h) (omega arith))

-- a cleared table
pub cleared-part : (n : ℕ) (s : List ℕ) → take n (cleared n s) ≡ replicate n 0
unfolding cleared
cleared-part n s = take_at (replicate n 0) (drop n s) n (length-replicate n 0)

-- the wiring of a net read
pub net-wires : {k : ℕ} {z : NetSizes} {net ts : List ℕ} → WalkFacts k (arrays_of z net ts) → NetRoom z net ts
    → SmallWires z.inputs z.gates net (drop (sources_at z.gates) net) (drop (counts_at z.gates) net)
net-wires f r = record { wires = read-wires f r; inputs = f.inputs-high; gates = f.gates-high; count = f.count }

-- ---- the net with its chains made
module _ {k target : ℕ} {z : NetSizes} {net ts net' : List ℕ} (p : Planning k target z net ts) (l : Links (z.inputs + z.gates) z.gates net net') where
  pub linked-kept : NetKept z.inputs z.gates net net'
  linked-kept = kept-between (omega arith) (omega arith) l.apart

  pub linked-net : net_in (arrays_of z net' ts) ≡ net_in (arrays_of z net ts)
  linked-net = kept-net linked-kept p.facts.pins-high z.outputs ts

  behind-same : (i : ℕ) → order_at z.inputs z.gates ≤ i → get_or net' i 0 ≡ get_or net i 0
  behind-same = l.apart.above

  pub linked_planning : Planning k target z net' ts
  linked_planning = record {
    facts = kept-facts p.facts linked-kept;
    room = kept-room linked-kept p.room;
    low = p.low;
    high = p.high;
    near = p.near;
    passed = subst (λ (N : Net). Passed N k) (sym linked-net) p.passed;
    graph = record {
      ordered = record {
        in_order = λ i h. omega (arith, behind-same (order_at z.inputs z.gates + i) (omega arith), p.graph.ordered.in_order i h);
        ordered = λ g h. let t = p.graph.ordered.ordered g h in (t.0, t.1, behind-same (order_at z.inputs z.gates + t.0) (omega arith) ∙ t.2);
      };
      firsts = λ g h. omega (arith, p.graph.firsts g h, l.apart.below g (omega (arith, h)), l.apart.below (first_at z.gates + g) (omega (arith, h)));
      topped = record {
        low = λ g h. omega (arith, behind-same (tops_at z.inputs z.gates + g) (omega arith), p.graph.topped.low g h);
        high = λ g h. omega (arith, behind-same (tops_at z.inputs z.gates + g) (omega arith), p.graph.topped.high g h);
      };
      paths = λ g h.
          subst (λ (N : Net). OutPath N (z.inputs + g) (get_or net' (tops_at z.inputs z.gates + g) 0 - 1)) (sym linked-net)
          (rw (behind-same (tops_at z.inputs z.gates + g) (omega arith)) (p.graph.paths g h));
    };
  }

module _ {k target : ℕ} {z : NetSizes} {net ts : List ℕ} (p : Planning k target z net ts) where
  abbrev I : ℕ
  I = z.inputs

  abbrev G : ℕ
  G = z.gates

  abbrev N : Net
  N = net_in (arrays_of z net ts)

  abbrev so : List ℕ
  so = drop (sources_at G) net

  abbrev co : List ℕ
  co = drop (counts_at G) net

  abbrev tops : List ℕ
  tops = drop (tops_at I G) net

  -- a part is long enough
  long : (a n : ℕ) → a + n ≤ packed_room I G z.outputs → n ≤ length (drop a net)
  long a n h = length_part net a n (omega (arith, h, p.room.packed))

  pub plan_extending : Extending z net k
  plan_extending = record {
    counted = record {
      gates = p.facts.gates-high;
      at_pins = omega (arith, p.room.packed);
      at_counts = long (counts_at G) (stride * G) (omega arith);
      few = p.facts.pins-high;
      count = p.facts.count;
    };
    parts = omega (arith, p.room.packed);
    high = p.high;
  }

  pub plan_link : LinkAsked (I + G) G net
  plan_link = record { room = omega (arith, p.room.packed); few = p.facts.pins-high; node = p.facts.source }

  wired : Wired N I G net so co
  wired = net_in-wired (arrays_of z net ts)

  top-at : (g : ℕ) → get_or tops g 0 ≡ get_or net (tops_at I G + g) 0
  top-at g = get_or-drop (tops_at I G) net g 0

  module _ {m : ℕ} (s : SumCounts G net co 0 m) where
    border-small : k * m ≤ most_reach
    border-small =
        let a : m ≤ most_gates * most_count = let b = s.small in let c = p.facts.gates-high in omega arith in
        let d = mul-le-mul p.high a in
        omega arith

    table-small : (I + G) * (k * m + most_beyond) ≤ most_table
    table-small =
        let a : I + G ≤ most_nodes = let b = p.facts.inputs-high in let c = p.facts.gates-high in omega arith in
        let b : k * m + most_beyond ≤ most_reach + most_beyond = let c = border-small in omega arith in
        let d = mul-le-mul a b in
        omega arith

    border-enough : k * reach_of N ≤ k * m
    border-enough = mul-le-mul_left k (sum-reach s N wired)

    abbrev extent : Extent
    extent = extent_by z k m

    layout : Layout (packed_of extent net (replicate most_held 0))
    layout = record {
      wide = omega arith;
      pins = omega (arith, p.room.packed);
      sources = long (sources_at G) (stride * G) (omega arith);
      counts = long (counts_at G) (stride * G) (omega arith);
      firsts = long (first_at G) G (omega arith);
      slots = let a = p.facts.gates-high in let b = length-replicate {A = ℕ} most_held 0 in omega arith;
      held = λ g h. let q = zeros most_held g in omega arith;
      first = λ g h. omega (arith, p.graph.firsts g h, get_or-drop (first_at G) net g 0);
      few = p.facts.pins-high;
      source = p.facts.source;
      count = λ g j h i. let a = p.facts.count g j h i in omega arith;
    }

    -- the ceilings of a mode are right
    ceiled : (M : Mode) (g : ℕ) → g < G → Ceiled M N (I + g) (get_or (tops_in extent net (cap_in M)) g 0)
    ceiled plain g h = rw (tops-own extent net) (rw (top-at g) (p.graph.topped.low g h, p.graph.paths g h))
    ceiled forward g h = let e = top-capped extent net 1 g h in omega (arith, e)

    suits : (M : Mode) → Suits M (wiring extent net) k (tops_in extent net (cap_in M)) N
    suits M = record {
      holds = record { inputs = wired.inputs; gates = wired.gates; lists = wired.wiring };
      ranked = ranked p.passed.reached;
      loopless = p.passed.loopless;
      sound = p.passed.sound;
      fits = p.passed.fits;
      border = border-enough;
      path = ceiled M;
    }

    -- what 32 times a small number is
    far : (x : ℕ) → x ≤ 100000 → most_period * x ≤ room
    far x h = let a = mul-le-mul_left most_period h in omega arith

    order-at : (i : ℕ) → get_or (drop (order_at I G) net) i 0 ≡ get_or net (order_at I G + i) 0
    order-at i = get_or-drop (order_at I G) net i 0

    -- and do not overflow
    ceilings : (M : Mode) → Ceilings (wiring extent net) most_period (tops_in extent net (cap_in M))
    ceilings plain = subst (Ceilings (wiring extent net) most_period) (sym (tops-own extent net)) (record {
      size = long (tops_at I G) G (omega arith);
      top = λ g h. let b = mul-le-mul_left most_period (small_top g h) in omega arith;
    })
      where
        small_top : (g : ℕ) → g < G → get_or tops g 0 ≤ 100000
        small_top g h = omega (arith, top-at g, p.graph.topped.high g h, p.facts.gates-high)
    ceilings forward = capped extent net most_period 1 (omega arith)

    period : (M : Mode) (ls : List ℤ) → length ls ≡ I + G
        → PeriodAsked extent net ls (tops_in extent net (cap_in M)) (order_in extent net) (outs_in extent net) (delays_in extent net z.outputs) z.outputs target k
    period M ls e = record {
      sized = record {
        size = e;
        shift = far (k * m + most_beyond) (let a = border-small in omega arith);
        period = omega arith;
        least = let a = p.low in omega arith;
        limit = p.high;
        fits = let a = table-small in omega arith;
        sources = long (outs_at I G) z.outputs (omega arith);
        counts = long (delays_at I G z.outputs) z.outputs (omega arith);
        node = p.facts.out-source;
        count = λ i h. far (get_or (drop (delays_at I G z.outputs) net) i 0) (let a = p.facts.out-count i h in omega arith);
      };
      ordered = record {
        room = long (order_at I G) G (omega arith);
        gate = λ i h. omega (arith, order-at i, p.graph.ordered.in_order i h);
        all = λ g h. let t = p.graph.ordered.ordered g h in (t.0, t.1, order-at t.0 ∙ t.2);
      };
      ceilings = ceilings M;
      some = p.facts.gates-low;
      few = p.facts.gates-high;
      near = p.near;
    }

    outputs_are : N.outputs ≡ pins_in (drop (outs_at I G) net) (drop (delays_at I G z.outputs) net) 0 z.outputs
    outputs_are = outputs-net_in (arrays_of z net ts)

    -- the tables of the net are those of the arrays
    tabled : Tabled N I G ts
    tabled = tabled-net_in (arrays_of z net ts)

    -- **the engine's arrays**
    plan_engine : (M : Mode) → LinkedIn (I + G) G net (most_pins * G) → (t : List ℕ) → t ≡ replicate most_table 0 → (ls : List ℤ) → length ls ≡ I + G
        → Engine M extent z.outputs net ts k target t ls
    plan_engine M linked t e ls f = record {
      model = N;
      suits = suits M;
      passed = p.passed;
      ended = outputs_are;
      layout = layout;
      chains = chains extent net (replicate most_held 0) plan_link linked;
      size = ap length e ∙ length-replicate {A = ℕ} most_table 0;
      fits = table-small;
      clear = λ c. ap (λ (x : List ℕ). get_or x c 0) e ∙ zeros most_table c;
      period = period M ls f;
      wires = net-wires p.facts p.room;
      parts = p.room.packed;
      tables = p.room.tabled;
      few = p.high;
    }

    -- **the cover, with its labels in front of a longer array**
    plan_planned : {M : Mode} {ls : List ℤ} {rows luts : List ℕ} (r : Option ℕ) (rest : List ℤ) → length ls ≡ I + G
        → CoverTold M extent z.outputs net ts k target (λ φ. kept_in I G φ ls rows luts) r
        → Planned M N k target (λ φ. kept_in I G φ (ls ++ rest) rows luts) r
    plan_planned {M} {ls} {rows} {luts} r rest e told = relabel r (told.cover N (suits M) p.passed tabled outputs_are)
      where
        same : (u : ℕ) → u < I + G → get_or ls u (pos 0) ≡ get_or (ls ++ rest) u (pos 0)
        same u h = sym (get_or-append ls rest (pos 0) u (omega (arith, e, h)))

        relabel : (r : Option ℕ) → Planned M N k target (λ φ. kept_in I G φ ls rows luts) r → Planned M N k target (λ φ. kept_in I G φ (ls ++ rest) rows luts) r
        relabel None q = q
        relabel (Some φ) q = covered_with same q wired.inputs wired.gates

-- ---- the same for the extent that the program makes
module _ {k target : ℕ} {z : NetSizes} {net ts : List ℕ} (p : Planning k target z net ts) {s : Extent} (x : ExtentOf z net k s) where
  pub planned-engine : (M : Mode) → LinkedIn (z.inputs + z.gates) z.gates net (most_pins * z.gates) → (t : List ℕ) → t ≡ replicate most_table 0 → (ls : List ℤ) → length ls ≡ z.inputs + z.gates
      → Engine M s z.outputs net ts k target t ls
  planned-engine M linked t e ls f = subst (λ (y : Extent). Engine M y z.outputs net ts k target t ls) (sym x.is) (plan_engine p x.sum M linked t e ls f)

  -- the net read suits, and its outputs are those of the slice
  pub planned-suits : (M : Mode) → Suits M (wiring s net) k (tops_in s net (cap_in M)) (net_in (arrays_of z net ts))
  planned-suits M = subst (λ (y : Extent). Suits M (wiring y net) k (tops_in y net (cap_in M)) (net_in (arrays_of z net ts))) (sym x.is) (suits p x.sum M)

  pub planned-outputs : (net_in (arrays_of z net ts)).outputs ≡ pins_in (outs_in s net) (delays_in s net z.outputs) 0 z.outputs
  planned-outputs = subst (λ (y : Extent). (net_in (arrays_of z net ts)).outputs ≡ pins_in (outs_in y net) (delays_in y net z.outputs) 0 z.outputs) (sym x.is) (outputs_are p x.sum)

  pub planned-room : {rows luts : List ℕ} → Roomy z.gates rows luts → Roomy s.gates rows luts
  planned-room {rows} {luts} r = subst (λ (y : Extent). Roomy y.gates rows luts) (sym x.is) r

  pub planned-cover : {M : Mode} {N : Net} → net_in (arrays_of z net ts) ≡ N → {ls : List ℤ} {rows luts : List ℕ} (r : Option ℕ) (rest : List ℤ) → length ls ≡ z.inputs + z.gates
      → CoverTold M s z.outputs net ts k target (λ φ. kept_in s.inputs s.gates φ ls rows luts) r
      → Planned M N k target (λ φ. kept_in z.inputs z.gates φ (ls ++ rest) rows luts) r
  planned-cover {M} same {ls} {rows} {luts} r rest e told =
      subst (λ (N : Net). Planned M N k target (λ φ. kept_in z.inputs z.gates φ (ls ++ rest) rows luts) r) same
      (plan_planned p x.sum r rest e
      (subst (λ (y : Extent). CoverTold M y z.outputs net ts k target (λ φ. kept_in y.inputs y.gates φ ls rows luts) r) x.is told))

-- slices of zeros have room for a cover
pub zero_room : (G : ℕ) → G ≤ most_gates → Roomy G (replicate most_rows 0) (replicate most_gates 0)
zero_room G h = record { at_rows = omega (arith, h); unmarked = λ g l. zeros most_rows g; at_luts = h }
