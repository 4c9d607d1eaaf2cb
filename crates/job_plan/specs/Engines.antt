-- The engine's arrays: at rest at the start, and what the choice of the roots and the tables ask.
use Rattle.std.specs.Prelude.{◌≡◌, refl, List, [], ◌∷◌, ◌++◌, ℕ, zero, suc, ◌+◌, ◌*◌, ◌≤◌, ℤ, length, take, drop, replicate}
use Rattle.std.proofs.Common.{sym, subst, ◌∙◌, mul-le-mul_right, arith, length-append, length-drop, length-take-le, take_at, get_or-drop}
use Rattle.std.proofs.lemmas.List.{length-replicate}
use Rattle.sequences.specs.Zeros.{zeros}
use Rattle.limits.specs.Limits.{most_gates, most_pins, most_copies, most_nodes, most_list, most_stack, most_held}
use Rattle.cover_records.specs.Rows.{sizes_in, nodes_in, backs_in}
use Rattle.cone_descent.specs.Descent.{Clear}
use Rattle.label_theory.specs.Labels.{Mode}
use Rattle.cut_circuit.specs.Circuit.{Circuit, total}
use Rattle.cut_circuit.specs.Packed.{packed_of, sources_at, counts_at}
use Rattle.cut_circuit.specs.declared.Extent.{Extent}
use Rattle.cut_kept.specs.KeptCuts.{row_places, unbordered}
use Rattle.cut_kept.specs.KeptLaws.{kept-none}
use Rattle.cut_question.specs.Separating.{AtRest}
use Rattle.label_visit.specs.LabelVisits.{wiring, tops_in}
use Rattle.label_sweep.specs.Sweeps.{outs_in, delays_in}
use Rattle.cover_roots.specs.Choosing.{Chooses, RootsTold}
use Rattle.cone_luts.specs.Luts.{Tabulates}
use Rattle.job_plan.specs.Found.{cap_in, Found}
use Rattle.job_plan.specs.Planned.{Engine, Roomy}
use Rattle.job_plan.specs.Covering.{few-leaves, rising-leaves}

-- the members, and behind them the rows of kept cuts
abbrev pub most_members : ℕ
most_members = most_copies + row_places * most_gates

-- ---- the first bytes of a table

clear-take : (n : ℕ) (t : List ℕ) → Clear t → Clear (take n t)
clear-take zero t c q = refl
clear-take (suc n) [] c q = c q
clear-take (suc n) (x ∷ t) c zero = c zero
clear-take (suc n) (x ∷ t) c (suc q) = clear-take n t (λ i. c (suc i)) q

pub clear_behind : (x t : List ℕ) (n : ℕ) → Clear x → Clear t → Clear (x ++ drop n t)
clear_behind [] t n a b q = get_or-drop n t q 0 ∙ b (n + q)
clear_behind (y ∷ x) t n a b zero = a zero
clear_behind (y ∷ x) t n a b (suc q) = clear_behind x t n (λ i. a (suc i)) b q

pub length-behind : (x t : List ℕ) (n : ℕ) → n ≤ length t → length x ≡ length (take n t) → length (x ++ drop n t) ≡ length t
length-behind x t n h e = omega (arith, length-append x (drop n t), length-drop n t, length-take-le n t h)

-- the questions' part, found again
pub rest_part : {C : Circuit} {x l stk cnt members : List ℕ} (y : List ℕ) → AtRest C x l stk cnt members → AtRest C (take (total C) (x ++ y)) l stk cnt members
rest_part {C} {x} {l} {stk} {cnt} {members} y r = subst (λ (z : List ℕ). AtRest C z l stk cnt members) (sym (take_at x y (total C) r.sized.room)) r

module _ {M : Mode} {s : Extent} {n : ℕ} {net ts : List ℕ} {k target : ℕ} {t : List ℕ} {ls : List ℤ} (e : Engine M s n net ts k target t ls) where
  -- the questions' part of the table
  part-size : length (take ((s.inputs + s.gates) * s.width) t) ≡ (s.inputs + s.gates) * s.width
  part-size = length-take-le ((s.inputs + s.gates) * s.width) t (let a = e.size in let b = e.fits in omega arith)

  pub engine-rest : AtRest (packed_of s net (replicate most_held 0)) (take ((s.inputs + s.gates) * s.width) t) (replicate most_list 0) (replicate most_stack 0) (replicate most_nodes 0) (replicate most_members 0)
  engine-rest = record {
    resting = record {
      layout = e.layout;
      chains = e.chains;
      unforced = λ g h. zeros most_held g;
      space = let c = length-replicate {A = ℕ} most_members 0 in let b = e.wires.gates in omega arith;
    };
    sized = record {
      room = part-size;
      counters = let a = e.wires.inputs in let b = e.wires.gates in let c = length-replicate {A = ℕ} most_nodes 0 in omega arith;
      deep = let b = e.wires.gates in let c = length-replicate {A = ℕ} most_stack 0 in omega arith;
      short = let c = length-replicate {A = ℕ} most_stack 0 in omega arith;
      long = let b = e.wires.gates in let c = length-replicate {A = ℕ} most_list 0 in omega arith;
      brief = let c = length-replicate {A = ℕ} most_list 0 in omega arith;
    };
    cleared = record { zero = clear-take ((s.inputs + s.gates) * s.width) t e.clear; empty = zeros most_list 0 };
    kept = kept-none (unbordered (packed_of s net (replicate most_held 0))) (replicate most_members 0) (let c = length-replicate {A = ℕ} most_members 0 in let b = e.wires.gates in omega arith) (zeros most_members);
  }

  pub engine_chooses : {rows luts : List ℕ} {ls' : List ℤ} {r : ℕ} → Roomy s.gates rows luts → Found M (wiring s net) k target (tops_in s net (cap_in M)) (outs_in s net) (delays_in s net n) n ls' r
      → Chooses (wiring s net) ls' r k rows
  engine_chooses {r = r} room f = record {
    asking = record {
      labels = f.fine.size;
      small = f.fine.small;
      shift = let a = mul-le-mul_right s.width f.bound in let b = e.period.sized.shift in omega arith;
      least = e.period.sized.least;
      few = e.few;
      fits = e.period.sized.fits;
      net = e.model;
      holds = let h = e.suits.holds in record { inputs = h.inputs; gates = h.gates; lists = h.lists };
      ranked = e.suits.ranked;
      loopless = e.suits.loopless;
    };
    places = room.at_rows;
    unmarked = room.unmarked;
  }

  pub engine_tabulates : {rows₀ luts rows : List ℕ} {ls' : List ℤ} {r : ℕ} → Roomy s.gates rows₀ luts → length rows ≡ length rows₀
      → Found M (wiring s net) k target (tops_in s net (cap_in M)) (outs_in s net) (delays_in s net n) n ls' r
      → RootsTold M (wiring s net) ls' (outs_in s net) n r k rows (sizes_in s.gates rows) (nodes_in s.gates rows) (backs_in s.gates rows)
      → Tabulates s.inputs s.gates net (drop (sources_at s.gates) net) (drop (counts_at s.gates) net) ts rows (sizes_in s.gates rows) (nodes_in s.gates rows) (backs_in s.gates rows)
  engine_tabulates {rows = rows} room a f told =
      let m = room.at_rows in
      record {
        wires = e.wires;
        at_tables = e.tables;
        at_marks = omega (arith, m, a);
        at_sizes = omega (arith, m, a, length-drop s.gates rows);
        at_nodes = omega (arith, m, a, length-drop (2 * s.gates) rows);
        at_backs = omega (arith, m, a, length-drop ((2 + most_pins) * s.gates) rows);
        few = few-leaves e.few f told e.model e.suits e.passed e.ended;
        rising = rising-leaves e.few f told e.model e.suits e.passed e.ended;
      }
