-- Laws of checks 9 to 12 and the cover: from what the graph checks and the plan tell.
use Rattle.std.specs.Prelude.{◌≡◌, refl, Bool, true, false, List, ℕ, ◌+◌, ◌≤◌, ◌<◌}
use Rattle.std.proofs.Common.{sym, subst, ◌∙◌, arith}
use Rattle.net_model.specs.Net.{Net}
use Rattle.net_model.specs.Arrays.{net_in}
use Rattle.net_model.specs.ArrayLaws.{outputs-net_in}
use Rattle.net_model.specs.WiredLaws.{net_in-wired}
use Rattle.net_model.specs.Checks.{Passed}
use Rattle.net_model.specs.PackedNet.{NetKept, order_at}
use Rattle.net_model.specs.PackedNetLaws.{kept-net, kept_trans}
use Rattle.label_theory.specs.Labels.{Mode, plain, forward, ReachableIn}
use Rattle.cover_theory.specs.Covers.{LeastPeriod}
use Rattle.cover_records.specs.Kept.{Kept}
use Rattle.cover_records.specs.Outcomes.{unmet}
use Rattle.net_reader.specs.ReadAnswer.{arrays_of}
use Rattle.net_reader.specs.ReadWires.{kept-facts, kept-room}
use Rattle.net_reader.specs.declared.NetSizes.{NetSizes}
use Rattle.net_checks.specs.Graphs.{Graph, Says, passed, loop, unreached, unled, GraphTold}
use Rattle.job_plan.specs.Planned.{Covered, Planning, PlanKept}
use Rattle.job_settle.specs.Settling.{Settling, SettledNet, Ended, Passing, CoverSettled, loops, cut_off, idle, sectionless, unreachable, covered}

-- a net settled stays one where other parts of its slice are written
module _ {k target : ℕ} {z : NetSizes} {net ts net' : List ℕ} (s : Settling k target z net ts) (q : NetKept z.inputs z.gates net net') where
  pub settling-same : net_in (arrays_of z net' ts) ≡ net_in (arrays_of z net ts)
  settling-same = kept-net q s.facts.pins-high z.outputs ts

  pub settling-kept : Settling k target z net' ts
  settling-kept = record {
    facts = kept-facts s.facts q;
    room = kept-room q s.room;
    sound = rw settling-same s.sound;
    fits = rw settling-same s.fits;
    low = s.low;
    high = s.high;
    near = s.near;
  }

module _ {k target : ℕ} {z : NetSizes} {net ts net' : List ℕ} {r : ℕ} (s : Settling k target z net ts) (t : GraphTold z net net' r) where
  abbrev N : Net
  N = net_in (arrays_of z net ts)

  says : Says z net' N r
  says = t.says N (record { wired = net_in-wired (arrays_of z net ts); ended = outputs-net_in (arrays_of z net ts) })

  -- a check failed
  pub settled-check : {M : Mode} {lacks : Bool} {W : Type 0} → 0 < r → Ended M lacks k target N W r
  settled-check h = go says
    where
      none : r ≡ 0 → ⊥
      none e = omega (arith, e, h)

      go : {M : Mode} {lacks : Bool} {W : Type 0} → Says z net' N r → Ended M lacks k target N W r
      go (passed e a b c g) = absurd (none e)
      go (loop e f) = loops e f
      go (unreached e a f) = cut_off e a f
      go (unled e a b f) = idle e a b f

  -- a refusal
  pub refused-net : {net'' : List ℕ} {n : ℕ} → NetKept z.inputs z.gates net net'' → 0 < n → SettledNet z net net'' n
  refused-net q h = record { kept = q; ordered = λ e. absurd (let x : ⊥ = omega (arith, e, h) in x) }

  -- all passed
  record Sure : Type 0 where
    pub passes : Passed N k
    pub graph : Graph z net' N

  module _ (h : r ≤ 0) where
    sure : Sure
    sure = go says
      where
        none : {n : ℕ} → r ≡ n → 0 < n → ⊥
        none e l = omega (arith, e, l, h)

        go : Says z net' N r → Sure
        go (passed e a b c g) = record { passes = record { sound = s.sound; fits = s.fits; loopless = a; reached = b; leading = c }; graph = g }
        go (loop e f) = absurd (none e (omega arith))
        go (unreached e a f) = absurd (none e (omega arith))
        go (unled e a b f) = absurd (none e (omega arith))

    same : net_in (arrays_of z net' ts) ≡ N
    same = settling-same s t.kept

    -- what the plan asks
    pub settled_planning : Planning k target z net' ts
    settled_planning = record {
      facts = kept-facts s.facts t.kept;
      room = kept-room t.kept s.room;
      low = s.low;
      high = s.high;
      near = s.near;
      passed = subst (λ (M : Net). Passed M k) (sym same) sure.passes;
      graph = subst (Graph z net') (sym same) sure.graph;
    }

    -- the order stays where the chains are made
    pub settled-net : {net'' : List ℕ} → PlanKept z.inputs z.gates net' net'' → SettledNet z net net'' 0
    settled-net {net''} q = record {
      kept = kept_trans t.kept q.kept;
      ordered = λ e. let o = sure.graph.ordered in record {
        in_order = λ i h. omega (arith, q.behind (order_at z.inputs z.gates + i) (omega arith), o.in_order i h);
        ordered = λ g h. let x = o.ordered g h in (x.0, x.1, q.behind (order_at z.inputs z.gates + x.0) (omega arith) ∙ x.2);
      };
    }

    -- a section is lacking
    pub settled_lacks : {M : Mode} {lacks : Bool} {W : Type 0} → lacks ≡ true → Ended M lacks k target N W 21
    settled_lacks e = sectionless refl sure.passes e

    module _ {M : Mode} {lacks : Bool} (l : lacks ≡ false) where
      pub settled-none : {W : Type 0} {r' : ℕ} → (1 ≤ target) × (¬ ReachableIn M (net_in (arrays_of z net' ts)) k target) → r' ≡ unmet M → Ended M lacks k target N W r'
      settled-none q e = unreachable e sure.passes l q.0 (subst (λ (X : Net). ¬ ReachableIn M X k target) same q.1)

      pub settled-cover : {a : Kept} → Covered M (net_in (arrays_of z net' ts)) k target a → Ended M lacks k target N (Covered M N k target a) 0
      settled-cover {a} q = covered refl sure.passes l (subst (λ (X : Net). Covered M X k target a) same q)

    -- the least period is there
    pub settled-least : {φ : ℕ} → LeastPeriod (net_in (arrays_of z net' ts)) k φ → Ended plain false k target N (LeastPeriod N k φ) 0
    settled-least {φ} q = covered refl sure.passes refl (subst (λ (M : Net). LeastPeriod M k φ) same q)

-- the number of a refusal is a small one, and not 0
pub unmet-some : (M : Mode) → 0 < unmet M
unmet-some plain = omega arith
unmet-some forward = omega arith

pub unmet-small : (M : Mode) → unmet M < 256
unmet-small plain = omega arith
unmet-small forward = omega arith

pub ended-passing : {M : Mode} {lacks : Bool} {k target : ℕ} {N : Net} {W : Type 0} {r : ℕ} → Ended M lacks k target N W r → r ≤ 0 → Passing lacks k N W
ended-passing {M} {lacks} {k} {target} {N} {W} {r} e h = go e
  where
    none : {n : ℕ} → r ≡ n → 0 < n → ⊥
    none e l = omega (arith, e, l, h)

    go : Ended M lacks k target N W r → Passing lacks k N W
    go (covered e P l c) = record { passed = P; sectioned = l; wanted = c }
    go (loops e n) = absurd (none e (omega arith))
    go (cut_off e l n) = absurd (none e (omega arith))
    go (idle e l t n) = absurd (none e (omega arith))
    go (sectionless e P l) = absurd (none e (omega arith))
    go (unreachable e P l h' n) = absurd (none e (unmet-some M))

pub cover-settled : {M : Mode} {lacks : Bool} {k target : ℕ} {N : Net} {a : Kept} → Ended M lacks k target N (Covered M N k target a) 0 → CoverSettled M lacks k target N a
cover-settled s = let p = ended-passing s (omega arith) in record { passed = p.passed; sectioned = p.sectioned; cover = p.wanted }

pub settled-small : {M : Mode} {lacks : Bool} {k target : ℕ} {N : Net} {W : Type 0} {r : ℕ} → Ended M lacks k target N W r → r < 256
settled-small (loops e n) = omega arith
settled-small (cut_off e l n) = omega arith
settled-small (idle e l t n) = omega arith
settled-small (sectionless e P l) = omega arith
settled-small {M} (unreachable e P l h n) = let s = unmet-small M in omega (arith, e, s)
settled-small (covered e P l c) = omega arith
