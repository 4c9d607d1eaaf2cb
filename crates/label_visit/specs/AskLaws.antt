-- The question of a visit: asked with a border of its own, its answer is one about cuts that suit the mode, and the engine is at rest under either border.
use Rattle.std.specs.Prelude.{◌≡◌, Bool, true, false, List, ℕ, ◌+◌, ◌≤◌, ◌<◌, ℤ, pos, ◌-ℤ◌}
use Rattle.std.proofs.Common.{sym, subst, arith}
use Rattle.std.proofs.lemmas.Bool.{true≢false, false≢true}
use Rattle.net_model.specs.Net.{Net}
use Rattle.net_model.specs.Copies.{copy}
use Rattle.label_theory.specs.Labels.{Mode}
use Rattle.label_theory.specs.Modes.{Topped, inside-topped}
use Rattle.label_theory.specs.Forced.{leaf-allowed}
use Rattle.signed.specs.Range.{label_in}
use Rattle.cut_circuit.specs.Circuit.{Circuit}
use Rattle.cut_circuit.specs.Bridge.{Holds}
use Rattle.cut_circuit.specs.Packed.{packed_of}
use Rattle.cut_circuit.specs.declared.Extent.{Extent}
use Rattle.cut_kept.specs.KeptCuts.{row_in}
use Rattle.cut_kept.specs.Keeping.{ServeAsked, Serves}
use Rattle.cut_kept.specs.KeptLaws.{serving_cut}
use Rattle.cut_question.specs.Question.{Asks, Decides}
use Rattle.cut_question.specs.Separating.{AtRest}
use Rattle.label_aim.specs.Aims.{Bordering}
use Rattle.label_aim.specs.AimLaws.{bordered, bordering_is}
use Rattle.label_visit.specs.LabelVisits.{Sane, wiring, Ready, Answered}

module _ {s : Extent} {net slots t l stk cnt members : List ℕ} where
  -- a smaller border leaves the engine at rest
  rest-narrow : (b : ℕ) → b ≤ s.border → AtRest (packed_of s net slots) t l stk cnt members → AtRest (packed_of (bordered s b) net slots) t l stk cnt members
  rest-narrow b h r =
      let L = r.resting.layout in
      record {
        resting = record {
          layout = record {
            wide = omega (arith, h, L.wide);
            pins = L.pins;
            sources = L.sources;
            counts = L.counts;
            firsts = L.firsts;
            slots = L.slots;
            held = L.held;
            first = L.first;
            few = L.few;
            source = L.source;
            count = λ g j i q. let x = L.count g j i q in omega (arith, h, x);
          };
          chains = record { nodes = r.resting.chains.nodes; places = r.resting.chains.places; low = r.resting.chains.low; falls = r.resting.chains.falls; all = r.resting.chains.all };
          unforced = r.resting.unforced;
          space = r.resting.space;
        };
        sized = record { room = r.sized.room; counters = r.sized.counters; deep = r.sized.deep; short = r.sized.short; long = r.sized.long; brief = r.sized.brief };
        cleared = r.cleared;
        kept = r.kept;
      }

-- and the larger one, which it had before
rest-widen : {s : Extent} {net slots₀ slots t₀ l₀ stk₀ cnt₀ m₀ t l stk cnt members : List ℕ} (b : ℕ) → AtRest (packed_of s net slots₀) t₀ l₀ stk₀ cnt₀ m₀
    → AtRest (packed_of (bordered s b) net slots) t l stk cnt members → AtRest (packed_of s net slots) t l stk cnt members
rest-widen b o r =
    let L = r.resting.layout in
    record {
      resting = record {
        layout = record {
          wide = o.resting.layout.wide;
          pins = L.pins;
          sources = L.sources;
          counts = L.counts;
          firsts = L.firsts;
          slots = L.slots;
          held = L.held;
          first = L.first;
          few = L.few;
          source = L.source;
          count = o.resting.layout.count;
        };
        chains = record { nodes = r.resting.chains.nodes; places = r.resting.chains.places; low = r.resting.chains.low; falls = r.resting.chains.falls; all = r.resting.chains.all };
        unforced = r.resting.unforced;
        space = r.resting.space;
      };
      sized = record { room = r.sized.room; counters = r.sized.counters; deep = r.sized.deep; short = r.sized.short; long = r.sized.long; brief = r.sized.brief };
      cleared = r.cleared;
      kept = r.kept;
    }

module _ {M : Mode} {δ : ℕ} {s : Extent} {net : List ℕ} {ls : List ℤ} {φ k g : ℕ} {p : ℤ} where
  -- **no cone suits the mode**
  pub answered-high : (Topped M φ (p -ℤ pos δ) → ⊥) → Answered M δ (wiring s net) k φ ls g p false
  answered-high n = record {
    none = λ N S q K. n (inside-topped M φ (p -ℤ pos δ) (s.inputs + g) (K.inside (copy (s.inputs + g) 0) K.is_cone.root));
    some = λ N S few. absurd (false≢true few);
  }

  -- the engine's answer
  answered-bordered : {slots : List ℕ} {e : Extent} {r : Bool} → Bordering M φ (p -ℤ pos δ) s e → Topped M φ (p -ℤ pos δ) → Decides (packed_of (bordered s e.border) net slots) ls φ k g p r → Answered M δ (wiring s net) k φ ls g p r
  answered-bordered {slots} {e} {r} B t d = record {
    none = λ N S q. d.none N (holds N S) S.ranked S.loopless M (p -ℤ pos δ) (B.border.bordered _ S.border t) q;
    some = λ N S q f.
        let x = d.some N (holds N S) S.ranked S.loopless q in
        let near = B.border.bordered _ S.border t in
        record {
          cone = x.cone;
          leaves = x.leaves;
          is_cone = x.separation.is_cone;
          is_leaves = x.is_leaves;
          few = x.few;
          allowed = λ y m. leaf-allowed N (s.inputs + g) φ (label_in ls) p x.set x.cone e.border f x.forced x.separation y (x.is_leaves.sound y m);
          inside = λ y m. near.inside y (x.separation.near y m);
        };
  }
    where
      holds : (N : Net) → Sane (wiring s net) k N → Holds (packed_of (bordered s e.border) net slots) N
      holds N S = record { inputs = S.holds.inputs; gates = S.holds.gates; lists = S.holds.lists }

  -- the kept cut
  answered-kept : {slots t l stk cnt members : List ℕ} {e : Extent} → AtRest (packed_of s net slots) t l stk cnt members → Bordering M φ (p -ℤ pos δ) s e → Topped M φ (p -ℤ pos δ) → g < s.gates
      → Serves (row_in s.gates members g) s.width e.border k φ (label_in ls) p → Answered M δ (wiring s net) k φ ls g p true
  answered-kept {e = e} o B t h w = record {
    none = λ N S q. absurd (true≢false q);
    some = λ N S few f.
        serving_cut (o.kept.cut g h w.some N (record { inputs = S.holds.inputs; gates = S.holds.gates; lists = S.holds.lists }) S.ranked S.loopless) w (B.border.bordered _ S.border t).inside;
  }

-- what may be asked, whatever the border
asks-narrow : {s : Extent} {net slots : List ℕ} {ls : List ℤ} {φ k g : ℕ} (b : ℕ) → Ready s ls φ k → g < s.gates → Asks (packed_of (bordered s b) net slots) ls φ k g
asks-narrow b r h = record { labels = r.size; small = r.small; shift = r.shift; gate = h; least = r.least; limit = r.limit; fits = r.fits }

-- ---- for the extent of a question
module _ {M : Mode} {φ : ℕ} {h : ℤ} {s e : Extent} (B : Bordering M φ h s e) where
  pub rest-to : {net slots t l stk cnt members : List ℕ} → AtRest (packed_of s net slots) t l stk cnt members → AtRest (packed_of e net slots) t l stk cnt members
  rest-to {net} {slots} {t} {l} {stk} {cnt} {members} r =
      subst (λ (x : Extent). AtRest (packed_of x net slots) t l stk cnt members) (sym (bordering_is B)) (rest-narrow e.border B.border.most r)

  pub rest_from : {net slots₀ slots t₀ l₀ stk₀ cnt₀ m₀ t l stk cnt members : List ℕ} → AtRest (packed_of s net slots₀) t₀ l₀ stk₀ cnt₀ m₀
      → AtRest (packed_of e net slots) t l stk cnt members → AtRest (packed_of s net slots) t l stk cnt members
  rest_from {net} {slots = slots} {t = t} {l = l} {stk = stk} {cnt = cnt} {members = members} o r =
      rest-widen e.border o (subst (λ (x : Extent). AtRest (packed_of x net slots) t l stk cnt members) (bordering_is B) r)

  pub asks-to : {net slots : List ℕ} {ls : List ℤ} {k g : ℕ} → Ready s ls φ k → g < s.gates → Asks (packed_of e net slots) ls φ k g
  asks-to {net} {slots} {ls} {k} {g} r l = subst (λ (x : Extent). Asks (packed_of x net slots) ls φ k g) (sym (bordering_is B)) (asks-narrow e.border r l)

  -- what may be asked of a kept cut
  pub serve_asked : {net slots t l stk cnt members : List ℕ} {ls : List ℤ} {k g : ℕ} → AtRest (packed_of s net slots) t l stk cnt members → Ready s ls φ k → g < s.gates
      → ServeAsked e.inputs e.gates e.width members ls φ g
  serve_asked {members = members} {ls = ls} {g = g} o r h =
      subst (λ (x : Extent). ServeAsked x.inputs x.gates x.width members ls φ g) (sym (bordering_is B))
      (record { gate = h; places = o.kept.room; fits = o.kept.fits g h; wide = let w = o.resting.layout.wide in omega (arith, w); labels = r.size; small = r.small; shift = r.shift })

-- **the kept cut**
pub answered-served : {M : Mode} {δ φ k g : ℕ} {p : ℤ} {s e : Extent} {net slots t l stk cnt members : List ℕ} {ls : List ℤ} → AtRest (packed_of s net slots) t l stk cnt members
    → Bordering M φ (p -ℤ pos δ) s e → Topped M φ (p -ℤ pos δ) → g < s.gates → Serves (row_in e.gates members g) e.width e.border k φ (label_in ls) p → Answered M δ (wiring s net) k φ ls g p true
answered-served {φ = φ} {k = k} {g = g} {p = p} {s = s} {e = e} {members = members} {ls = ls} o B t h w =
    answered-kept o B t h (subst (λ (x : Extent). Serves (row_in x.gates members g) x.width e.border k φ (label_in ls) p) (bordering_is B) w)

-- **the engine's answer**
pub answered : {M : Mode} {δ φ k g : ℕ} {r : Bool} {p : ℤ} {s e : Extent} {net slots : List ℕ} {ls : List ℤ} → Bordering M φ (p -ℤ pos δ) s e → Topped M φ (p -ℤ pos δ)
    → Decides (packed_of e net slots) ls φ k g p r → Answered M δ (wiring s net) k φ ls g p r
answered {M} {δ} {φ} {k} {g} {r} {p} {s} {e} {net} {slots} {ls} B t d =
    answered-bordered B t (subst (λ (x : Extent). Decides (packed_of x net slots) ls φ k g p r) (bordering_is B) d)

-- an equal height
pub answered-at : {M : Mode} {δ : ℕ} {C : Circuit} {k φ g : ℕ} {r : Bool} {ls : List ℤ} {p q : ℤ} → p ≡ q → Answered M δ C k φ ls g p r → Answered M δ C k φ ls g q r
answered-at {M} {δ} {C} {k} {φ} {g} {r} {ls} e a = subst (λ (x : ℤ). Answered M δ C k φ ls g x r) e a
