-- One member of the forced set, and all of them: laws of `try_member` and `search`.
use Rattle.std.specs.Prelude.{◌≡◌, refl, Bool, true, false, ◌⊎◌, List, [], ◌∷◌, ℕ, zero, suc, ◌+◌, ◌*◌, ◌/◌, ◌^◌, ◌≤◌, ◌<◌, length, get_or, set}
use Rattle.std.proofs.Common.{sym, ap, subst, ◌∙◌, inl, inr, arith, not-suc-le-zero, length-set, get_or-set_same}
use Rattle.std.proofs.lemmas.Bool.{false≢true}
use Rattle.std.proofs.Math.Decide.{ℕ_discrete}
use Rattle.sequences.specs.Member.{◌∈◌, here, there, not_in_nil}
use Rattle.cut_flow.specs.State.{State}
use Rattle.cut_flow.specs.Stack.{Frame, frame, Stacked}
use Rattle.cut_flow.specs.StackEnter.{root-counted, root_skipped, stacked-none, stacked-capped}
use Rattle.cut_circuit.specs.Circuit.{Circuit, graph_of, ending}
use Rattle.cut_circuit.specs.CircuitLaws.{wide-positive, node-below, forced-is}
use Rattle.cut_search.specs.SearchTable.{view_of}
use Rattle.cut_search.specs.Stacks.{frames_of, turns_of, node_of, StackedIn}
use Rattle.cut_search.specs.SearchParts.{Zeroed}
use Rattle.cut_search.specs.SearchPartsLaws.{zeroed}
use Rattle.cut_search.specs.StackParts.{Pushed}
use Rattle.cut_search.specs.StacksLaws.{frames-none}
use Rattle.cut_search.specs.CopyLaws.{inner-total, forced-ends, stack_few}
use Rattle.cut_search.specs.ComeLaws.{count-stored}
use Rattle.cut_search.specs.StepLaws.{load_same}
use Rattle.cut_search.specs.Steps.{Won, RunAsked, RunTold, UnwindAsked, UnwindTold, MemberAsked, MemberTold, SearchAsked, RootsAsked, SearchTold, seen, Searched}

-- ---- one member
module _ {C : Circuit} {f : ℕ} {t l stk cnt : List ℕ} {x : ℕ} (a : MemberAsked C f t l stk cnt x) where
  ends : ending C x ≡ 0
  ends = forced-ends a.asked.fixed x a.forced

  pub member-wide : 0 < C.width
  member-wide = wide-positive a.asked.fixed.layout

  pub member-node : x / C.width < length cnt
  member-node = omega (arith, node-below x C.width (C.inputs + C.gates) member-wide (inner-total a.asked.fixed x ends), a.asked.store.counters)

  pub member-frame-fits : x * 16 + 0 < 2 ^ 32
  member-frame-fits = omega (arith, inner-total a.asked.fixed x ends, a.asked.fixed.small)

  forced : 0 < (graph_of C).forced x
  forced = subst (λ (n : ℕ). 0 < n) (sym (forced-is C x)) a.forced

  bottom : {R : List ℕ} → StackedIn C f R t stk cnt → Stacked (graph_of C) (turns_of C) (node_of C) f (view_of t).flow (λ z. z ∈ R) (view_of t) (λ u. get_or cnt u 0) []
  bottom {R} s = subst (Stacked (graph_of C) (turns_of C) (node_of C) f (view_of t).flow (λ z. z ∈ R) (view_of t) (λ u. get_or cnt u 0)) (frames-none stk a.empty) s

  only : (R : List ℕ) (z : ℕ) → z ∈ x ∷ R → (z ∈ R) ⊎ (z ≡ x)
  only R z (here q) = inr q
  only R z (there h) = inl h

  -- its node is full
  pub member_skipped : f < get_or cnt (x / C.width) 0 → MemberTold C f t stk cnt t l stk cnt x false
  member_skipped h = record {
    noted = a.asked.noted;
    same = λ q. refl;
    empty = λ q. a.empty;
    more = λ q R n s. subst (Stacked (graph_of C) (turns_of C) (node_of C) f (view_of t).flow (λ z. z ∈ x ∷ R) (view_of t) (λ u. get_or cnt u 0)) (sym (frames-none stk a.empty))
        (root_skipped (bottom s) forced (λ z k. there k) (here refl) (only R) h);
    won = λ q. absurd (false≢true q);
  }

  -- counted
  module _ (h : get_or cnt (x / C.width) 0 ≤ f) where
    abbrev raised : List ℕ
    raised = set cnt (x / C.width) (get_or cnt (x / C.width) 0 + 1)

    counted : (R : List ℕ) → ¬ (x ∈ R) → StackedIn C f R t stk cnt
        → Stacked (graph_of C) (turns_of C) (node_of C) f (view_of t).flow (λ z. z ∈ x ∷ R) (view_of t) (λ u. get_or raised u 0) (frame x 0 ∷ [])
    counted R n s = root-counted (bottom s) forced (λ z k. there k) (here refl) (only R) n h (count-stored cnt (x / C.width) member-node)

    pub member-room : get_or stk 0 0 + 1 < length stk
    member-room =
        let l = stack_few a.asked.fixed (counted a.asked.R a.new a.asked.stacked).core a.asked.store.carriers a.asked.store.load in
        omega (arith, l, a.asked.store.deep, a.empty)

    module _ (stk₁ : List ℕ) (q : frames_of stk₁ ≡ frame x 0 ∷ frames_of stk) (k : length stk₁ ≡ length stk) where
      counted_in : (R : List ℕ) → ¬ (x ∈ R) → StackedIn C f R t stk cnt → StackedIn C f (x ∷ R) t stk₁ raised
      counted_in R n s =
          subst (Stacked (graph_of C) (turns_of C) (node_of C) f (view_of t).flow (λ z. z ∈ x ∷ R) (view_of t) (λ u. get_or raised u 0)) (sym (q ∙ ap (λ (fs : List Frame). frame x 0 ∷ fs) (frames-none stk a.empty)))
          (counted R n s)

      pub member-run : RunAsked C f t l stk₁ raised
      member-run = record {
        fixed = a.asked.fixed;
        store = record {
          room = a.asked.store.room;
          counters = omega (arith, a.asked.store.counters, length-set cnt (x / C.width) (get_or cnt (x / C.width) 0 + 1));
          units = a.asked.store.units;
          carriers = a.asked.store.carriers;
          load = a.asked.store.load;
          deep = omega (arith, k, a.asked.store.deep);
          short = omega (arith, k, a.asked.store.short);
        };
        noted = a.asked.noted;
        long = a.asked.long;
        brief = a.asked.brief;
        R = x ∷ a.asked.R;
        stacked = counted_in a.asked.R a.new a.asked.stacked;
      }

      module _ {t' l' stk' cnt' : List ℕ} {r : Bool} (o : RunTold C f t stk₁ raised t' l' stk' cnt' r) where
        pub member_lost : r ≡ false → MemberTold C f t stk cnt t' l' stk' cnt' x r
        member_lost z = record {
          noted = o.noted;
          same = o.same;
          empty = o.empty;
          more = λ p R n s. o.more p (x ∷ R) (counted_in R n s);
          won = λ p. absurd (false≢true (sym z ∙ p));
        }

        module _ (p : r ≡ true) where
          won : Won C f (view_of t) t' stk' a.asked.store.carriers
          won = o.won p a.asked.store.carriers a.asked.store.load

          pub member_unwind : length t' ≡ length t → length stk' ≡ length stk₁ → UnwindAsked C t' stk'
          member_unwind e g = record {
            fixed = a.asked.fixed;
            room = e ∙ a.asked.store.room;
            short = omega (arith, g, k, a.asked.store.short);
            deep = won.deep;
            X = won.X;
            v₀ = view_of t;
            unwinding = won.unwinding;
          }

          pub member-won : {t'' stk'' cnt'' : List ℕ} → UnwindTold C t' stk' t'' → MemberTold C f t stk cnt t'' l' stk'' cnt'' x r
          member-won u = record {
            noted = u.keeps l' o.noted;
            same = λ z. absurd (false≢true (sym z ∙ p));
            empty = λ z. absurd (false≢true (sym z ∙ p));
            more = λ z. absurd (false≢true (sym z ∙ p));
            won = λ z W load. let m = o.won p W load in record { X = m.X; few = m.few; gains = u.gains (view_of t) m.X m.unwinding; load = u.load (view_of t) m.X m.unwinding };
          }

  -- the same, with the stores by their equations
  module _ {n : ℕ} (p : n ≡ get_or cnt (x / C.width) 0) (h : n ≤ f) {stk₁ cnt₁ : List ℕ} (q : Pushed stk stk₁ x 0) (k : length stk₁ ≡ length stk) (e : cnt₁ ≡ set cnt (x / C.width) (n + 1)) where
    few : get_or cnt (x / C.width) 0 ≤ f
    few = omega (arith, p, h)

    same : cnt₁ ≡ set cnt (x / C.width) (get_or cnt (x / C.width) 0 + 1)
    same = e ∙ ap (λ (j : ℕ). set cnt (x / C.width) (j + 1)) p

    pub run-asked : RunAsked C f t l stk₁ cnt₁
    run-asked = subst (RunAsked C f t l stk₁) (sym same) (member-run few stk₁ q.frames k)

    module _ {t' l' stk' cnt' : List ℕ} {r : Bool} (o : RunTold C f t stk₁ cnt₁ t' l' stk' cnt' r) where
      told : RunTold C f t stk₁ (set cnt (x / C.width) (get_or cnt (x / C.width) 0 + 1)) t' l' stk' cnt' r
      told = subst (λ (m : List ℕ). RunTold C f t stk₁ m t' l' stk' cnt' r) same o

      pub run_lost : r ≡ false → MemberTold C f t stk cnt t' l' stk' cnt' x r
      run_lost z = member_lost few stk₁ q.frames k told z

      pub unwind_asked : r ≡ true → length t' ≡ length t → length stk' ≡ length stk₁ → UnwindAsked C t' stk'
      unwind_asked z = member_unwind few stk₁ q.frames k told z

      pub run-won : r ≡ true → {t'' stk'' cnt'' : List ℕ} → UnwindTold C t' stk' t'' → MemberTold C f t stk cnt t'' l' stk'' cnt'' x r
      run-won z u = member-won few stk₁ q.frames k told z u

-- ---- all members
pub seen_more : (members : List ℕ) (i : ℕ) → seen members (suc i) ≡ get_or members i 0 ∷ seen members i
unfolding seen
seen_more members i = refl

seen_in : (members : List ℕ) (i j : ℕ) → j < i → get_or members j 0 ∈ seen members i
unfolding seen
seen_in members zero j h = absurd (not-suc-le-zero h)
seen_in members (suc i) j h = go (seen_in members i j) (ℕ_discrete j i)
  where
    go : (j < i → get_or members j 0 ∈ seen members i) → Dec (j ≡ i) → get_or members j 0 ∈ get_or members i 0 ∷ seen members i
    go rest (yes e) = here (ap (λ (k : ℕ). get_or members k 0) e)
    go rest (no n) = there (rest (omega (arith, h, n)))

in_seen : (members : List ℕ) (i : ℕ) {x : ℕ} → x ∈ seen members i → (j : ℕ) × (j < i) × (x ≡ get_or members j 0)
unfolding seen
in_seen members zero h = absurd (not_in_nil h)
in_seen members (suc i) (here e) = (i, omega arith, e)
in_seen members (suc i) (there h) = let r = in_seen members i h in (r.0, omega (arith, r.1), r.2)

seen_none : (members : List ℕ) → seen members 0 ≡ []
unfolding seen
seen_none members = refl

module _ {C : Circuit} {f : ℕ} {members t₀ l₀ stk₀ cnt₀ : List ℕ} (a : RootsAsked C f members t₀ l₀ stk₀ cnt₀) where
  pub searched_start : Searched C f members t₀ t₀ l₀ stk₀ cnt₀ 0
  searched_start = record {
    asked = record {
      fixed = a.search.fixed;
      store = a.search.store;
      noted = a.search.noted;
      long = a.search.long;
      brief = a.search.brief;
      R = [];
      stacked = subst (Stacked (graph_of C) (turns_of C) (node_of C) f (view_of t₀).flow (λ z. z ∈ []) (view_of t₀) (λ u. get_or cnt₀ u 0)) (sym (frames-none stk₀ a.empty))
          (stacked-none a.search.ready a.search.inn a.search.out a.zero (λ z h. not_in_nil h));
    };
    turned = sym (seen_none members);
    same = refl;
    empty = a.empty;
  }

  module _ {t l stk cnt : List ℕ} {i : ℕ} (w : Searched C f members t₀ t l stk cnt i) where
    new-member : i < length members → ¬ (get_or members i 0 ∈ w.asked.R)
    new-member h k =
        let r = in_seen members i (subst (λ (R : List ℕ). get_or members i 0 ∈ R) w.turned k) in
        a.search.roots.once r.0 i r.1 h (sym r.2)

    member-at : i < length members → MemberAsked C f t l stk cnt (get_or members i 0)
    member-at h = record { asked = w.asked; empty = w.empty; forced = a.search.roots.forced i h; new = new-member h }

    pub searched_member : {x : ℕ} → x ≡ get_or members i 0 → i < length members → MemberAsked C f t l stk cnt x
    searched_member e h = subst (MemberAsked C f t l stk cnt) (sym e) (member-at h)

    pub searched_more : {t' l' stk' cnt' : List ℕ} {x : ℕ} {r : Bool} → x ≡ get_or members i 0 → i < length members → MemberTold C f t stk cnt t' l' stk' cnt' x r → r ≡ false
        → length t' ≡ length t → length l' ≡ length l → length stk' ≡ length stk → length cnt' ≡ length cnt → Searched C f members t₀ t' l' stk' cnt' (i + 1)
    searched_more {t'} {l'} {stk'} {cnt'} {x} {r} is h u q e g k m = record {
      asked = record {
        fixed = w.asked.fixed;
        store = record {
          room = e ∙ w.asked.store.room;
          counters = omega (arith, m, w.asked.store.counters);
          units = w.asked.store.units;
          carriers = w.asked.store.carriers;
          load = load_same t t' w.asked.store.carriers (o.same q) w.asked.store.load;
          deep = omega (arith, k, w.asked.store.deep);
          short = omega (arith, k, w.asked.store.short);
        };
        noted = o.noted;
        long = omega (arith, g, w.asked.long);
        brief = omega (arith, g, w.asked.brief);
        R = get_or members i 0 ∷ w.asked.R;
        stacked = o.more q w.asked.R (new-member h) w.asked.stacked;
      };
      turned = ap (λ (R : List ℕ). get_or members i 0 ∷ R) w.turned ∙ (sym (seen_more members i) ∙ ap (seen members) (omega arith));
      same = o.same q ∙ w.same;
      empty = o.empty q;
    }
      where
        o : MemberTold C f t stk cnt t' l' stk' cnt' (get_or members i 0) r
        o = subst (λ (y : ℕ). MemberTold C f t stk cnt t' l' stk' cnt' y r) is u

    pub searched_won : {t' l' stk' cnt' : List ℕ} {x : ℕ} {r : Bool} → MemberTold C f t stk cnt t' l' stk' cnt' x r → r ≡ true → SearchTold C f t₀ t' l' true
    searched_won {t'} o u = record {
      noted = o.noted;
      same = λ q. absurd (false≢true (sym q));
      capped = λ q. absurd (false≢true (sym q));
      won = λ p W load.
          let m = o.won u W (load_same t₀ t W w.same load) in
          record { X = m.X; few = m.few; gains = λ E s. m.gains E (subst (λ (g : ℕ → ℕ). State (graph_of C) g E) (sym w.same) s); load = m.load };
    }

    pub searched_all : length members ≤ i → SearchTold C f t₀ t l false
    searched_all h = record {
      noted = w.asked.noted;
      same = λ q. w.same;
      capped = λ q. stacked-capped (subst (Stacked (graph_of C) (turns_of C) (node_of C) f (view_of t).flow (λ z. z ∈ w.asked.R) (view_of t) (λ u. get_or cnt u 0)) (frames-none stk w.empty) w.asked.stacked) all;
      won = λ q. absurd (false≢true q);
    }
      where
        all : (z : ℕ) → 0 < (graph_of C).forced z → z ∈ w.asked.R
        all z p =
            let r = a.search.roots.all z (subst (λ (n : ℕ). 0 < n) (forced-is C z) p) in
            subst (λ (R : List ℕ). z ∈ R) (sym w.turned) (subst (λ (y : ℕ). y ∈ seen members i) r.2 (seen_in members i r.0 (omega (arith, r.1, h))))

-- ---- the stack emptied and the counters at 0
pub roots-asked : {C : Circuit} {f : ℕ} {members t l stk cnt stk' cnt' : List ℕ} → SearchAsked C f members t l stk cnt → stk' ≡ set stk 0 0 → Zeroed cnt' (length cnt') → length cnt' ≡ length cnt
    → RootsAsked C f members t l stk' cnt'
roots-asked {stk = stk} {stk' = stk'} {cnt' = cnt'} a e z k =
    let s : length stk' ≡ length stk = ap length e ∙ length-set stk 0 0 in
    record {
      search = record {
        fixed = a.fixed;
        store = record {
          room = a.store.room;
          counters = omega (arith, k, a.store.counters);
          units = a.store.units;
          carriers = a.store.carriers;
          load = a.store.load;
          deep = omega (arith, s, a.store.deep);
          short = omega (arith, s, a.store.short);
        };
        noted = a.noted;
        long = a.long;
        brief = a.brief;
        roots = a.roots;
        ready = a.ready;
        inn = a.inn;
        out = a.out;
      };
      empty = ap (λ (l : List ℕ). get_or l 0 0) e ∙ get_or-set_same stk 0 0 0 (omega (arith, a.store.deep));
      zero = zeroed cnt' z;
    }
