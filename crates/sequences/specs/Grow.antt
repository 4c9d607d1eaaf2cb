-- What is reached from a start by steps inside a finite set.
use Rattle.std.specs.Prelude.{◌≡◌, refl, ◌⊎◌, length}
use Rattle.std.proofs.Common.{sym, subst, lt_irrefl, arith}
use Rattle.std.proofs.Math.Logic.{inl, inr}
use mathlib.Core.List.{List, [], ◌∷◌}
use Prim.Native.Nat.{ℕ, zero, suc, ◌+◌, ◌≤◌}
use Rattle.sequences.specs.Member.{◌∈◌, here, there, not_in_nil, in_equal, Within, memb?}
use Rattle.sequences.specs.Decide.{dec_map}
use Rattle.sequences.specs.Distinct.{Distinct, distinct_nil, distinct_cons, within_cons, pigeonhole}

-- The start is reached, and a successor, in U, of what is reached.
pub data Reach {A : Type 0} (next : A → List A) (U : List A) (start : A) : A → Type 0 where
  stop : {a : A} → a ≡ start → Reach next U start a
  step : {y : A} (x : A) → Reach next U start x → y ∈ next x → y ∈ U → Reach next U start y

-- All that is reached, as a list.
pub record Grown {A : Type 0} (next : A → List A) (U : List A) (start : A) : Type 0 where
  pub set : List A
  pub distinct : Distinct set
  pub starts : start ∈ set
  pub within : Within set U
  pub closed : (x y : A) → x ∈ set → y ∈ next x → y ∈ U → y ∈ set
  pub reached : (x : A) → x ∈ set → Reach next U start x

-- A set on its way: the successors of those in `todo` are still to be looked at.
pub record Growing {A : Type 0} (next : A → List A) (U : List A) (start : A) (todo set : List A) : Type 0 where
  pub distinct : Distinct set
  pub starts : start ∈ set
  pub within : Within set U
  pub reached : (x : A) → x ∈ set → Reach next U start x
  pub waiting : Within todo set

-- The set and the work after those of `ys` that lie in U were put in.
pub record Added {A : Type 0} (next : A → List A) (U : List A) (start : A) (ys todo set : List A) : Type 0 where
  pub later : List A
  pub all : List A
  pub state : Growing next U start later all
  pub more : Within set all
  pub kept : Within todo later
  pub fresh : (z : A) → z ∈ all → (z ∈ set) ⊎ (z ∈ later)
  pub got : (y : A) → y ∈ ys → y ∈ U → y ∈ all
  pub balance : length later + length set ≡ length todo + length all

module _ {A : Type 0} {next : A → List A} {U : List A} {start : A} where
  pub added_none : {todo set : List A} → Growing next U start todo set → Added next U start [] todo set
  added_none {todo} {set} w = record {
    later = todo;
    all = set;
    state = w;
    more = λ z h. h;
    kept = λ z h. h;
    fresh = λ z h. inl h;
    got = λ y h u. absurd (not_in_nil h);
    balance = refl;
  }

  pub added_skip : {y : A} {ys todo set : List A} → (y ∈ U → y ∈ set) → Added next U start ys todo set → Added next U start (y ∷ ys) todo set
  added_skip {y} {ys} f r = record {
    later = r.later;
    all = r.all;
    state = r.state;
    more = r.more;
    kept = r.kept;
    fresh = r.fresh;
    got = got;
    balance = r.balance;
  }
    where
      got : (z : A) → z ∈ y ∷ ys → z ∈ U → z ∈ r.all
      got z (here e) u = in_equal e (r.more y (f (in_equal (sym e) u)))
      got z (there h) u = r.got z h u

  pub growing_cons : {y : A} {todo set : List A} → y ∈ U → ¬ (y ∈ set) → Reach next U start y → Growing next U start todo set → Growing next U start (y ∷ todo) (y ∷ set)
  growing_cons {y} {todo} {set} u n h w = record {
    distinct = distinct_cons n w.distinct;
    starts = there w.starts;
    within = within_cons u w.within;
    reached = reached;
    waiting = within_cons (here refl) (λ z k. there (w.waiting z k));
  }
    where
      along : (x : A) → x ≡ y → Reach next U start x
      along x e = subst (Reach next U start) (sym e) h

      reached : (x : A) → x ∈ y ∷ set → Reach next U start x
      reached x (here e) = along x e
      reached x (there k) = w.reached x k

  pub added_push : {y : A} {ys todo set : List A} → Added next U start ys (y ∷ todo) (y ∷ set) → Added next U start (y ∷ ys) todo set
  added_push {y} {ys} {todo} {set} r = record {
    later = r.later;
    all = r.all;
    state = r.state;
    more = λ z h. r.more z (there h);
    kept = λ z h. r.kept z (there h);
    fresh = λ z h. fresh z (r.fresh z h);
    got = got;
    balance = omega (arith, r.balance);
  }
    where
      fresh : (z : A) → (z ∈ y ∷ set) ⊎ (z ∈ r.later) → (z ∈ set) ⊎ (z ∈ r.later)
      fresh z (inl (here e)) = inr (r.kept z (here e))
      fresh z (inl (there h)) = inl h
      fresh z (inr h) = inr h

      got : (z : A) → z ∈ y ∷ ys → z ∈ U → z ∈ r.all
      got z (here e) u = r.more z (here e)
      got z (there h) u = r.got z h u

  pub growing-tail : {x : A} {todo set : List A} → Growing next U start (x ∷ todo) set → Growing next U start todo set
  growing-tail w = record {
    distinct = w.distinct;
    starts = w.starts;
    within = w.within;
    reached = w.reached;
    waiting = λ z h. w.waiting z (there h);
  }

  pub grown : {set : List A} → Growing next U start [] set → ((x y : A) → x ∈ set → y ∈ next x → y ∈ U → (x ∈ []) ⊎ (y ∈ set)) → Grown next U start
  grown {set} w c = record {
    set = set;
    distinct = w.distinct;
    starts = w.starts;
    within = w.within;
    closed = λ x y h k u. done (c x y h k u);
    reached = w.reached;
  }
    where
      done : {x y : A} → (x ∈ []) ⊎ (y ∈ set) → y ∈ set
      done (inl h) = absurd (not_in_nil h)
      done (inr h) = h

  -- What is reached stands in the grown set.
  pub grown-all : (r : Grown next U start) (a : A) → Reach next U start a → a ∈ r.set
  grown-all r a (stop e) = in_equal e r.starts
  grown-all r a (step x h k u) = r.closed x a (grown-all r x h) k u

  pub reach-within : start ∈ U → (a : A) → Reach next U start a → a ∈ U
  reach-within inside a (stop e) = in_equal e inside
  reach-within inside a (step x h k u) = u

module _ {A : Type 0} (eq : Discrete A) (next : A → List A) (U : List A) (start : A) where
  unfoldable pub add : (ys todo set : List A) → Growing next U start todo set → ((y : A) → y ∈ ys → y ∈ U → Reach next U start y) → Added next U start ys todo set
  unfolding memb? added_none added_skip added_push growing_cons
  add [] todo set w r = added_none w
  add (y ∷ ys) todo set w r = go (memb? eq y U) (memb? eq y set) (λ t s v. add ys t s v (λ z h. r z (there h)))
    where
      go : Dec (y ∈ U) → Dec (y ∈ set) → ((t s : List A) → Growing next U start t s → Added next U start ys t s) → Added next U start (y ∷ ys) todo set
      go (no n) d rest = added_skip (λ u. absurd (n u)) (rest todo set w)
      go (yes u) (yes h) rest = added_skip (λ v. h) (rest todo set w)
      go (yes u) (no n) rest = added_push (rest (y ∷ todo) (y ∷ set) (growing_cons u n (r y (here refl) u) w))

  unfoldable pub grow-from : (n : ℕ) (todo set : List A) → Growing next U start todo set → ((x y : A) → x ∈ set → y ∈ next x → y ∈ U → (x ∈ todo) ⊎ (y ∈ set)) → length todo + length U ≤ n + length set → Grown next U start
  unfolding add growing-tail grown
  grow-from zero [] set w c b = grown w c
  grow-from (suc n) [] set w c b = grown w c
  grow-from zero (x ∷ todo) set w c b = absurd (lt_irrefl (length set) (omega (arith, pigeonhole w.distinct w.within)))
  grow-from (suc n) (x ∷ todo) set w c b =
      let r = add (next x) todo set (growing-tail w) (λ y h u. step x (w.reached x (w.waiting x (here refl))) h u) in
      grow-from n r.later r.all r.state (λ z y h k u. old r z y k u (r.fresh z h)) (omega (arith, r.balance))
    where
      open_at : (r : Added next U start (next x) todo set) (z y : A) → y ∈ next z → y ∈ U → (z ∈ x ∷ todo) ⊎ (y ∈ set) → (z ∈ r.later) ⊎ (y ∈ r.all)
      open_at r z y k u (inl (here e)) = inr (r.got y (subst (λ (v : A). y ∈ next v) e k) u)
      open_at r z y k u (inl (there h)) = inl (r.kept z h)
      open_at r z y k u (inr h) = inr (r.more y h)

      old : (r : Added next U start (next x) todo set) (z y : A) → y ∈ next z → y ∈ U → (z ∈ set) ⊎ (z ∈ r.later) → (z ∈ r.later) ⊎ (y ∈ r.all)
      old r z y k u (inl h) = open_at r z y k u (c z y h k u)
      old r z y k u (inr h) = inl h

  unfoldable pub grow : start ∈ U → Grown next U start
  unfolding grow-from
  grow inside = grow-from (length U) (start ∷ []) (start ∷ []) first (λ x y h k u. inl h) (omega arith)
    where
      reached : (x : A) → x ∈ start ∷ [] → Reach next U start x
      reached x (here e) = stop e
      reached x (there h) = absurd (not_in_nil h)

      first : Growing next U start (start ∷ []) (start ∷ [])
      first = record {
        distinct = distinct_cons not_in_nil distinct_nil;
        starts = here refl;
        within = within_cons inside (λ z h. absurd (not_in_nil h));
        reached = reached;
        waiting = λ z h. h;
      }

  unfoldable pub reach? : start ∈ U → (a : A) → Dec (Reach next U start a)
  unfolding grow memb? dec_map
  reach? inside a =
      let r : Grown next U start = grow inside in
      dec_map (r.reached a) (grown-all r a) (memb? eq a r.set)
