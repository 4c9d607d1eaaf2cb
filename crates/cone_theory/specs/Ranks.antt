-- Where every gate is reached from an input, each has a rank and an input pin to a smaller rank. Following input pins back gives the input path
-- of a node, which meets each node once; the first copy outside a set of gate copies on a member's input path is a leaf.
use Rattle.std.specs.Prelude.{◌≡◌, refl, ◌⊎◌, List, ℕ, zero, suc, ◌+◌, ◌≤◌, ◌<◌}
use Rattle.std.proofs.Common.{ap, subst, inl, inr, lt_irrefl, le_refl, not-suc-le-zero, arith}
use Rattle.std.proofs.Math.Decide.{dec_lt}
use Rattle.sequences.specs.Member.{◌∈◌}
use Rattle.sequences.specs.Decide.{dec-×, dec-⊎, any?, Least, least}
use Rattle.net_model.specs.Net.{Net, Pin, IsGate, IsInput, IsNode, pins}
use Rattle.net_model.specs.Checks.{Sound, Reached, AllReached}
use Rattle.net_model.specs.Copies.{Copy, copy, Feeds, Leaf}
use Rattle.cone_theory.specs.Basics.{copy-path, Back, member?, is_gate?}

-- A rank of each node, and an input pin of each gate, whose source has a smaller rank. What the two say of other numbers does not matter.
pub record Ranked (N : Net) : Type 0 where
  pub rank : ℕ → ℕ
  pub pin : ℕ → Pin
  pub is_pin : (v : ℕ) → IsGate N v → pin v ∈ pins N v
  pub falls : (v : ℕ) → IsGate N v → rank (pin v).src < rank v

-- ---- ranks: the fewest pins between an input and the node
abbrev ReachedIn : Net → ℕ → ℕ → Type 0
ReachedIn N zero v = IsInput N v
ReachedIn N (suc n) v = ReachedIn N n v ⊎ (IsGate N v × ((p : Pin) × (p ∈ pins N v) × ReachedIn N n p.src))

reached_in? : (N : Net) (n v : ℕ) → Dec (ReachedIn N n v)
reached_in? N zero v = dec_lt v N.inputs
reached_in? N (suc n) v = dec-⊎ (reached_in? N n v) (dec-× (is_gate? N v) (any? (pins N v) (λ p h. reached_in? N n p.src)))

reached_in : {N : Net} {v : ℕ} → Reached N v → (n : ℕ) × ReachedIn N n v
reached_in (Reached.input i) = (zero, i)
reached_in (Reached.along p g h r) = let s = reached_in r in (suc s.0, inr (g, (p, h, s.1)))

-- the least number of pins, for a gate
record Rank (N : Net) (v : ℕ) : Type 0 where
  value : ℕ
  holds : IsGate N v → ReachedIn N value v
  least : (j : ℕ) → j < value → ¬ ReachedIn N j v

-- an input pin, for a gate
record InputPin (N : Net) (rank : ℕ → ℕ) (v : ℕ) : Type 0 where
  pin : Pin
  is_pin : IsGate N v → pin ∈ pins N v
  falls : IsGate N v → rank pin.src < rank v

module _ {N : Net} (all : AllReached N) where
  rank-of : (v : ℕ) → Dec (IsGate N v) → Rank N v
  rank-of v (yes g) =
      let r = reached_in (all v g) in
      let l : Least (λ n. ReachedIn N n v) r.0 = least (λ n. ReachedIn N n v) (λ n. reached_in? N n v) r.0 r.1 in
      record { value = l.value; holds = λ h. l.holds; least = l.least }
  rank-of v (no n) = record { value = 0; holds = λ g. absurd (n g); least = λ j h. absurd (not-suc-le-zero h) }

  the-rank : (v : ℕ) → Rank N v
  the-rank v = rank-of v (is_gate? N v)

  not-above : (v m : ℕ) → ReachedIn N m v → Dec (m < (the-rank v).value) → (the-rank v).value ≤ m
  not-above v m r (yes h) = absurd ((the-rank v).least m h r)
  not-above v m r (no n) = omega arith

  pin_of : (v : ℕ) → Dec (IsGate N v) → InputPin N (λ u. (the-rank u).value) v
  pin_of v (no n) = record { pin = record { src = 0; count = 0 }; is_pin = λ g. absurd (n g); falls = λ g. absurd (n g) }
  pin_of v (yes g) = go (the-rank v).value refl ((the-rank v).holds g)
    where
      lower : (m : ℕ) → (the-rank v).value ≡ suc m → m < (the-rank v).value
      lower m e = omega arith

      go : (n : ℕ) → (the-rank v).value ≡ n → ReachedIn N n v → InputPin N (λ u. (the-rank u).value) v
      go zero e i = absurd (lt_irrefl v (omega (arith, g.low, i)))
      go (suc m) e (inl r) = absurd ((the-rank v).least m (lower m e) r)
      go (suc m) e (inr (_, (p, h, r))) = record { pin = p; is_pin = λ k. h; falls = λ k. omega (arith, not-above p.src m r (dec_lt m (the-rank p.src).value)) }

  pub ranked : Ranked N
  ranked = record {
    rank = λ v. (the-rank v).value;
    pin = λ v. (pin_of v (is_gate? N v)).pin;
    is_pin = λ v. (pin_of v (is_gate? N v)).is_pin;
    falls = λ v. (pin_of v (is_gate? N v)).falls;
  }

-- ---- the input path
-- Following input pins back from u, node s is met after c registers.
pub data OnPath {N : Net} (R : Ranked N) : ℕ → ℕ → ℕ → Type 0 where
  starts : {u s c : ℕ} → u ≡ s → c ≡ 0 → OnPath R u s c
  follows : {u s c : ℕ} (d : ℕ) → IsGate N u → OnPath R (R.pin u).src s d → c ≡ (R.pin u).count + d → OnPath R u s c

-- the copy behind the input pin of x
abbrev pub behind : {N : Net} → Ranked N → Copy → Copy
behind R x = copy (R.pin x.node).src (x.back + (R.pin x.node).count)

-- The first leaf on the input path of x, c registers behind it.
pub record FirstLeaf {N : Net} (R : Ranked N) (C : List Copy) (x : Copy) : Type 0 where
  pub leaf : Copy
  pub is_leaf : Leaf N C leaf
  pub count : ℕ
  pub on_path : OnPath R x.node leaf.node count
  pub depth : leaf.back ≡ x.back + count

module _ {N : Net} (R : Ranked N) where
  pub on_path_rank : {u s c : ℕ} → OnPath R u s c → R.rank s ≤ R.rank u
  on_path_rank (starts e z) = omega (arith, ap R.rank e)
  on_path_rank {u} (follows d g p e) = omega (arith, on_path_rank p, R.falls u g)

  not-again : {u s d : ℕ} → u ≡ s → IsGate N u → OnPath R (R.pin u).src s d → ⊥
  not-again {u} {s} e g p = lt_irrefl (R.rank s) (omega (arith, ap R.rank e, on_path_rank p, R.falls u g))

  -- A node is met once, after one number of registers.
  pub on_path_unique : {u s c c' : ℕ} → OnPath R u s c → OnPath R u s c' → c ≡ c'
  on_path_unique (starts e z) (starts f y) = omega arith
  on_path_unique (starts e z) (follows d g p y) = absurd (not-again e g p)
  on_path_unique (follows d g p y) (starts e z) = absurd (not-again e g p)
  on_path_unique (follows d g p y) (follows d' g' p' y') = omega (arith, on_path_unique p p')

  pub on_path_zero : (u : ℕ) → OnPath R u u 0
  on_path_zero u = starts refl refl

  pub behind-feeds : (x : Copy) → IsGate N x.node → Feeds N (behind R x) x
  behind-feeds x g = record { gate = g; pin = R.pin x.node; is_pin = R.is_pin x.node g; source = refl; depth = refl }

  -- a place on the input path as a walk of feeds
  pub on_path_back : {u s c : ℕ} (d : ℕ) → OnPath R u s c → Back N (copy u d) (copy s (d + c))
  on_path_back {u} {s} {c} d (starts e z) = Back.stay (copy-path {a = copy u d} {b = copy s (d + c)} e (omega arith))
  on_path_back {u} {s} {c} d (follows n g p e) =
      let w = on_path_back (d + (R.pin u).count) p in
      let q : d + (R.pin u).count + n ≡ d + c = omega arith in
      Back.over (behind R (copy u d)) (behind-feeds (copy u d) g) (subst (λ (m : ℕ). Back N (behind R (copy u d)) (copy s m)) q w)

  first-from : (C : List Copy) → ((c : Copy) → c ∈ C → IsGate N c.node) → (n : ℕ) (x : Copy) → x ∈ C → R.rank x.node < n → FirstLeaf R C x
  first-from C gates zero x h r = absurd (not-suc-le-zero r)
  first-from C gates (suc n) x h r =
      let g = gates x h in
      go g (λ k. first-from C gates n (behind R x) k (omega (arith, R.falls x.node g))) (member? (behind R x) C)
    where
      go : IsGate N x.node → (behind R x ∈ C → FirstLeaf R C (behind R x)) → Dec (behind R x ∈ C) → FirstLeaf R C x
      go g rest (yes k) =
          let f = rest k in
          record {
            leaf = f.leaf;
            is_leaf = f.is_leaf;
            count = (R.pin x.node).count + f.count;
            on_path = follows f.count g f.on_path refl;
            depth = omega (arith, f.depth);
          }
      go g rest (no m) = record {
        leaf = behind R x;
        is_leaf = record { outside = m; member = x; is_member = h; feeds = behind-feeds x g };
        count = (R.pin x.node).count;
        on_path = follows {c = (R.pin x.node).count} 0 g (on_path_zero (R.pin x.node).src) (omega arith);
        depth = refl;
      }

  pub first_leaf : (C : List Copy) → ((c : Copy) → c ∈ C → IsGate N c.node) → (x : Copy) → x ∈ C → FirstLeaf R C x
  first_leaf C gates x h = first-from C gates (suc (R.rank x.node)) x h (le_refl (suc (R.rank x.node)))

  path_end-from : Sound N → (n u : ℕ) → IsNode N u → R.rank u < n → Dec (IsGate N u) → (s c : ℕ) × IsInput N s × OnPath R u s c
  path_end-from sound zero u h r d = absurd (not-suc-le-zero r)
  path_end-from sound (suc n) u h r (no m) = (u, 0, input (dec_lt u N.inputs), on_path_zero u)
    where
      input : Dec (IsInput N u) → IsInput N u
      input (yes i) = i
      input (no k) = absurd (m (record { low = omega arith; high = h }))
  path_end-from sound (suc n) u h r (yes g) =
      let s = (R.pin u).src in
      let t = path_end-from sound n s (sound.pin u g (R.pin u) (R.is_pin u g)) (omega (arith, R.falls u g)) (is_gate? N s) in
      (t.0, (R.pin u).count + t.1, t.2, follows t.1 g t.3 refl)

  -- The input path ends at an input.
  pub path_end : Sound N → (u : ℕ) → IsNode N u → (s c : ℕ) × IsInput N s × OnPath R u s c
  path_end sound u h = path_end-from sound (suc (R.rank u)) u h (le_refl (suc (R.rank u))) (is_gate? N u)
