-- A search that found nothing, from cleared marks: what is forced or marked in is a separation with as many leaves as there are entries, the fewest; it lies
-- inside each separation with so few; its members lead to the root; its leaves are the copies marked out and not in.
use Rattle.std.specs.Prelude.{◌≡◌, ◌⊎◌, List, ℕ, zero, suc, ◌+◌, ◌≤◌, ◌<◌, length}
use Rattle.std.proofs.Common.{sym, ap, subst, inl, inr, arith}
use Rattle.sequences.specs.Member.{◌∈◌}
use Rattle.sequences.specs.Distinct.{Distinct}
use Rattle.cut_flow.specs.Graph.{Graph, Feeding, Lawful, Order, Separation, Leaf, Lists, Leads}
use Rattle.cut_flow.specs.State.{Next, State, next_one, next-feeds, next-carried, entry-last}
use Rattle.cut_flow.specs.Course.{Rooted, Course, start, down, meet, lands, leaf-hit}
use Rattle.cut_flow.specs.Half.{Half, rises, few-out}
use Rattle.cut_flow.specs.Search.{View, Side, Reached, inward, outward, from-forced, from_in, from-self, to-self, to-next, Ready, PinPassed, PassedIn, PassedOut, positive_or_zero, reached-inner}

-- Each mark, and the forced set, is passed on.
pub record Closed (G : Graph) (v : View) : Type 0 where
  pub ready : Ready G v
  pub ins : (z : ℕ) → 0 < v.inn z → PassedIn G v z
  pub outs : (z : ℕ) → 0 < v.out z → PassedOut G v z
  pub roots : (x j : ℕ) → 0 < G.forced x → j < G.pins x → PinPassed G v x j

-- The set that the search found.
abbrev pub Found : Graph → View → ℕ → Type 0
Found G v x = (0 < G.forced x) ⊎ (0 < v.inn x)

pub closed-half : {G : Graph} {v : View} → Closed G v → Half G v
closed-half c = record { ready = c.ready; self = λ z h. (c.ins z h).self; outs = c.outs }

module _ {G : Graph} {v : View} (law : Lawful G) (c : Closed G v) where
  unforced : {x : ℕ} → G.forced x ≡ 0 → ¬ (0 < G.forced x)
  unforced e h = omega (arith, e, h)

  -- What is reached is marked.
  abbrev Mark : Side → ℕ → Type 0
  Mark inward x = 0 < v.inn x
  Mark outward x = 0 < v.out x

  out_of : {y : ℕ} → G.forced y ≡ 0 → (0 < G.forced y) ⊎ (0 < v.out y) → 0 < v.out y
  out_of e (inl h) = absurd (unforced e h)
  out_of e (inr h) = h

  source-out : {x y : ℕ} (f : Feeding G y x) → G.forced y ≡ 0 → PinPassed G v x f.pin → 0 < v.out y
  source-out f e p = out_of e (subst (λ (z : ℕ). (0 < G.forced z) ⊎ (0 < v.out z)) f.source p)

  pub marked_all : {k : Side} {x : ℕ} → Reached G v.flow k x → Mark k x
  marked_all (from-forced x h f e) = source-out f e (c.roots x f.pin h f.below)
  marked_all (from_in x r f e) = source-out f e ((c.ins x (marked_all r)).pins f.pin f.below)
  marked_all {x} (from-self r h) = (c.ins x (marked_all r)).self h
  marked_all {x} (to-self r e t) = ((c.outs x (marked_all r)).empty e).1
  marked_all {x} (to-next y r n) = (c.outs y (marked_all r)).next x n

  pub found-separation : Separation G (Found G v)
  found-separation = record { contains = λ x h. inl h; free = free }
    where
      free : (x : ℕ) → Found G v x → G.terminal x ≡ 0
      free x (inl h) = law.inner x h
      free x (inr h) = reached-inner law (c.ready.ins x h)

  -- ---- its leaves
  pub leaf_apart : {y : ℕ} → Leaf G (Found G v) y → (G.forced y ≡ 0) × (v.inn y ≡ 0)
  leaf_apart {y} l = (forced (positive_or_zero (G.forced y)), inn (positive_or_zero (v.inn y)))
    where
      forced : (0 < G.forced y) ⊎ (G.forced y ≡ 0) → G.forced y ≡ 0
      forced (inl h) = absurd (l.outside (inl h))
      forced (inr e) = e

      inn : (0 < v.inn y) ⊎ (v.inn y ≡ 0) → v.inn y ≡ 0
      inn (inl h) = absurd (l.outside (inr h))
      inn (inr e) = e

  pub leaf-out : {y : ℕ} → Leaf G (Found G v) y → 0 < v.out y
  leaf-out {y} l = go l.is_member
    where
      go : Found G v l.member → 0 < v.out y
      go (inl h) = source-out l.feeds (leaf_apart l).0 (c.roots l.member l.feeds.pin h l.feeds.below)
      go (inr h) = source-out l.feeds (leaf_apart l).0 ((c.ins l.member h).pins l.feeds.pin l.feeds.below)

  pub out-leaf : (y : ℕ) → 0 < v.out y → v.inn y ≡ 0 → Leaf G (Found G v) y
  out-leaf y o i = go (c.ready.outs y o)
    where
      outside : G.forced y ≡ 0 → ¬ Found G v y
      outside e (inl h) = unforced e h
      outside e (inr h) = omega (arith, i, h)

      go : Reached G v.flow outward y → Leaf G (Found G v) y
      go (from-forced x h f e) = record { outside = outside e; member = x; is_member = inl h; feeds = f }
      go (from_in x r f e) = record { outside = outside e; member = x; is_member = inr (marked_all r); feeds = f }
      go (from-self r h) = absurd (omega (arith, i, marked_all r))

  module _ (O : Order G) {E : List ℕ} (s : State G v.flow E) where
    -- There are no more leaves than entries.
    pub few-leaves : {L : List ℕ} → Distinct L → ((y : ℕ) → y ∈ L → Leaf G (Found G v) y) → length L ≤ length E
    few-leaves d f = few-out law (closed-half c) O s d (λ y i. (leaf-out (f y i), (leaf_apart (f y i)).1))

    module _ (rooted : Rooted G E) where
      -- ---- it is inside each separation with so few leaves
      module _ {C : ℕ → Type 0} (dec : (x : ℕ) → Dec (C x)) (sep : Separation G C) {L : List ℕ} (lists : Lists G C L) (few : length L ≤ length E) where
        abbrev Within : Side → ℕ → Type 0
        Within inward x = C x
        Within outward x = C x ⊎ Leaf G C x

        fed-within : {y x : ℕ} → C x → Feeding G y x → Dec (C y) → C y ⊎ Leaf G C y
        fed-within k f (yes h) = inl h
        fed-within {y} {x} k f (no n) = inr (record { outside = n; member = x; is_member = k; feeds = f })

        hit : {l : ℕ} → Leaf G C l → (e : ℕ) × (e ∈ E) × Course G v.flow C e l
        hit {l} h = leaf-hit s dec sep O rooted lists few l (lists l h)

        hit-carries : {e l : ℕ} → e ∈ E → Course G v.flow C e l → 0 < v.flow l
        hit-carries {e} i (start p) = subst (λ (z : ℕ). 0 < v.flow z) (sym p) (s.entry e i)
        hit-carries i (down x k n w) = next-carried s n

        -- past a copy of an entry's course all are inside
        past : {e y x : ℕ} → e ∈ E → Course G v.flow C e y → Next G v.flow y x → C x
        past {e} {y} {x} i (start p) n = absurd (entry-last s i (subst (λ (z : ℕ). Next G v.flow z x) p n))
        past i (down z k m w) n = subst C (next_one s m n) k

        next-within : {y x : ℕ} → C y ⊎ Leaf G C y → Next G v.flow y x → C x
        next-within (inr l) n = let r = hit l in past r.1 r.2 n
        next-within {y} (inl k) n =
            let d = lands s dec sep O y k (next-carried s n) in
            let r = hit d.is_leaf in
            past r.1 (meet s r.1 d.course r.2) n

        self-within : {y : ℕ} → v.flow y ≡ 0 → C y ⊎ Leaf G C y → C y
        self-within e (inl k) = k
        self-within e (inr l) = let r = hit l in absurd (omega (arith, e, hit-carries r.1 r.2))

        reached-within : {k : Side} {x : ℕ} → Reached G v.flow k x → Within k x
        reached-within {x = y} (from-forced x h f e) = fed-within (sep.contains x h) f (dec y)
        reached-within {x = y} (from_in x r f e) = fed-within (reached-within r) f (dec y)
        reached-within (from-self r h) = inl (reached-within r)
        reached-within (to-self r e t) = self-within e (reached-within r)
        reached-within (to-next y r n) = next-within (reached-within r) n

        pub smallest : (x : ℕ) → Found G v x → C x
        smallest x (inl h) = sep.contains x h
        smallest x (inr h) = reached-within (c.ready.ins x h)

      -- ---- its members lead to the root
      module _ {root : ℕ} (leads : (x : ℕ) → 0 < G.forced x → Leads G (Found G v) root x) where
        climb : (n : ℕ) {x : ℕ} → O.bound < n + O.measure x → 0 < v.inn x → 0 < v.flow x → Leads G (Found G v) root x
        climb zero {x} b h f = absurd (omega (arith, b, O.most x))
        climb (suc n) {x} b h f = go (λ z m i. climb n (omega (arith, b, rises law (closed-half c) O s h m)) i (omega (arith, m.fed.pin))) (s.leaves x f)
          where
            go : ((z : ℕ) → Next G v.flow x z → 0 < v.inn z → Leads G (Found G v) root z) → (x ∈ E) ⊎ ((z : ℕ) × Next G v.flow x z) → Leads G (Found G v) root x
            go rest (inl i) = let r = rooted x i in Leads.step r.0 (inl r.1) r.2 (leads r.0 r.1)
            go rest (inr (z, m)) = let i = (c.outs x ((c.ins x h).self f)).next z m in Leads.step z (inr i) (next-feeds m) (rest z m i)

        reached-leads : {k : Side} {x : ℕ} → Reached G v.flow k x → Leads G (Found G v) root x
        reached-leads (from-forced x h f e) = Leads.step x (inl h) f (leads x h)
        reached-leads (from_in x r f e) = Leads.step x (inr (marked_all r)) f (reached-leads r)
        reached-leads (from-self r h) = reached-leads r
        reached-leads (to-self r e t) = reached-leads r
        reached-leads {x} (to-next y r n) = climb (suc O.bound) (omega arith) ((c.outs y (marked_all r)).next x n) (omega (arith, n.fed.pin))

        pub found-leads : (x : ℕ) → Found G v x → Leads G (Found G v) root x
        found-leads x (inl h) = leads x h
        found-leads x (inr h) = reached-leads (c.ready.ins x h)
