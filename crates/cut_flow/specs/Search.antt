-- A search for one more unit, with two marks a copy, in and out: what it reaches, what passing a mark on is, and one unit more.
use Rattle.std.specs.Prelude.{◌≡◌, refl, ◌⊎◌, List, ◌∷◌, ℕ, zero, suc, ◌+◌, ◌≤◌, ◌<◌, length}
use Rattle.std.proofs.Common.{ap, subst, inl, inr, arith}
use Rattle.std.proofs.Math.Decide.{ℕ_discrete}
use Rattle.sequences.specs.Decide.{up_to, in_up_to}
use Rattle.sequences.specs.Keep.{keep, keep_mono, keep_strict}
use Rattle.cut_flow.specs.Graph.{Graph, Feeding, Lawful}
use Rattle.cut_flow.specs.State.{Next, State, Stored}

-- The flow and the marks of the copies: a mark is set where its number is positive.
pub record View : Type 0 where
  pub flow : ℕ → ℕ
  pub inn : ℕ → ℕ
  pub out : ℕ → ℕ

pub data Side : Type 0 where
  inward outward : Side

-- What a search reaches: out of a copy its unit would leave, and into a copy one would come.
pub data Reached (G : Graph) (flow : ℕ → ℕ) : Side → ℕ → Type 0 where
  from-forced : {y : ℕ} (x : ℕ) → 0 < G.forced x → Feeding G y x → G.forced y ≡ 0 → Reached G flow outward y
  from_in : {y : ℕ} (x : ℕ) → Reached G flow inward x → Feeding G y x → G.forced y ≡ 0 → Reached G flow outward y
  from-self : {x : ℕ} → Reached G flow inward x → 0 < flow x → Reached G flow outward x
  to-self : {y : ℕ} → Reached G flow outward y → flow y ≡ 0 → G.terminal y ≡ 0 → Reached G flow inward y
  to-next : {x : ℕ} (y : ℕ) → Reached G flow outward y → Next G flow y x → Reached G flow inward x

-- Marks stand only where the search reaches, and the flow is sound.
pub record Ready (G : Graph) (v : View) : Type 0 where
  pub entries : List ℕ
  pub state : State G v.flow entries
  pub ins : (z : ℕ) → 0 < v.inn z → Reached G v.flow inward z
  pub outs : (z : ℕ) → 0 < v.out z → Reached G v.flow outward z

-- Marks grow.
pub record Grew (v v' : View) : Type 0 where
  pub inn : (z : ℕ) → 0 < v.inn z → 0 < v'.inn z
  pub out : (z : ℕ) → 0 < v.out z → 0 < v'.out z

-- The source of pin j of x is forced or marked out.
abbrev pub PinPassed : Graph → View → ℕ → ℕ → Type 0
PinPassed G v x j = (0 < G.forced (G.source x j)) ⊎ (0 < v.out (G.source x j))

-- x, marked in, has passed its mark on to its sources, and to itself where it carries.
pub record PassedIn (G : Graph) (v : View) (x : ℕ) : Type 0 where
  pub pins : (j : ℕ) → j < G.pins x → PinPassed G v x j
  pub self : 0 < v.flow x → 0 < v.out x

-- y, marked out, has passed its mark on: to itself where it carries nothing, and to its successor.
pub record PassedOut (G : Graph) (v : View) (y : ℕ) : Type 0 where
  pub empty : v.flow y ≡ 0 → (G.terminal y ≡ 0) × (0 < v.inn y)
  pub next : (x : ℕ) → Next G v.flow y x → 0 < v.inn x

-- One unit more: it waits at w.
abbrev pub Waits : Graph → View → View → ℕ → Type 0
Waits G v v' w = (E : List ℕ) → State G v.flow E → State G v'.flow (w ∷ E)

-- One entry more, which feeds the forced set.
abbrev pub Gains : Graph → View → View → Type 0
Gains G v v' = (E : List ℕ) → State G v.flow E → (y : ℕ) × State G v'.flow (y ∷ E) × ((x : ℕ) × (0 < G.forced x) × Feeding G y x)

-- A mark is set at x.
pub record MarkedIn (v v' : View) (x : ℕ) : Type 0 where
  pub flow : v'.flow ≡ v.flow
  pub out : v'.out ≡ v.out
  pub inn : Stored v.inn v'.inn x 1

pub record MarkedOut (v v' : View) (y : ℕ) : Type 0 where
  pub flow : v'.flow ≡ v.flow
  pub inn : v'.inn ≡ v.inn
  pub out : Stored v.out v'.out y 1

-- The flow of x is set to n.
pub record FlowSet (v v' : View) (x n : ℕ) : Type 0 where
  pub inn : v'.inn ≡ v.inn
  pub out : v'.out ≡ v.out
  pub flow : Stored v.flow v'.flow x n

-- ---- the marks left: what a search ends by
unfoldable pub unmarked : ℕ → (ℕ → ℕ) → ℕ
unmarked n m = length (keep (λ c. ℕ_discrete (m c) 0) (up_to n))

unfoldable pub left : ℕ → View → ℕ
left n v = unmarked n v.inn + unmarked n v.out

pub positive_or_zero : (n : ℕ) → (0 < n) ⊎ (n ≡ 0)
positive_or_zero zero = inr refl
positive_or_zero (suc n) = inl (omega arith)

fewer : (a b : ℕ) → (0 < a → 0 < b) → b ≡ 0 → a ≡ 0
fewer a b f e = go (positive_or_zero a)
  where
    go : (0 < a) ⊎ (a ≡ 0) → a ≡ 0
    go (inl h) = absurd (omega (arith, f h, e))
    go (inr p) = p

pub unmarked-grew : (n : ℕ) {m m' : ℕ → ℕ} → ((z : ℕ) → 0 < m z → 0 < m' z) → unmarked n m' ≤ unmarked n m
unfolding unmarked
unmarked-grew n {m} {m'} f = keep_mono (λ c. ℕ_discrete (m' c) 0) (λ c. ℕ_discrete (m c) 0) (up_to n) (λ c h e. fewer (m c) (m' c) (f c) e)

pub unmarked-less : (n : ℕ) {m m' : ℕ → ℕ} → ((z : ℕ) → 0 < m z → 0 < m' z) → (x : ℕ) → x < n → m x ≡ 0 → 0 < m' x → unmarked n m' < unmarked n m
unfolding unmarked
unmarked-less n {m} {m'} f x h e p =
    keep_strict (λ c. ℕ_discrete (m' c) 0) (λ c. ℕ_discrete (m c) 0) (up_to n) (λ c i q. fewer (m c) (m' c) (f c) q) x (in_up_to h) e (λ q. omega (arith, p, q))

pub left-grew : (n : ℕ) {v v' : View} → Grew v v' → left n v' ≤ left n v
unfolding left
left-grew n g = omega (arith, unmarked-grew n g.inn, unmarked-grew n g.out)

stored-grew : {m m' : ℕ → ℕ} {x : ℕ} → Stored m m' x 1 → (z : ℕ) → 0 < m z → 0 < m' z
stored-grew {m} {m'} {x} st z h = go (ℕ_discrete z x)
  where
    go : Dec (z ≡ x) → 0 < m' z
    go (yes e) = omega (arith, st.at, ap m' e)
    go (no n) = omega (arith, st.other z n)

pub marked_in_grew : {v v' : View} {x : ℕ} → MarkedIn v v' x → Grew v v'
marked_in_grew m = record { inn = stored-grew m.inn; out = λ z h. omega (arith, ap (λ (f : ℕ → ℕ). f z) m.out) }

pub marked-out-grew : {v v' : View} {x : ℕ} → MarkedOut v v' x → Grew v v'
marked-out-grew m = record { inn = λ z h. omega (arith, ap (λ (f : ℕ → ℕ). f z) m.inn); out = stored-grew m.out }

pub left_in_lem : (n : ℕ) {v v' : View} {x : ℕ} → MarkedIn v v' x → x < n → v.inn x ≡ 0 → left n v' < left n v
unfolding left
left_in_lem n {x} m h e =
    let g = marked_in_grew m in
    omega (arith, unmarked-less n g.inn x h e (omega (arith, m.inn.at)), unmarked-grew n g.out)

pub left_out : (n : ℕ) {v v' : View} {y : ℕ} → MarkedOut v v' y → y < n → v.out y ≡ 0 → left n v' < left n v
unfolding left
left_out n {y} m h e =
    let g = marked-out-grew m in
    omega (arith, unmarked-less n g.out y h e (omega (arith, m.out.at)), unmarked-grew n g.inn)

-- ---- where a search reaches
module _ {G : Graph} {flow : ℕ → ℕ} {E : List ℕ} (s : State G flow E) where
  pub reached-apart : {k : Side} {x : ℕ} → Reached G flow k x → G.forced x ≡ 0
  reached-apart (from-forced x h f e) = e
  reached-apart (from_in x r f e) = e
  reached-apart (from-self r h) = reached-apart r
  reached-apart (to-self r e t) = reached-apart r
  reached-apart {x} (to-next y r n) = s.apart x (omega (arith, n.fed.pin))

  pub reached-inside : Lawful G → ((z : ℕ) → 0 < flow z → z < G.size) → {k : Side} {x : ℕ} → Reached G flow k x → x < G.size
  reached-inside L f {x = y} (from-forced x h g e) = subst (λ (z : ℕ). z < G.size) g.source (L.inside x g.pin (L.forced x h) g.below)
  reached-inside L f {x = y} (from_in x r g e) = subst (λ (z : ℕ). z < G.size) g.source (L.inside x g.pin (reached-inside L f r) g.below)
  reached-inside L f (from-self r h) = reached-inside L f r
  reached-inside L f (to-self r e t) = reached-inside L f r
  reached-inside L f {x} (to-next y r n) = f x (omega (arith, n.fed.pin))

pub reached-inner : {G : Graph} {flow : ℕ → ℕ} → Lawful G → {x : ℕ} → Reached G flow inward x → G.terminal x ≡ 0
reached-inner L (to-self r e t) = t
reached-inner {G} L {x} (to-next y r n) = go (positive_or_zero (G.terminal x))
  where
    go : (0 < G.terminal x) ⊎ (G.terminal x ≡ 0) → G.terminal x ≡ 0
    go (inl h) = absurd (omega (arith, L.bare x h, n.fed.below))
    go (inr e) = e
