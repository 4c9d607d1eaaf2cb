-- What feeds a copy is decided; the leaves of a set of copies are listed, rising, and are known
-- by the set; a walk back out of a set crosses a leaf.
use Rattle.std.specs.Prelude.{◌≡◌, refl, ◌⊎◌, List, [], ◌∷◌, ◌++◌, ℕ, ◌+◌, ◌≤◌, ◌<◌, length}
use Rattle.std.proofs.Common.{sym, ap, subst, inl, inr}
use Rattle.std.proofs.Math.Decide.{dec_le, dec_lt}
use Rattle.sequences.specs.Member.{◌∈◌, here, there, not_in_nil, in_equal, Within, memb?, memb_step, in_append_left, in_append_right, in_append_cases, in_map, map_in}
use Rattle.sequences.specs.Decide.{dec-¬, dec-×, dec_map, any?, any_step}
use Rattle.sequences.specs.Keep.{keep, keep_in, in_keep}
use Rattle.sequences.specs.Distinct.{Distinct}
use Rattle.sequences.specs.Rising as Sorting
use Rattle.sequences.specs.Rising.{sort, Sorted, rising-distinct, rising_unique}
use Rattle.net_model.specs.Net.{Net, Pin, IsGate, pins}
use Rattle.net_model.specs.Copies.{Copy, copy, Feeds, Leaf, Before, Rising, IsLeaves}
use Rattle.net_model.specs.Tables.{feeding}
pub use Rattle.net_model.proofs.CopyLaws.{copy-path, feeds_in, in_feeding, before_irrefl, before_trans, before_asym}
unfoldable pub use Rattle.net_model.proofs.CopyLaws.{copy_step, Copy-dec, before-step, before_cmp}

unfoldable pub member? : (c : Copy) (C : List Copy) → Dec (c ∈ C)
unfolding memb? memb_step Copy-dec
member? c C = memb? Copy-dec c C

-- ---- gates
gate-pair : {N : Net} {v : ℕ} → (N.inputs ≤ v) × (v < N.inputs + length N.gates) → IsGate N v
gate-pair h = record { low = h.0; high = h.1 }

unfoldable pub is_gate? : (N : Net) (v : ℕ) → Dec (IsGate N v)
unfolding dec_map dec-× dec_le dec_lt gate-pair
is_gate? N v = dec_map gate-pair (λ g. (g.low, g.high)) (dec-× (dec_le N.inputs v) (dec_lt v (N.inputs + length N.gates)))

-- ---- what feeds a copy
unfoldable pub feeds-step : {N : Net} {y x : Copy} → Dec (IsGate N x.node) → Dec (y ∈ feeding N x) → Dec (Feeds N y x)
feeds-step (yes g) (yes h) = yes (in_feeding g h)
feeds-step (yes g) (no n) = no (λ f. n (feeds_in f))
feeds-step (no n) d = no (λ f. n f.gate)

unfoldable pub Feeds? : (N : Net) (y x : Copy) → Dec (Feeds N y x)
unfolding feeds-step is_gate? member?
Feeds? N y x = let d = member? y (feeding N x) in feeds-step (is_gate? N x.node) d

leaf_tuple : {N : Net} {C : List Copy} {y : Copy} → (¬ (y ∈ C)) × ((x : Copy) × (x ∈ C) × Feeds N y x) → Leaf N C y
leaf_tuple h = record { outside = h.0; member = h.1.0; is_member = h.1.1; feeds = h.1.2 }

unfoldable pub Leaf? : (N : Net) (C : List Copy) (y : Copy) → Dec (Leaf N C y)
unfolding dec_map dec-× dec-¬ any? any_step member? Feeds? leaf_tuple
Leaf? N C y = dec_map leaf_tuple (λ l. (l.outside, (l.member, l.is_member, l.feeds))) (dec-× (dec-¬ (member? y C)) (any? C (λ x h. Feeds? N y x)))

-- ---- rising lists of copies
pub to_sorting : {L : List Copy} → Rising L → Sorting.Rising Before L
to_sorting {L = []} r = Sorting.rising_nil
to_sorting {L = a ∷ L} r = Sorting.rising_cons r.0 (to_sorting r.1)

pub from_sorting : {L : List Copy} → Sorting.Rising Before L → Rising L
from_sorting Sorting.rising_nil = tt
from_sorting (Sorting.rising_cons f r) = (f, from_sorting r)

pub rising-copies-distinct : {L : List Copy} → Rising L → Distinct L
rising-copies-distinct r = rising-distinct before_irrefl (to_sorting r)

pub rising-copies_unique : {L M : List Copy} → Rising L → Rising M → Within L M → Within M L → L ≡ M
rising-copies_unique r s f g = rising_unique before_irrefl before_trans (to_sorting r) (to_sorting s) f g

-- ---- the leaves
unfoldable pub feeding_if : {X : Type 0} (N : Net) (x : Copy) → Dec X → List Copy
feeding_if N x (yes g) = feeding N x
feeding_if N x (no n) = []

-- what feeds the members of C
unfoldable pub feeders : Net → List Copy → List Copy
unfolding feeding_if is_gate?
feeders N [] = []
feeders N (x ∷ C) = feeding_if N x (is_gate? N x.node) ++ feeders N C

feeding_if_in : {N : Net} {y x : Copy} (d : Dec (IsGate N x.node)) → y ∈ feeding_if N x d → Feeds N y x
unfolding feeding_if
feeding_if_in (yes g) h = in_feeding g h
feeding_if_in (no n) h = absurd (not_in_nil h)

in_feeding_if : {N : Net} {y x : Copy} (d : Dec (IsGate N x.node)) → Feeds N y x → y ∈ feeding_if N x d
unfolding feeding_if
in_feeding_if (yes g) f = feeds_in f
in_feeding_if (no n) f = absurd (n f.gate)

pub feeders_in : (N : Net) (C : List Copy) {y : Copy} → y ∈ feeders N C → (x : Copy) × (x ∈ C) × Feeds N y x
unfolding feeders
feeders_in N [] h = absurd (not_in_nil h)
feeders_in N (c ∷ C) {y} h = go (feeders_in N C) (in_append_cases (feeding_if N c (is_gate? N c.node)) h)
  where
    go : (y ∈ feeders N C → (x : Copy) × (x ∈ C) × Feeds N y x) → (y ∈ feeding_if N c (is_gate? N c.node)) ⊎ (y ∈ feeders N C) → (x : Copy) × (x ∈ c ∷ C) × Feeds N y x
    go rest (inl k) = (c, here refl, feeding_if_in (is_gate? N c.node) k)
    go rest (inr k) = let r = rest k in (r.0, there r.1, r.2)

pub in_feeders : {N : Net} {y x : Copy} {C : List Copy} → x ∈ C → Feeds N y x → y ∈ feeders N C
unfolding feeders
in_feeders {N} {y} (here {x = c} {xs = C} e) f = in_append_left (feeders N C) (in_feeding_if (is_gate? N c.node) (subst (λ (z : Copy). Feeds N y z) e f))
in_feeders {N} (there {x = c} h) f = in_append_right (feeding_if N c (is_gate? N c.node)) (in_feeders h f)

-- the copies outside C among what feeds it
unfoldable pub outer : Net → List Copy → List Copy
unfolding keep dec-¬ member? feeders
outer N C = keep (λ c. dec-¬ (member? c C)) (feeders N C)

pub outer-leaf : {N : Net} {C : List Copy} {y : Copy} → y ∈ outer N C → Leaf N C y
unfolding outer
outer-leaf {N} {C} h =
    let r = in_keep (λ c. dec-¬ (member? c C)) (feeders N C) h in
    let s = feeders_in N C r.0 in
    record { outside = r.1; member = s.0; is_member = s.1; feeds = s.2 }

pub leaf-outer : {N : Net} {C : List Copy} {y : Copy} → Leaf N C y → y ∈ outer N C
unfolding outer
leaf-outer {N} {C} l = keep_in (λ c. dec-¬ (member? c C)) (in_feeders l.is_member l.feeds) l.outside

unfoldable pub sort_copies : (l : List Copy) → Sorted Before l
unfolding sort before_cmp
sort_copies l = sort before_cmp before_trans l

-- The leaves of C, listed.
unfoldable pub leaves_of : (N : Net) (C : List Copy) → (L : List Copy) × IsLeaves N C L
unfolding sort_copies outer
leaves_of N C =
    let s = sort_copies (outer N C) in
    (s.list, record { rising = from_sorting s.rising; sound = λ y h. outer-leaf (s.within y h); complete = λ y l. s.contains y (leaf-outer l) })

pub leaf-same : {N : Net} {C C' : List Copy} {y : Copy} → Within C C' → Within C' C → Leaf N C y → Leaf N C' y
leaf-same {y} f g l = record { outside = λ h. l.outside (g y h); member = l.member; is_member = f l.member l.is_member; feeds = l.feeds }

-- Sets with the same members have the same leaves.
pub leaves_unique : {N : Net} {C C' L L' : List Copy} → IsLeaves N C L → IsLeaves N C' L' → ((c : Copy) → c ∈ C → c ∈ C') → ((c : Copy) → c ∈ C' → c ∈ C) → L ≡ L'
leaves_unique a b f g =
    rising-copies_unique a.rising b.rising (λ y h. b.complete y (leaf-same f g (a.sound y h))) (λ y h. a.complete y (leaf-same g f (b.sound y h)))

pub leaves-distinct : {N : Net} {C L : List Copy} → IsLeaves N C L → Distinct L
leaves-distinct a = rising-copies-distinct a.rising

-- ---- walks
-- z is met on a walk of feeds back from x.
pub data Back (N : Net) : Copy → Copy → Type 0 where
  stay : {x z : Copy} → x ≡ z → Back N x z
  over : {x z : Copy} (y : Copy) → Feeds N y x → Back N y z → Back N x z

pub back_trans : {N : Net} {x y z : Copy} → Back N x y → Back N y z → Back N x z
back_trans {N} {z} (stay e) w = subst (λ (c : Copy). Back N c z) (sym e) w
back_trans (over y f v) w = over y f (back_trans v w)

-- A walk back from a member to a copy outside meets a leaf: the first copy outside.
pub crossing : {N : Net} (C : List Copy) {x z : Copy} → x ∈ C → Back N x z → ¬ (z ∈ C) → (y : Copy) × Leaf N C y × Back N x y × Back N y z
crossing C h (stay e) n = absurd (n (in_equal (sym e) h))
crossing {N} C {x} {z} h (over y f w) n = go (member? y C) (λ k. crossing C k w n)
  where
    go : Dec (y ∈ C) → (y ∈ C → (l : Copy) × Leaf N C l × Back N y l × Back N l z) → (l : Copy) × Leaf N C l × Back N x l × Back N l z
    go (yes k) rest = let r = rest k in (r.0, r.1, over y f r.2, r.3)
    go (no m) rest = (y, record { outside = m; member = x; is_member = h; feeds = f }, over y f (stay refl), w)
