-- Definitions: the leaf lookup (document 02, E3), and what is asked of it.
use Rattle.std.specs.Prelude.{◌≡◌, Bool, cond, ◌&&◌, ◌||◌, List, [], ◌∷◌, ◌++◌, ◌↔◌, ℕ, suc, ◌<◌, ltb, eqb, length, get_or, take}
use Rattle.sequences.specs.Member.{◌∈◌}
use Rattle.sequences.specs.Tests.{First}
use Rattle.net_model.specs.Copies.{Copy, copy, Before, Rising}
use Rattle.net_model.specs.Arrays.{copy_at}

-- Document 01: "leaves rise by node, then by d." So whether leaf b is beyond copy c, and whether it is c:
abbrev pub beyond : Copy → Copy → Bool
beyond c b = ltb c.node b.node || (eqb c.node b.node && ltb c.back b.back)

abbrev pub same : Copy → Copy → Bool
same c b = eqb c.node b.node && eqb c.back b.back

-- "that test is to end at the first leaf beyond the copy sought": the place of c in the list of leaves, or the number of leaves for "no leaf".
unfoldable pub seek_of : List Copy → Copy → ℕ
seek_of [] c = 0
seek_of (b ∷ l) c = cond (beyond c b) (suc (length l)) (cond (same c b) 0 (suc (seek_of l c)))

-- what stands at place p
abbrev pub leaf_at : List Copy → ℕ → Copy
leaf_at L p = get_or L p (copy 0 0)

-- c stands at place p, before the first leaf beyond it: no leaf in front of place p is beyond c
pub record Stands (L : List Copy) (c : Copy) (p : ℕ) : Type 0 where
  pub below : p < length L
  pub this : leaf_at L p ≡ c
  pub early : (i : ℕ) → i < p → ¬ Before c (leaf_at L i)

-- Leaves kept in arrays: what the search for c may read of n places. Each place with no leaf beyond c in front of it is there;
-- behind the first leaf beyond c there may be nothing.
pub record Readable (nodes backs : List ℕ) (n : ℕ) (c : Copy) : Type 0 where
  pub there : (j : ℕ) → j < n → ((i : ℕ) → i < j → ¬ Before c (copy_at nodes backs i)) → (j < length nodes) × (j < length backs)

-- Over a lookup, which gives a place or the number of leaves:
module _ (at : List Copy → Copy → ℕ) where
  -- "yes": c is a leaf
  abbrev pub Yes : List Copy → Copy → Type 0
  Yes L c = at L c < length L

  -- the same answer for two lists of leaves: yes or no, and the place where it is yes
  pub record SameAnswer (L M : List Copy) (c : Copy) : Type 0 where
    pub answer : Yes L c ↔ Yes M c
    pub place : Yes L c → at L c ≡ at M c

  -- **E3**, for every list of leaves and every copy
  pub record LeafLookup : Type 0 where
    -- "that test is to end at the first leaf beyond the copy sought": for any list at all, yes exactly if the copy stands before the first leaf beyond it;
    -- then the place is the first at which it stands, else the number of leaves
    pub any : (L : List Copy) (c : Copy) → Yes L c ↔ ((p : ℕ) × Stands L c p)
    pub place : (L : List Copy) (c : Copy) → Yes L c → Stands L c (at L c) × ((i : ℕ) → i < at L c → ¬ (leaf_at L i ≡ c))
    pub none : (L : List Copy) (c : Copy) → ¬ Yes L c → at L c ≡ length L
    -- "Yes and no are the same for every copy and rising leaf list": those of a search through the whole list
    pub rising : (L : List Copy) (c : Copy) → Rising L → (Yes L c ↔ (c ∈ L)) × First (λ p. leaf_at L p ≡ c) (length L) (at L c)
    -- "and what stands behind that first leaf, rising or not, never changes them"; b is that leaf, or any other beyond c
    pub behind : (front : List Copy) (b : Copy) (rest rest' : List Copy) (c : Copy) → Before c b → SameAnswer (front ++ (b ∷ rest)) (front ++ (b ∷ rest')) c
    -- so the part of the list that ends with such a leaf is enough
    pub part : (L : List Copy) (c : Copy) (p : ℕ) → p < length L → Before c (leaf_at L p) → SameAnswer L (take (suc p) L) c
