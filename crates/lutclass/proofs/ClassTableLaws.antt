-- The rule of the table of classes, by one computed test over the whole table: each entry is the smallest table that the 96 turnings make of its index.
use Rattle.std.specs.Prelude.{◌≡◌, Bool, true, false, List, [], ◌∷◌, map, T, eqb, length, get_or}
use Rattle.std.proofs.Math.Path.{refl, sym, ap, ap₂}
use Rattle.std.proofs.Common.{subst, ◌∙◌, add-zero, zero-add, add-suc, suc-add, le_of_suc-le-suc, not-suc-le-zero, arith, eqb→eq}
use Prim.Native.Nat.{ℕ, zero, suc, ◌+◌, ◌*◌, ◌/◌, ◌%◌, ◌^◌, ◌<◌, min}
use Rattle.std.proofs.Math.Decide.{ℕ_discrete}
use Rattle.sequences.specs.Decide.{up_to, count-from}
use Rattle.sequences.specs.Distinct.{dedup, dedup-step}
use Rattle.sequences.specs.Member.{memb?, memb_step}
use Rattle.net_model.specs.Tables.{bit, as_number, pack}
use Rattle.cone_values.specs.Words.{pack-same}
use Rattle.lutclass.specs.Classes.{Turning, flipped, choice, reaching, turn, IsClass}
use Rattle.lutclass.specs.Turnings.{orders, turning_at, least_of, class_of, generated}
use Rattle.lutclass.specs.TurningLaws.{choice_of}
use Rattle.lutclass.specs.ClassLaws.{class_is, class_unique, class_moved, class_shared}
use Rattle.lutclass.specs.ClassTable.{shipped, ClassTable}

-- ---- the 96 turnings as rows of numbers, computed once for all tables

-- which bit of the old table the new one has in choice i, as its weight; n choices from i on
unfoldable weights : Turning → ℕ → ℕ → List ℕ
weights t i zero = []
weights t i (suc n) = 2 ^ choice_of (reaching t (choice i)) ∷ weights t (suc i) n

-- the bits with these weights, inverted where o is odd
unfoldable gathered : ℕ → ℕ → List ℕ → ℕ
gathered o f [] = 0
gathered o f (w ∷ ws) = (f / w + o) % 2 + 2 * gathered o f ws

unfoldable rows : ℕ → List (List ℕ)
rows zero = []
rows (suc n) = (n ∷ weights (turning_at n) 0 8) ∷ rows n

unfoldable made : ℕ → List ℕ → ℕ
made f [] = f
made f (o ∷ ws) = gathered o f ws

unfoldable least_in : ℕ → List (List ℕ) → ℕ
least_in f [] = f
least_in f (r ∷ rs) = min (made f r) (least_in f rs)

-- one bit, as a number
parity : (x y : ℕ) → x < 2 → y < 2 → as_number (flipped (eqb x 1) (eqb y 1)) ≡ (y + x) % 2
parity zero zero h k = refl
parity zero (suc zero) h k = refl
parity (suc zero) zero h k = refl
parity (suc zero) (suc zero) h k = refl
parity (suc (suc x)) y h k = absurd (not-suc-le-zero (le_of_suc-le-suc (le_of_suc-le-suc h)))
parity zero (suc (suc y)) h k = absurd (not-suc-le-zero (le_of_suc-le-suc (le_of_suc-le-suc k)))
parity (suc zero) (suc (suc y)) h k = absurd (not-suc-le-zero (le_of_suc-le-suc (le_of_suc-le-suc k)))

bit-made : (o a : ℕ) → as_number (flipped (bit o 0) (eqb (a % 2) 1)) ≡ (a + o) % 2
bit-made o a = parity (o / 2 ^ 0 % 2) (a % 2) (omega arith) (omega arith) ∙ omega arith

module _ (t : Turning) (o f : ℕ) where
  -- bit i of the new table
  abbrev new : ℕ → Bool
  new i = flipped (bit o 0) (bit f (choice_of (reaching t (choice i))))

  gathered-pack : (i n : ℕ) → gathered o f (weights t i n) ≡ pack (λ k. new (i + k)) n
  unfolding gathered weights pack
  gathered-pack i zero = refl
  gathered-pack i (suc n) =
      ap₂ (λ (b q : ℕ). b + 2 * q) (sym (bit-made o (f / 2 ^ choice_of (reaching t (choice i)))) ∙ ap (λ (j : ℕ). as_number (new j)) (sym (add-zero i)))
      (gathered-pack (suc i) n ∙ pack-same (λ k. new (suc i + k)) (λ k. new (i + suc k)) n (λ k h. ap new (suc-add i k ∙ sym (add-suc i k))))

-- a row makes what its turning makes
row_made : (n f : ℕ) → made f (n ∷ weights (turning_at n) 0 8) ≡ turn (turning_at n) f
unfolding made turn turning_at
row_made n f = gathered-pack (turning_at n) n f 0 8 ∙ pack-same (λ k. new (turning_at n) n f (0 + k)) (new (turning_at n) n f) 8 (λ k h. ap (new (turning_at n) n f) (zero-add k))

least-made : (f n : ℕ) → least_in f (rows n) ≡ least_of (λ i. turn (turning_at i) f) f n
unfolding least_in rows least_of
least-made f zero = refl
least-made f (suc n) = ap₂ min (row_made n f) (least-made f n)

-- ---- one test over the whole table

abbrev both : Bool → Bool → Bool
both true b = b
both false b = false

unfoldable every : (ℕ → ℕ → Bool) → ℕ → List ℕ → Bool
every p i [] = true
every p i (x ∷ xs) = both (p i x) (every p (suc i) xs)

both-parts : (a b : Bool) → T (both a b) → T a × T b
both-parts true b t = (tt, t)
both-parts false b t = absurd t

every-at : (p : ℕ → ℕ → Bool) (xs : List ℕ) (i : ℕ) → T (every p i xs) → (k : ℕ) → k < length xs → T (p (i + k) (get_or xs k 0))
unfolding every
every-at p [] i t k h = absurd (not-suc-le-zero h)
every-at p (x ∷ xs) i t zero h = rw (add-zero i) (both-parts (p i x) (every p (suc i) xs) t).0
every-at p (x ∷ xs) i t (suc k) h =
    subst (λ (m : ℕ). T (p m (get_or xs k 0))) (suc-add i k ∙ sym (add-suc i k)) (every-at p xs (suc i) (both-parts (p i x) (every p (suc i) xs) t).1 k (le_of_suc-le-suc h))

-- the test: entry f is the smallest that the rows make of f
table-test : T (let rs = rows 96 in every (λ f c. eqb c (least_in f rs)) 0 shipped)
unfolding every least_in made gathered rows weights turning_at orders shipped
table-test = tt

shipped-size : length shipped ≡ 256
unfolding shipped
shipped-size = refl

-- **Entry f is the smallest table that the 96 turnings make of f.**
pub entry-is : (f : ℕ) → f < 256 → get_or shipped f 0 ≡ class_of f
unfolding class_of
entry-is f h =
    let t = every-at (λ i c. eqb c (least_in i (rows 96))) shipped 0 table-test f (rw shipped-size h) in
    let e = eqb→eq (get_or shipped f 0) (least_in (0 + f) (rows 96)) t in
    e ∙ ap (λ (i : ℕ). least_in i (rows 96)) (zero-add f) ∙ least-made f 96

every-listed : (g h : ℕ → ℕ) → ((k : ℕ) → g k ≡ h k) → (xs : List ℕ) (i : ℕ) → T (every (λ k x. eqb x (g k)) i xs) → xs ≡ map h (count-from i (length xs))
unfolding every count-from
every-listed g h e [] i t = refl
every-listed g h e (x ∷ xs) i t =
    let p = both-parts (eqb x (g i)) (every (λ k y. eqb y (g k)) (suc i) xs) t in
    ap₂ (λ (y : ℕ) (ys : List ℕ). y ∷ ys) (eqb→eq x (g i) p.0 ∙ e i) (every-listed g h e xs (suc i) p.1)

-- **The shipped table is the generator's.**
pub shipped-generated : shipped ≡ generated
unfolding generated up_to class_of
shipped-generated = every-listed (λ f. least_in f (rows 96)) class_of (λ f. least-made f 96) shipped 0 table-test ∙ ap (λ (n : ℕ). map class_of (count-from 0 n)) shipped-size

-- ---- the different entries

fourteen : length (dedup ℕ_discrete shipped).list ≡ 14
unfolding dedup dedup-step memb? memb_step ℕ_discrete shipped
fourteen = refl

-- ---- E12

pub class_table : ClassTable shipped
class_table = record {
  size = shipped-size;
  entry = entry;
  shared = λ f g h k e. class_shared k (entry f h) (subst (IsClass g) (sym e) (entry g k));
  together = λ f g h k p. class_unique (class_moved h p (entry f h)) (entry g k);
  different = (dedup ℕ_discrete shipped, fourteen);
  printed = shipped-generated;
}
  where
    entry : (f : ℕ) → f < 256 → IsClass f (get_or shipped f 0)
    entry f h = rw (entry-is f h) (class_is f h)
