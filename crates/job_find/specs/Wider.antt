-- Laws: a LUT that the marker's reader gives, for some net and k, is given under the lookup's wider limits too.
use Rattle.std.specs.Prelude.{◌≡◌, refl, Bool, true, ◌&&◌, List, [], ◌∷◌, ℕ, zero, suc, ◌+◌, ◌*◌, ◌/◌, ◌%◌, ◌≤◌, ◌<◌, leb}
use Rattle.std.proofs.Common.{sym, ap₂, ◌∙◌, le_trans, leb-true, ltb-true, le-leb, lt-ltb}
use Rattle.std.proofs.Math.Path.{ap}
use Rattle.std.proofs.Math.Bool.{false}
use Rattle.std.proofs.lemmas.Bool.{false≢true}
use Rattle.std.specs.Int.Count.{ones}
use Rattle.std.proofs.Math.Dec.{ltb}
use Rattle.limits.specs.Limits.{most_k}
use Rattle.cover_theory.specs.Key.{Entry}
use Rattle.net_bytes.specs.Reading.{Reader, ◌>>=◌, give, check, times, between, got}
use Rattle.net_bytes.specs.Readers.{Gives, refused-not-got, got-value, then-got, then-goes, check-got}
use Rattle.net_bytes.specs.Sound.{between-true}
use Rattle.net_bytes.specs.Walk.{table_byte, table_bytes}
use Rattle.cover_records.specs.CoverBytes.{cover_byte, cover_number, not_zero, leaf_map_ok, depth_reader, leaves_from, rising_leaves, root_reader, lut_body, lut_reader}
use Rattle.cover_records.specs.LutStages.{from_table, from_lags, from_leaves, from_depths, from_nodes, from_map, from_size, lut_stages}
use Rattle.job_find.specs.RootLookup.{any_node}

-- what m gives, m' gives
abbrev pub Wider : {A : Type 0} → Reader A → Reader A → Type 0
Wider {A} m m' = (s : List ℕ) (a : A) (r : List ℕ) → m s ≡ got a r → m' s ≡ got a r

wider-same : {A : Type 0} (m : Reader A) → Wider m m
wider-same m s a r e = e

module _ {A B : Type 0} where
  wider-then : {m m' : Reader A} {f f' : A → Reader B} → Wider m m' → ((a : A) → Wider (f a) (f' a)) → Wider (m >>= f) (m' >>= f')
  wider-then {m} {m'} {f} {f'} x y s b r e =
      let z = then-got (m s) f b r e in
      then-goes f' (x s z.0 z.1 z.2) ∙ y z.0 z.1 b r z.3

-- a test that is easier to pass
abbrev Easier : (ℕ → Bool) → (ℕ → Bool) → Type 0
Easier ok ok' = (n : ℕ) → ok n ≡ true → ok' n ≡ true

wider-check : (ok ok' : ℕ → Bool) → Easier ok ok' → (n : ℕ) → Wider (check (ok n) 13 n) (check (ok' n) 13 n)
wider-check ok ok' h n s a r e =
    let c = check-got (ok n) 13 n s a r e in
    ap (λ (t : Bool). check t 13 n s) (h n c.0) ∙ ap₂ (λ (m : ℕ) (l : List ℕ). got m l) c.1 c.2

wider-number : (w : Bool) (ok ok' : ℕ → Bool) → Easier ok ok' → Wider (cover_number w ok) (cover_number w ok')
wider-number false ok ok' h [] a r e = absurd (refused-not-got 13 a r e)
wider-number false ok ok' h (b ∷ s) a r e = wider-check ok ok' h b s a r e
wider-number true ok ok' h [] a r e = absurd (refused-not-got 13 a r e)
wider-number true ok ok' h (b ∷ []) a r e = absurd (refused-not-got 13 a r e)
wider-number true ok ok' h (b ∷ c ∷ s) a r e = wider-check ok ok' h (b + 256 * c) s a r e

wider-times : {A : Type 0} {m m' : Reader A} → Wider m m' → (n : ℕ) → Wider (times n m) (times n m')
unfolding times
wider-times x zero = wider-same (give [])
wider-times x (suc n) = wider-then x λ a. wider-then (wider-times x n) λ l. wider-same (give (a ∷ l))

below_easier : {a b : ℕ} → a ≤ b → Easier (λ n. ltb n a) (λ n. ltb n b)
below_easier {a} {b} h n e = lt-ltb n b (le_trans (ltb-true n a e) h)

between_easier : {a b : ℕ} → a ≤ b → Easier (between 1 a) (between 1 b)
between_easier {a} {b} h n e = let r = between-true 1 a n e in ap₂ (λ (x y : Bool). x && y) (le-leb 1 n r.0) (le-leb n b (le_trans r.1 h))

root_easier : {least low nodes high : ℕ} → low ≤ least → nodes ≤ high → Easier (λ n. leb least n && ltb n nodes) (λ n. leb low n && ltb n high)
root_easier {least} {low} {nodes} {high} p q n = go (leb least n) (ltb n nodes) (leb-true least n) (ltb-true n nodes)
  where
    go : (x y : Bool) → (x ≡ true → least ≤ n) → (y ≡ true → n < nodes) → (x && y) ≡ true → (leb low n && ltb n high) ≡ true
    go true y f g e = ap₂ (λ (x y : Bool). x && y) (le-leb low n (le_trans p (f refl))) (lt-ltb n high (le_trans (g e) q))
    go false y f g e = absurd (false≢true e)

module _ (w : Bool) {nodes k : ℕ} (many : nodes ≤ any_node) (six : k ≤ most_k) where
  root-wider : {least low : ℕ} → low ≤ least → Wider (root_reader w nodes least) (root_reader w any_node low)
  root-wider h = wider-number w _ _ (root_easier h many)

  body-wider : (root : ℕ) → Wider (lut_body w nodes k root) (lut_body w any_node most_k root)
  unfolding lut_body
  body-wider root =
      wider-then (wider-number false (between 1 k) (between 1 most_k) (between_easier six)) λ n.
      wider-then (wider-same (cover_byte (leaf_map_ok n))) λ m.
      wider-then (wider-times (wider-number w (λ b. ltb b nodes) (λ b. ltb b any_node) (below_easier many)) n) λ us. wider-same (from_nodes w root n m us)

  -- the root of a LUT is the number read first
  body-root : (root : ℕ) → Gives (lut_body w nodes k root) (λ e. root ≡ e.root)
  unfolding lut_body
  body-root root =
      skip (cover_byte (between 1 k)) (from_size w nodes root) λ n.
      skip (cover_byte (leaf_map_ok n)) (from_map w nodes root n) λ m.
      skip (times n (cover_number w (λ b. ltb b nodes))) (from_nodes w root n m) λ us.
      skip (times (ones (m % 64)) depth_reader) (from_depths w root n m us) λ ds.
      skip (check (rising_leaves (leaves_from (m % 64) us ds)) 13 (leaves_from (m % 64) us ds)) (from_leaves w root n m) λ L.
      skip (times (m / 64) (cover_number w not_zero)) (from_lags w root n L) λ lags.
      skip (times (table_bytes n) (cover_byte (table_byte n))) (from_table w root L lags) λ t s e r q. ap (λ (z : Entry). z.root) (got-value _ s e r q)
    where
      skip : {A : Type 0} (m : Reader A) (f : A → Reader Entry) → ((a : A) → Gives (f a) (λ e. root ≡ e.root)) → Gives (m >>= f) (λ e. root ≡ e.root)
      skip m f h s e r q = let z = then-got (m s) f e r q in h z.0 z.1 e r z.3

  -- **A LUT that was read, under the wider limits: its root, and what stands behind it.**
  pub lut-wider : {least low : ℕ} → low ≤ least → (s : List ℕ) (e : Entry) (t : List ℕ) → lut_reader w nodes k least s ≡ got e t
      → (u : List ℕ) × (root_reader w any_node low s ≡ got e.root u) × (lut_body w any_node most_k e.root u ≡ got e t)
  lut-wider {least} h s e t q =
      let x = then-got (root_reader w nodes least s) (lut_body w nodes k) e t (sym (lut_stages w nodes k least s) ∙ q) in
      let same = body-root x.0 x.1 e t x.3 in
      (x.1, root-wider h s x.0 x.1 x.2 ∙ ap (λ (n : ℕ). got n x.1) same, ap (λ (n : ℕ). lut_body w any_node most_k n x.1) (sym same) ∙ body-wider x.0 x.1 e t x.3)
