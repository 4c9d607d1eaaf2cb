-- Laws of reading a LUT, one for each way out.
use Rattle.std.specs.Prelude.{◌≡◌, refl, Bool, false, List, ℕ, ◌%◌, ◌/◌, ◌^◌, ◌≤◌, ℤ, length, get_or, take, drop, Ok}
use Rattle.std.proofs.Common.{sym, ap₂, ◌∙◌, arith, length-take-le}
use Rattle.std.proofs.Math.Path.{ap}
use Rattle.std.proofs.Math.Bool.{true}
use Rattle.std.specs.Int.Count.{ones}
use Rattle.limits.specs.Courses.{Offered, is-long, is-short}
use Rattle.limits.specs.declared.Rules.{Rules}
use Rattle.limits.specs.Limits.{most_k}
use Rattle.sequences.specs.Listed.{listed-first}
use Rattle.net_model.specs.Arrays.{copies_from}
use Rattle.net_model.specs.ArrayLaws.{copies-listed}
use Rattle.net_model.specs.Copies.{Copy, copy}
use Rattle.cover_theory.specs.Key.{Entry}
use Rattle.net_bytes.specs.Reading.{Result as Outcome, Reader, ◌>>=◌, and_then, give, check, times, between, got, refused}
use Rattle.net_bytes.specs.Readers.{then-goes, then-stops, byte-got}
use Rattle.net_bytes.specs.Sound.{between-true}
use Rattle.net_bytes.specs.Walk.{table_bytes, from_bytes, first}
use Rattle.cover_records.specs.CoverBytes.{cover_number, depth_reader, leaves_from, rising_leaves, from_signed, lut_body, lead_reader}
use Rattle.cover_records.specs.CoverStages.{front, front_reader}
use Rattle.cover_records.specs.LutStages.{from_table, from_lags, from_leaves, from_depths, from_nodes, from_map, from_size, body_stages}
use Rattle.net_fields.specs.Fields.{field_byte, field_number}
use Rattle.net_fields.specs.FieldListLaws.{take-alike}
use Rattle.net_fields.specs.declared.CoverField.TheVariants.{Size, Map, Table}
use Rattle.net_fields.specs.declared.Field.TheVariants.{Cover}
use Rattle.net_fields.specs.declared.NumberField.TheVariants.{Leaf, Depth, Lag}
use Rattle.cover_rows.specs.LutParts.{HeadRead, Spread}
use Rattle.cover_rows.specs.LeafSpreadLaws.{leaves_from-alike}

-- ---- what stands before the LUTs

-- the rules that are offered have nothing before the period
narrow : {R : Rules} → Offered R → (s : List ℕ) → lead_reader R.wide s ≡ got 0 s
narrow is-long s = refl
narrow is-short s = refl

module _ {R : Rules} (o : Offered R) (s : List ℕ) where
  low : Reader ℕ
  low = cover_number R.wide (between 1 R.period)

  high : Reader ℕ
  high = cover_number R.wide (between 1 R.luts)

  from-period : front_reader R s ≡ and_then (low s) (λ period. high >>= λ n. give (front period n))
  unfolding low high
  from-period = then-goes (λ lead. low >>= λ period. high >>= λ n. give (front period n)) (narrow o s)

  pub period-stops : {j : ℕ} → cover_number R.wide (between 1 R.period) s ≡ refused j → front_reader R s ≡ refused j
  unfolding low
  period-stops e = from-period ∙ then-stops (λ period. high >>= λ n. give (front period n)) e

  module _ (p : ℕ) (t : List ℕ) (e : cover_number R.wide (between 1 R.period) s ≡ got p t) where
    from-count : front_reader R s ≡ and_then (high t) (λ n. give (front p n))
    unfolding low
    from-count = from-period ∙ then-goes (λ period. high >>= λ n. give (front period n)) e

    pub count-stops : {j : ℕ} → cover_number R.wide (between 1 R.luts) t ≡ refused j → front_reader R s ≡ refused j
    unfolding high
    count-stops f = from-count ∙ then-stops (λ n. give (front p n)) f

    pub front_goes : (n : ℕ) (u : List ℕ) → cover_number R.wide (between 1 R.luts) t ≡ got n u → front_reader R s ≡ got (front p n) u
    unfolding high
    front_goes n u f = from-count ∙ then-goes (λ n. give (front p n)) f

-- ---- what stands behind a root

-- a leaf count that was read is at most k
pub size_few : (k n : ℕ) (t u : List ℕ) → field_byte (Cover (Size k)) t ≡ got n u → n ≤ k
size_few k n t u e = (between-true 1 k n (byte-got 13 13 (between 1 k) t n u e)).1

module _ (s : List ℕ) (at k : ℕ) where
  pub size-stops : {j : ℕ} → field_byte (Cover (Size k)) (drop at s) ≡ refused j → (w : Bool) (nodes root : ℕ) → lut_body w nodes k root (drop at s) ≡ refused j
  size-stops f w nodes root = body_stages w nodes k root (drop at s) ∙ then-stops (from_size w nodes root) f

  module _ (n : ℕ) (u : List ℕ) (f : field_byte (Cover (Size k)) (drop at s) ≡ got n u) (p : ℕ) (is : p ≡ 2 ^ n) where
    size-goes : (w : Bool) (nodes root : ℕ) → lut_body w nodes k root (drop at s) ≡ and_then (field_byte (Cover (Map p)) u) (from_map w nodes root n)
    size-goes w nodes root =
        body_stages w nodes k root (drop at s) ∙ then-goes (from_size w nodes root) f
        ∙ ap (λ (x : ℕ). and_then (field_byte (Cover (Map x)) u) (from_map w nodes root n)) (sym is)

    pub map-stops : {j : ℕ} → field_byte (Cover (Map p)) u ≡ refused j → (w : Bool) (nodes root : ℕ) → lut_body w nodes k root (drop at s) ≡ refused j
    map-stops g w nodes root = size-goes w nodes root ∙ then-stops (from_map w nodes root n) g

    pub head-goes : (m end : ℕ) → field_byte (Cover (Map p)) u ≡ got m (drop end s) → k ≤ most_k → HeadRead s at k (Ok (record { value = record { size = n; map = m }; at = end }))
    head-goes m end g six =
        let few = size_few k n (drop at s) u f in
        record { result = λ w nodes root. size-goes w nodes root ∙ then-goes (from_map w nodes root n) g; few = omega arith }

-- the leaves of the nodes and d's in arrays
pub leaves-made : (b n m : ℕ) (S D backs : List ℕ) → n ≤ length S → ((i : ℕ) → n ≤ i → get_or S i 0 ≡ 0) → ((i : ℕ) → m ≤ i → get_or D i 0 ≡ 0) → Spread b n D backs
    → leaves_from b (take n S) (take m D) ≡ copies_from S backs 0 n
leaves-made b n m S D backs long hs hd sp =
    leaves_from-alike b (take n S) (take m D) D (take-alike m D hd) ∙ sp.result (take n S) (length-take-le n S long)
    ∙ listed-first (copies-listed (take n S) backs) (copies-listed S backs) n (λ i l. ap (λ (x : ℕ). copy x (get_or backs i 0)) (take-alike n S hs i))

module _ (w : Bool) (s : List ℕ) (at nodes n map : ℕ) where
  pub nodes-stop : {j : ℕ} → times n (field_number w (Leaf nodes)) (drop at s) ≡ refused j → (root : ℕ) → from_map w nodes root n map (drop at s) ≡ refused j
  nodes-stop e root = then-stops (from_nodes w root n map) e

  module _ (us t : List ℕ) (e : times n (field_number w (Leaf nodes)) (drop at s) ≡ got us t) (m : ℕ) (em : m ≡ ones (map % 64)) where
    nodes-go : (root : ℕ) → from_map w nodes root n map (drop at s) ≡ and_then (times m (field_number true Depth) t) (from_depths w root n map us)
    unfolding depth_reader
    nodes-go root =
        then-goes (from_nodes w root n map) e ∙ ap (λ (x : ℕ). and_then (times x (field_number true Depth) t) (from_depths w root n map us)) (sym em)

    pub depths-stop : {j : ℕ} → times m (field_number true Depth) t ≡ refused j → (root : ℕ) → from_map w nodes root n map (drop at s) ≡ refused j
    depths-stop f root = nodes-go root ∙ then-stops (from_depths w root n map us) f

    module _ (ds u : List ℕ) (f : times m (field_number true Depth) t ≡ got ds u) (L : List Copy) (is : leaves_from (map % 64) us ds ≡ L) where
      depths-go : (root : ℕ) → from_map w nodes root n map (drop at s) ≡ and_then (check (rising_leaves L) 13 L u) (from_leaves w root n map)
      depths-go root =
          nodes-go root ∙ then-goes (from_depths w root n map us) f
          ∙ ap (λ (x : List Copy). and_then (check (rising_leaves x) 13 x u) (from_leaves w root n map)) is

      pub rising-stop : rising_leaves L ≡ false → (root : ℕ) → from_map w nodes root n map (drop at s) ≡ refused 13
      rising-stop g root = depths-go root ∙ ap (λ (x : Bool). and_then (check x 13 L u) (from_leaves w root n map)) g

      pub leaves-go : rising_leaves L ≡ true → (root : ℕ) → from_map w nodes root n map (drop at s) ≡ from_leaves w root n map L u
      leaves-go g root = depths-go root ∙ ap (λ (x : Bool). and_then (check x 13 L u) (from_leaves w root n map)) g

-- the lag and the table, where q lags and b table bytes are read
module _ (w : Bool) (n map q b : ℕ) (eq : q ≡ map / 64) (eb : b ≡ table_bytes n) (root : ℕ) (L : List Copy) (t : List ℕ) where
  lags-at : from_leaves w root n map L t ≡ and_then (times q (field_number w Lag) t) (from_lags w root n L)
  lags-at = ap (λ (x : ℕ). and_then (times x (field_number w Lag) t) (from_lags w root n L)) (sym eq)

  pub lags-stop : {j : ℕ} → times q (field_number w Lag) t ≡ refused j → from_leaves w root n map L t ≡ refused j
  lags-stop e = lags-at ∙ then-stops (from_lags w root n L) e

  module _ (lags u : List ℕ) (e : times q (field_number w Lag) t ≡ got lags u) where
    lags-go : from_leaves w root n map L t ≡ and_then (times b (field_byte (Cover (Table n))) u) (from_table w root L lags)
    lags-go = lags-at ∙ then-goes (from_lags w root n L) e ∙ ap (λ (x : ℕ). and_then (times x (field_byte (Cover (Table n))) u) (from_table w root L lags)) (sym eb)

    pub table-stops : {j : ℕ} → times b (field_byte (Cover (Table n))) u ≡ refused j → from_leaves w root n map L t ≡ refused j
    table-stops f = lags-go ∙ then-stops (from_table w root L lags) f

    pub tail-goes : (T v : List ℕ) → times b (field_byte (Cover (Table n))) u ≡ got T v → (z : ℤ) (table : ℕ) → z ≡ from_signed w (first lags) → table ≡ from_bytes T
        → from_leaves w root n map L t ≡ got (record { root = root; leaves = L; lag = z; table = table }) v
    tail-goes T v f z table ez et =
        lags-go ∙ then-goes (from_table w root L lags) f
        ∙ ap₂ {C = Outcome Entry} (λ (x : ℤ) (y : ℕ). got (record { root = root; leaves = L; lag = x; table = y }) v) (sym ez) (sym et)
