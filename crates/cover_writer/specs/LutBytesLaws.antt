-- The parts of a LUT's record, as the loops write them.
use Rattle.std.specs.Prelude.{◌≡◌, refl, Bool, true, false, cond, List, [], ◌∷◌, ◌++◌, map, ℕ, zero, suc, ◌+◌, ◌-◌, ◌*◌, ◌/◌, ◌%◌, ◌^◌, ◌≤◌, ◌<◌, ℤ, length, get_or}
use Rattle.std.proofs.Common.{sym, ap, ap₂, ◌∙◌, subst, append_assoc, add-zero, add-suc, suc-add, pow-suc, mul_comm, add-one, arith, ne_eqb, length-append}
use Rattle.std.proofs.Math.Nat.{div-div-eq-div-mul}
use Rattle.std.proofs.lemmas.List.{length-map}
use Rattle.limits.specs.Limits.{depth_room, most_pins}
use Rattle.net_model.specs.Arrays.{copy_at, copies_from}
use Rattle.net_model.specs.ArrayLaws.{length-copies_from}
use Rattle.net_model.specs.Copies.{Copy, copy}
use Rattle.net_model.specs.Tables.{as_number}
use Rattle.cover_records.specs.RoundTrip.{leaf_map-small}
use Rattle.cover_records.specs.CoverBytes.{to_bytes, not_zero, leaf_map, depths, is_zero, lag_bytes, lut_bytes}
use Rattle.net_bytes.specs.Walk.{table_bytes}
use Rattle.cover_writer.specs.Writing.{leaf_bytes, value_bytes, lut_of}

-- ---- leaves

pub copies_snoc : (nodes backs : List ℕ) (at n : ℕ) → copies_from nodes backs at (suc n) ≡ copies_from nodes backs at n ++ (copy_at nodes backs (at + n) ∷ [])
unfolding copies_from
copies_snoc nodes backs at zero = ap (λ (i : ℕ). copy_at nodes backs i ∷ []) (sym (add-zero at))
copies_snoc nodes backs at (suc n) =
    ap (λ (l : List Copy). copy_at nodes backs at ∷ l)
    (copies_snoc nodes backs (suc at) n ∙ ap (λ (i : ℕ). copies_from nodes backs (suc at) n ++ (copy_at nodes backs i ∷ [])) (suc-add at n ∙ sym (add-suc at n)))

abbrev pub nodes_of : List Copy → List ℕ
nodes_of L = map (λ (y : Copy). y.node) L

nodes_append : (L M : List Copy) → nodes_of (L ++ M) ≡ nodes_of L ++ nodes_of M
nodes_append [] M = refl
nodes_append (y ∷ L) M = ap (λ (l : List ℕ). y.node ∷ l) (nodes_append L M)

pub nodes-none : (nodes backs : List ℕ) (at : ℕ) → nodes_of (copies_from nodes backs at 0) ≡ []
unfolding copies_from
nodes-none nodes backs at = refl

-- the nodes of one leaf more
pub nodes-next : (nodes backs : List ℕ) (at n : ℕ) → nodes_of (copies_from nodes backs at (suc n)) ≡ nodes_of (copies_from nodes backs at n) ++ (get_or nodes (at + n) 0 ∷ [])
nodes-next nodes backs at n = ap nodes_of (copies_snoc nodes backs at n) ∙ nodes_append (copies_from nodes backs at n) (copy_at nodes backs (at + n) ∷ [])

depths_append : (L M : List Copy) → depths (L ++ M) ≡ depths L ++ depths M
unfolding depths
depths_append [] M = refl
depths_append (y ∷ L) M = go (not_zero y.back) (depths_append L M)
  where
    d : List ℕ
    d = to_bytes 2 y.back

    go : (t : Bool) → depths (L ++ M) ≡ depths L ++ depths M → cond t (d ++ depths (L ++ M)) (depths (L ++ M)) ≡ cond t (d ++ depths L) (depths L) ++ depths M
    go true h = ap (λ (l : List ℕ). d ++ l) h ∙ sym (append_assoc d (depths L) (depths M))
    go false h = h

-- the node of a leaf does not matter to its d, nor its d to its node
pub depths-one : (u d : ℕ) → depths (copy u d ∷ []) ≡ depths (copy 0 d ∷ [])
unfolding depths
depths-one u d = refl

pub depths-none : (d : ℕ) → d ≡ 0 → depths (copy 0 d ∷ []) ≡ []
unfolding depths
depths-none d e = rw e refl

pub depths-two : (d : ℕ) → (d ≡ 0 → ⊥) → d < depth_room → depths (copy 0 d ∷ []) ≡ d % 256 ∷ d / 256 ∷ []
unfolding depths to_bytes
depths-two d n h =
    let e : d / 256 % 256 ≡ d / 256 = omega arith in
    rw (ne_eqb d 0 n, e) refl

pub depths-zero : (nodes backs : List ℕ) (at : ℕ) → depths (copies_from nodes backs at 0) ≡ []
unfolding copies_from depths
depths-zero nodes backs at = refl

-- the d's of one leaf more
pub depths-next : (nodes backs : List ℕ) (at n : ℕ) → depths (copies_from nodes backs at (suc n)) ≡ depths (copies_from nodes backs at n) ++ depths (copy 0 (get_or backs (at + n) 0) ∷ [])
depths-next nodes backs at n =
    ap depths (copies_snoc nodes backs at n) ∙ depths_append (copies_from nodes backs at n) (copy_at nodes backs (at + n) ∷ [])
    ∙ ap (λ (l : List ℕ). depths (copies_from nodes backs at n) ++ l) (depths-one (get_or nodes (at + n) 0) (get_or backs (at + n) 0))

-- some leaves have no more of them than all
pub depths-within : (nodes backs : List ℕ) (at i n : ℕ) → i ≤ n → length (depths (copies_from nodes backs at i)) ≤ length (depths (copies_from nodes backs at n))
depths-within nodes backs at i n h = subst (λ (m : ℕ). length (depths (copies_from nodes backs at i)) ≤ length (depths (copies_from nodes backs at m))) (whole i n h) (go (n - i))
  where
    whole : (i n : ℕ) → i ≤ n → (n - i) + i ≡ n
    whole i n h = omega arith

    go : (m : ℕ) → length (depths (copies_from nodes backs at i)) ≤ length (depths (copies_from nodes backs at (m + i)))
    go zero = let e : 0 + i ≡ i = omega arith in rw e (omega arith)
    go (suc m) =
        let e : suc m + i ≡ suc (m + i) = omega arith in
        let a = go m in
        let b = ap length (depths-next nodes backs at (m + i)) in
        rw e (omega (arith, length-append (depths (copies_from nodes backs at (m + i))) (depths (copy 0 (get_or backs (at + (m + i)) 0) ∷ []))))

pub nodes-alone : (nodes backs : List ℕ) (at n : ℕ) → nodes_of (copies_from nodes [] at n) ≡ nodes_of (copies_from nodes backs at n)
unfolding copies_from
nodes-alone nodes backs at zero = refl
nodes-alone nodes backs at (suc n) = ap (λ (l : List ℕ). get_or nodes at 0 ∷ l) (nodes-alone nodes backs (suc at) n)

pub depths-alone : (nodes backs : List ℕ) (at n : ℕ) → depths (copies_from [] backs at n) ≡ depths (copies_from nodes backs at n)
unfolding copies_from depths
depths-alone nodes backs at zero = refl
depths-alone nodes backs at (suc n) = ap (λ (l : List ℕ). cond (not_zero (get_or backs at 0)) (to_bytes 2 (get_or backs at 0) ++ l) l) (depths-alone nodes backs (suc at) n)

pub leaf_map-alone : (nodes backs : List ℕ) (at n : ℕ) → leaf_map (copies_from [] backs at n) ≡ leaf_map (copies_from nodes backs at n)
unfolding copies_from leaf_map
leaf_map-alone nodes backs at zero = refl
leaf_map-alone nodes backs at (suc n) = ap (λ (m : ℕ). as_number (not_zero (get_or backs at 0)) + 2 * m) (leaf_map-alone nodes backs (suc at) n)

-- the map of the leaves from leaf j on
unfoldable pub map_from : List ℕ → ℕ → ℕ → ℕ → ℕ
map_from backs at n j = leaf_map (copies_from [] backs (at + j) (n - j))

pub map-none : (backs : List ℕ) (at n : ℕ) → map_from backs at n n ≡ 0
unfolding map_from copies_from leaf_map
map-none backs at n = let e : n - n ≡ 0 = omega arith in rw e refl

pub map-all : (backs : List ℕ) (at n : ℕ) → map_from backs at n 0 ≡ leaf_map (copies_from [] backs at n)
unfolding map_from
map-all backs at n = let e : at + 0 ≡ at = omega arith in let f : n - 0 ≡ n = omega arith in rw (e, f) refl

pub map_more : (backs : List ℕ) (at n j : ℕ) → j < n → map_from backs at n j ≡ as_number (not_zero (get_or backs (at + j) 0)) + 2 * map_from backs at n (suc j)
unfolding map_from copies_from leaf_map
map_more backs at n j h =
    let e : n - j ≡ suc (n - suc j) = omega arith in
    let f : suc (at + j) ≡ at + suc j = omega arith in
    rw (e, ← f) refl

-- at most six leaves give a map below 64
pub map_below : (nodes backs : List ℕ) (at n : ℕ) → n ≤ most_pins → leaf_map (copies_from nodes backs at n) < 64
map_below nodes backs at n h =
    let a = leaf_map-small (copies_from nodes backs at n) in
    let b = length-copies_from nodes backs at n in
    let c : 2 ^ length (copies_from nodes backs at n) ≤ 2 ^ most_pins = lib.Pow.pow_mono {i = length (copies_from nodes backs at n)} {j = most_pins} (omega arith) in
    omega arith

pub map-small : (backs : List ℕ) (at n j : ℕ) → n ≤ most_pins → map_from backs at n j < 64
unfolding map_from
map-small backs at n j h = map_below [] backs (at + j) (n - j) (omega arith)

-- ---- the table

pub to_bytes_none : (w : ℕ) → to_bytes 0 w ≡ []
unfolding to_bytes
to_bytes_none w = refl

pub to_bytes_next : (n w : ℕ) → to_bytes (suc n) w ≡ to_bytes n w ++ (w / 256 ^ n % 256 ∷ [])
unfolding to_bytes
to_bytes_next zero w = let e : w / 1 ≡ w = omega arith in rw e refl
to_bytes_next (suc n) w =
    ap (λ (l : List ℕ). w % 256 ∷ l)
    (to_bytes_next n (w / 256) ∙ ap (λ (q : ℕ). to_bytes n (w / 256) ++ (q % 256 ∷ [])) (div-div-eq-div-mul w 256 (256 ^ n) ∙ ap (λ (m : ℕ). w / m) (mul_comm 256 (256 ^ n) ∙ sym (pow-suc 256 n))))

-- what is left of a number behind its low bytes
pub shift_none : (w : ℕ) → w / 256 ^ 0 ≡ w
shift_none w = omega arith

pub shift-next : (n w : ℕ) → w / 256 ^ n / 256 ≡ w / 256 ^ (n + 1)
shift-next n w = div-div-eq-div-mul w (256 ^ n) 256 ∙ ap (λ (m : ℕ). w / m) (sym (ap (λ (i : ℕ). 256 ^ i) (add-one n) ∙ pow-suc 256 n))

-- ---- the parts of a LUT

pub leaf-bytes : (nodes backs : List ℕ) (at n : ℕ) → leaf_bytes (copies_from nodes backs at n) ≡ nodes_of (copies_from nodes [] at n) ++ depths (copies_from [] backs at n)
unfolding leaf_bytes
leaf-bytes nodes backs at n = sym (ap₂ (λ (l m : List ℕ). l ++ m) (nodes-alone nodes backs at n) (depths-alone nodes backs at n))

pub length-nodes : (nodes backs : List ℕ) (at n : ℕ) → length (nodes_of (copies_from nodes backs at n)) ≡ n
length-nodes nodes backs at n = length-map (copies_from nodes backs at n) (λ (y : Copy). y.node) ∙ length-copies_from nodes backs at n

pub value-bytes : (lag : ℤ) (n table : ℕ) → value_bytes lag n table ≡ lag_bytes false lag ++ to_bytes (table_bytes n) table
unfolding value_bytes
value-bytes lag n table = refl

-- the first three bytes
abbrev pub head_bytes : ℕ → ℕ → ℕ → List ℕ
head_bytes root n map = root ∷ n ∷ map ∷ []

pub lut-bytes : (root : ℕ) (nodes backs : List ℕ) (at n : ℕ) (lag : ℤ) (table : ℕ)
    → lut_bytes false (lut_of root nodes backs at n lag table)
    ≡ (head_bytes root n (leaf_map (copies_from [] backs at n) + cond (is_zero lag) 0 64) ++ leaf_bytes (copies_from nodes backs at n)) ++ value_bytes lag n table
unfolding lut_bytes leaf_bytes value_bytes
lut-bytes root nodes backs at n lag table =
    ap₂ (λ (k m : ℕ). root ∷ k ∷ (m + flag) ∷ nodes_of L ++ depths L ++ lag_bytes false lag ++ to_bytes (table_bytes k) table) (length-copies_from nodes backs at n) (sym (leaf_map-alone nodes backs at n))
    ∙ ap (λ (l : List ℕ). root ∷ n ∷ (leaf_map (copies_from [] backs at n) + flag) ∷ l) (append_assoc (nodes_of L ++ depths L) (lag_bytes false lag) (to_bytes (table_bytes n) table))
  where
    L : List Copy
    L = copies_from nodes backs at n

    flag : ℕ
    flag = cond (is_zero lag) 0 64
