-- Laws: what the reader of a cover record guarantees of the LUTs that it gives.
use Rattle.std.specs.Prelude.{◌≡◌, Bool, false, length, get_or, ℤ}
use Rattle.std.proofs.Math.Path.{subst}
use mathlib.Core.List.{List, [], ◌∷◌}
use Prim.Native.Nat.{ℕ, zero, suc, ◌+◌, ◌*◌, ◌≤◌, ◌<◌}
use native.Mathlib.Omega.{arith}
use Rattle.std.specs.Int.Signed.{mag}
use Rattle.limits.specs.Limits.{depth_room, most_k}
use Rattle.net_model.specs.Arrays.{stride, copy_at}
use Rattle.net_model.specs.ArrayLaws.{length-copies_from, in_copies_from}
use Rattle.net_model.specs.Copies.{Copy, Rising}
use Rattle.cover_theory.specs.Key.{Entry}
use Rattle.net_bytes.specs.Reading.{and_then, got}
use Rattle.net_bytes.specs.Readers.{Each, each_nil, each_cons, got-value, then-got}
use Rattle.cover_records.specs.CoverBytes.{half_range, lut_reader, luts_reader}
use Rattle.cover_records.specs.Held.{Held, lut_at, luts_in, WellHeld}
use Rattle.cover_records.specs.HeldLaws.{in_luts_in, root-lut_at, leaves-lut_at, lag-lut_at}
use Rattle.cover_rows.specs.LutFacts.{LutFacts, lut-facts}

module _ (two : Bool) (nodes k : ℕ) where
  lower : {least more : ℕ} {e : Entry} → least ≤ more → LutFacts two nodes k more e → LutFacts two nodes k least e
  lower h f = let l = f.low in record { low = omega arith; high = f.high; few = f.few; rising = f.rising; node = f.node; lag = f.lag }

  pub luts-facts : (n least : ℕ) (s : List ℕ) (es : List Entry) (end : List ℕ) → luts_reader two nodes k n least s ≡ got es end → Each (LutFacts two nodes k least) es
  unfolding luts_reader
  luts-facts zero least s es end q = let z : [] ≡ es = got-value [] s es end q in subst (Each (LutFacts two nodes k least)) z (each_nil (LutFacts two nodes k least))
  luts-facts (suc n) least s es end q =
      let x = then-got (lut_reader two nodes k least s) (λ e behind. and_then (luts_reader two nodes k n (suc e.root) behind) (λ more after. got (e ∷ more) after)) es end q in
      let y = then-got (luts_reader two nodes k n (suc x.0.root) x.1) (λ more after. got (x.0 ∷ more) after) es end x.3 in
      let z : x.0 ∷ y.0 ≡ es = got-value (x.0 ∷ y.0) y.1 es end y.3 in
      let f = lut-facts two nodes k least s x.0 x.1 x.2 in
      let g = luts-facts n (suc x.0.root) x.1 y.0 y.1 y.2 in
      let l = f.low in
      let step : least ≤ suc x.0.root = omega arith in
      subst (Each (LutFacts two nodes k least)) z (each_cons (LutFacts two nodes k least) f (λ e m. lower step (g e m)))

-- LUTs in arrays that were read are well held
module _ {two : Bool} (one : two ≡ false) (I G k n : ℕ) (a : Held) (f : Each (LutFacts two (I + G) k I) (luts_in a n))
    (lr : n ≤ length a.roots) (ls : n ≤ length a.sizes) (ln : stride * n ≤ length a.nodes) (lb : stride * n ≤ length a.backs)
    (ll : n ≤ length a.lags) (lt : n ≤ length a.tables) (six : k ≤ most_k)
    (small : (m : ℕ) → m < stride * n → get_or a.backs m 0 < depth_room) where
  at : (i : ℕ) → i < n → LutFacts two (I + G) k I (lut_at a i)
  at i h = f (lut_at a i) (in_luts_in a n i h)

  size-at : (i : ℕ) → i < n → get_or a.sizes i 0 ≤ k
  size-at i h =
      let few = subst (λ (l : List Copy). length l ≤ k) (leaves-lut_at a i) (at i h).few in
      subst (λ (m : ℕ). m ≤ k) (length-copies_from a.nodes a.backs (stride * i) (get_or a.sizes i 0)) few

  node_at : (i j : ℕ) → i < n → j < get_or a.sizes i 0 → get_or a.nodes (stride * i + j) 0 < I + G
  node_at i j h b =
      let each = subst (λ (l : List Copy). Each (λ (y : Copy). y.node < I + G) l) (leaves-lut_at a i) (at i h).node in
      each (copy_at a.nodes a.backs (stride * i + j)) (in_copies_from a.nodes a.backs (stride * i) (get_or a.sizes i 0) (stride * i + j) (omega arith) (omega arith))

  pub well-held : WellHeld I G k n a
  well-held = record {
    at_roots = lr;
    at_sizes = ls;
    at_nodes = ln;
    at_backs = lb;
    at_lags = ll;
    at_tables = lt;
    low = λ i h. subst (λ (r : ℕ). I ≤ r) (root-lut_at a i) (at i h).low;
    high = λ i h. subst (λ (r : ℕ). r < I + G) (root-lut_at a i) (at i h).high;
    few = size-at;
    rising = λ i h. subst Rising (leaves-lut_at a i) (at i h).rising;
    node = node_at;
    back = λ i j h b. let s = size-at i h in small (stride * i + j) (omega arith);
    lag = λ i h. subst (λ (z : ℤ). mag z ≤ 128) (lag-lut_at a i) (subst (λ (w : Bool). mag (lut_at a i).lag ≤ half_range w) one (at i h).lag);
  }
