-- Bytes written one behind the other.
use Rattle.std.specs.Prelude.{◌≡◌, refl, List, [], ◌∷◌, ◌++◌, ℕ, ◌+◌, ◌-◌, ◌≤◌, ◌<◌}
use Rattle.std.proofs.Common.{ap, ◌∙◌, append_assoc, append-nil, not-suc-le-zero, le_of_suc-le-suc, arith, drop-drop}
use lib.ListN.{length, set, drop, length-append, length-drop}
use Rattle.std.proofs.Math.Seq.{take-append_seam, drop-append_seam, take-length, drop-length}
use borrow.Rule.Slice.PartMut.{mid_of, put_mid}
use Rattle.cover_records.specs.Outcomes.{written}
use Rattle.cover_writer.specs.Writing.{Wrote}

pub length-written : (bytes area : List ℕ) → length bytes ≤ length area → length (written bytes area) ≡ length area
length-written bytes area h = simp (length-append, length-drop) (omega arith)

pub wrote-length : {bytes before after : List ℕ} {r : ℕ} → length bytes ≤ length before → Wrote bytes before after r → length after ≡ length before
wrote-length {bytes} {before} h w = ap length w.area ∙ length-written bytes before h

pub wrote-fits : {bytes before after : List ℕ} {r : ℕ} → length bytes ≤ length before → Wrote bytes before after r → r ≤ length after
wrote-fits h w = let e = wrote-length h w in let c = w.count in omega arith

pub wrote_none : (area : List ℕ) → Wrote [] area area 0
wrote_none area = record { count = refl; area = refl }

-- one byte more
pub set_next : (bytes area : List ℕ) (v : ℕ) → length bytes < length area → set (written bytes area) (length bytes) v ≡ written (bytes ++ (v ∷ [])) area
set_next [] [] v h = absurd (not-suc-le-zero h)
set_next [] (x ∷ s) v h = refl
set_next (b ∷ bs) [] v h = absurd (not-suc-le-zero h)
set_next (b ∷ bs) (x ∷ s) v h = ap (λ (l : List ℕ). b ∷ l) (set_next bs s v (le_of_suc-le-suc h))

pub wrote-next : {bytes before after : List ℕ} {r : ℕ} (v : ℕ) → r < length before → Wrote bytes before after r → Wrote (bytes ++ (v ∷ [])) before (set after r v) (r + 1)
wrote-next {bytes} {before} {after} {r} v h w = record {
  count = let c = w.count in omega (arith, length-append bytes (v ∷ []));
  area =
      let c = w.count in
      rw (w.area, c) (set_next bytes before v (omega arith));
}

-- there is room for what comes behind
pub room-behind : {a before after : List ℕ} {n : ℕ} (b : List ℕ) → Wrote a before after n → length (a ++ b) ≤ length before → length b ≤ length (mid_of n (length after - n) after)
room-behind {a} {before} {after} {n} b w h =
    let c = w.count in
    let l = length-append a b in
    let e = wrote-length (omega arith) w in
    simp (lib.ListN.length-take, length-drop) (omega arith)

-- **Bytes written into the part behind others: all stand one behind the other.**
pub wrote-behind : {a b before after last : List ℕ} {n r : ℕ} → Wrote a before after n → Wrote b (mid_of n (length after - n) after) last r → Wrote (a ++ b) before (put_mid n (length after - n) after last) (n + r)
wrote-behind {a} {b} {before} {after} {last} {n} {r} w v = record {
  count = let c = w.count in let d = v.count in omega (arith, length-append a b);
  area = rw (v.area, w.area, w.count) joined;
}
  where
    D : List ℕ
    D = drop (length a) before

    rest : length (a ++ D) - length a ≡ length D
    rest = let l = length-append a D in omega arith

    joined : put_mid (length a) (length (a ++ D) - length a) (a ++ D) (written b (mid_of (length a) (length (a ++ D) - length a) (a ++ D))) ≡ written (a ++ b) before
    joined =
        rw (rest, take-append_seam a D, drop-append_seam a D, take-length D, drop-length D)
        (rw (append-nil, append_assoc, length-append, drop-drop) refl)

-- their number is no more than the room
pub wrote-within : {a b before after last : List ℕ} {n r : ℕ} → Wrote a before after n → Wrote b (mid_of n (length after - n) after) last r → length (a ++ b) ≤ length before → n + r ≤ length before
wrote-within w v h = let e = (wrote-behind w v).count in omega arith
