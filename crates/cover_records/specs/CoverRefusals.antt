-- Laws: a cover record is refused with 13 alone.
use Rattle.std.specs.Prelude.{◌≡◌, refl, Bool, true, false, List, [], ◌∷◌, ℕ, zero, suc, ◌%◌}
use Rattle.limits.specs.declared.Rules.{Rules}
use Rattle.net_model.specs.Net.{Net, size}
use Rattle.net_bytes.specs.Reading.{Result}
use Rattle.net_bytes.specs.Refusals as law
use Rattle.cover_records.specs.CoverBytes.{not_zero, cover_byte, cover_number, depth_reader, leaves_from, rising_leaves, lut_body, lut_reader, luts_reader, lead_reader, cover_reader}

abbrev Is13 : ℕ → Type 0
Is13 n = n ≡ 13

-- no other number
abbrev pub Only13 : {A : Type 0} → Result A → Type 0
Only13 r = law.Only Is13 r

only-byte : (ok : ℕ → Bool) (s : List ℕ) → Only13 (cover_byte ok s)
only-byte ok s = law.only-byte Is13 13 13 ok s refl refl

only-number : (w : Bool) (ok : ℕ → Bool) (s : List ℕ) → Only13 (cover_number w ok s)
only-number w ok s = law.only-number Is13 w 13 13 ok s refl refl

only-depth : (s : List ℕ) → Only13 (depth_reader s)
unfolding depth_reader
only-depth s = only-number true not_zero s

pub only-body : (w : Bool) (nodes k root : ℕ) (s : List ℕ) → Only13 (lut_body w nodes k root s)
unfolding lut_body
only-body w nodes k root s =
    law.only_then Is13 _ _ (only-byte _ s) λ n s2.
    law.only_then Is13 _ _ (only-byte _ s2) λ m s3.
    law.only_then Is13 _ _ (law.only-times Is13 _ (only-number w _) n s3) λ us s4.
    law.only_then Is13 _ _ (law.only-times Is13 _ only-depth _ s4) λ ds s5.
    law.only_then Is13 _ _ (law.only-check Is13 (rising_leaves (leaves_from (m % 64) us ds)) 13 (leaves_from (m % 64) us ds) s5 refl) λ L s6.
    law.only_then Is13 _ _ (law.only-times Is13 _ (only-number w _) _ s6) λ lags s7.
    law.only_then Is13 _ _ (law.only-times Is13 _ (only-byte _) _ s7) λ table s8. law.only-got Is13 _ s8

only-lut : (w : Bool) (nodes k least : ℕ) (s : List ℕ) → Only13 (lut_reader w nodes k least s)
unfolding lut_reader
only-lut w nodes k least s = law.only_then Is13 _ _ (only-number w _ s) λ root s1. only-body w nodes k root s1

only-luts : (w : Bool) (nodes k n least : ℕ) (s : List ℕ) → Only13 (luts_reader w nodes k n least s)
unfolding luts_reader
only-luts w nodes k zero least s = law.only-got Is13 [] s
only-luts w nodes k (suc n) least s =
    law.only_then Is13 _ _ (only-lut w nodes k least s) λ e t.
    law.only_then Is13 _ _ (only-luts w nodes k n (suc e.root) t) λ es u. law.only-got Is13 (e ∷ es) u

only-lead : (w : Bool) (s : List ℕ) → Only13 (lead_reader w s)
only-lead false s = law.only-got Is13 0 s
only-lead true s = only-byte _ s

pub only-cover : (R : Rules) (N : Net) (k : ℕ) (s : List ℕ) → Only13 (cover_reader R N k s)
unfolding cover_reader
only-cover R N k s =
    law.only_then Is13 _ _ (only-lead R.wide s) λ lead r.
    law.only_then Is13 _ _ (only-number R.wide _ r) λ period t.
    law.only_then Is13 _ _ (only-number R.wide _ t) λ n u.
    law.only_then Is13 _ _ (only-luts R.wide (size N) k n N.inputs u) λ es v. law.only_end Is13 13 (record { period = period; entries = es }) v refl
