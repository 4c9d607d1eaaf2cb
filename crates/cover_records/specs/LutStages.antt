-- The readers of a LUT in stages: the same readers, each field with what comes behind it.
use Rattle.std.specs.Prelude.{◌≡◌, refl, Bool, List, ℕ, ◌/◌, ◌%◌, ltb}
use Rattle.std.specs.Int.Count.{ones}
use Rattle.net_model.specs.Copies.{Copy}
use Rattle.cover_theory.specs.Key.{Entry}
use Rattle.net_bytes.specs.Reading.{Reader, and_then, ◌>>=◌, give, check, times, between}
use Rattle.net_bytes.specs.Walk.{table_byte, table_bytes, from_bytes, first}
use Rattle.cover_records.specs.CoverBytes.{cover_byte, cover_number, not_zero, leaf_map_ok, depth_reader, leaves_from, rising_leaves, from_signed, root_reader, lut_body, lut_reader}

abbrev pub from_table : Bool → ℕ → List Copy → List ℕ → List ℕ → Reader Entry
from_table w root L lags t = give (record { root = root; leaves = L; lag = from_signed w (first lags); table = from_bytes t })

abbrev pub from_lags : Bool → ℕ → ℕ → List Copy → List ℕ → Reader Entry
from_lags w root n L lags = times (table_bytes n) (cover_byte (table_byte n)) >>= from_table w root L lags

abbrev pub from_leaves : Bool → ℕ → ℕ → ℕ → List Copy → Reader Entry
from_leaves w root n m L = times (m / 64) (cover_number w not_zero) >>= from_lags w root n L

abbrev pub from_depths : Bool → ℕ → ℕ → ℕ → List ℕ → List ℕ → Reader Entry
from_depths w root n m us ds = check (rising_leaves (leaves_from (m % 64) us ds)) 13 (leaves_from (m % 64) us ds) >>= from_leaves w root n m

abbrev pub from_nodes : Bool → ℕ → ℕ → ℕ → List ℕ → Reader Entry
from_nodes w root n m us = times (ones (m % 64)) depth_reader >>= from_depths w root n m us

abbrev pub from_map : Bool → ℕ → ℕ → ℕ → ℕ → Reader Entry
from_map w nodes root n m = times n (cover_number w (λ b. ltb b nodes)) >>= from_nodes w root n m

abbrev pub from_size : Bool → ℕ → ℕ → ℕ → Reader Entry
from_size w nodes root n = cover_byte (leaf_map_ok n) >>= from_map w nodes root n

pub body_stages : (w : Bool) (nodes k root : ℕ) (s : List ℕ) → lut_body w nodes k root s ≡ and_then (cover_byte (between 1 k) s) (from_size w nodes root)
unfolding lut_body
body_stages w nodes k root s = refl

pub lut_stages : (w : Bool) (nodes k least : ℕ) (s : List ℕ) → lut_reader w nodes k least s ≡ and_then (root_reader w nodes least s) (lut_body w nodes k)
unfolding lut_reader
lut_stages w nodes k least s = refl
