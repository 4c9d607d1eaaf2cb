-- The executable definitions, shown right on document 01's examples by computation.
use Rattle.std.specs.Prelude.{◌≡◌, refl, true, List, [], ◌∷◌, ◌++◌, ℕ, ℤ, pos, negsuc, take}
use Rattle.std.specs.Int.Count.{ones, ones_in}
use Rattle.limits.specs.Courses.{long}
use Rattle.limits.specs.declared.Rules.{Rules}
use Rattle.integers.specs.Lag.{lag, ceil_div}
use Rattle.net_model.specs.Net.{Net, gate}
use Rattle.net_model.specs.Copies.{Copy, copy}
use Rattle.net_model.specs.Tables.{table_of, pack, value_in, at_leaf}
use Rattle.cover_theory.specs.Key.{Entry}
use Rattle.cover_theory.specs.SharedRegisters.{longest, over_nodes, shared_count}
use Rattle.net_bytes.specs.Reading.{Result, got, refused, times}
use Rattle.net_bytes.specs.Walk.{net_reader, drawn_reader, body_reader, gate_reader, output_reader, pins_from, from_bytes}
use Rattle.cover_records.specs.CoverBytes.{Record, cover_bytes, all_lut_bytes, lut_bytes, depths, leaf_map, to_bytes, cover_reader, luts_reader, lut_reader, lut_body, depth_reader, leaves_from, rising_leaves}
use Rattle.cover_records.specs.Listing.{cover_text, refusal_text, lut_lines, lut_line, leaf_text, table_text, hex_low, signed, decimal, digit_text, reversed, digits_low, register_count, entry_taps, lut_taps, leaf_taps, output_taps, lag_in}
use Rattle.job_find.specs.RootLookup.{found, absent, turned_back, look_luts, look_reader, look_up, find_root}
use Rattle.examples.specs.Nets.{pin, bytes_a, net_a, bytes_b, net_b, bytes_c, net_c, entries_a, labels_a, record_a}

-- ---- the walk over the net's bytes

reads-A : net_reader long 2 bytes_a ≡ got net_a []
unfolding net_reader drawn_reader body_reader gate_reader output_reader pins_from from_bytes times ones ones_in
reads-A = refl

reads-B : net_reader long 2 bytes_b ≡ got net_b []
unfolding net_reader drawn_reader body_reader gate_reader output_reader pins_from from_bytes times ones ones_in
reads-B = refl

reads-C : net_reader long 2 bytes_c ≡ got net_c []
unfolding net_reader drawn_reader body_reader gate_reader output_reader pins_from from_bytes times ones ones_in
reads-C = refl

-- the empty net, and one that ends behind its first byte
ends-early : (net_reader long 2 [] ≡ refused 4) × (net_reader long 2 (1 ∷ []) ≡ refused 4)
unfolding net_reader drawn_reader body_reader gate_reader output_reader pins_from from_bytes times ones ones_in
ends-early = (refl, refl)

-- 17 inputs; 33 gates
out_of_range : (net_reader long 2 (17 ∷ []) ≡ refused 5) × (net_reader long 2 (1 ∷ 33 ∷ []) ≡ refused 5)
unfolding net_reader drawn_reader body_reader gate_reader output_reader pins_from from_bytes times ones ones_in
out_of_range = (refl, refl)

-- a pin map of 0; a register bit without its pin; a source that is no node; a count of 4; a spare table bit
forbidden_bytes :
    (net_reader long 2 (1 ∷ 1 ∷ 1 ∷ 0 ∷ []) ≡ refused 6) × (net_reader long 2 (1 ∷ 1 ∷ 1 ∷ 1 ∷ 2 ∷ []) ≡ refused 6)
    × (net_reader long 2 (1 ∷ 1 ∷ 1 ∷ 1 ∷ 0 ∷ 2 ∷ []) ≡ refused 6) × (net_reader long 2 (1 ∷ 1 ∷ 1 ∷ 1 ∷ 1 ∷ 0 ∷ 4 ∷ []) ≡ refused 6)
    × (net_reader long 2 (1 ∷ 1 ∷ 1 ∷ 1 ∷ 0 ∷ 0 ∷ 4 ∷ []) ≡ refused 6)
unfolding net_reader drawn_reader body_reader gate_reader output_reader pins_from from_bytes times ones ones_in
forbidden_bytes = (refl, refl, refl, refl, refl)

-- three pins at k 2, told before the register map is read
too_many-pins : net_reader long 2 (1 ∷ 1 ∷ 1 ∷ 7 ∷ []) ≡ refused 7
unfolding net_reader drawn_reader body_reader gate_reader output_reader pins_from from_bytes times ones ones_in
too_many-pins = refl

bytes_follow : net_reader long 2 (bytes_c ++ 0 ∷ []) ≡ refused 8
unfolding net_reader drawn_reader body_reader gate_reader output_reader pins_from from_bytes times ones ones_in
bytes_follow = refl

-- ---- tables

-- A's LUTs at k 2 and at k 3
tables-A :
    (table_of net_a 2 (copy 2 0 ∷ []) (copy 0 0 ∷ copy 1 0 ∷ []) ≡ 8)
    × (table_of net_a 4 (copy 4 0 ∷ copy 3 0 ∷ []) (copy 2 0 ∷ copy 4 1 ∷ []) ≡ 9)
    × (table_of net_a 4 (copy 4 0 ∷ copy 3 0 ∷ copy 2 0 ∷ []) (copy 0 0 ∷ copy 1 0 ∷ copy 4 1 ∷ []) ≡ 0x87)
unfolding table_of pack value_in at_leaf gate
tables-A = (refl, refl, refl)

-- B's LUTs at k 2, and its one LUT at k 3
tables-B :
    (table_of net_b 3 (copy 3 0 ∷ []) (copy 0 0 ∷ copy 1 0 ∷ []) ≡ 8) × (table_of net_b 4 (copy 4 0 ∷ []) (copy 2 0 ∷ copy 3 0 ∷ []) ≡ 8)
    × (table_of net_b 4 (copy 4 0 ∷ copy 3 0 ∷ []) (copy 0 0 ∷ copy 1 0 ∷ copy 2 0 ∷ []) ≡ 0x80)
unfolding table_of pack value_in at_leaf gate
tables-B = (refl, refl, refl)

table-C : table_of net_c 2 (copy 2 0 ∷ []) (copy 0 1 ∷ copy 1 1 ∷ []) ≡ 8
unfolding table_of pack value_in at_leaf gate
table-C = refl

-- ---- the cover record

writes-A : cover_bytes long 2 entries_a ≡ record_a
unfolding cover_bytes all_lut_bytes lut_bytes depths leaf_map to_bytes
writes-A = refl

reads_record-A : cover_reader long net_a 2 record_a ≡ got (record { period = 2; entries = entries_a }) []
unfolding cover_reader luts_reader lut_reader lut_body depth_reader leaves_from rising_leaves times from_bytes ones ones_in
reads_record-A = refl

-- an early end; bytes over; a period of 0; a root that is no gate; leaves that do not rise; a stored d of 0; a spare table bit
broken-layout :
    (cover_reader long net_a 2 (2 ∷ []) ≡ refused 13) × (cover_reader long net_a 2 (record_a ++ 0 ∷ []) ≡ refused 13)
    × (cover_reader long net_a 2 (0 ∷ 1 ∷ []) ≡ refused 13) × (cover_reader long net_a 2 (1 ∷ 1 ∷ 1 ∷ 1 ∷ 0 ∷ 0 ∷ 2 ∷ []) ≡ refused 13)
    × (cover_reader long net_a 2 (1 ∷ 1 ∷ 2 ∷ 2 ∷ 0 ∷ 1 ∷ 0 ∷ 8 ∷ []) ≡ refused 13)
    × (cover_reader long net_a 2 (1 ∷ 1 ∷ 2 ∷ 2 ∷ 1 ∷ 0 ∷ 1 ∷ 0 ∷ 0 ∷ 8 ∷ []) ≡ refused 13)
    × (cover_reader long net_a 2 (1 ∷ 1 ∷ 2 ∷ 2 ∷ 0 ∷ 0 ∷ 1 ∷ 16 ∷ []) ≡ refused 13)
unfolding cover_reader luts_reader lut_reader lut_body depth_reader leaves_from rising_leaves times from_bytes ones ones_in
broken-layout = (refl, refl, refl, refl, refl, refl, refl)

-- E1: the roots of A's record stand at 2 and 8, and 3 has no LUT; a root ends the reading, so nothing behind it is missed; bytes over do no harm
roots-A :
    (find_root 2 record_a ≡ found 2) × (find_root 4 record_a ≡ found 8) × (find_root 3 record_a ≡ absent) × (find_root 300 record_a ≡ absent)
    × (find_root 4 (take 9 record_a) ≡ found 8) × (find_root 3 (take 9 record_a) ≡ absent) × (find_root 5 (take 9 record_a) ≡ turned_back 19)
    × (find_root 5 (record_a ++ 0 ∷ []) ≡ absent) × (find_root 0 [] ≡ turned_back 19) × (find_root 2 (255 ∷ 2 ∷ 2 ∷ []) ≡ turned_back 19)
unfolding look_up look_reader look_luts lut_body depth_reader leaves_from rising_leaves times from_bytes ones ones_in
roots-A = (refl, refl, refl, refl, refl, refl, refl, refl, refl, refl)

-- the same record with numbers of two bytes
roots-A-wide : (R : Rules) → R ≡ record { wide = true; gates = 300; most = 6; period = 300; luts = 300; area = 0; scratch = 0 }
    → look_up R 4 (255 ∷ 2 ∷ 0 ∷ 2 ∷ 0 ∷ 2 ∷ 0 ∷ 2 ∷ 0 ∷ 0 ∷ 0 ∷ 1 ∷ 0 ∷ 8 ∷ 4 ∷ 0 ∷ 2 ∷ 2 ∷ 2 ∷ 0 ∷ 4 ∷ 0 ∷ 1 ∷ 0 ∷ 9 ∷ []) ≡ found 14
unfolding look_up look_reader look_luts lut_body depth_reader leaves_from rising_leaves times from_bytes ones ones_in
roots-A-wide R e = rw e refl

-- ---- lags and the listing

-- "Lags at φ 2 for labels −2, 0, 2, 3: −2, −1, 0, 1."
lags : (lag 2 (negsuc 1) ≡ negsuc 1) × (lag 2 (pos 0) ≡ negsuc 0) × (lag 2 (pos 2) ≡ pos 0) × (lag 2 (pos 3) ≡ pos 1)
unfolding lag ceil_div
lags = (refl, refl, refl, refl)

-- readers of one node share a chain, and inputs are nodes: gate 2 of C, with lag −1, is read through 1 and 2 registers, input 0 through none, 2 and 1
shared-C : register_count (record { inputs = 2; gates = net_c.gates; outputs = pin 2 0 ∷ pin 2 1 ∷ pin 0 2 ∷ pin 0 1 ∷ [] })
    (record { root = 2; leaves = copy 0 1 ∷ copy 1 1 ∷ []; lag = negsuc 0; table = 8 } ∷ []) ≡ 4
unfolding register_count shared_count over_nodes longest entry_taps lut_taps leaf_taps output_taps lag_in
shared-C = refl

-- A's listing, byte for byte
listing-A : cover_text net_a 2 labels_a entries_a ≡
    112 ∷ 101 ∷ 114 ∷ 105 ∷ 111 ∷ 100 ∷ 32 ∷ 50 ∷ 32 ∷ 108 ∷ 117 ∷ 116 ∷ 115 ∷ 32 ∷ 50 ∷ 32 ∷ 114 ∷ 101 ∷ 103 ∷ 105 ∷ 115 ∷ 116 ∷ 101 ∷ 114 ∷ 115 ∷ 32 ∷ 49 ∷ 10 ∷ 108 ∷ 117 ∷ 116 ∷ 32 ∷ 50 ∷ 32 ∷ 108 ∷ 97 ∷ 98 ∷ 101 ∷ 108 ∷ 32 ∷ 49 ∷ 32 ∷ 108 ∷ 97 ∷ 103 ∷ 32 ∷ 48 ∷ 32 ∷ 116 ∷ 97 ∷ 98 ∷ 108 ∷ 101 ∷ 32 ∷ 56 ∷ 32 ∷ 108 ∷ 101 ∷ 97 ∷ 118 ∷ 101 ∷ 115 ∷ 32 ∷ 48 ∷ 58 ∷ 48 ∷ 32 ∷ 49 ∷ 58 ∷ 48 ∷ 10 ∷ 108 ∷ 117 ∷ 116 ∷ 32 ∷ 52 ∷ 32 ∷ 108 ∷ 97 ∷ 98 ∷ 101 ∷ 108 ∷ 32 ∷ 50 ∷ 32 ∷ 108 ∷ 97 ∷ 103 ∷ 32 ∷ 48 ∷ 32 ∷ 116 ∷ 97 ∷ 98 ∷ 108 ∷ 101 ∷ 32 ∷ 57 ∷ 32 ∷ 108 ∷ 101 ∷ 97 ∷ 118 ∷ 101 ∷ 115 ∷ 32 ∷ 50 ∷ 58 ∷ 48 ∷ 32 ∷ 52 ∷ 58 ∷ 49 ∷ 10 ∷ []
unfolding cover_text lut_lines lut_line leaf_text table_text hex_low signed decimal digit_text reversed digits_low register_count shared_count over_nodes longest entry_taps lut_taps leaf_taps output_taps lag_in
listing-A = refl
