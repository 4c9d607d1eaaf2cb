-- Laws of reading a gate, one for each way out.
use Rattle.std.specs.Prelude.{◌≡◌, Bool, List, ℕ, ◌≤◌, ◌<◌, get_or, take, drop, Ok}
use Rattle.std.proofs.Common.{sym, ap, ap₂, ◌∙◌, arith, le-leb}
use Rattle.std.specs.Int.Count.{ones}
use Rattle.std.proofs.lemmas.Bool.{lt-leb}
use Rattle.limits.specs.Limits.{most_pins}
use Rattle.net_model.specs.Net.{Pin}
use Rattle.net_model.specs.Arrays.{pins_in}
use Rattle.net_bytes.specs.Reading.{and_then, times, check, between, got, refused}
use Rattle.net_bytes.specs.Walk.{gate_reader, table_bytes, pins_from, from_bytes}
use Rattle.net_bytes.specs.Readers.{then-goes, then-stops, byte-got}
use Rattle.net_bytes.specs.Sound.{between-true}
use Rattle.net_bytes.specs.Stages.{made_gate, from_pin_map, from_width, from_maps, from_sources, from_counts, from_table, gate_stages}
use Rattle.net_fields.specs.declared.Field.TheVariants.{Net}
use Rattle.net_fields.specs.declared.NetField.TheVariants.{PinMap, RegisterMap, Count, Table}
use Rattle.net_fields.specs.declared.NumberField.TheVariants.{Source}
use Rattle.net_fields.specs.Fields.{field_byte, field_number}
use Rattle.net_fields.specs.FieldListLaws.{take-alike, from_bytes-take}
use Rattle.net_rows.specs.RowLaws.{pins_from-alike}
use Rattle.net_rows.specs.RowParts.{MapsRead}

module _ (s : List ℕ) (at k : ℕ) where
  pub pin-map-stops : {n : ℕ} → field_byte (Net PinMap) (drop at s) ≡ refused n → (wide : Bool) (nodes : ℕ) → gate_reader wide k nodes (drop at s) ≡ refused n
  pin-map-stops e wide nodes = gate_stages wide k nodes (drop at s) ∙ then-stops (from_pin_map wide k nodes) e

  module _ (p after : ℕ) (here : field_byte (Net PinMap) (drop at s) ≡ got p (drop after s)) where
    pin-map-goes : (wide : Bool) (nodes : ℕ) → gate_reader wide k nodes (drop at s) ≡ from_pin_map wide k nodes p (drop after s)
    pin-map-goes wide nodes = gate_stages wide k nodes (drop at s) ∙ then-goes (from_pin_map wide k nodes) here

    -- more pins than k, whatever stands behind the pin map
    pub width-stops : k < ones p → (wide : Bool) (nodes : ℕ) → gate_reader wide k nodes (drop at s) ≡ refused 7
    width-stops h wide nodes =
        pin-map-goes wide nodes
        ∙ ap (λ (t : Bool). and_then (check t 7 (ones p) (drop after s)) (from_width wide nodes p)) (lt-leb (ones p) k h)

    width-goes : ones p ≤ k → (wide : Bool) (nodes : ℕ) → gate_reader wide k nodes (drop at s) ≡ from_width wide nodes p (ones p) (drop after s)
    width-goes h wide nodes = pin-map-goes wide nodes
        ∙ ap (λ (t : Bool). and_then (check t 7 (ones p) (drop after s)) (from_width wide nodes p)) (le-leb (ones p) k h)

    pub maps-stop : ones p ≤ k → {n : ℕ} → field_byte (Net (RegisterMap p)) (drop after s) ≡ refused n
        → (wide : Bool) (nodes : ℕ) → gate_reader wide k nodes (drop at s) ≡ refused n
    maps-stop h f wide nodes = width-goes h wide nodes ∙ then-stops (from_maps wide nodes p (ones p)) f

    pub maps-go : ones p ≤ k → (r end : ℕ) → field_byte (Net (RegisterMap p)) (drop after s) ≡ got r (drop end s)
        → MapsRead s at k (Ok (record { value = record { pins = p; registers = r }; at = end }))
    maps-go h r end f =
        let range = between-true 1 63 p (byte-got 4 6 (between 1 63) (drop at s) p (drop after s) here) in
        let high = range.1 in
        record {
          result = λ wide nodes. width-goes h wide nodes ∙ then-goes (from_maps wide nodes p (ones p)) f;
          small = omega arith;
        }

-- the lists behind the maps, where m pins, c counts and b table bytes are read
module _ (wide : Bool) (nodes p r m c b : ℕ) (em : m ≡ ones p) (ec : c ≡ ones r) (eb : b ≡ table_bytes m) (t : List ℕ) where
  pub sources-stop : {n : ℕ} → times m (field_number wide (Source nodes)) t ≡ refused n → from_maps wide nodes p (ones p) r t ≡ refused n
  sources-stop e = ap (λ (x : ℕ). from_maps wide nodes p x r t) (sym em) ∙ then-stops (from_sources m p r) e

  module _ (S u : List ℕ) (e : times m (field_number wide (Source nodes)) t ≡ got S u) where
    sources-go : from_maps wide nodes p (ones p) r t ≡ and_then (times c (field_byte (Net Count)) u) (from_counts m p r S)
    sources-go =
        ap (λ (x : ℕ). from_maps wide nodes p x r t) (sym em) ∙ then-goes (from_sources m p r) e
        ∙ ap (λ (x : ℕ). and_then (times x (field_byte (Net Count)) u) (from_counts m p r S)) (sym ec)

    pub counts-stop : {n : ℕ} → times c (field_byte (Net Count)) u ≡ refused n → from_maps wide nodes p (ones p) r t ≡ refused n
    counts-stop f = sources-go ∙ then-stops (from_counts m p r S) f

    module _ (C w : List ℕ) (f : times c (field_byte (Net Count)) u ≡ got C w) where
      counts-go : from_maps wide nodes p (ones p) r t ≡ and_then (times b (field_byte (Net (Table m))) w) (from_table p r S C)
      counts-go =
          sources-go ∙ then-goes (from_counts m p r S) f
          ∙ ap (λ (x : ℕ). and_then (times x (field_byte (Net (Table m))) w) (from_table p r S C)) (sym eb)

      pub table-stops : {n : ℕ} → times b (field_byte (Net (Table m))) w ≡ refused n → from_maps wide nodes p (ones p) r t ≡ refused n
      table-stops g = counts-go ∙ then-stops (from_table p r S C) g

      pub lists-go : (T z : List ℕ) → times b (field_byte (Net (Table m))) w ≡ got T z → from_maps wide nodes p (ones p) r t ≡ got (made_gate p r S C T) z
      lists-go T z g = counts-go ∙ then-goes (from_table p r S C) g

-- a gate of lists with zeros behind
pub made-whole : (p r m c b : ℕ) (S C T : List ℕ) → ((i : ℕ) → m ≤ i → get_or S i 0 ≡ 0) → ((i : ℕ) → c ≤ i → get_or C i 0 ≡ 0) → ((i : ℕ) → b ≤ i → get_or T i 0 ≡ 0)
    → made_gate p r (take m S) (take c C) (take b T) ≡ made_gate p r S C T
made-whole p r m c b S C T hs hc ht =
    ap₂ (λ (x : List Pin) (y : ℕ). record { pins = x; table = y })
    (pins_from-alike most_pins 0 p r (take m S) S (take c C) C (take-alike m S hs) (take-alike c C hc)) (from_bytes-take b T ht)

-- the gate of the lists is that of the row
pub made_row : (p r : ℕ) (S C T counts : List ℕ) (m n : ℕ) → ((s : List ℕ) → pins_from most_pins 0 p r s C ≡ pins_in s counts 0 (ones p)) → m ≡ ones p → n ≡ from_bytes T
    → made_gate p r S C T ≡ record { pins = pins_in S counts 0 m; table = n }
made_row p r S C T counts m n h em en =
    ap₂ (λ (x : List Pin) (y : ℕ). record { pins = x; table = y }) (h S ∙ ap (pins_in S counts 0) (sym em)) (sym en)
