-- Laws of reading an output, one for each way out.
use Rattle.std.specs.Prelude.{◌≡◌, Bool, List, ℕ}
use Rattle.std.proofs.Common.{ap, ◌∙◌}
use Rattle.net_bytes.specs.Reading.{times, got, refused}
use Rattle.net_bytes.specs.Walk.{output_reader, first}
use Rattle.net_bytes.specs.Readers.{then-goes, then-stops}
use Rattle.net_bytes.specs.Stages.{from_out_map, from_out_source, from_out_counts, output_stages}
use Rattle.net_fields.specs.declared.Field.TheVariants.{Net}
use Rattle.net_fields.specs.declared.NetField.TheVariants.{OutputMap, Count}
use Rattle.net_fields.specs.declared.NumberField.TheVariants.{Source}
use Rattle.net_fields.specs.Fields.{field_byte, field_number}

module _ (wide : Bool) (nodes : ℕ) (t : List ℕ) where
  pub out-map-stops : {n : ℕ} → field_byte (Net OutputMap) t ≡ refused n → output_reader wide nodes t ≡ refused n
  out-map-stops e = output_stages wide nodes t ∙ then-stops (from_out_map wide nodes) e

  module _ (m : ℕ) (u : List ℕ) (e : field_byte (Net OutputMap) t ≡ got m u) where
    pub out-source-stops : {n : ℕ} → field_number wide (Source nodes) u ≡ refused n → output_reader wide nodes t ≡ refused n
    out-source-stops f = output_stages wide nodes t ∙ then-goes (from_out_map wide nodes) e ∙ then-stops (from_out_source m) f

    module _ (source : ℕ) (w : List ℕ) (f : field_number wide (Source nodes) u ≡ got source w) where
      pub delays-stop : {n : ℕ} → times m (field_byte (Net Count)) w ≡ refused n → output_reader wide nodes t ≡ refused n
      delays-stop g = output_stages wide nodes t ∙ then-goes (from_out_map wide nodes) e ∙ then-goes (from_out_source m) f ∙ then-stops (from_out_counts source) g

      pub out-goes : (c : ℕ) (l z : List ℕ) → first l ≡ c → times m (field_byte (Net Count)) w ≡ got l z → output_reader wide nodes t ≡ got (record { src = source; count = c }) z
      out-goes c l z h g =
          output_stages wide nodes t ∙ then-goes (from_out_map wide nodes) e ∙ then-goes (from_out_source m) f ∙ then-goes (from_out_counts source) g
          ∙ ap (λ (x : ℕ). got (record { src = source; count = x }) z) h
