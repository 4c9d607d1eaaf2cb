-- Examples of the change-over (document 02, E7): C with the section 01 01 00 on pairs. Its one register, at the output, holds what gate 2 has at the step itself: the AND of both
-- inputs one step before.
use Rattle.std.specs.Prelude.{◌≡◌, refl, [], ◌∷◌}
use Rattle.net_model.specs.Net.{gate}
use Rattle.run_theory.specs.Bench.{ago, repeated, value_at}
use Rattle.run_theory.specs.BenchBytes.{kept_after}
use Rattle.cover_theory.specs.Key.{as_cover, place_of}
use Rattle.board_theory.specs.Contents.{cells, leaf_cells, lut_cells, output_cells, contents_bytes, contents_of}
use Rattle.examples.specs.Nets.{net_c}
use Rattle.examples.specs.ForwardExamples.{entries_c}

-- step 1: both inputs were 1 at step 0
pub contents-step_1 : contents_of net_c (as_cover net_c entries_c) (kept_after (3 ∷ 0 ∷ []) net_c (1 ∷ 1 ∷ 0 ∷ [])) ≡ 1 ∷ []
unfolding contents_bytes lut_cells leaf_cells output_cells cells value_at repeated ago gate place_of
contents-step_1 = refl

-- step 2: input 1 was 0 at step 1
pub contents-step_2 : contents_of net_c (as_cover net_c entries_c) (kept_after (3 ∷ 0 ∷ 1 ∷ 0 ∷ []) net_c (1 ∷ 1 ∷ 0 ∷ [])) ≡ 0 ∷ []
unfolding contents_bytes lut_cells leaf_cells output_cells cells value_at repeated ago gate place_of
contents-step_2 = refl

-- a lone byte is no step
pub contents_lone_byte : contents_of net_c (as_cover net_c entries_c) (kept_after (3 ∷ 0 ∷ 1 ∷ []) net_c (1 ∷ 1 ∷ 0 ∷ [])) ≡ 1 ∷ []
unfolding contents_bytes lut_cells leaf_cells output_cells cells value_at repeated ago gate place_of
contents_lone_byte = refl
