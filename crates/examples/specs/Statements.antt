-- Definitions: what an example says of map.
use Rattle.std.specs.Prelude.{◌≡◌, cond, List, [], ℕ, ◌-◌, ◌≤◌, ltb, ℤ, pos, length, get_or}
use Rattle.sequences.specs.Member.{◌∈◌, Within}
use Rattle.net_model.specs.Net.{Net, IsGate}
use Rattle.net_model.specs.Copies.{Copy}
use Rattle.label_theory.specs.Labels.{LowCut}
use Rattle.cover_theory.specs.Key.{Key, Entry, entries}
use Rattle.limits.specs.Limits.{cover_area, scratch_area}
use Rattle.limits.specs.Courses.{long}
use Rattle.net_bytes.specs.Reading.{got}
use Rattle.net_bytes.specs.Walk.{net_reader}
use Rattle.cover_records.specs.CoverBytes.{cover_bytes}
use Rattle.cover_records.specs.Outcomes.{accepted, turned_back, cleared, written, map_outcome}

-- root, leaves, lag, table
abbrev pub lut : ℕ → List Copy → ℤ → ℕ → Entry
lut v L r t = record { root = v; leaves = L; lag = r; table = t }

-- labels of the gates in order; 0 at inputs
abbrev pub labels : Net → List ℤ → ℕ → ℤ
labels N zs v = cond (ltb v N.inputs) (pos 0) (get_or zs (v - N.inputs) (pos 0))

-- "The cover area is under 962 bytes ... or the scratch is under 65,536": neither is.
pub record Room (area scratch : List ℕ) : Type 0 where
  pub cover : cover_area ≤ length area
  pub work : scratch_area ≤ length scratch

-- Map refuses net, k and target with n: the area is kept, the scratch cleared.
abbrev pub Refuses : List ℕ → ℕ → ℕ → ℕ → Type 0
Refuses net k target n =
    (area scratch : List ℕ) → Room area scratch → map_outcome long net k target area scratch ≡ record { answer = turned_back n; area = area; scratch = cleared scratch_area scratch }

-- For net, which reads as N, k and target: the least labels of the gates in order, the LUTs of the written cover, and map writes their record.
pub record Maps (net : List ℕ) (N : Net) (k target : ℕ) (zs : List ℤ) (luts : List Entry) : Type 0 where
  pub reads : net_reader long k net ≡ got N []
  pub key : Key N k target
  pub label : (K : Key N k target) (v : ℕ) → IsGate N v → K.label v ≡ labels N zs v
  pub cover : (K : Key N k target) → entries K ≡ luts
  pub outcome : (area scratch : List ℕ) → Room area scratch → map_outcome long net k target area scratch
      ≡ record { answer = accepted (length (cover_bytes long target luts)); area = written (cover_bytes long target luts) area; scratch = cleared scratch_area scratch }

-- Another cut of gate v, no higher than its label: it has the leaves L, as many as the chosen cut, and a larger cone.
pub record Tie {N : Net} {k φ : ℕ} (K : Key N k φ) (v : ℕ) (L : List Copy) : Type 0 where
  pub cut : LowCut N k φ K.label v (K.label v)
  pub leaves : cut.leaves ≡ L
  pub tie : length (K.leaves v) ≡ length L
  pub inside : Within (K.cone v) cut.cone
  pub larger : (x : Copy) × (x ∈ cut.cone) × (¬ (x ∈ K.cone v))
