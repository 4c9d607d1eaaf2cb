-- Definitions: one sweep over the gates in an order, and some in a row: what they ask and tell.
use Rattle.std.specs.Prelude.{◌≡◌, Bool, true, false, List, Result, Ok, IfOk, OnErr, ℕ, ◌≤◌, ◌<◌, ℤ, length, get_or, drop}
use Rattle.net_model.specs.PackedNet.{order_at}
use Rattle.label_theory.specs.Labels.{Mode}
use Rattle.cut_circuit.specs.Circuit.{Circuit}
use Rattle.cut_circuit.specs.declared.Extent.{Extent}
use Rattle.label_visit.specs.declared.PastCeiling.{PastCeiling}
use Rattle.label_visit.specs.LabelVisits.{Quiet, Bounds, Kept, Refuted, Fine, left}

-- a where a visit raised a label, else b
abbrev pub IfRose : Bool → ℕ → ℕ → ℕ → Type 0
IfRose e a b r = (e ≡ true → r ≡ a) × (e ≡ false → r ≡ b)

-- from place n of the order on nothing can change
abbrev pub QuietFrom : Mode → ℕ → Circuit → ℕ → ℕ → List ℕ → List ℕ → List ℤ → ℕ → Type 0
QuietFrom M δ C k φ tops order ls n = (i : ℕ) → n ≤ i → i < C.gates → Quiet M δ C k φ tops ls (get_or order i 0)

-- A sweep with n gates of the order visited. It ends at place `end`; `last` is the place behind the last rise so far, 0 where no label rose.
pub record Sweep (M : Mode) (δ : ℕ) (C : Circuit) (k φ : ℕ) (tops order : List ℕ) (ls ls' : List ℤ) (n end last : ℕ) : Type 0 where
  pub ends : end ≤ C.gates
  pub place : n ≤ end
  pub behind : last ≤ n
  pub fine : Fine C ls'
  pub keeps : Kept M δ C k φ ls ls'
  pub same : last ≡ 0 → ls' ≡ ls
  pub quiet : (i : ℕ) → last ≤ i → i < n → Quiet M δ C k φ tops ls' (get_or order i 0)
  pub rest : QuietFrom M δ C k φ tops order ls' end
  pub less : left C φ tops ls' C.gates ≤ left C φ tops ls C.gates
  pub falls : 1 ≤ last → left C φ tops ls' C.gates < left C φ tops ls C.gates

-- What one or more sweeps come to: the place behind the last rise of the last of them, 0 where nothing can change, or that a label would pass its ceiling.
pub record Progress (M : Mode) (δ : ℕ) (C : Circuit) (k φ : ℕ) (tops order : List ℕ) (ls ls' : List ℤ) (r : Result ℕ PastCeiling) : Type 0 where
  pub most : IfOk r (λ n. n ≤ C.gates)
  pub fine : Fine C ls'
  pub keeps : Kept M δ C k φ ls ls'
  pub quiet : IfOk r (λ n. QuietFrom M δ C k φ tops order ls' n)
  pub less : left C φ tops ls' C.gates ≤ left C φ tops ls C.gates
  pub falls : IfOk r (λ n. 1 ≤ n → left C φ tops ls' C.gates < left C φ tops ls C.gates)
  pub refuted : OnErr r (Bounds M C k φ tops ls → Refuted M C k φ tops)

-- One sweep. 0: the labels stay.
pub record SweepTold (M : Mode) (δ : ℕ) (C : Circuit) (k φ : ℕ) (tops order : List ℕ) (ls ls' : List ℤ) (r : Result ℕ PastCeiling) : Type 0 where
  pub progress : Progress M δ C k φ tops order ls ls' r
  pub same : r ≡ Ok 0 → ls' ≡ ls

-- the order in a net's slice
abbrev pub order_in : Extent → List ℕ → List ℕ
order_in s net = drop (order_at s.inputs s.gates) net

-- an order of the gates
pub record Ordered (C : Circuit) (order : List ℕ) : Type 0 where
  pub room : C.gates ≤ length order
  pub gate : (i : ℕ) → i < C.gates → get_or order i 0 < C.gates
  pub all : (g : ℕ) → g < C.gates → (i : ℕ) × (i < C.gates) × (get_or order i 0 ≡ g)
