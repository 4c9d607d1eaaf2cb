-- E1: for each record that the marker accepts, the root lookup tells what the whole record says.
use Rattle.std.specs.Prelude.{◌≡◌, refl, List, ℕ, ◌≤◌}
use Rattle.std.proofs.Math.Decide.{dec_le}
use Rattle.std.proofs.Common.{arith}
use Rattle.limits.specs.Courses.{long}
use Rattle.limits.specs.Limits.{most_k}
use Rattle.net_model.specs.Net.{Net, size}
use Rattle.net_bytes.specs.Short.{Bytes}
use Rattle.net_bytes.specs.Sound.{walk-facts}
use Rattle.cover_records.specs.CoverBytes.{Record}
use Rattle.cover_records.specs.Outcomes.{accepted}
use Rattle.job_find.specs.RootLookup.{any_node}
use Rattle.job_find.specs.LookupTold.{RootTold}
use Rattle.job_find.specs.LookupLaws.{root_told}
use Rattle.demands.specs.TurnedBack.{IsNet, IsRecord, MarkFails}
use Rattle.demands.specs.Calls.{MarkCall, mark_done}
use Rattle.demands.proofs.CallLaws.{mark-none}

-- an accepted call has k in its range
small-k : (c : MarkCall) (x : ℕ) → (mark_done c).answer ≡ accepted x → c.k ≤ most_k
small-k c x e = go (dec_le c.k most_k)
  where
    go : Dec (c.k ≤ most_k) → c.k ≤ most_k
    go (yes h) = h
    go (no n) = absurd ((mark-none c).0 (x, e) 1 (MarkFails.outside (λ r. n r.1) refl))

-- a net that was read has few nodes
few-nodes : (k : ℕ) (net : List ℕ) (N : Net) → IsNet k net N → size N ≤ any_node
few-nodes k net N i =
    let f = (walk-facts long k net N i.0 i.1).0 in
    let a = f.inputs-high in
    let b = f.gates-high in
    omega arith

pub accepted-told : (c : MarkCall) (x : ℕ) → (mark_done c).answer ≡ accepted x → Bytes c.bytes → (N : Net) → IsNet c.k c.net N
    → (r : Record) → IsRecord N c.k c.bytes r → (g : ℕ) → RootTold long g c.bytes r
accepted-told c x e b N i r j g = root_told long N c.k g c.bytes r j.0 (few-nodes c.k c.net N i) (small-k c x e) b j.1
