-- Laws of the parts of a program's input.
use Rattle.std.specs.Prelude.{◌≡◌, List, ℕ, ◌+◌, ◌-◌, ◌≤◌, ◌<◌, length, take, drop}
use Rattle.std.proofs.Common.{sym, ap, ◌∙◌, arith, length-drop, drop_of_length-le, take_all, drop-drop}
use Rattle.std.proofs.Math.Seq.{drop-length}
use Rattle.inputs.specs.InputParts.{Behind}

-- a part that ends inside
pub behind-some : (s : List ℕ) (at n : ℕ) → at ≤ length s → n < length s - at → Behind s at n (at + n)
behind-some s at n h l =
    let e : at + n - at ≡ n = omega arith in
    record { low = omega arith; high = omega arith; before = ap (λ (m : ℕ). take m (drop at s)) e; behind = sym (drop-drop n at s) }

-- a part up to the end
pub behind-all : (s : List ℕ) (at n : ℕ) → at ≤ length s → length s - at ≤ n → Behind s at n (length s)
behind-all s at n h l =
    let d = length-drop at s in
    record {
      low = h;
      high = omega arith;
      before = take_all (length s - at) (drop at s) (omega arith) ∙ sym (take_all n (drop at s) (omega arith));
      behind = drop-length s ∙ sym (drop_of_length-le (drop at s) {i = n} (omega arith));
    }
