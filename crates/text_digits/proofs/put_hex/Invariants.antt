use mathlib.Core.Path.{◌≡◌}
use Prim.Native.Nat.{◌+◌, ◌-◌, ◌/◌, ◌^◌}
use Rattle.std.proofs.lemmas.List.Edits.{sets}
use Rattle.text_digits.specs.Put.{hex_text}
use Rattle.text_digits.proofs.put_hex.Given as goal

abbrev pub invariant-loop-i : goal.invariant-loop-i
invariant-loop-i l = record {
  left : l.w ≡ l.initial.w / 16 ^ (l.k - l.i);
  put : l.out ≡ sets l.initial.out (l.at + l.i) (hex_text (l.k - l.i) l.initial.w);
}
