-- Definition: the net that a question is asked of, without forced copies.
use Rattle.std.specs.Prelude.{[]}
use Rattle.cut_circuit.specs.Circuit.{Circuit}
use Rattle.cut_circuit.specs.Packed.{packed_of}
use Rattle.cut_forced.specs.declared.Ask.{Ask}

abbrev pub unforced : Ask → Circuit
unforced a = packed_of a.s a.net.now []
