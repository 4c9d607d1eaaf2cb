-- Definitions: the number of each refusal.
use Rattle.std.specs.Prelude.{ℕ, Result, Ok, Err}
use Rattle.refusals.specs.declared.Refusal.{Refusal}
use Rattle.refusals.specs.declared.Refusal.TheVariants.{LeafLimit, Target, Areas, EarlyEnd, Sizes, Value, WideGate, BytesBehind, OpenLoop, Unreached, LeadsNowhere, Unmet, Layout, NoCut, WrongTable, Unfed, NegativeCount, LongChain, NoRecord, LoaderArea, NoSection, UnmetForward, LongCapture}

-- as the documents count them
abbrev pub number_of : Refusal → ℕ
number_of LeafLimit = 1
number_of Target = 2
number_of Areas = 3
number_of EarlyEnd = 4
number_of Sizes = 5
number_of Value = 6
number_of WideGate = 7
number_of BytesBehind = 8
number_of OpenLoop = 9
number_of Unreached = 10
number_of LeadsNowhere = 11
number_of Unmet = 12
number_of Layout = 13
number_of NoCut = 14
number_of WrongTable = 15
number_of Unfed = 16
number_of NegativeCount = 17
number_of LongChain = 18
number_of NoRecord = 19
number_of LoaderArea = 20
number_of NoSection = 21
number_of UnmetForward = 22
number_of LongCapture = 23

-- 0 where nothing is wrong, else the number of the refusal
abbrev pub code_of : {A : Type 0} → Result A Refusal → ℕ
code_of (Ok a) = 0
code_of (Err e) = number_of e
