-- The numbers are 1 to 23.
use Rattle.std.specs.Prelude.{ℕ, ◌≤◌}
use Rattle.std.proofs.Common.{arith}
use Rattle.refusals.specs.declared.Refusal.{Refusal}
use Rattle.refusals.specs.declared.Refusal.TheVariants.{LeafLimit, Target, Areas, EarlyEnd, Sizes, Value, WideGate, BytesBehind, OpenLoop, Unreached, LeadsNowhere, Unmet, Layout, NoCut, WrongTable, Unfed, NegativeCount, LongChain, NoRecord, LoaderArea, NoSection, UnmetForward, LongCapture}
use Rattle.refusals.specs.Refusals.{number_of}

pub number_positive : (r : Refusal) → 1 ≤ number_of r
number_positive LeafLimit = omega arith
number_positive Target = omega arith
number_positive Areas = omega arith
number_positive EarlyEnd = omega arith
number_positive Sizes = omega arith
number_positive Value = omega arith
number_positive WideGate = omega arith
number_positive BytesBehind = omega arith
number_positive OpenLoop = omega arith
number_positive Unreached = omega arith
number_positive LeadsNowhere = omega arith
number_positive Unmet = omega arith
number_positive Layout = omega arith
number_positive NoCut = omega arith
number_positive WrongTable = omega arith
number_positive Unfed = omega arith
number_positive NegativeCount = omega arith
number_positive LongChain = omega arith
number_positive NoRecord = omega arith
number_positive LoaderArea = omega arith
number_positive NoSection = omega arith
number_positive UnmetForward = omega arith
number_positive LongCapture = omega arith

pub number_small : (r : Refusal) → number_of r ≤ 23
number_small LeafLimit = omega arith
number_small Target = omega arith
number_small Areas = omega arith
number_small EarlyEnd = omega arith
number_small Sizes = omega arith
number_small Value = omega arith
number_small WideGate = omega arith
number_small BytesBehind = omega arith
number_small OpenLoop = omega arith
number_small Unreached = omega arith
number_small LeadsNowhere = omega arith
number_small Unmet = omega arith
number_small Layout = omega arith
number_small NoCut = omega arith
number_small WrongTable = omega arith
number_small Unfed = omega arith
number_small NegativeCount = omega arith
number_small LongChain = omega arith
number_small NoRecord = omega arith
number_small LoaderArea = omega arith
number_small NoSection = omega arith
number_small UnmetForward = omega arith
number_small LongCapture = omega arith
