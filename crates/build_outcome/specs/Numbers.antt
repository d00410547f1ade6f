-- The numbers of reasons in the table of faults.
use Rattle.std.specs.Prelude.{ℕ}
use Rattle.build_outcome.specs.declared.reason.Reason.{Reason}
use Rattle.build_outcome.specs.declared.reason.Reason.TheVariants.{ExitStatus, NoStart, MissingOutput, NotFlatFile, HashMismatch, OutputCycle, TooLarge, ReadFault, OutOfMemory, Killed, BadMode, NotAllowed, BadSpecifier, BadAttributes, BadGraph, UnknownNar, PastMaxSize, PastMaxClosureSize}

-- a reason's number
abbrev pub reason_number_of : Reason → ℕ
reason_number_of (ExitStatus status) = 50
reason_number_of NoStart = 51
reason_number_of (MissingOutput output) = 52
reason_number_of NotFlatFile = 53
reason_number_of HashMismatch = 54
reason_number_of OutputCycle = 55
reason_number_of TooLarge = 56
reason_number_of ReadFault = 57
reason_number_of OutOfMemory = 58
reason_number_of Killed = 59
reason_number_of (BadMode output) = 81
reason_number_of (NotAllowed output index) = 84
reason_number_of (BadSpecifier output) = 85
reason_number_of BadAttributes = 79
reason_number_of BadGraph = 80
reason_number_of (UnknownNar index) = 86
reason_number_of (PastMaxSize output) = 82
reason_number_of (PastMaxClosureSize output) = 83
