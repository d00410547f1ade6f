-- The numbers of the faults on plans.
use Rattle.std.specs.Prelude.{ℕ}
use Rattle.nix_drv.specs.Outcome.{number_of as text_number_of}
use Rattle.drv_graph.specs.declared.fault.OutputFault.{OutputFault}
use Rattle.drv_graph.specs.declared.fault.OutputFault.TheVariants.{NoMemory, MixedOutputs, UnknownMethod, BadName, UnknownOutput, OutputMismatch, EnvMismatch}
use Rattle.drv_graph.specs.declared.fault.NodeFault.{NodeFault}
use Rattle.drv_graph.specs.declared.fault.NodeFault.TheVariants.{Unreadable, TooMany, Text, Cycle, Outputs, OutputClash}
use Rattle.drv_graph.specs.declared.fault.GraphFault.{GraphFault}
use Rattle.drv_graph.specs.declared.fault.GraphFault.TheVariants.{NoMemory as NoRoom, At, Draft, Name}

-- the number of a fault of outputs
abbrev pub output_number_of : OutputFault → ℕ
output_number_of NoMemory = 9
output_number_of MixedOutputs = 24
output_number_of (UnknownMethod output) = 28
output_number_of BadName = 6
output_number_of (UnknownOutput input output) = 25
output_number_of (OutputMismatch output expected) = 23
output_number_of (EnvMismatch output) = 27

-- the number of a fault of one derivation
abbrev pub node_number_of : NodeFault → ℕ
node_number_of Unreadable = 20
node_number_of TooMany = 22
node_number_of (Text fault) = text_number_of fault
node_number_of Cycle = 21
node_number_of (Outputs fault) = output_number_of fault
node_number_of OutputClash = 29

-- the number of a fault of a plan or of a draft
abbrev pub number_of : GraphFault → ℕ
number_of NoRoom = 9
number_of (At path fault) = node_number_of fault
number_of (Draft fault) = node_number_of fault
number_of Name = 6
