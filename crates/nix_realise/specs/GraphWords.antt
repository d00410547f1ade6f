-- The words by which a line names a fault of a derivation in a plan.
use Rattle.std.specs.Prelude.{◌++◌, codes}
use Rattle.nix_names.specs.Bytes.{Bytes, Name}
use Rattle.nix_drv.specs.Strings.{string_text}
use Rattle.drv_graph.specs.declared.fault.NodeFault.{NodeFault}
use Rattle.drv_graph.specs.declared.fault.NodeFault.TheVariants as node
use Rattle.drv_graph.specs.declared.fault.OutputFault.{OutputFault}
use Rattle.drv_graph.specs.declared.fault.OutputFault.TheVariants as output
use Rattle.run_report.specs.Words.{with_value}
use Rattle.nix_realise.specs.FaultWords.{drv_fault_words}

-- the words of a fault with two values
abbrev pub with_values : (name : Name) → (first second : Bytes) → Bytes
with_values name first second = with_value name (first ++ codes ", " ++ second)

-- the words of a fault of an output; its name is spelled as in a derivation's own text
abbrev pub output_fault_words : OutputFault → Bytes
output_fault_words output.NoMemory = codes "NoMemory"
output_fault_words output.MixedOutputs = codes "MixedOutputs"
output_fault_words (output.UnknownMethod name) =
    with_value (codes "UnknownMethod") (string_text name.items)
output_fault_words output.BadName = codes "BadName"
output_fault_words (output.UnknownOutput input name) =
    with_values (codes "UnknownOutput") input (string_text name.items)
output_fault_words (output.OutputMismatch name expected) =
    with_values (codes "OutputMismatch") (string_text name.items) expected
output_fault_words (output.EnvMismatch name) =
    with_value (codes "EnvMismatch") (string_text name.items)

-- the words of a fault of one derivation
abbrev pub node_fault_words : NodeFault → Bytes
node_fault_words node.Unreadable = codes "Unreadable"
node_fault_words node.TooMany = codes "TooMany"
node_fault_words (node.Text fault) = drv_fault_words fault
node_fault_words node.Cycle = codes "Cycle"
node_fault_words (node.Outputs fault) = output_fault_words fault
node_fault_words node.OutputClash = codes "OutputClash"
