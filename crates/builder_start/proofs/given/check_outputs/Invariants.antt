-- What is said of the first outputs is what Nix takes.
use Rattle.std.proofs.Common.{All, take}
use Rattle.structured_attrs.specs.Attributes.{attributes}
use Rattle.builder_start.proofs.Taken.{SaysOf}
use Rattle.builder_start.proofs.given.check_outputs.Given as goal

abbrev pub invariant-outputs : goal.invariant-outputs
invariant-outputs l = All (SaysOf (attributes l.given)) (take l.output-index l.outputs)
