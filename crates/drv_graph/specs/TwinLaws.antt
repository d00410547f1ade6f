-- What holds of twins, the derivations of a plan that have the same set of output paths. Outputs
-- are ordered by name, so the lists of two twins' paths may differ in their order.
use Rattle.std.specs.Prelude.{◌≡◌, ◌↔◌, true, List, length, Contains}
use Rattle.nix_names.specs.Bytes.{Hash}
use Rattle.nix_names.specs.declared.digest.Digest.{Digest}
use Rattle.nix_drv.specs.Derivation.{Drv}
use Rattle.drv_graph.specs.Kinds.{HasKind}
use Rattle.drv_graph.specs.Nodes.{IsHashBy, Node}
use Rattle.drv_graph.specs.Plans.{AreTwins, Graph, ShareOutput}
use Rattle.drv_graph.specs.SoundGraphs.{IsSound}
use Rattle.drv_graph.specs.Twins.{are_twins}
use Rattle.drv_graph.specs.declared.kinds.Kind.TheVariants.{Fixed}
use Rattle.nix_names.specs.declared.method.Method.{Method}

-- two derivations of a sound plan that share one output path are twins
abbrev pub SharersAreTwins : Type 0
SharersAreTwins = (graph : Graph) (a b : Node) → IsSound graph → Contains graph.nodes a
    → Contains graph.nodes b → ShareOutput a.drv b.drv → AreTwins a.drv b.drv

-- twins of a sound plan share an output path, and have equally many outputs
abbrev pub TwinsShareOutputs : Type 0
TwinsShareOutputs = (graph : Graph) (a b : Node) → IsSound graph → Contains graph.nodes a
    → Contains graph.nodes b → AreTwins a.drv b.drv
    → ShareOutput a.drv b.drv × (length a.drv.outputs ≡ length b.drv.outputs)

-- twins with one fixed output of one method and digest, its algorithm and its bytes, have one
-- modulo hash, so one entry in the modulo text of a user of both
abbrev pub FixedTwinsHaveOneHash : Type 0
FixedTwinsHaveOneHash =
    (method : Method) (digest : Digest) (a b : Drv) (inputs others : List Hash)
    (hash other : Hash)
    → HasKind a (Fixed method digest) → HasKind b (Fixed method digest) → AreTwins a b
    → IsHashBy (Fixed method digest) a inputs hash → IsHashBy (Fixed method digest) b others other
    → hash ≡ other

-- `are_twins` answers true for twins, and for no others
abbrev pub TwinsAreTold : Type 0
TwinsAreTold = (a b : Drv) → (are_twins a b ≡ true ↔ AreTwins a b)
