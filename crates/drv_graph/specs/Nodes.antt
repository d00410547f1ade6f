-- A plan's nodes, and *Modulo hash* by recursion over them (Nix manual, "Derivation paths: hash
-- modulo"; Dolstra's thesis, section 5.4).
use Rattle.std.specs.Prelude.{◌≡◌, false, List, [], ◌∷◌, ◌++◌, map, codes, Contains}
use Rattle.sha2.specs.Sha256.{sha256}
use Rattle.nix_names.specs.Bytes.{Bytes, Path, Hash}
use Rattle.nix_drv.specs.Derivation.{Drv, Output, Input}
use Rattle.drv_graph.specs.Kinds.{HasKind}
use Rattle.drv_graph.specs.declared.kinds.Kind.{Kind}
use Rattle.drv_graph.specs.declared.kinds.Kind.TheVariants.{Addressed, Fixed}
use Rattle.drv_graph.specs.Modulo.{IsModuloText}

-- A derivation, and the path of its text.
pub record Node : Type 0 where
  pub path : Path
  pub drv : Drv

-- the paths of nodes
abbrev pub paths_of : List Node → List Path
paths_of nodes = map (λ (n : Node). n.path) nodes

-- the paths of a derivation's input derivations, in its text's order
abbrev pub inputs_of : Drv → List Path
inputs_of drv = map (λ (i : Input). i.path) drv.inputs

-- the paths of a derivation's outputs, in its text's order
abbrev pub output_paths_of : Drv → List Path
output_paths_of drv = map (λ (o : Output). o.path) drv.outputs

-- the text that is hashed for a fixed output in place of its derivation's text:
-- `fixed:out:<algorithm>:<hash>:<path>`
abbrev pub fixed_text : Output → Bytes
fixed_text output = codes "fixed:out:" ++ output.algo ++ codes ":" ++ output.hash ++ codes ":"
    ++ output.path

-- the hash is the modulo hash of a derivation of this kind, whose inputs have these modulo hashes:
-- the SHA-256 of the modulo text, or of a fixed output's own text
abbrev pub IsHashBy : Kind → Drv → (hashes : List Hash) → (hash : Hash) → Type 0
IsHashBy Addressed drv hashes hash = (bytes : Bytes) × IsModuloText drv hashes false bytes
    × (hash ≡ sha256 bytes)
IsHashBy (Fixed method digest) drv hashes hash = (output : Output) × (drv.outputs ≡ output ∷ [])
    × (hash ≡ sha256 (fixed_text output))

-- The modulo hashes of the nodes at some paths, in their order.
pub data AreHashes (nodes : List Node) : (paths : List Path) → (hashes : List Hash) → Type 0 where
  no_hashes : AreHashes nodes [] []
  one_more_hash : (node : Node) (kind : Kind) (of_inputs : List Hash) (hash : Hash)
      (paths : List Path) (hashes : List Hash)
      → Contains nodes node → HasKind node.drv kind → AreHashes nodes (inputs_of node.drv) of_inputs
      → IsHashBy kind node.drv of_inputs hash → AreHashes nodes paths hashes
      → AreHashes nodes (node.path ∷ paths) (hash ∷ hashes)
