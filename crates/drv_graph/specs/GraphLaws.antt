-- What holds of modulo hashes and expected paths: there is one of each.
use Rattle.std.specs.Prelude.{◌≡◌, List, Contains}
use Rattle.nix_names.specs.Bytes.{Dir, Path, Name, Hash}
use Rattle.nix_drv.specs.Derivation.{Drv, Output}
use Rattle.drv_graph.specs.Expected.{IsExpected}
use Rattle.drv_graph.specs.Nodes.{AreHashes, Node}
use Rattle.drv_graph.specs.declared.kinds.Kind.{Kind}

-- no two nodes have one path
abbrev pub HaveOwnPaths : List Node → Type 0
HaveOwnPaths nodes = (a b : Node) → Contains nodes a → Contains nodes b → a.path ≡ b.path → a ≡ b

-- the nodes at some paths have one list of modulo hashes, where no two nodes have one path
abbrev pub HaveOneHashEach : Type 0
HaveOneHashEach =
    (nodes : List Node) (paths : List Path) (hashes others : List Hash) → HaveOwnPaths nodes
    → AreHashes nodes paths hashes → AreHashes nodes paths others → hashes ≡ others

-- an output has one expected path
abbrev pub HasOneExpectedPath : Type 0
HasOneExpectedPath =
    (dir : Dir) (name : Name) (kind : Kind) (drv : Drv) (hashes : List Hash) (output : Output)
    (path other : Path)
    → IsExpected dir name kind drv hashes output path
    → IsExpected dir name kind drv hashes output other → path ≡ other
