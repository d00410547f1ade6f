-- When a derivation's outputs are right, and which fault of them comes first (Nix manual, "Store
-- Derivation"; the order of faults is this product's own).
use Rattle.std.specs.Prelude.{◌≡◌, ◌⊎◌, ◌++◌, List, [], ◌∷◌, map, All, Contains, IsTrue, Result, Ok, Err}
use Rattle.nix_names.specs.Bytes.{Bytes, Dir, Path, Name, Hash}
use Rattle.nix_names.specs.Names.{is_name}
use Rattle.nix_names.specs.Firsts.{IsFirstWhere}
use Rattle.nix_drv.specs.Derivation.{Drv, Output, Input, EnvEntry}
use Rattle.drv_graph.specs.Kinds.{HasKind, AreMixed, HasUnknownMethod, Takes}
use Rattle.drv_graph.specs.declared.kinds.Kind.{Kind}
use Rattle.drv_graph.specs.Expected.{IsExpected, path_name}
use Rattle.drv_graph.specs.Modulo.{names_of}
use Rattle.drv_graph.specs.declared.fault.OutputFault.{OutputFault}
use Rattle.drv_graph.specs.declared.fault.OutputFault.TheVariants.{NoMemory, MixedOutputs, UnknownMethod, BadName, UnknownOutput, OutputMismatch, EnvMismatch}
use Rattle.drv_graph.specs.declared.profile.Profile.{Profile}

-- One output that a derivation uses: the path of the input derivation, the output's name, and that
-- derivation.
pub record Use : Type 0 where
  pub input : Path
  pub output : Name
  pub drv : Drv

-- the outputs that inputs name, in the text's order; the second list has the inputs' derivations
abbrev pub uses : List Input → List Drv → List Use
uses [] drvs = []
uses (i ∷ is) [] = []
uses (i ∷ is) (drv ∷ drvs) = map (λ name. record { input = i.path; output = name; drv = drv })
    i.names ++ uses is drvs

-- the derivation has the output that is used
abbrev pub IsKnownUse : Use → Type 0
IsKnownUse u = Contains (names_of u.drv.outputs) u.output

-- an output's name, and the name of its path, are names of store paths
abbrev pub IsWellNamed : (name : Name) → Output → Type 0
IsWellNamed name output = IsTrue (is_name output.name)
    × IsTrue (is_name (path_name name output.name))

-- a value in a derivation's text is the expected path
abbrev pub IsThePath : (value : Bytes) → (path : Path) → Type 0
IsThePath value path = value ≡ path

-- a value in a draft's text is empty, or the expected path
abbrev pub IsThePathOrEmpty : (value : Bytes) → (path : Path) → Type 0
IsThePathOrEmpty value path = (value ≡ []) ⊎ (value ≡ path)

-- The outputs are sound: they have this kind and the profile takes it, they are well named, and
-- each output that is used of an input is there. Nothing is said of their paths.
pub record AreSound (profile : Profile) (name : Name) (drv : Drv) (used : List Drv)
    (kind : Kind) : Type 0 where
  pub has_kind : HasKind drv kind
  pub taken : Takes profile kind
  pub named : All (IsWellNamed name) drv.outputs
  pub known : All IsKnownUse (uses drv.inputs used)

-- each output's path fits the one that is expected
abbrev pub PathsFit : (Fits : Bytes → Path → Type 0) → (Expected : Output → Path → Type 0)
    → Drv → Type 0
PathsFit Fits Expected drv =
    All (λ (o : Output). (path : Path) × Expected o path × Fits o.path path) drv.outputs

-- an entry under the output's name has a value that doesn't fit the path that is expected
abbrev pub HasOtherEntry : (Fits : Bytes → Path → Type 0) → (Expected : Output → Path → Type 0)
    → Drv → Output → Type 0
HasOtherEntry Fits Expected drv output =
    (entry : EnvEntry) × (path : Path) × Contains drv.env entry × (entry.key ≡ output.name)
    × Expected output path × (Fits entry.value path → ⊥)

-- What the check of a derivation's outputs answers, by its name, its inputs' derivations and their
-- hashes. The first of these that holds: mixed outputs; a method or a hash that isn't known, or
-- that the profile doesn't take; a name that is no name of a store path; the first use of an output
-- that isn't there; the first output with a path that doesn't fit the expected one; the first
-- output with such an entry. Want of memory may come in place of any but the first.
abbrev pub IsOutputsCheck : (Fits : Bytes → Path → Type 0) → (profile : Profile) → (dir : Dir)
    → (name : Name) → Drv → (used : List Drv) → (hashes : List Hash) → Result Kind OutputFault
    → Type 0
IsOutputsCheck Fits profile dir name drv used hashes (Ok kind) =
    AreSound profile name drv used kind × PathsFit Fits (IsExpected dir name kind drv hashes) drv
    × All (λ o. HasOtherEntry Fits (IsExpected dir name kind drv hashes) drv o → ⊥) drv.outputs
IsOutputsCheck Fits profile dir name drv used hashes (Err MixedOutputs) = AreMixed drv
IsOutputsCheck Fits profile dir name drv used hashes (Err (UnknownMethod output)) =
    (AreMixed drv → ⊥)
    × ((o : Output) × Contains drv.outputs o × HasUnknownMethod profile o × (output.items ≡ o.name))
IsOutputsCheck Fits profile dir name drv used hashes (Err BadName) =
    (kind : Kind) × HasKind drv kind × Takes profile kind
    × ((o : Output) × Contains drv.outputs o × (IsWellNamed name o → ⊥))
IsOutputsCheck Fits profile dir name drv used hashes (Err (UnknownOutput input output)) =
    (kind : Kind) × HasKind drv kind × Takes profile kind × All (IsWellNamed name) drv.outputs
    × ((u : Use) × IsFirstWhere (λ other. IsKnownUse other → ⊥) (uses drv.inputs used) u
    × (input ≡ u.input) × (output.items ≡ u.output))
IsOutputsCheck Fits profile dir name drv used hashes (Err (OutputMismatch output expected)) =
    (kind : Kind) × AreSound profile name drv used kind
    × ((o : Output)
    × IsFirstWhere (λ (p : Output). (path : Path) × IsExpected dir name kind drv hashes p path
    × (Fits p.path path → ⊥)) drv.outputs o
    × IsExpected dir name kind drv hashes o expected × (output.items ≡ o.name))
IsOutputsCheck Fits profile dir name drv used hashes (Err (EnvMismatch output)) =
    (kind : Kind) × AreSound profile name drv used kind
    × PathsFit Fits (IsExpected dir name kind drv hashes) drv
    × ((o : Output) × IsFirstWhere (HasOtherEntry Fits (IsExpected dir name kind drv hashes) drv)
    drv.outputs o × (output.items ≡ o.name))
IsOutputsCheck Fits profile dir name drv used hashes (Err NoMemory) = AreMixed drv → ⊥
