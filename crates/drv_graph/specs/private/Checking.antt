-- What the parts of the check of a derivation's outputs answer.
use Rattle.std.specs.Prelude.{◌≡◌, ◌<◌, Bool, true, false, ⊤, ℕ, List, length, All, Contains, slice_get, Some, Result, Ok, Err, Vec}
use Rattle.std.specs.List.{AllZip}
use Rattle.std.specs.declared.alloc.Global.{Global}
use Rattle.nix_names.specs.Bytes.{Bytes, Dir, Path, Name, Hash}
use Rattle.nix_names.specs.Firsts.{IsFirstWhere}
use Rattle.nix_names.specs.declared.digest.Digest.{Digest}
use Rattle.nix_drv.specs.Derivation.{Drv, Output, EnvEntry}
use Rattle.drv_graph.specs.Expected.{IsExpected}
use Rattle.drv_graph.specs.Kinds.{HasKind, AreMixed, IsAddressed, IsFixed, HasUnknownMethod, Takes}
use Rattle.drv_graph.specs.Outputs.{AreSound, IsKnownUse, IsOutputsCheck, IsThePath, IsThePathOrEmpty, IsWellNamed, Use, uses}
use Rattle.drv_graph.specs.declared.kinds.Kind.{Kind}
use Rattle.drv_graph.specs.declared.kinds.Kind.TheVariants.{Fixed}
use Rattle.nix_names.specs.declared.method.Method.{Method}
use Rattle.drv_graph.specs.declared.fault.OutputFault.{OutputFault}
use Rattle.drv_graph.specs.declared.fault.OutputFault.TheVariants.{NoMemory, MixedOutputs, UnknownMethod, BadName, UnknownOutput, OutputMismatch, EnvMismatch}
use Rattle.drv_graph.specs.declared.profile.Profile.{Profile}

-- some output isn't input-addressed
abbrev pub SaysSome : List Output → Type 0
SaysSome outputs = (o : Output) × Contains outputs o × (IsAddressed o → ⊥)

-- a profile takes an output by no method and digest
abbrev pub IsNotTaken : Profile → Output → Type 0
IsNotTaken profile output = (method : Method) (digest : Digest) → IsFixed output method digest
    → Takes profile (Fixed method digest) → ⊥

-- the fault names this output as one with no known method
abbrev pub NamesUnknown : Output → OutputFault → Type 0
NamesUnknown o (UnknownMethod output) = output.items ≡ o.name
NamesUnknown o fault = ⊥

-- an output has no known method, or no hash of it
abbrev pub IsNotFixed : Output → Type 0
IsNotFixed output = (method : Method) (digest : Digest) → IsFixed output method digest → ⊥

-- the kind of a fixed output that the profile takes, or the fault that it has no known method
abbrev pub IsFixedKind : Profile → Output → Result Kind OutputFault → Type 0
IsFixedKind profile o (Ok (Fixed method digest)) = IsFixed o method digest
    × Takes profile (Fixed method digest)
IsFixedKind profile o (Err (UnknownMethod output)) = IsNotTaken profile o × (output.items ≡ o.name)
IsFixedKind profile o (Err NoMemory) = ⊤
IsFixedKind profile o result = ⊥

-- what is wrong with the kind of a derivation's outputs
abbrev pub IsKindFault : Profile → Drv → OutputFault → Type 0
IsKindFault profile drv MixedOutputs = AreMixed drv
IsKindFault profile drv (UnknownMethod output) = (AreMixed drv → ⊥)
    × ((o : Output) × Contains drv.outputs o × HasUnknownMethod profile o × (output.items ≡ o.name))
IsKindFault profile drv NoMemory = AreMixed drv → ⊥
IsKindFault profile drv fault = ⊥

-- what is wrong with the names of some outputs
abbrev pub IsNameFault : (name : Name) → List Output → OutputFault → Type 0
IsNameFault name outputs BadName = (o : Output) × Contains outputs o × (IsWellNamed name o → ⊥)
IsNameFault name outputs NoMemory = ⊤
IsNameFault name outputs fault = ⊥

-- what is wrong with some uses of outputs
abbrev pub IsUseFault : List Use → OutputFault → Type 0
IsUseFault used (UnknownOutput input output) =
    (u : Use) × IsFirstWhere (λ other. IsKnownUse other → ⊥) used u × (input ≡ u.input)
    × (output.items ≡ u.output)
IsUseFault used NoMemory = ⊤
IsUseFault used fault = ⊥

-- the kind of a derivation whose outputs are sound, or the first fault in the kind, the outputs'
-- names and the uses
abbrev pub IsSoundCheck : Profile → (name : Name) → Drv → (used : List Drv)
    → Result Kind OutputFault
    → Type 0
IsSoundCheck profile name drv used (Ok kind) = AreSound profile name drv used kind
IsSoundCheck profile name drv used (Err MixedOutputs) = AreMixed drv
IsSoundCheck profile name drv used (Err (UnknownMethod output)) = IsKindFault profile drv
    (UnknownMethod output)
IsSoundCheck profile name drv used (Err BadName) = (kind : Kind) × HasKind drv kind
    × Takes profile kind
    × IsNameFault name drv.outputs BadName
IsSoundCheck profile name drv used (Err (UnknownOutput input output)) =
    (kind : Kind) × HasKind drv kind × Takes profile kind × All (IsWellNamed name) drv.outputs
    × IsUseFault (uses drv.inputs used) (UnknownOutput input output)
IsSoundCheck profile name drv used (Err NoMemory) = AreMixed drv → ⊥
IsSoundCheck profile name drv used result = ⊥

-- a value is the expected path; in a draft it may also be empty
abbrev pub FitsExpected : (in_draft : Bool) → (value : Bytes) → (path : Path) → Type 0
FitsExpected false value path = IsThePath value path
FitsExpected true value path = IsThePathOrEmpty value path

-- each output before an index fits the path at the output's own index
abbrev pub FitBefore : (Fits : Output → Path → Type 0) → List Output → (paths : List Path)
    → (index : ℕ) → Type 0
FitBefore Fits outputs paths index =
    (k : ℕ) (o : Output) (path : Path) → k < index → slice_get outputs k ≡ Some o
    → slice_get paths k ≡ Some path → Fits o path

-- An output and the path at its index are the first pair that is wrong: each pair before it fits.
pub record IsFirstPair (Fits Wrong : Output → Path → Type 0) (outputs : List Output)
    (paths : List Path) (o : Output) (path : Path) : Type 0 where
  pub index : ℕ
  pub is_output : slice_get outputs index ≡ Some o
  pub is_path : slice_get paths index ≡ Some path
  pub wrong : Wrong o path
  pub before : FitBefore Fits outputs paths index

-- an output's path fits this path
abbrev pub PathFits : (in_draft : Bool) → Output → (path : Path) → Type 0
PathFits in_draft output path = FitsExpected in_draft output.path path

-- an entry of the environment under this name has a value that doesn't fit the path
abbrev pub HasMisfit : (in_draft : Bool) → List EnvEntry → (name : Name) → (path : Path) → Type 0
HasMisfit in_draft env name path = (entry : EnvEntry) × Contains env entry × (entry.key ≡ name)
    × (FitsExpected in_draft entry.value path → ⊥)

-- no entry of the environment under an output's name has such a value
abbrev pub EntriesFit : (in_draft : Bool) → List EnvEntry → Output → (path : Path) → Type 0
EntriesFit in_draft env output path = HasMisfit in_draft env output.name path → ⊥

-- what is wrong with the paths of some outputs
abbrev pub IsPathFault : (in_draft : Bool) → List Output → (paths : List Path) → OutputFault
    → Type 0
IsPathFault in_draft outputs paths (OutputMismatch output expected) =
    (o : Output) × IsFirstPair (PathFits in_draft) (λ p path. PathFits in_draft p path → ⊥) outputs
    paths o expected × (output.items ≡ o.name)
IsPathFault in_draft outputs paths NoMemory = ⊤
IsPathFault in_draft outputs paths fault = ⊥

-- what is wrong with the entries of the environment under the names of some outputs
abbrev pub IsEnvFault : (in_draft : Bool) → List EnvEntry → List Output → (paths : List Path)
    → OutputFault → Type 0
IsEnvFault in_draft env outputs paths (EnvMismatch output) =
    (o : Output) × (path : Path) × IsFirstPair (EntriesFit in_draft env)
    (λ p beside. HasMisfit in_draft env p.name beside) outputs paths o path
    × (output.items ≡ o.name)
IsEnvFault in_draft env outputs paths NoMemory = ⊤
IsEnvFault in_draft env outputs paths fault = ⊥

-- what is wrong first with the values in a derivation's text that must be paths
abbrev pub IsValueFault : (in_draft : Bool) → Drv → (paths : List Path) → OutputFault → Type 0
IsValueFault in_draft drv paths (OutputMismatch output expected) =
    IsPathFault in_draft drv.outputs paths (OutputMismatch output expected)
IsValueFault in_draft drv paths (EnvMismatch output) =
    FitBefore (PathFits in_draft) drv.outputs paths (length drv.outputs)
    × IsEnvFault in_draft drv.env drv.outputs paths (EnvMismatch output)
IsValueFault in_draft drv paths NoMemory = ⊤
IsValueFault in_draft drv paths fault = ⊥

-- the fault is that an input has no output with this name
abbrev pub IsUnknownOutput : (path : Path) → (name : Name) → OutputFault → Type 0
IsUnknownOutput path name (UnknownOutput input output) = (input ≡ path) × (output.items ≡ name)
IsUnknownOutput path name fault = ⊥

-- the fault is that the output with this name has another path than this one
abbrev pub IsMismatch : (name : Name) → (path : Path) → OutputFault → Type 0
IsMismatch name path (OutputMismatch output expected) = (output.items ≡ name) × (expected ≡ path)
IsMismatch name path fault = ⊥

-- the fault is that the entry under this output's name has another value than its path
abbrev pub IsEnvMismatch : (name : Name) → OutputFault → Type 0
IsEnvMismatch name (EnvMismatch output) = output.items ≡ name
IsEnvMismatch name fault = ⊥

-- the paths are the expected paths of a derivation's outputs, in the outputs' order
abbrev pub AreExpected : (dir : Dir) → (name : Name) → Kind → Drv → (hashes : List Hash)
    → (paths : List Path) → Type 0
AreExpected dir name kind drv hashes paths = AllZip (IsExpected dir name kind drv hashes)
    drv.outputs paths

-- the kind and the expected paths of a derivation's outputs, or the fault that their check answers
abbrev pub IsExpecting : (in_draft : Bool) → (profile : Profile) → (dir : Dir) → (name : Name)
    → Drv → (used : List Drv)
    → (hashes : List Hash) → Result (Kind × Vec Path Global) OutputFault → Type 0
IsExpecting in_draft profile dir name drv used hashes (Ok found) =
    IsOutputsCheck (FitsExpected in_draft) profile dir name drv used hashes (Ok found.0)
    × AreExpected dir name found.0 drv hashes found.1.items
IsExpecting in_draft profile dir name drv used hashes (Err fault) =
    IsOutputsCheck (FitsExpected in_draft) profile dir name drv used hashes (Err fault)
