-- The kinds of a derivation's outputs (Nix manual, "Store Derivation": input-addressed and fixed
-- content-addressed outputs; Dolstra's thesis, section 5.4). Which of them the profile `plain` takes
-- is this product's own.
use Rattle.std.specs.Prelude.{◌≡◌, ⊤, [], ◌∷◌, ◌++◌, ◌⊎◌, codes, All, Contains}
use Rattle.nix_names.specs.Bytes.{Bytes}
use Rattle.nix_names.specs.Digests.{IsDigest, algorithm_of, digits_of, name_of}
use Rattle.nix_names.specs.declared.digest.Algorithm.TheVariants.{Sha256}
use Rattle.nix_names.specs.declared.digest.Digest.{Digest}
use Rattle.nix_drv.specs.Derivation.{Drv, Output}
use Rattle.drv_graph.specs.declared.kinds.Kind.{Kind}
use Rattle.drv_graph.specs.declared.kinds.Kind.TheVariants.{Addressed, Fixed}
use Rattle.nix_names.specs.declared.method.Method.{Method}
use Rattle.nix_names.specs.declared.method.Method.TheVariants.{Recursive}
use Rattle.nix_names.specs.Methods.{mark_of}
use Rattle.drv_graph.specs.declared.profile.Profile.{Profile}
use Rattle.drv_graph.specs.declared.profile.Profile.TheVariants.{Plain}

-- the algorithm field of an output that is fixed by this method and digest: the algorithm's name,
-- with `r:` before it where a whole tree is hashed
abbrev pub algo_of : Method → Digest → Bytes
algo_of method digest = mark_of method ++ name_of (algorithm_of digest)

-- the output is input-addressed: its algorithm and its hash are empty
abbrev pub IsAddressed : Output → Type 0
IsAddressed output = (output.algo ≡ []) × (output.hash ≡ [])

-- the output's content has this digest, in lower-case hex digits, by this method
abbrev pub IsFixed : Output → Method → Digest → Type 0
IsFixed output method digest = (output.algo ≡ algo_of method digest)
    × (output.hash ≡ digits_of digest) × IsDigest digest

-- the output is the derivation's only one, and named `out`
abbrev pub IsOnlyOut : Drv → Output → Type 0
IsOnlyOut drv output = (drv.outputs ≡ output ∷ []) × (output.name ≡ codes "out")

-- a derivation's outputs are of one kind
abbrev pub HasKind : Drv → Kind → Type 0
HasKind drv Addressed = (drv.outputs ≡ [] → ⊥) × All IsAddressed drv.outputs
HasKind drv (Fixed method digest) = (output : Output) × IsOnlyOut drv output
    × IsFixed output method digest

-- the profile takes outputs of this kind: under `plain` a whole tree is hashed by SHA-256 alone
abbrev pub Takes : Profile → Kind → Type 0
Takes Plain (Fixed Recursive digest) = algorithm_of digest ≡ Sha256
Takes profile kind = ⊤

-- a derivation's outputs are mixed: there is none, or one isn't input-addressed and isn't the only
-- output, named `out`
abbrev pub AreMixed : Drv → Type 0
AreMixed drv =
    (drv.outputs ≡ [])
    ⊎ ((output : Output) × Contains drv.outputs output × (IsAddressed output → ⊥)
    × (IsOnlyOut drv output → ⊥))

-- The output isn't input-addressed, and the profile takes it by no method and digest.
pub record HasUnknownMethod (profile : Profile) (output : Output) : Type 0 where
  pub says : IsAddressed output → ⊥
  pub none : (method : Method) (digest : Digest) → IsFixed output method digest
      → Takes profile (Fixed method digest) → ⊥
