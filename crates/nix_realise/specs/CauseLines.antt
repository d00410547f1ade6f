-- The lines that standard error gets at the end of a run of `realise` for derivations that are
-- refused as `Unsupported` (this product's own, `FORMATS.md`).
use Rattle.std.specs.Prelude.{◌≡◌, ℕ, Bool, true, false, ◌++◌, List, [], ◌∷◌, Option, Some, None, codes, flat_map, if◌then◌else◌, slice_get}
use Rattle.std.specs.List.{list_any}
use Rattle.nix_names.specs.Bytes.{Bytes, Path}
use Rattle.nix_names.specs.Names.{same_bytes}
use Rattle.nix_drv.specs.Derivation.{Drv, EnvEntry}
use Rattle.drv_graph.specs.PlanNodes.{drvs_of}
use Rattle.drv_graph.specs.Plans.{Graph}
use Rattle.drv_graph.specs.declared.profile.Profile.{Profile}
use Rattle.drv_graph.specs.declared.profile.Profile.TheVariants.{Nix, Plain}
use Rattle.valid_table.specs.declared.entry.Entry.{Entry}
use Rattle.run_report.specs.Reports.{AreByPath, path_at}
use Rattle.run_states.specs.Runs.{IsWanted, Run as RunOver, left_out, precondition_at, terms_of}
use Rattle.run_states.specs.Systems.{is_builtin}
use Rattle.run_states.specs.declared.precondition.Precondition.{Precondition}
use Rattle.run_states.specs.declared.precondition.Precondition.TheVariants.{Hindered}
use Rattle.run_states.specs.declared.state.Refusal.TheVariants.{Unsupported}
use Rattle.nix_realise.specs.declared.cli.exit.Status.{Status}
use Rattle.nix_realise.specs.declared.cli.exit.Status.TheVariants.{Unrealised}

-- whether a derivation with this precondition is refused as `Unsupported`
abbrev pub is_refused_so : Precondition → Bool
is_refused_so (Hindered Unsupported) = true
is_refused_so precondition = false

-- a derivation is wanted, and refused as `Unsupported`
abbrev pub IsUnsupportedIn : RunOver → (opening : List Entry) → ℕ → Type 0
IsUnsupportedIn run opening d =
    IsWanted run opening d
    × (is_refused_so (precondition_at (terms_of run) opening (slice_get run.graph.nodes d)) ≡ true)

-- the first key of an environment that asks for what is left out under `plain`, or another cause
-- where there is none
abbrev pub first_left_out : (other : Bytes) → List EnvEntry → Bytes
first_left_out other [] = other
first_left_out other (e ∷ env) =
    if list_any (same_bytes e.key) left_out then e.key else first_left_out other env

-- why a derivation is `Unsupported`: under `plain` for its builder, if that is one of Nix's own, else
-- for such a key, and else for the method of an output, which is that of a whole tree; under `nix`
-- for its builder
abbrev pub cause_of : Profile → Drv → Bytes
cause_of Plain drv =
    if is_builtin drv then drv.builder else first_left_out (codes "r:sha256") drv.env
cause_of Nix drv = drv.builder

-- why the derivation that has a number is `Unsupported`, if there is one
abbrev pub cause_if : Profile → Option Drv → Bytes
cause_if profile (Some drv) = cause_of profile drv
cause_if profile None = []

-- what a line ends with: under `plain` the option by which more is built
abbrev pub hint_of : Profile → Bytes
hint_of Plain = codes "; see --profile nix"
hint_of Nix = []

-- the line of a derivation, by its path and why it is `Unsupported`
abbrev pub line_with : Profile → (drv : Path) → (cause : Bytes) → Bytes
line_with profile drv cause =
    codes "nix_realise: " ++ drv ++ codes ": Unsupported: " ++ cause ++ hint_of profile
    ++ codes "\n"

-- the line of the derivation with this number
abbrev pub cause_line : Graph → ℕ → Bytes
cause_line graph d = line_with graph.profile (path_at graph.nodes d)
    (cause_if graph.profile (slice_get (drvs_of graph.nodes) d))

-- The text has a line for each such derivation, and no others, by path.
pub record AreCauseLines (run : RunOver) (opening : List Entry) (text : Bytes) : Type 0 where
  pub numbers : List ℕ
  pub by_path : AreByPath run.graph.nodes (IsUnsupportedIn run opening) numbers
  pub is_text : text ≡ flat_map (cause_line run.graph) numbers

-- the text has these lines where a root was not realised, and else nothing
abbrev pub IsCauseText : Status → RunOver → (opening : List Entry) → (text : Bytes) → Type 0
IsCauseText Unrealised run opening text = AreCauseLines run opening text
IsCauseText status run opening text = text ≡ []
