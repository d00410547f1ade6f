-- The lines that standard error gets at the end of a run of `realise` (this product's own,
-- `FORMATS.md`).
use Rattle.std.specs.Prelude.{◌≡◌, ℕ, Bool, true, false, ◌++◌, List, [], ◌∷◌, Option, Some, None, IfSome, codes}
use Rattle.std.specs.Prelude.{flat_map, length, map, option_map}
use Rattle.std.specs.Cmp.Lexicographic.{slice_cmp}
use Rattle.std.specs.List.{range_with_len}
use Rattle.std.specs.List.Sorted.{IsPermutation, IsSorted}
use Rattle.std.specs.Ordering.{nat_cmp}
use Rattle.nix_names.specs.Bytes.{Bytes, Dir, Path}
use Rattle.drv_graph.specs.Nodes.{Node}
use Rattle.drv_graph.specs.declared.profile.Profile.{Profile}
use Rattle.drv_graph.specs.declared.profile.Profile.TheVariants.{Nix, Plain}
use Rattle.process_build.specs.Folders.{build_folder_of, kept_suffix, nix_folder_of}
use Rattle.process_build.specs.Leases.{drv_name}
use Rattle.process_build.specs.Options.{log_path_of}
use Rattle.run_report.specs.Listing.{IsMarked}
use Rattle.run_report.specs.Reports.{AreByPath, path_at}
use Rattle.run_states.specs.Runs.{History, Run as RunOver, state_in}
use Rattle.run_states.specs.declared.state.Event.{Event}
use Rattle.run_states.specs.declared.state.Event.TheVariants.{Fail}
use Rattle.run_states.specs.declared.state.State.{State}
use Rattle.run_states.specs.declared.state.State.TheVariants.{Failed}
use Rattle.command_line.specs.declared.options.RealiseRequest.{RealiseRequest}
use Rattle.command_line.specs.declared.options.RunRequest.{RunRequest}
use Rattle.nix_realise.specs.CauseLines.{IsCauseText}
use Rattle.nix_realise.specs.RootsStatus.{roots_status}
use Rattle.nix_realise.specs.declared.cli.exit.Status.{Status}
use Rattle.nix_realise.specs.declared.cli.exit.Status.TheVariants.{Unrealised}
use Rattle.nix_realise.specs.declared.words.kept_lines.KeptBuilds.{KeptBuilds}
use Rattle.nix_realise.specs.declared.words.kept_lines.KeptLease.{KeptLease}

-- whether a derivation in this state failed
abbrev pub is_failed : State → Bool
is_failed (Failed reason) = true
is_failed state = false

-- whether each derivation failed, by number
abbrev pub failed_marks : RunOver → History → List Bool
failed_marks run history =
    map (λ d. is_failed (state_in run history d)) (range_with_len 0 (length run.graph.nodes))

-- the line of a derivation that failed, which names its log
abbrev pub failed_line : (logs : Bytes) → Dir → (drv : Path) → Bytes
failed_line logs store_dir drv =
    codes "nix_realise: " ++ drv ++ codes ": failed, see " ++ log_path_of logs store_dir drv
    ++ codes "\n"

-- The text has a line for each derivation that failed, and no others, by path.
pub record AreFailedLines (logs : Bytes) (store_dir : Dir) (run : RunOver) (history : History)
    (text : Bytes) : Type 0 where
  pub numbers : List ℕ
  pub by_path : AreByPath run.graph.nodes
      (IsMarked (failed_marks run history) (length run.graph.nodes)) numbers
  pub is_text : text
      ≡ flat_map (λ d. failed_line logs store_dir (path_at run.graph.nodes d)) numbers

-- The text has these lines where the request asks for logs and a root was not realised, and else
-- nothing.
abbrev pub FailedTextBy : (logs : Option Bytes) → (status : Status) → Dir → RunOver → History
    → (text : Bytes) → Type 0
FailedTextBy (Some logs) Unrealised store_dir run history text =
    AreFailedLines logs store_dir run history text
FailedTextBy logs status store_dir run history text = text ≡ []

abbrev pub IsFailedText : RealiseRequest → RunOver → History → (text : Bytes) → Type 0
IsFailedText request run history text =
    FailedTextBy (option_map (λ l. l.now) request.logs) (roots_status run history)
    request.run.store_dir.now run history text

-- the build folder that was kept of a lease
abbrev pub kept_folder_of : Profile → (store_dir : Dir) → (build_dir : Bytes) → KeptLease → Bytes
kept_folder_of Plain store_dir build_dir lease = build_folder_of store_dir lease.number
kept_folder_of Nix store_dir build_dir lease =
    nix_folder_of build_dir (drv_name lease.drv) lease.suffix

-- the line of a lease under which a derivation failed, and whose build folder was kept
abbrev pub kept_line : RunRequest → (build_dir : Bytes) → KeptLease → Bytes
kept_line run build_dir lease =
    codes "nix_realise: " ++ lease.drv ++ codes ": kept "
    ++ kept_folder_of run.profile run.store_dir.now build_dir lease ++ codes "\n"

-- a lease of the derivation with this number, if its folder was kept
abbrev pub kept_by : List Node → (d number : ℕ) → (suffix : Option ℕ) → List KeptLease
kept_by nodes d number (Some suffix) =
    record { drv = path_at nodes d; number = number; suffix = suffix } ∷ []
kept_by nodes d number None = []

-- the lease of an event, if that is a Fail, and if the lease's folder was kept
abbrev pub kept_lease : List Node → (kept : List (Option ℕ)) → Event → List KeptLease
kept_lease nodes kept (Fail d number reason) = kept_by nodes d number (kept_suffix kept number)
kept_lease nodes kept event = []

-- The text has a line for each Fail of the history whose lease's folder was kept, by the paths of
-- the derivations. Only which folders were kept, and the numbers at the ends of their names under
-- `nix`, are not told by the history.
pub record AreKeptFolderLines (asked : RunRequest) (run : RunOver) (history : History)
    (kept : KeptBuilds) (text : Bytes) : Type 0 where
  pub sorted : List KeptLease
  pub same : IsPermutation (flat_map (kept_lease run.graph.nodes kept.suffixes.items)
      history.events) sorted
  pub by_path : IsSorted (slice_cmp nat_cmp) (map (λ (k : KeptLease). k.drv) sorted)
  pub is_text : text ≡ flat_map (kept_line asked kept.build_dir.now) sorted

-- No folder is kept where the request doesn't ask for that. Under `nix` they lie in the folder that
-- the request names, where it names one.
pub record AreKeptFor (request : RealiseRequest) (kept : KeptBuilds) : Type 0 where
  pub asked : request.keep_failed ≡ false → kept.suffixes.items ≡ []
  pub within : IfSome request.build_dir (λ d. kept.build_dir.now ≡ d.now)

-- What standard error gets at the end of a run: the lines of the derivations that failed, then
-- those of the build folders that were kept, and those of the derivations that are refused as
-- `Unsupported`.
pub record IsLastText (request : RealiseRequest) (run : RunOver) (history : History)
    (kept : KeptBuilds) (text : Bytes) : Type 0 where
  pub failed : Bytes
  pub folders : Bytes
  pub causes : Bytes
  pub of_failed : IsFailedText request run history failed
  pub of_folders : AreKeptFolderLines request.run run history kept folders
  pub of_causes : IsCauseText (roots_status run history) run history.opening causes
  pub is_text : text ≡ failed ++ folders ++ causes
