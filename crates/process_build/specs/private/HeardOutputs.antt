-- What was heard of the outputs of a job that is examined.
use Rattle.std.specs.Prelude.{◌≡◌, ◌≢◌, ℕ, All, IfSome, List, [], Option, Some, length, pos}
use Rattle.std.specs.Process.{exit_code}
use Rattle.drv_graph.specs.declared.profile.Profile.{Profile}
use Rattle.nix_archive.specs.Trees.{IsArchivable}
use Rattle.nix_archive.specs.Tokens.{tokens_of}
use Rattle.nix_names.specs.Bytes.{Path}
use Rattle.build_outcome.specs.Heard.{AreHeard, IsHeardAs, Kept, LeftArchive}
use Rattle.build_outcome.specs.declared.job.Job.{Job}
use Rattle.process_build.specs.Walks.{IsToldUnder}
use Rattle.process_build.specs.declared.process.process_end.HeardBuild.{HeardBuild}

-- A tree that may be an output's under a profile.
pub record IsOfProfile (profile : Profile) (left : LeftArchive) : Type 0 where
  pub archivable : IsArchivable left.tree
  pub may_be_told : All (IsToldUnder (Some profile)) (tokens_of left.tree)

-- What is kept of an output is what was heard of a tree, or nothing where nothing lies there.
pub record IsOutputHeard (job : Job) (permitted : List Path) (kept : Option Kept) : Type 0 where
  pub left : Option LeftArchive
  pub of_profile : IfSome left (IsOfProfile job.profile)
  pub heard : IsHeardAs job permitted left kept

-- What is kept of so many outputs of a job is what was heard of trees.
pub record AreOutputsHeard (job : Job) (permitted : List Path) (size : ℕ)
    (kept : List (Option Kept)) : Type 0 where
  pub lefts : List (Option LeftArchive)
  pub count : length lefts ≡ size
  pub of_profile : All (λ left. IfSome left (IsOfProfile job.profile)) lefts
  pub heard : AreHeard job permitted lefts kept

-- What was heard of the outputs of a job whose builder ended so: nothing, where its exit status
-- isn't 0.
pub record IsHeardBuild (job : Job) (permitted : List Path) (build : HeardBuild) : Type 0 where
  pub lefts : List (Option LeftArchive)
  pub of_good : exit_code build.ended.status ≡ Some (pos 0)
      → length lefts ≡ length job.outputs.items
  pub of_bad : exit_code build.ended.status ≢ Some (pos 0) → lefts ≡ []
  pub heard : AreHeard job permitted lefts build.outputs.items
