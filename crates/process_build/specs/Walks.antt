-- What a walk over a tree on disk tells a hearer. No clause can say what lies on disk, so that is
-- some tree.
use Rattle.std.specs.Prelude.{◌≡◌, ◌≢◌, ◌⊎◌, ⊤, All, Bool, true, false, List, Option, Some}
use Rattle.drv_graph.specs.declared.profile.Profile.{Profile}
use Rattle.drv_graph.specs.declared.profile.Profile.TheVariants.{Plain}
use Rattle.nix_archive.specs.Trees.{Tree, IsArchivable}
use Rattle.nix_archive.specs.Tokens.{Token, FileBegun, LinkTo, tokens_of}

-- A tree was told that may stand in an archive: the names in each folder rise strictly by bytes,
-- and each file has the length that was told.
pub record IsTreeTold {S : Type 0} (heard : S → List Token → S → Type 0) (before after : S)
    : Type 0 where
  pub tree : Tree
  pub archivable : IsArchivable tree
  pub hears : heard before (tokens_of tree) after

-- what is told of a path: a tree where something lies there, and else nothing
abbrev pub IsTold : {S : Type 0} (heard : S → List Token → S → Type 0) (before after : S)
    → Bool → Type 0
IsTold heard before after true = IsTreeTold heard before after
IsTold heard before after false = after ≡ before

-- what may be told of an output under a profile, or of a tree as it lies, where there is none:
-- under `plain` no link, and no file as one that its owner may execute
abbrev pub IsToldUnder : Option Profile → Token → Type 0
IsToldUnder profile (FileBegun executable size) = profile ≡ Some Plain → executable ≡ false
IsToldUnder profile (LinkTo target) = profile ≢ Some Plain
IsToldUnder profile token = ⊤

-- a hearer heard tokens, each of which may be told
abbrev pub HearsUnder : {S : Type 0} → Option Profile → (heard : S → List Token → S → Type 0)
    → S → List Token → S → Type 0
HearsUnder profile heard before tokens after =
    heard before tokens after × All (IsToldUnder profile) tokens

-- Tokens were told by which a hearer passed its limit.
pub record IsToldPast {S : Type 0} (heard : S → List Token → S → Type 0) (keeps : S → Type 0)
    (before after : S) : Type 0 where
  pub said : List Token
  pub hears : heard before said after
  pub past : ¬ (keeps after)

-- a walk passed a limit: a hearer its own, by what it was told, or the number of names that may be
-- read of an output under `plain`
abbrev pub IsPastLimits : {S : Type 0} → Option Profile → (heard : S → List Token → S → Type 0)
    → (keeps : S → Type 0) → (before after : S) → Type 0
IsPastLimits profile heard keeps before after =
    (profile ≡ Some Plain) ⊎ IsToldPast heard keeps before after
