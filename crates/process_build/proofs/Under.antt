-- What is told of a tree as an output of a profile has it.
use Rattle.std.proofs.Common.{◌≡◌, ◌≢◌, ℕ, Bool, false, List, Option, Some, [], ◌∷◌, ◌++◌, All, length, map}
use Rattle.std.proofs.lemmas.List.Elements.{All-append, All-cons, All-nil}
use Rattle.drv_graph.specs.declared.profile.Profile.{Profile}
use Rattle.drv_graph.specs.declared.profile.Profile.TheVariants.{Plain}
use Rattle.nix_archive.specs.Trees.{Bytes, File, IsString}
use Rattle.nix_archive.specs.Tokens.{Token, FileBegun, FileByte, FileEnded, LinkTo}
use Rattle.process_build.specs.Walks.{HearsUnder, IsToldUnder, IsTreeTold}
use Rattle.process_build.specs.private.Walking.{IsFileTold}
use Rattle.process_build.proofs.Walking.{tree_link}

-- each byte of a file may be told
bytes_under : (profile : Option Profile) (bytes : Bytes)
    → All (IsToldUnder profile) (map FileByte bytes)
bytes_under profile [] = All-nil (IsToldUnder profile)
bytes_under profile (byte ∷ bytes) =
    All-cons (IsToldUnder profile) (FileByte byte) (map FileByte bytes) tt
    (bytes_under profile bytes)

module _ {S : Type 0} (heard : S → List Token → S → Type 0)
    (joins : (s m t : S) (before after : List Token) → heard s before m → heard m after t
    → heard s (before ++ after) t) where
  -- what is heard joins
  pub joins_under : (profile : Option Profile) (s m t : S) (before after : List Token)
      → HearsUnder profile heard s before m → HearsUnder profile heard m after t
      → HearsUnder profile heard s (before ++ after) t
  joins_under profile s m t before after first then = (
    joins s m t before after first.0 then.0,
    All-append (IsToldUnder profile) before after first.1 then.1,
  )

  -- one token was heard that may be told
  pub one_under : (profile : Option Profile) (s t : S) (token : Token) → heard s (token ∷ []) t
      → IsToldUnder profile token → HearsUnder profile heard s (token ∷ []) t
  one_under profile s t token h may =
      (h, All-cons (IsToldUnder profile) token [] may (All-nil (IsToldUnder profile)))

  -- a file was told
  pub file_under : (profile : Option Profile) (s t : S) (executable : Bool) (size : ℕ)
      (old new : Option Bytes) → (profile ≡ Some Plain → executable ≡ false)
      → IsFileTold heard s t executable size old new → IsTreeTold (HearsUnder profile heard) s t
  file_under profile s t executable size old new may file =
      let P = IsToldUnder profile in
      record {
        tree = File executable file.bytes;
        archivable = file.is_string;
        hears = (
          file.hears,
          All-cons P (FileBegun executable (length file.bytes)) _ may (All-append P
              (map FileByte file.bytes) (FileEnded (length file.bytes) ∷ [])
              (bytes_under profile file.bytes)
              (All-cons P (FileEnded (length file.bytes)) [] tt (All-nil P))),
        );
      }

  -- a link was told
  pub link_under : (profile : Option Profile) (s t : S) (target : Bytes) → profile ≢ Some Plain
      → IsString target → heard s (LinkTo target ∷ []) t
      → IsTreeTold (HearsUnder profile heard) s t
  link_under profile s t target may is h =
      tree_link (HearsUnder profile heard) (joins_under profile) s t target is
      (one_under profile s t (LinkTo target) h may)

  -- what was told of an output was told
  pub told_at_all : (profile : Option Profile) (s t : S)
      → IsTreeTold (HearsUnder profile heard) s t → IsTreeTold heard s t
  told_at_all profile s t told = record {
    tree = told.tree;
    archivable = told.archivable;
    hears = told.hears.0;
  }
