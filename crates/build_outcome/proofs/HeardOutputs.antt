-- What is kept of an output that was heard, and the answers of which it tells.
use Rattle.std.proofs.Common.{◌≡◌, ◌∙◌, ◌↔◌, ◌⊎◌, inl, inr, ℕ, ◌<◌, ◌≤◌, ◌^◌, Bool, true, false, List, [], ◌∷◌, Option, Some, None, length, refl, sym, ap, subst}
use Rattle.std.proofs.lemmas.Bool.{false≢true}
use Rattle.std.specs.Prelude.{IsTrue, ⊤, Result, Ok, Err}
use Rattle.std.specs.declared.alloc.Global.{Global}
use Rattle.std.specs.declared.vec.Vec.{Vec}
use Rattle.nix_archive.specs.Archive.{nar}
use Rattle.nix_archive.specs.Tokens.{tokens_of}
use Rattle.nix_archive.specs.Trees.{Tree as Archived, IsArchivable, File as ArchivedFile, Folder, Link as ArchivedLink}
use Rattle.nix_names.specs.declared.digest.Algorithm.{Algorithm}
use Rattle.nix_names.specs.declared.digest.Digest.{Digest}
use Rattle.drv_graph.specs.declared.kinds.Kind.{Kind}
use Rattle.drv_graph.specs.declared.profile.Profile.{Profile}
use Rattle.drv_graph.specs.declared.profile.Profile.TheVariants.{Nix, Plain}
use Rattle.ref_scan.specs.Archives.{IsArchiveOf}
use Rattle.ref_scan.specs.ArchivedTrees.{HasTree, KeepsLimits, LiesInMemory}
use Rattle.ref_scan.specs.Counting.{IsCountHeard, IsNewCounts, IsWithin}
use Rattle.ref_scan.specs.Hearing.{IsFoundAtHearing}
use Rattle.ref_scan.specs.Scan.{IsFound}
use Rattle.ref_scan.specs.Trees.{joined}
use Rattle.ref_scan.specs.declared.tree.Tree.{Tree, File, Pieces, Executable, Link, Dir'}
use Rattle.ref_scan.proofs.ArchivedMeasures.{measured_alike}
use Rattle.ref_scan.proofs.Countings.{counts_hear_limits}
use Rattle.ref_scan.proofs.MadeTrees.{archives_have_trees, heard_trees_lie, short_archives_lie}
use Rattle.build_outcome.specs.Heard.{IsHeardOutput, IsKeptOf, IsNotKept, IsSumKept, Kept, file_algorithm}
use Rattle.build_outcome.specs.Hearing.{IsOutputBegun, IsOutputHeard, IsStillWithin, archived_digest}
use Rattle.build_outcome.specs.Verdicts.{IsFlatFile, MayBeTaken, NeedsArchive, digest_by, file_digest_of}
use Rattle.build_outcome.specs.declared.hearers.output_hearer.OutputHearer.{OutputHearer}
use Rattle.build_outcome.specs.declared.job.Job.{Job}
use Rattle.build_outcome.specs.declared.reason.Reason.{Reason}
use Rattle.build_outcome.specs.declared.reason.Reason.TheVariants.{ReadFault, TooLarge}
use Rattle.build_outcome.specs.declared.sums.OutputSum.{OutputSum}
use Rattle.build_outcome.specs.private.Hearing.{IsFlatArchived, IsSumTold}
use Rattle.build_outcome.specs.private.Sinks.{IsSumFor}
use Rattle.build_outcome.proofs.HeardArchives.{output_sum}

-- ---- a tree in memory and that of its archive

digest_alike : (algorithm : Algorithm) (tree : Tree) (archived : Archived)
    → IsArchiveOf tree archived
    → archived_digest (Some algorithm) archived ≡ file_digest_of algorithm tree
digest_alike algorithm (File bytes) archived is = ap (archived_digest (Some algorithm)) is
digest_alike algorithm (Pieces parts) archived is = ap (archived_digest (Some algorithm)) is
digest_alike algorithm (Executable parts) archived is = ap (archived_digest (Some algorithm)) is
digest_alike algorithm (Link target) archived is = ap (archived_digest (Some algorithm)) is
digest_alike algorithm (Dir' shape entries) archived is = ap (archived_digest (Some algorithm)) is.1

flat_of : (profile : Profile) (tree : Tree) (archived : Archived) → IsArchiveOf tree archived
    → IsFlatArchived profile archived ↔ IsFlatFile profile tree
flat_of profile tree archived is = by profile tree archived is
  where
    at : (p : Profile) (t : Tree) (a b : Archived) → a ≡ b
        → (IsFlatArchived p b ↔ IsFlatFile p t) → IsFlatArchived p a ↔ IsFlatFile p t
    at p t a b same flat =
        subst (λ (x : Archived). IsFlatArchived p x ↔ IsFlatFile p t) (sym same) flat

    by : (p : Profile) (t : Tree) (a : Archived) → IsArchiveOf t a
        → IsFlatArchived p a ↔ IsFlatFile p t
    by Plain (File bytes) a is =
        at Plain (File bytes) a _ is (λ _. tt, λ _. tt)
    by Nix (File bytes) a is =
        at Nix (File bytes) a _ is (λ _. tt, λ _. refl)
    by Plain (Pieces parts) a is =
        at Plain (Pieces parts) a _ is (λ _. tt, λ _. tt)
    by Nix (Pieces parts) a is =
        at Nix (Pieces parts) a _ is (λ _. tt, λ _. refl)
    by Plain (Executable parts) a is =
        at Plain (Executable parts) a _ is (λ _. tt, λ _. tt)
    by Nix (Executable parts) a is =
        at Nix (Executable parts) a _ is (λ no. absurd (false≢true (sym no)), λ no. absurd no)
    by p (Link target) a is = at p (Link target) a _ is (λ no. no, λ no. no)
    by p (Dir' shape entries) a is =
        at p (Dir' shape entries) a _ is.1 (λ no. no, λ no. no)

-- ---- what is kept

-- what is known where a tree was heard
module _ (job : Job) (permitted : List (List ℕ)) (s t : OutputHearer) (archived : Archived)
    (begun : IsOutputBegun job permitted s) (heard : IsOutputHeard s (tokens_of archived) t) where
  keeps : IsWithin t.counts ↔ KeepsLimits archived
  keeps = counts_hear_limits s.counts t.counts archived begun.counts heard.counts

  pub profile_is : t.profile ≡ job.profile
  profile_is = heard.profile ∙ begun.profile

  taken_by : (profile : Profile) (tree : Tree) → IsArchiveOf tree archived → IsStillWithin profile t.counts
      → MayBeTaken profile tree
  taken_by Plain tree is within = (measured_alike tree archived is).limits.1 (keeps.0 within)
  taken_by Nix tree is within = tt

  -- the tree of an output that is kept could lie in memory
  lies_by : (profile : Profile) (kind : Kind) (sum : Option OutputSum)
      → IsStillWithin profile t.counts
      → IsSumTold profile kind archived (Ok sum) → LiesInMemory archived
  lies_by profile kind (Some sum) within told = short_archives_lie archived told.sized
  lies_by Plain kind None within told =
      heard_trees_lie archived heard.scanner.short (keeps.0 within)
  lies_by Nix kind None within told = absurd (told tt)

  sum_kept : (tree : Tree) → IsArchiveOf tree archived → IsArchivable archived
      → (sum : Option OutputSum) → IsSumTold job.profile job.kind archived (Ok sum)
      → IsSumKept job tree sum
  sum_kept tree is archivable None told = told
  sum_kept tree is archivable (Some sum) told =
      output_sum job.kind tree archived sum is archivable told

  still : IsStillWithin t.profile t.counts → IsStillWithin job.profile t.counts
  still within = subst (λ (p : Profile). IsStillWithin p t.counts) profile_is within

  pub flat_at : (flat : Bool)
      → IsTrue flat ↔ IsFlatArchived t.profile archived
      → IsTrue flat ↔ IsFlatArchived job.profile archived
  flat_at flat told =
      subst (λ (p : Profile). IsTrue flat ↔ IsFlatArchived p archived) profile_is told

  pub output_kept : (kept : Kept) → IsArchivable archived → IsStillWithin t.profile t.counts
      → IsSumTold job.profile job.kind archived (Ok kept.sum)
      → IsFoundAtHearing t.scanner kept.references
      → IsTrue kept.is_flat_file ↔ IsFlatArchived job.profile archived
      → kept.digest ≡ archived_digest (file_algorithm job.profile job.kind) archived
      → IsHeardOutput job permitted archived kept.others_may_write kept
  output_kept kept archivable within sum found flat digest = record {
    has_tree = archives_have_trees archived archivable
        (lies_by job.profile job.kind kept.sum (still within) sum);
    tells = λ tree is. record {
      found = found permitted s.scanner tree archived begun.scanner heard.scanner is;
      taken = taken_by job.profile tree is (still within);
      flat = (
        λ yes. (flat_of job.profile tree archived is).0 (flat.0 yes),
        λ yes. flat.1 ((flat_of job.profile tree archived is).1 yes),
      );
      digest = λ algorithm asked. digest ∙ ap (λ a. archived_digest a archived) asked
          ∙ digest_alike algorithm tree archived is;
      sum = sum_kept tree is archivable kept.sum sum;
    };
    others = refl;
  }

  -- a tree that passes the limits, or whose archive is too long
  too_large_by : (profile : Profile) → t.profile ≡ profile
      → (IsStillWithin t.profile t.counts → ⊥) → IsNotKept job archived TooLarge
  too_large_by Plain is past =
      inr (inr (
        refl,
        sym profile_is ∙ is,
        λ limits. past (subst (λ (p : Profile). IsStillWithin p t.counts) (sym is)
            (keeps.1 limits)),
      ))
  too_large_by Nix is past =
      absurd (past (subst (λ (p : Profile). IsStillWithin p t.counts) (sym is) tt))

  pub too_large : (IsStillWithin t.profile t.counts → ⊥) → IsNotKept job archived TooLarge
  too_large past = too_large_by t.profile refl past

  pub not_read : (why : Reason) → IsSumTold job.profile job.kind archived (Err why)
      → IsNotKept job archived why
  not_read why told = inr (inl told)
