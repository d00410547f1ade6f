-- What a hearer of an archive tells of a tree.
use Rattle.std.proofs.Common.{◌≡◌, ◌∙◌, ◌↔◌, ◌<◌, ◌^◌, ℕ, Bool, true, false, List, [], ◌++◌, Option, Some, None, length, refl, sym, ap, subst}
use Rattle.nix_archive.specs.Archive.{magic, nar}
use Rattle.nix_archive.specs.Texts.{text_of}
use Rattle.nix_archive.specs.Tokens.{tokens_of}
use Rattle.nix_archive.specs.Trees.{Tree as Archived, IsArchivable}
use Rattle.nix_archive.specs.declared.writer.ArchiveWriter.{ArchiveWriter}
use Rattle.nix_archive.proofs.Texts.{text_of_tree}
use Rattle.drv_graph.specs.declared.kinds.Kind.{Kind}
use Rattle.drv_graph.specs.declared.profile.Profile.{Profile}
use Rattle.ref_scan.specs.Archives.{IsArchiveOf}
use Rattle.ref_scan.specs.declared.tree.Tree.{Tree}
use Rattle.build_outcome.specs.Hearing.{IsArchiveBegun, IsArchiveHeard, IsWriterBegun, IsWritten}
use Rattle.build_outcome.specs.Sums.{IsOutputSum}
use Rattle.build_outcome.specs.Verdicts.{NeedsArchive}
use Rattle.build_outcome.specs.declared.hearers.archive_hearer.ArchiveHearer.{ArchiveHearer}
use Rattle.build_outcome.specs.declared.hearers.archive_sink.ArchiveSink.{ArchiveSink}
use Rattle.build_outcome.specs.declared.sums.OutputSum.{OutputSum}
use Rattle.build_outcome.specs.Sinks.{SumsArchive}
use Rattle.build_outcome.specs.private.Sinks.{IsSumFor}

-- what a writer holds at the end: nothing is asked for, or it holds the archive
abbrev pub IsArchiveHeld : Profile → Kind → Archived → Option (ArchiveWriter ArchiveSink) → Type 0
IsArchiveHeld profile kind tree None = NeedsArchive profile kind → ⊥
IsArchiveHeld profile kind tree (Some writer) =
    NeedsArchive profile kind × SumsArchive kind (nar tree) writer.sink

writer_held : (profile : Profile) (kind : Kind) (tree : Archived)
    (s t : Option (ArchiveWriter ArchiveSink)) → IsWriterBegun profile kind s
    → IsWritten s (text_of (tokens_of tree)) t → IsArchiveHeld profile kind tree t
writer_held profile kind tree None None begun heard = begun
writer_held profile kind tree None (Some t) begun heard = absurd heard
writer_held profile kind tree (Some s) None begun heard = absurd heard
writer_held profile kind tree (Some s) (Some t) begun heard = (
  begun.0,
  subst (λ l. SumsArchive kind l t.sink) (ap (λ l. magic ++ l) (text_of_tree tree))
      (heard kind magic begun.1),
)

pub archive_held : (profile : Profile) (kind : Kind) (tree : Archived) (s t : ArchiveHearer)
    → IsArchiveBegun profile kind s → IsArchiveHeard s (tokens_of tree) t
    → IsArchiveHeld profile kind tree t.writer
archive_held profile kind tree s t begun heard =
    writer_held profile kind tree s.writer t.writer begun heard

pub writer_told : (profile : Profile) (kind : Kind) (tree : Archived) (s t : ArchiveHearer)
    (writer : ArchiveWriter ArchiveSink) → t.writer ≡ Some writer
    → IsArchiveBegun profile kind s → IsArchiveHeard s (tokens_of tree) t
    → NeedsArchive profile kind × SumsArchive kind (nar tree) writer.sink
writer_told profile kind tree s t writer is begun heard =
    subst (IsArchiveHeld profile kind tree) is (archive_held profile kind tree s t begun heard)

-- the sum of the archive of a tree in memory
pub output_sum : (kind : Kind) (tree : Tree) (archived : Archived) (sum : OutputSum)
    → IsArchiveOf tree archived → IsArchivable archived → IsSumFor kind (nar archived) sum
    → IsOutputSum kind tree sum
output_sum kind tree archived sum is archivable told = record {
  bytes = nar archived;
  has = record {
    archived = archived;
    archivable = archivable;
    is_of = is;
    archive = refl;
    sized = told.sized;
  };
  hash = told.hash;
  size = told.size;
  digest = told.digest;
}
