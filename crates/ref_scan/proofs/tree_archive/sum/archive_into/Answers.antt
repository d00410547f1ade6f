use Rattle.nix_archive.specs.declared.writer.ArchiveWriter.{ArchiveWriter}
use Rattle.ref_scan.proofs.Tellings.{written}
use Rattle.ref_scan.proofs.tree_archive.sum.archive_into.Goals as goal

pub returns-in-Whole : goal.returns-in-Whole
returns-in-Whole g c =
    written g.S.Sink.took (λ (w : ArchiveWriter _). w.sink) g.met.S.Sink.joins _ c.in_ok-writer.writer
    c.tell.new.hearer c.args.tree.now c.in_ok-writer.ensures
    (rw c.in-Whole.is at c.in_ok-told.ensures)
