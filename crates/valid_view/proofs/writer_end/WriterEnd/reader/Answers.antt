use Rattle.valid_view.proofs.ShownTables.{admits}
use Rattle.valid_view.proofs.writer_end.WriterEnd.reader.Goals as goal

pub reader-requires : goal.reader-requires
reader-requires g c = admits g.J.ListId.book
