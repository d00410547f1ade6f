use Rattle.nix_archive.proofs.Texts.{text_of_bytes}
use Rattle.nix_archive.proofs.writer.ArchiveWriterHear.hear.Goals as goal

pub returns-in-Piece : goal.returns-in-Piece
returns-in-Piece g c =
    rw (c.in-Piece.is, text_of_bytes c.in-Piece.bytes.now) c.put.ensures
