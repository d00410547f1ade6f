use Rattle.nix_archive.specs.private.Takes.{IsTakenOf}
use Rattle.std.proofs.Common.{sym, subst, get_or}
use Rattle.nix_archive.specs.Rests.{reader_rest}
use Rattle.nix_archive.specs.private.Takes.{now_rest}
use Rattle.nix_archive.proofs.Ends.{taken_one}
use Rattle.nix_archive.proofs.Wholes.{first_byte}
use Rattle.nix_archive.proofs.reader.ArchiveReader.take_free.Goals as goal

pub returns : goal.returns
returns g c =
    let piece = c.args.piece.now in
    subst (λ n. IsTakenOf g.H.Hear.heard c.args.hearer.now c.take_byte.new.hearer
    (now_rest c.args.self.now)
    (reader_rest c.take_byte.new.self) piece n) (sym c.count_of.ensures)
    (taken_one g.H.Hear.heard c.args.hearer.now c.take_byte.new.hearer (now_rest c.args.self.now)
    (reader_rest c.take_byte.new.self) piece (get_or piece 0 0) c.in_ok-taken.taken
    (first_byte piece c.requires.some) c.requires.some c.in_ok-taken.ensures)
