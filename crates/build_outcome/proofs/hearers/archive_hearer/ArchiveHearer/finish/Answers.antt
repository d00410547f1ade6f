use Rattle.std.proofs.Common.{refl}
use Rattle.nix_archive.specs.Archive.{nar}
use Rattle.build_outcome.proofs.HeardArchives.{writer_told}
use Rattle.build_outcome.proofs.hearers.archive_hearer.ArchiveHearer.finish.Goals as goal

pub returns-in-Some-finish : goal.returns-in-Some-finish
returns-in-Some-finish c profile kind start tree begun heard =
    c.in-Some-finish.ensures kind (nar tree)
    (writer_told profile kind tree start c.args.self c.in-Some.writer c.in-Some.is begun heard).1

pub returns-in-None : goal.returns-in-None
returns-in-None c profile kind start tree begun heard =
    let told =
    writer_told profile kind tree start c.args.self c.in-Some.writer c.in-Some.is begun heard in
    (refl, told.0, c.in-None.ensures kind (nar tree) told.1)
