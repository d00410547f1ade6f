use Rattle.std.proofs.Common.{rules, ◌≢◌, length}
use Rattle.nix_archive.proofs.Turns.{names_some, up_more}
use Rattle.nix_archive.proofs.reader.ArchiveReader.go_up.Goals as goal

pub returns-else-is_empty-clause-same : goal.returns-else-is_empty-clause-same
returns-else-is_empty-clause-same c =
    let some : length c.args.self.now.folders.items ≢ 0 = search
    (rules, c.is_empty.ensures, c.if-is_empty.false) in
    up_more _ _ c.args.self.now.seen.items _ (names_some _ some) c.requires
