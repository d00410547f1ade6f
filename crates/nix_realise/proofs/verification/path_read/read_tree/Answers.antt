use Rattle.std.proofs.Common.{Some, ap}
use Rattle.nix_archive.specs.Archive.{nar}
use Rattle.nix_realise.proofs.HeardArchives.{archive_hashed, at_some}
use Rattle.nix_realise.proofs.verification.path_read.read_tree.Goals as goal

pub returns : goal.returns
returns g c =
    let heard = at_some _ c.in_ok-heard.field-0 _ c.in-Some.is c.in_ok-heard.ensures in
    let hashed = archive_hashed c.new.result c.in_ok-hearer.hearer.sink c.in-Some.heard.1.sink
    c.args.algorithm heard.tree c.new.ensures c.in_ok-hearer.ensures heard.hears in
    record {
      tree = heard.tree;
      archivable = heard.archivable;
      has_sum = heard.has_sum;
      digest = ap Some (c.finish-digest.ensures c.args.algorithm (nar heard.tree) hashed);
    }
