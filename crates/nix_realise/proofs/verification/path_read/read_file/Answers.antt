use Rattle.std.proofs.Common.{Some}
use Rattle.nix_realise.proofs.HeardArchives.{at_some}
use Rattle.nix_realise.proofs.verification.path_read.read_file.Goals as goal

pub returns : goal.returns
returns g c =
    let heard = at_some _ c.in_ok-heard.field-0 _ c.in-Some.is c.in_ok-heard.ensures in
    record {
      tree = heard.tree;
      archivable = heard.archivable;
      has_sum = heard.has_sum;
      digest =
          c.finish-digest.ensures (Some c.args.algorithm) c.new.result heard.tree c.new.ensures
          heard.hears;
    }
