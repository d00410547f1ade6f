use Rattle.std.proofs.Common.{◌≡◌, refl, rules, true}
use Rattle.sha2.specs.Hashers.{Holds256}
use Rattle.nix_archive.specs.Archive.{nar}
use Rattle.nix_realise.proofs.HeardArchives.{sum_of_tree}
use Rattle.nix_realise.proofs.verification.path_read.hear_with.Goals as goal

pub returns : goal.returns
returns g c =
    let there : c.in_ok-tell_path.field-0 ≡ true = search rules in
    let told = rw there at c.in_ok-tell_path.ensures in
    let sum =
    sum_of_tree Holds256 told.tree _ _ _ _ _ _ c.new.ensures c.in_ok-first.ensures told.hears.0 in
    record {
      tree = told.tree;
      archivable = told.archivable;
      has_sum = c.in_ok-sum.ensures (nar told.tree) sum;
      hears = told.hears.1;
    }
