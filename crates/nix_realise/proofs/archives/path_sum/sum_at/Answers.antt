use Rattle.std.proofs.Common.{◌≡◌, Bool, refl, rules, subst, true}
use Rattle.sha2.specs.Hashers.{Holds256}
use Rattle.nix_archive.specs.Archive.{nar}
use Rattle.process_build.specs.Walks.{IsTold}
use Rattle.nix_realise.proofs.HeardArchives.{sum_of_tree}
use Rattle.nix_realise.proofs.archives.path_sum.sum_at.Goals as goal

pub returns : goal.returns
returns g c =
    let there : c.in_ok-tell_path.field-0 ≡ true = search rules in
    let told = rw there at c.in_ok-tell_path.ensures in
    let sum =
    sum_of_tree Holds256 told.tree _ _ _ _ _ _ c.new.ensures c.in_ok-writer.ensures told.hears in
    let known = c.in_ok-sum_of.ensures (nar told.tree) sum in
    record {
      archive = nar told.tree;
      is_nar = record { tree = told.tree; archivable = told.archivable; is_of = refl };
      hash = known.0;
      size = known.1;
    }
