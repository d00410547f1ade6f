use Rattle.std.proofs.Common.{vec_len}
use Rattle.nix_drv.proofs.CheckedListings.{AreByPath}
use Rattle.nix_drv.proofs.listing.by_path.Given as goal

abbrev pub invariant-files : goal.invariant-files
invariant-files l = AreByPath l.files.items l.by_path.entries l.fn.files.items

abbrev pub decreases-files : goal.decreases-files
decreases-files l = vec_len l.files
