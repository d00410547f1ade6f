use Rattle.nix_drv.proofs.CheckedListings.{one_by_path}
use Rattle.nix_drv.proofs.listing.by_path.Goals as goal

pub files-preserved-in_ok-insert : goal.files-preserved-in_ok-insert
files-preserved-in_ok-insert c = one_by_path _ _ _ _
    _ _ c.files.invariant c.in-Some.ensures.items
    c.in_ok-insert.ensures.entries

pub files-preserved : goal.files-preserved
files-preserved c = one_by_path _ _ _ _ _
    _ c.files.invariant c.in-Some.ensures.items c.in_ok-insert.ensures.entries
