use Rattle.std.proofs.Common.{◌∙◌, Some, List, ℕ, ap}
use Rattle.nix_names.specs.Names.{same_bytes}
use Rattle.nix_drv.proofs.CheckedListings.{bytes_found}
use Rattle.nix_drv.proofs.listing.bytes_at.Goals as goal

pub returns-in_err-bytes : goal.returns-in_err-bytes
returns-in_err-bytes c = rw c.from_residual.ensures
    (bytes_found (same_bytes c.args.path.now) _ _
    c.in_err-bytes.ensures.value)

pub returns : goal.returns
returns c = ap (λ (bytes : List ℕ). Some bytes) c.deref.ensures.value
    ∙ bytes_found (same_bytes c.args.path.now) _
    _ c.in_ok-bytes.ensures.value
