use Rattle.nix_drv.proofs.CheckedPaths.{blamed_is_stray, stray_alone}
use Rattle.nix_drv.proofs.check.parse_reference.Goals as goal

pub returns-in_ok-from_slice-in_default : goal.returns-in_ok-from_slice-in_default
returns-in_ok-from_slice-in_default c = record {
  ok = tt;
  err = stray_alone _ _ _ c.in_ok-from_slice-in_default.ensures.items
      (blamed_is_stray _ _ _ c.in-Err.ensures c.in_default.not-NoMemory);
}
