use Rattle.std.proofs.Common.{◌≡◌, take}
use Rattle.nix_drv.specs.OwnPath.{text_kind}
use Rattle.nix_drv.proofs.text_paths.text_kind.Given as goal

abbrev pub invariant-loop-path : goal.invariant-loop-path
invariant-loop-path l = l.kind.items ≡ text_kind (take l.path-index l.refs)
