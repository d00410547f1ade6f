use Rattle.std.proofs.Common.{◌≡◌, ◌++◌, drop}
use Rattle.std.specs.List.{flat_map}
use Rattle.nix_realise.specs.LastLines.{kept_line}
use Rattle.nix_realise.proofs.words.kept_lines.write_kept.Given as goal

-- what is written, and the lines of the folders that are left
abbrev pub invariant-leases : goal.invariant-leases
invariant-leases l =
    l.out.items ++ flat_map (kept_line l.run l.build_dir) (drop l.lease-index l.leases)
    ≡ l.initial.out.items ++ flat_map (kept_line l.run l.build_dir) l.leases
