use Rattle.std.proofs.Common.{◌≡◌, ◌++◌, List, ℕ, drop}
use Rattle.std.specs.List.{flat_map}
use Rattle.run_report.specs.Reports.{path_at}
use Rattle.run_report.specs.declared.report.listing.Listed.{Listed}
use Rattle.nix_realise.specs.LastLines.{failed_line}
use Rattle.nix_realise.proofs.words.last_lines.write_failed.Given as goal

-- what is written, and the lines of the derivations that are left
abbrev pub invariant-failed : goal.invariant-failed
invariant-failed l =
    let line : Listed → List ℕ =
    λ one. failed_line l.logs l.store_dir (path_at l.plan.nodes one.number) in
    l.out.items ++ flat_map line (drop l.one-index l.failed)
    ≡ l.initial.out.items ++ flat_map line l.failed
