use Rattle.std.proofs.Common.{◌≡◌, ◌++◌, List, ℕ, drop}
use Rattle.std.specs.List.{flat_map}
use Rattle.run_report.specs.declared.report.listing.Listed.{Listed}
use Rattle.nix_realise.specs.CauseLines.{cause_line}
use Rattle.nix_realise.proofs.words.cause_lines.write_causes.Given as goal

-- what is written, and the lines of the derivations that are left
abbrev pub invariant-refused : goal.invariant-refused
invariant-refused l =
    let line : Listed → List ℕ = λ one. cause_line l.plan one.number in
    l.out.items ++ flat_map line (drop l.one-index l.refused)
    ≡ l.initial.out.items ++ flat_map line l.refused
