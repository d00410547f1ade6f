use Rattle.std.proofs.Common.{◌≡◌, drop, map}
use Rattle.nix_drv.specs.Parts.{entry_of}
use Rattle.nix_realise.specs.CauseLines.{first_left_out}
use Rattle.nix_realise.proofs.words.cause_lines.first_left_out.Given as goal

-- what is found among the entries that are left is what is found among all
abbrev pub invariant-entries : goal.invariant-entries
invariant-entries l =
    first_left_out l.other (map entry_of (drop l.entry-index l.env))
    ≡ first_left_out l.other (map entry_of l.env)
