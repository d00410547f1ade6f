use Rattle.std.proofs.Common.{◌≡◌, take}
use Rattle.valid_table.specs.Entries.{paths_registered, registered}
use Rattle.nix_realise.proofs.verification.asked_paths.valid_paths.Given as goal

-- the paths so far are those of the entries so far
abbrev pub invariant-loop-entry : goal.invariant-loop-entry
invariant-loop-entry l =
    l.paths.items ≡ paths_registered (registered (take l.entry-index l.journal.entries))
