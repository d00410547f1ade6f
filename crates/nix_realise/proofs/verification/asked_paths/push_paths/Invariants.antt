use Rattle.std.proofs.Common.{◌≡◌, ◌++◌, take}
use Rattle.valid_table.specs.Entries.{paths_registered}
use Rattle.nix_realise.proofs.verification.asked_paths.push_paths.Given as goal

-- the paths so far are those of the registrations so far
abbrev pub invariant-loop-registration : goal.invariant-loop-registration
invariant-loop-registration l =
    l.paths.items
    ≡ l.initial.paths.items ++ paths_registered (take l.registration-index l.registrations)
