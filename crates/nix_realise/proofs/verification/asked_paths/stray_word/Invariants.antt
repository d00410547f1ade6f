use Rattle.std.proofs.Common.{take}
use Rattle.std.specs.Prelude.{All}
use Rattle.valid_table.specs.Entries.{registered}
use Rattle.valid_table.specs.Valid.{IsValid}
use Rattle.nix_realise.proofs.verification.asked_paths.stray_word.Given as goal

-- the paths so far are valid
abbrev pub invariant-loop-index : goal.invariant-loop-index
invariant-loop-index l = All (IsValid (registered l.journal.entries)) (take l.index l.paths)
