use Rattle.std.proofs.Common.{◌≡◌, Err, List, Ok, OnOk, Result, ℕ, rules}
use Rattle.valid_table.specs.private.Closing.{AddsReferences, AddsRows, path_at}
use Rattle.valid_table.specs.PathInfos.{PathInfo}
use Rattle.valid_table.specs.Valid.{Registers}
use Rattle.valid_table.specs.declared.entry.Registration.{Registration}
use Rattle.valid_table.proofs.Following.{row_registers}
use Rattle.valid_table.proofs.reachability.closure.follow.Goals as goal

references_added : {T E : Type 0} (registrations : List Registration) (old : List ℕ) (row : ℕ)
    (new : List ℕ) (info : PathInfo) (paths : List (List ℕ)) (result : Result T E)
    → Registers registrations (path_at registrations row) info → paths ≡ info.references
    → OnOk result (AddsRows registrations old paths new)
    → OnOk result (AddsReferences registrations old row new)
references_added registrations old row new info paths (Ok x) registers same adds = search rules
references_added registrations old row new info paths (Err e) registers same adds = tt

pub add_numbers-requires-clause-below : goal.add_numbers-requires-clause-below
add_numbers-requires-clause-below c = search rules

pub returns-in-None-clause-adds : goal.returns-in-None-clause-adds
returns-in-None-clause-adds c = search (rules, references_added, row_registers)
