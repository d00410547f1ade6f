use Rattle.std.proofs.Common.{◌≡◌, drop}
use Rattle.std.specs.List.{list_any}
use Rattle.valid_table.specs.Written.{needs_three}
use Rattle.valid_table.specs.declared.entry.Registration.{Registration}
use Rattle.valid_table.proofs.journal_text.writing.registrations_need_three.Given as goal

-- the registrations that are left have the answer of all
abbrev pub invariant-registrations : goal.invariant-registrations
invariant-registrations l =
    list_any (λ (r : Registration). needs_three r.info) (drop l.registration-index l.registrations)
    ≡ list_any (λ (r : Registration). needs_three r.info) l.registrations
