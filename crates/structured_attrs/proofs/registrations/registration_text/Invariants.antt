use Rattle.std.proofs.Common.{◌≡◌, ◌++◌, drop}
use Rattle.structured_attrs.specs.Registrations.{registrations_text}
use Rattle.structured_attrs.proofs.registrations.registration_text.Given as goal

-- what is written, and the text of the rows that are left
abbrev pub invariant-rows : goal.invariant-rows
invariant-rows l = l.out.items ++ registrations_text (drop l.row-index l.rows) ≡ l.initial.out.items ++ registrations_text l.rows
