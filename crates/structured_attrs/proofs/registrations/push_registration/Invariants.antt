use Rattle.std.proofs.Common.{◌≡◌, ◌++◌, drop}
use Rattle.std.specs.List.{flat_map}
use Rattle.structured_attrs.specs.Registrations.{path_line}
use Rattle.structured_attrs.proofs.registrations.push_registration.Given as goal

-- what is written, and the lines of the references that are left
abbrev pub invariant-references : goal.invariant-references
invariant-references l = l.out.items ++ flat_map path_line (drop l.reference-index l.reference-items) ≡ l.initial.out.items ++ flat_map path_line l.reference-items
