-- The text of a file of exportReferencesGraph without structured attributes (Nix manual, "Advanced
-- Attributes", `exportReferencesGraph`; `nix-store --register-validity`, whose form it has).
use Rattle.std.specs.Prelude.{List, [], ◌∷◌, ◌++◌, decimal, flat_map, length}
use Rattle.nix_names.specs.Bytes.{Bytes, Path}
use Rattle.valid_table.specs.declared.entry.Registration.{Registration}

-- a path on a line of its own
abbrev pub path_line : Path → Bytes
path_line path = path ++ (10 ∷ [])

-- a path, an empty line for its deriver, and the number of its references
abbrev pub header_text : Registration → Bytes
header_text r =
    path_line r.path ++ (10 ∷ (decimal (length r.info.references) ++ (10 ∷ [])))

-- the lines of a registration: those, and its references
abbrev pub registration_text : Registration → Bytes
registration_text r = header_text r ++ flat_map path_line r.info.references

-- the text of some registrations, in their order
abbrev pub registrations_text : List Registration → Bytes
registrations_text rows = flat_map registration_text rows
