-- The files of pairs, one after the other.
use Rattle.std.specs.Prelude.{◌≡◌, Bool, true, false, List, [], ◌∷◌, ◌++◌, string_bytes}
use Rattle.valid_table.specs.declared.entry.Registration.{Registration}
use Rattle.structured_attrs.specs.Registrations.{registrations_text}
use Rattle.build_outcome.specs.declared.preparation.PreparedFile.{PreparedFile}
use Rattle.builder_start.specs.declared.pairs.Pair.{Pair}

-- the file of a pair with this graph was added, where a later pair doesn't have its name
abbrev pub IsAdded : (named : Bool) → Pair → (graph : List Registration)
    → (old new : List PreparedFile) → Type 0
IsAdded true pair graph old new = new ≡ old
IsAdded false pair graph old new = (file : PreparedFile) × (new ≡ old ++ file ∷ [])
    × (string_bytes file.name ≡ pair.name.now)
    × (file.contents.items ≡ registrations_text graph)
