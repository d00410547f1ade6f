-- What it means that an entry is taken in: into a table, or at the end of a journal.
use Rattle.std.specs.Prelude.{◌≡◌, ◌++◌, ⊤, List, [], ◌∷◌, All, Result, Ok, Err}
use Rattle.nix_names.specs.Bytes.{Path}
use Rattle.valid_table.specs.Entries.{paths_registered, registered, registered_by}
use Rattle.valid_table.specs.Valid.{IsNotValid, IsValid, references_of}
use Rattle.valid_table.specs.declared.entry.Entry.{Entry}
use Rattle.valid_table.specs.declared.entry.Registration.{Registration}
use Rattle.valid_table.specs.declared.fault.TableFault.{TableFault}
use Rattle.valid_table.specs.declared.fault.TableFault.TheVariants.{NoMemory, Unclosed, AlreadyValid}
use Rattle.valid_table.specs.declared.path_table.obstacle.Obstacle.{Obstacle}
use Rattle.valid_table.specs.declared.path_table.obstacle.Obstacle.TheVariants as obstacle
use Rattle.nix_names.specs.Firsts.{IsFirst}

-- none of the paths of some registrations is valid by known ones
abbrev pub AreNew : (known some : List Registration) → Type 0
AreNew known some = All (IsNotValid known) (paths_registered some)

-- each reference of some registrations is valid by known ones or by themselves
abbrev pub AreClosed : (known some : List Registration) → Type 0
AreClosed known some = All (IsValid (known ++ some)) (references_of some)

-- a path is the first path of some registrations that is valid by known ones
abbrev pub IsFirstValid : (known some : List Registration) → Path → Type 0
IsFirstValid known some path = IsFirst (IsNotValid known) (IsValid known) (paths_registered some)
    path

-- a path is the first of their references that is valid neither by known ones nor by themselves
abbrev pub IsFirstUnclosed : (known some : List Registration) → Path → Type 0
IsFirstUnclosed known some path = IsFirst (IsValid (known ++ some)) (IsNotValid (known ++ some))
    (references_of some) path

-- why some registrations can't be taken in after known ones: one of their paths is valid already,
-- or one of their references is not valid
abbrev pub IsObstacle : (known some : List Registration) → Obstacle → Type 0
IsObstacle known some (obstacle.AlreadyValid path) = IsFirstValid known some path.now
IsObstacle known some (obstacle.Unclosed path) = AreNew known some
    × IsFirstUnclosed known some path.now

-- What is answered where some registrations are to be taken in after known ones: they are taken
-- in, or nothing changes. `NoMemory` comes only where nothing else speaks against them.
abbrev pub IsTakingIn : (known some : List Registration) (taken same : Type 0) → Result ⊤ TableFault
    → Type 0
IsTakingIn known some taken same (Ok _) = AreNew known some × AreClosed known some × taken
IsTakingIn known some taken same (Err (AlreadyValid path)) = IsFirstValid known some path × same
IsTakingIn known some taken same (Err (Unclosed path)) = AreNew known some
    × IsFirstUnclosed known some path × same
IsTakingIn known some taken same (Err NoMemory) = AreNew known some × AreClosed known some × same
IsTakingIn known some taken same (Err other) = ⊥

-- what is answered where an entry is to be added to a list of entries, and the list afterwards
abbrev pub IsAdding : (old new : List Entry) → Entry → Result ⊤ TableFault → Type 0
IsAdding old new entry result = IsTakingIn (registered old) (registered_by entry)
    (new ≡ old ++ entry ∷ []) (new ≡ old) result

-- What is answered where a borrowed entry is to be registered after known registrations, and the
-- registrations afterwards. A fault holds a copy of its path, so `NoMemory` may come in its place.
abbrev pub IsRegistering : (old new : List Registration) → Entry → Result ⊤ TableFault → Type 0
IsRegistering old new entry (Err NoMemory) = new ≡ old
IsRegistering old new entry result = IsTakingIn old (registered_by entry)
    (new ≡ old ++ registered_by entry) (new ≡ old) result

-- none of the paths that an entry registers is valid
abbrev pub IsNew : List Entry → Entry → Type 0
IsNew entries entry = AreNew (registered entries) (registered_by entry)

-- a path is valid by some entries and one more
abbrev pub IsValidWith : List Entry → Entry → Path → Type 0
IsValidWith entries entry path = IsValid (registered entries ++ registered_by entry) path
