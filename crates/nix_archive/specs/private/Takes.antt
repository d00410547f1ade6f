-- Steps of a reader.
use Rattle.std.specs.Prelude.{◌≡◌, ◌<◌, take, zero, suc, ℕ, Bool, true, false, List, [], length}
use Rattle.nix_archive.specs.Trees.{Bytes}
use Rattle.nix_archive.specs.Tokens.{Token}
use Rattle.nix_archive.specs.declared.mode.Mode.{Mode}
use Rattle.nix_archive.specs.declared.mode.Mode.TheVariants.{End}
use Rattle.nix_archive.specs.declared.reader.ArchiveReader.{ArchiveReader}
use Rattle.nix_archive.specs.Parts.{Outer, names_of}
use Rattle.nix_archive.specs.Rests.{mode_rest}
use Rattle.nix_archive.specs.Reading.{IsStep, IsRefused}

-- the bytes were read, or nothing follows that begins with them
abbrev pub IsTaken : {S : Type 0} (heard : S → List Token → S → Type 0) (before after : S)
    (P Q : List Token → Bytes → Type 0) (read : Bytes) → Bool → Type 0
IsTaken heard before after P Q read true = IsStep heard before after P Q read
IsTaken heard before after P Q read false = IsRefused P read

-- nothing is heard
abbrev pub Unheard : ℕ → List Token → ℕ → Type 0
Unheard s said t = said ≡ []

-- what may follow in the mode that a reader is in
abbrev pub now_rest : ArchiveReader → List Token → Bytes → Type 0
now_rest r = mode_rest r.mode r.seen.items (names_of r.folders.items)

-- what follows a tree that lies in a reader's open folders
abbrev pub outer_rest : ArchiveReader → List Token → Bytes → Type 0
outer_rest r = Outer (names_of r.folders.items)

-- As many bytes of a piece were read, or nothing follows that begins with the first of them.
abbrev pub IsTakenOf : {S : Type 0} (heard : S → List Token → S → Type 0) (before after : S)
    (P Q : List Token → Bytes → Type 0) (piece : Bytes) → ℕ → Type 0
IsTakenOf heard before after P Q piece zero = IsRefused P (take 1 piece)
IsTakenOf heard before after P Q piece (suc n) = (n < length piece)
    × IsStep heard before after P Q (take (suc n) piece)

-- whether there are some
abbrev pub is_some_count : ℕ → Bool
is_some_count zero = false
is_some_count (suc n) = true

-- whether nothing comes next
abbrev pub is_end : Mode → Bool
is_end End = true
is_end _ = false
