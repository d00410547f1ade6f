-- The text of a journal as it is written (this product's own).
use Rattle.std.specs.Prelude.{◌≡◌, ◌++◌, ◌||◌, Bool, true, false, List, Option, Some, None, flat_map}
use Rattle.std.specs.List.{list_any}
use Rattle.nix_names.specs.Bytes.{Bytes, Dir}
use Rattle.nix_names.specs.declared.method.Method.{Method}
use Rattle.nix_names.specs.declared.method.Method.TheVariants.{Flat, Recursive}
use Rattle.nix_names.specs.declared.method.MethodDigest.{MethodDigest}
use Rattle.valid_table.specs.Entries.{registered_by}
use Rattle.valid_table.specs.PathInfos.{NarInfo, PathInfo}
use Rattle.valid_table.specs.Texts.{IsTextIn, entry_lines, line_text, text}
use Rattle.valid_table.specs.declared.entry.Entry.{Entry}
use Rattle.valid_table.specs.declared.entry.Registration.{Registration}
use Rattle.valid_table.specs.declared.path_table.version.Version.{Version}
use Rattle.valid_table.specs.declared.path_table.version.Version.TheVariants.{Two, Three}

-- whether a method hashes the archive of a tree
abbrev pub hashes_archive : Method → Bool
hashes_archive Flat = false
hashes_archive Recursive = true

-- whether a digest is that of an archive
abbrev pub is_recursive : Option MethodDigest → Bool
is_recursive None = false
is_recursive (Some found) = hashes_archive found.method

-- whether an archive is known
abbrev pub is_known : Option NarInfo → Bool
is_known None = false
is_known (Some nar) = true

-- whether only version 3 can tell what is known of a path: its archive, or a digest of its archive
abbrev pub needs_three : PathInfo → Bool
needs_three info = is_known info.nar || is_recursive info.digest

-- whether an entry registers such a path
abbrev pub entry_needs_three : Entry → Bool
entry_needs_three entry = list_any (λ (r : Registration). needs_three r.info) (registered_by entry)

-- version 3 where it is needed, else version 2
abbrev pub least_version : (needed : Bool) → Version
least_version true = Three
least_version false = Two

-- the version in which entries are written: version 3 where some entry needs it, else version 2
abbrev pub written_version : List Entry → Version
written_version entries = least_version (list_any entry_needs_three entries)

-- the text of a journal with these entries, as it is written
abbrev pub written_text : List Entry → Bytes
written_text entries = text (written_version entries) entries

-- the lines of some entries of a journal in a version
abbrev pub lines_in : Version → List Entry → Bytes
lines_in version entries = flat_map (line_text version) (flat_map entry_lines entries)

-- the text of a journal in a version, and then the lines of further entries in that version, are
-- the text of all of them
abbrev pub TextGoesOn : Type 0
TextGoesOn = (version : Version) (entries more : List Entry)
    → text version (entries ++ more) ≡ text version entries ++ lines_in version more

-- entries that have a text in some version have one in the version in which they are written
abbrev pub WrittenTextsAreTexts : Type 0
WrittenTextsAreTexts = (version : Version) (dir : Dir) (bytes : Bytes) (entries : List Entry)
    → IsTextIn version dir entries bytes
    → IsTextIn (written_version entries) dir entries (written_text entries)
