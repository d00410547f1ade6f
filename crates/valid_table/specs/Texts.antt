-- The text of a journal, line by line, in its three versions. These differ in the first line, in
-- how a digest is written, and in what is written of an archive (this product's own).
use Rattle.std.specs.Prelude.{◌≡◌, ◌≢◌, ◌⊎◌, List, [], ◌∷◌, ◌++◌, All, Option, Some, None, codes, decimal, flat_map, map}
use Rattle.hex.specs.Hex.{encode_lower}
use Rattle.nix_names.specs.Bytes.{Bytes, Dir, Path}
use Rattle.nix_names.specs.Digests.{IsDigest, algorithm_of, digits_of, text_of}
use Rattle.nix_names.specs.declared.digest.Algorithm.TheVariants.{Sha256}
use Rattle.nix_names.specs.Methods.{method_text_of}
use Rattle.nix_names.specs.declared.method.Method.TheVariants.{Flat}
use Rattle.nix_names.specs.declared.method.MethodDigest.{MethodDigest}
use Rattle.nix_names.specs.Rising.{IsRising}
use Rattle.nix_names.specs.StorePaths.{IsDrvPath, IsPathOf}
use Rattle.valid_table.specs.Entries.{paths_registered}
use Rattle.valid_table.specs.PathInfos.{IsNarInfo, NarInfo}
use Rattle.valid_table.specs.declared.entry.Entry.{Entry}
use Rattle.valid_table.specs.declared.entry.Entry.TheVariants.{Add, Done}
use Rattle.valid_table.specs.declared.entry.Registration.{Registration}
use Rattle.valid_table.specs.declared.path_table.version.Version.{Version}
use Rattle.valid_table.specs.declared.path_table.version.Version.TheVariants.{One, Two, Three}

-- One line: the first one, an added path, a deriver, an output, or a reference of the added path or
-- output before it.
pub data Line : Type 0 where
  First : Line
  Added : (path : Path) (digest : Option MethodDigest) (nar : Option NarInfo) → Line
  Deriver : (path : Path) → Line
  Output : (path : Path) (digest : Option MethodDigest) (nar : Option NarInfo) → Line
  Reference : (path : Path) → Line

-- the first line of a version, with its newline
abbrev pub version_line : Version → Bytes
version_line One = codes "realiser-journal 1\n"
version_line Two = codes "realiser-journal 2\n"
version_line Three = codes "realiser-journal 3\n"

-- the text of a digest: a dash for none, in version 1 the digits alone, in version 2 the
-- algorithm's name, a colon and the digits, and in version 3 the same with the method's mark before
-- it
abbrev pub digest_text : Version → Option MethodDigest → Bytes
digest_text version None = codes "-"
digest_text One (Some found) = digits_of found.digest
digest_text Two (Some found) = text_of found.digest
digest_text Three (Some found) = method_text_of found

-- the text of an archive: a dash for none, or the digits of its SHA-256, a colon, and its length in
-- decimal
abbrev pub nar_text : Option NarInfo → Bytes
nar_text None = codes "-"
nar_text (Some nar) = encode_lower nar.hash ++ 58 ∷ decimal nar.size

-- what a line tells of a path: its digest, and in version 3 a space and its archive
abbrev pub known_text : Version → Option MethodDigest → Option NarInfo → Bytes
known_text One digest nar = digest_text One digest
known_text Two digest nar = digest_text Two digest
known_text Three digest nar = digest_text Three digest ++ 32 ∷ nar_text nar

-- a line's bytes, with its newline
abbrev pub line_text : Version → Line → Bytes
line_text version First = version_line version
line_text version (Added path digest nar) =
    codes "A " ++ (path ++ (32 ∷ (known_text version digest nar ++ (10 ∷ []))))
line_text version (Deriver path) = codes "D " ++ (path ++ (10 ∷ []))
line_text version (Output path digest nar) =
    codes "O " ++ (path ++ (32 ∷ (known_text version digest nar ++ (10 ∷ []))))
line_text version (Reference path) = codes "R " ++ (path ++ (10 ∷ []))

-- the lines of an output
abbrev pub output_lines : Registration → List Line
output_lines r = Output r.path r.info.digest r.info.nar ∷ map Reference r.info.references

-- the lines of an entry
abbrev pub entry_lines : Entry → List Line
entry_lines (Add r) = Added r.path r.info.digest r.info.nar ∷ map Reference r.info.references
entry_lines (Done deriver outputs) = Deriver deriver ∷ flat_map output_lines outputs

-- the lines of a journal
abbrev pub lines : List Entry → List Line
lines entries = First ∷ flat_map entry_lines entries

-- the text of a journal
unfoldable pub text : Version → List Entry → Bytes
text version entries = flat_map (line_text version) (lines entries)

-- a digest, where there is one, can be written in a version: version 1 has the SHA-256 of a file's
-- bytes alone, version 2 any digest of a file's bytes, and version 3 any digest
abbrev pub IsDigestOf : Version → Option MethodDigest → Type 0
IsDigestOf version None = Unit {0}
IsDigestOf One (Some found) = (found.method ≡ Flat) × (algorithm_of found.digest ≡ Sha256)
    × IsDigest found.digest
IsDigestOf Two (Some found) = (found.method ≡ Flat) × IsDigest found.digest
IsDigestOf Three (Some found) = IsDigest found.digest

-- what is known of an archive can be written in a version: versions 1 and 2 have none
abbrev pub IsNarOf : Version → Option NarInfo → Type 0
IsNarOf version None = Unit {0}
IsNarOf Three (Some nar) = IsNarInfo nar
IsNarOf version (Some nar) = ⊥

-- a line of a version can tell this of a path
abbrev pub IsKnownOf : Version → Option MethodDigest → Option NarInfo → Type 0
IsKnownOf version digest nar = IsDigestOf version digest × IsNarOf version nar

-- What is registered is of the store folder, with references that rise strictly, and with a digest
-- and an archive that the version has.
pub record IsOf (version : Version) (dir : Dir) (r : Registration) : Type 0 where
  pub path : IsPathOf dir r.path
  pub digest : IsDigestOf version r.info.digest
  pub nar : IsNarOf version r.info.nar
  pub references : All (IsPathOf dir) r.info.references
  pub rising : IsRising r.info.references

-- an entry is of the store folder: a `.drv` path with its outputs, at least one and strictly
-- rising, or an added path
abbrev pub IsEntryIn : Version → Dir → Entry → Type 0
IsEntryIn version dir (Add r) = IsOf version dir r
IsEntryIn version dir (Done deriver outputs) =
    IsPathOf dir deriver × IsDrvPath deriver × (outputs ≢ []) × IsRising (paths_registered outputs)
    × All (IsOf version dir) outputs

-- The bytes are the text of these entries, which are of the store folder, in a version.
pub record IsTextIn (version : Version) (dir : Dir) (entries : List Entry) (bytes : Bytes)
    : Type 0 where
  pub of_dir : All (IsEntryIn version dir) entries
  pub bytes_are : bytes ≡ text version entries

-- the bytes are the text of these entries in some version; no bytes at all are the text of none
abbrev pub IsJournalText : (dir : Dir) → List Entry → (bytes : Bytes) → Type 0
IsJournalText dir entries bytes = ((version : Version) × IsTextIn version dir entries bytes)
    ⊎ ((entries ≡ []) × (bytes ≡ []))
