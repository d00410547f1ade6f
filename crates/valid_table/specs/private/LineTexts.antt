-- The parts of a journal's text that lines with different letters share.
use Rattle.std.specs.Prelude.{ℕ, List, [], ◌∷◌, ◌++◌, Option, flat_map, map}
use Rattle.nix_names.specs.Bytes.{Bytes, Path}
use Rattle.nix_names.specs.declared.method.MethodDigest.{MethodDigest}
use Rattle.valid_table.specs.PathInfos.{NarInfo}
use Rattle.valid_table.specs.Texts.{Line, Reference, known_text, line_text}
use Rattle.valid_table.specs.declared.entry.Registration.{Registration}
use Rattle.valid_table.specs.declared.path_table.version.Version.{Version}

-- a line with a letter and a path
abbrev pub path_line : (letter : ℕ) → Path → Bytes
path_line letter path = letter ∷ 32 ∷ (path ++ (10 ∷ []))

-- a line with a path and what is known of it, without its letter and the first space
abbrev pub fields_text : Version → Path → Option MethodDigest → Option NarInfo → Bytes
fields_text version path digest nar = path ++ (32 ∷ (known_text version digest nar ++ (10 ∷ [])))

-- the text of some lines
abbrev pub lines_text : Version → List Line → Bytes
lines_text version some = flat_map (line_text version) some

-- the lines of references, which are the same in each version
abbrev pub references_text : List Path → Bytes
references_text paths = flat_map (path_line 82) paths

-- the lines of a registration, the first of them with this letter
abbrev pub registration_text : Version → (letter : ℕ) → Registration → Bytes
registration_text version letter r = letter ∷ 32
    ∷ (fields_text version r.path r.info.digest r.info.nar
    ++ lines_text version (map Reference r.info.references))
