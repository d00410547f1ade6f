-- The files that `exportReferencesGraph` asks for where attributes are entries of the environment
-- (Nix manual, "Advanced Attributes"; Nix 2.8, `local-derivation-goal.cc`: `startBuilder`).
use Rattle.std.specs.Prelude.{◌≡◌, ◌&&◌, ◌||◌, ◌==◌, Bool, true, false, ℕ, IsTrue, Option, Some, None, List, [], ◌∷◌, All, drop, find, if◌then◌else◌, length, nat_eq, nat_le, option_map, string_bytes}
use Rattle.std.specs.List.{AllZip, list_all, list_any, starts_with}
use Rattle.nix_names.specs.Bytes.{Bytes, Name, Path}
use Rattle.nix_names.specs.Names.{same_bytes}
use Rattle.valid_table.specs.Entries.{paths_registered}
use Rattle.valid_table.specs.declared.entry.Registration.{Registration}
use Rattle.structured_attrs.specs.Registrations.{registrations_text}
use Rattle.build_outcome.specs.declared.job.WholeInput.{WholeInput}
use Rattle.build_outcome.specs.declared.preparation.PreparedFile.{PreparedFile}
use Rattle.builder_start.specs.Graphs.{IsGraph, MayBeGraph}

-- ---- what is asked for

-- the pairs of a name and a text that tokens are, one after the other; none where their number is
-- odd
abbrev pub pairs_of : List Bytes → Option (List (Name × Bytes))
pairs_of [] = Some []
pairs_of (name ∷ []) = None
pairs_of (name ∷ text ∷ rest) = option_map (λ pairs. (name, text) ∷ pairs) (pairs_of rest)

-- the pairs without those after which a pair with the same name comes
abbrev pub last_pairs : List (Name × Bytes) → List (Name × Bytes)
last_pairs [] = []
last_pairs (pair ∷ rest) =
    if list_any (λ (other : Name × Bytes). same_bytes other.0 pair.0) rest then last_pairs rest
    else pair ∷ last_pairs rest

-- ---- names

-- whether a byte may begin a file's name: a letter or an underscore
abbrev pub is_file_start : ℕ → Bool
is_file_start b = (nat_le 65 b && nat_le b 90) || (nat_le 97 b && nat_le b 122) || (b == 95)

-- whether a byte may follow: that, a digit, a dot or a dash
abbrev pub is_file_byte : ℕ → Bool
is_file_byte b = is_file_start b || (nat_le 48 b && nat_le b 57) || (b == 46) || (b == 45)

-- whether a name is one that Nix takes for a file: `[A-Za-z_][A-Za-z0-9_.-]*`
abbrev pub is_file_name : Name → Bool
is_file_name [] = false
is_file_name (b ∷ bs) = is_file_start b && list_all is_file_byte bs

-- ---- paths

-- whether nothing stands there, or a slash first
abbrev pub is_cut : Bytes → Bool
is_cut [] = true
is_cut (b ∷ bs) = b == 47

-- whether a text is a path, or that path with a slash and more after it
abbrev pub is_within : Path → (text : Bytes) → Bool
is_within path text = starts_with nat_eq text path && is_cut (drop (length path) text)

-- the first path of some records, by the order of paths, that a text is or is below
abbrev pub root_of : List Registration → (text : Bytes) → Option Path
root_of rows text = find (λ (path : Path). is_within path text) (paths_registered rows)

-- ---- files

-- A pair may be asked for: its name is one of a file's, and its text names a path whose graph may
-- be asked for.
pub record IsGoodPair (rows : List Registration) (whole : List WholeInput) (pair : Name × Bytes)
    : Type 0 where
  pub name : IsTrue (is_file_name pair.0)
  pub root : Path
  pub is_root : root_of rows pair.1 ≡ Some root
  pub may_be : MayBeGraph rows whole (root ∷ [])

-- A file is that of a pair: it has the pair's name, and the text of the records of the graph of the
-- path that the pair's text names.
pub record IsFileOf (rows : List Registration) (whole : List WholeInput) (pair : Name × Bytes)
    (file : PreparedFile) : Type 0 where
  pub name : string_bytes file.name ≡ pair.0
  pub root : Path
  pub is_root : root_of rows pair.1 ≡ Some root
  pub graph : List Registration
  pub is_graph : IsGraph rows whole (root ∷ []) graph
  pub contents : file.contents.items ≡ registrations_text graph

-- Tokens ask for graphs that there are: they are pairs, each of which may be asked for.
pub record AreGoodPairs (rows : List Registration) (whole : List WholeInput) (tokens : List Bytes)
    (pairs : List (Name × Bytes)) : Type 0 where
  pub even : pairs_of tokens ≡ Some pairs
  pub each : All (IsGoodPair rows whole) pairs

-- the files that tokens ask for: of each name that of the last pair, in the order of these pairs
abbrev pub AreFiles : List Registration → List WholeInput → (tokens : List Bytes)
    → List PreparedFile → Type 0
AreFiles rows whole tokens files = (pairs : List (Name × Bytes))
    × AreGoodPairs rows whole tokens pairs
    × AllZip (IsFileOf rows whole) (last_pairs pairs) files

-- the tokens ask for what they may not
abbrev pub AskForBadGraphs : List Registration → List WholeInput → (tokens : List Bytes) → Type 0
AskForBadGraphs rows whole tokens = (pairs : List (Name × Bytes))
    → AreGoodPairs rows whole tokens pairs → ⊥
