-- How the lines of a journal follow one another, as its readers see it: which line may stand at a
-- position, and the position after it.
use Rattle.std.specs.Prelude.{◌≡◌, ◌≢◌, ℕ, List, [], ◌∷◌, ◌++◌, Option, Some, None, length}
use Rattle.std.specs.Cmp.Lexicographic.{slice_cmp}
use Rattle.std.specs.Ordering.{nat_cmp}
use Rattle.std.specs.declared.cmp.Ordering.TheVariants.{Less}
use Rattle.nix_names.specs.Bytes.{Bytes, Dir, Path}
use Rattle.nix_names.specs.StorePaths.{IsDrvPath, IsPathOf}
use Rattle.nix_names.specs.declared.method.MethodDigest.{MethodDigest}
use Rattle.valid_table.specs.BadLines.{BeginsOutput}
use Rattle.valid_table.specs.PathInfos.{NarInfo}
use Rattle.valid_table.specs.private.LineTexts.{lines_text}
use Rattle.valid_table.specs.Texts.{IsKnownOf, Line, First, Added, Deriver, Output, Reference, line_text}
use Rattle.valid_table.specs.declared.path_table.version.Version.{Version}

-- A position between lines: before line 1, after line 1, after a deriver, or within the lines of an
-- output or an added path. There `output` is the output's path, if it is one, and `last` is the
-- reference before the position, if any.
pub data Position : Type 0 where
  Start : Position
  Begun : Position
  Opened : Position
  Within : (output : Option Path) (last : Option Path) → Position

-- a path is greater than the one before it, if any
abbrev pub IsAbove : (before : Option Path) → Path → Type 0
IsAbove None path = Unit {0}
IsAbove (Some before) path = slice_cmp nat_cmp before path ≡ Less

-- a line may stand where an entry may begin
abbrev pub MayBegin : Version → Dir → Line → Type 0
MayBegin version dir (Added path digest nar) = IsPathOf dir path × IsKnownOf version digest nar
MayBegin version dir (Deriver path) = IsPathOf dir path × IsDrvPath path
MayBegin version dir line = ⊥

-- an output may stand after a deriver, or after an output with a lesser path
abbrev pub MayBeOutputAfter : Version → Dir → (before : Option Path) → Path → Option MethodDigest
    → Option NarInfo → Type 0
MayBeOutputAfter version dir before path digest nar = IsPathOf dir path
    × IsKnownOf version digest nar × IsAbove before path

-- a line may stand at a position
abbrev pub MayBeLine : Version → Dir → Position → Line → Type 0
MayBeLine version dir Start First = Unit {0}
MayBeLine version dir Begun line = MayBegin version dir line
MayBeLine version dir (Within output last) (Reference path) = IsPathOf dir path × IsAbove last path
MayBeLine version dir (Within (Some before) last) (Output path digest nar) =
    MayBeOutputAfter version dir (Some before) path digest nar
MayBeLine version dir (Within output last) line = MayBegin version dir line
MayBeLine version dir Opened (Output path digest nar) =
    MayBeOutputAfter version dir None path digest nar
MayBeLine version dir position line = ⊥

-- the position after a line
abbrev pub position_after : Position → Line → Position
position_after position First = Begun
position_after position (Added path digest nar) = Within None None
position_after position (Deriver path) = Opened
position_after position (Output path digest nar) = Within (Some path) None
position_after (Within output last) (Reference path) = Within output (Some path)
position_after position (Reference path) = position

-- after a deriver the bytes go on with an output
abbrev pub Ahead : Position → (rest : Bytes) → Type 0
Ahead Opened rest = BeginsOutput rest
Ahead position rest = Unit {0}

-- each line may stand at its position and leads to the position after it; `Is` holds of the last
-- position
abbrev pub LeadsTo : Version → Dir → (Position → Type 0) → Position → List Line → Type 0
LeadsTo version dir Is from [] = Is from
LeadsTo version dir Is from (line ∷ more) = MayBeLine version dir from line
    × LeadsTo version dir Is (position_after from line) more

-- From a position the bytes go on with a line that may stand there, and then with the rest.
pub record GoesOnWith (version : Version) (dir : Dir) (from : Position) (bytes : Bytes)
    (line : Line)
    (rest : Bytes) : Type 0 where
  pub parts : bytes ≡ line_text version line ++ rest
  pub may : MayBeLine version dir from line
  pub ahead : Ahead (position_after from line) rest

-- From a position the bytes go on with no line that may stand there.
pub record IsStuck (version : Version) (dir : Dir) (bytes : Bytes) (position : Position)
    : Type 0 where
  pub ahead : Ahead position bytes
  pub stuck : (line : Line) (rest : Bytes) → GoesOnWith version dir position bytes line rest → ⊥

-- From a position the bytes go on with some lines, each of which may stand at its position. Then
-- `left` bytes are left, at least one, which go on with no line that may stand there.
pub record Stops (version : Version) (dir : Dir) (from : Position) (bytes : Bytes) (left : ℕ)
    : Type 0 where
  pub lines : List Line
  pub bad : Bytes
  pub parts : bytes ≡ lines_text version lines ++ bad
  pub leads : LeadsTo version dir (IsStuck version dir bad) from lines
  pub is_left : length bad ≡ left
  pub some : bad ≢ []
