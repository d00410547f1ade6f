-- The words of `check` in groups: what is found of a word before a digest is taken, and the lines
-- that a group adds.
use Rattle.std.specs.Prelude.{◌≡◌, ◌≢◌, List, [], ◌++◌, map, All, None, Ok, Err, if◌then◌else◌}
use Rattle.std.specs.List.{flat_map, list_all}
use Rattle.nix_names.specs.Bytes.{Bytes, Dir, Path}
use Rattle.nix_names.specs.StorePaths.{path_fault}
use Rattle.nix_drv.specs.Checked.{IsCheck}
use Rattle.nix_drv.specs.Derivation.{Drv}
use Rattle.nix_drv.specs.Sources.{Answer}
use Rattle.nix_drv.specs.declared.fault.DrvFault.TheVariants.{NoMemory}
use Rattle.nix_realise.specs.CheckLines.{IsCheckVerdict, is_good, line_of}
use Rattle.nix_realise.specs.declared.cli.exit.Status.{Status}
use Rattle.nix_realise.specs.declared.cli.exit.Status.TheVariants as ended
use Rattle.nix_realise.specs.declared.queries.asked_words.AskedWord.{AskedWord}
use Rattle.nix_realise.specs.declared.queries.asked_words.Found.{Found}
use Rattle.nix_realise.specs.declared.queries.asked_words.Found.TheVariants.{Known, File}
use Rattle.nix_realise.specs.declared.queries.check_verdict.Verdict.{Verdict}
use Rattle.nix_realise.specs.declared.queries.check_verdict.Verdict.TheVariants.{Good, Refused}

-- what is found of a word: a verdict, or bytes that its file may have
abbrev pub IsFound : (gives : Path → Answer → Type 0) → (dir : Dir) → (word : Bytes) → Found
    → Type 0
IsFound gives dir word (Known verdict) = IsCheckVerdict gives dir word verdict
IsFound gives dir word (File path bytes) =
    (path_fault dir word ≡ None) × (path ≡ word) × gives word (Ok bytes.items)

-- the bytes of the file that was found; none where there is a verdict
abbrev pub file_bytes : Found → Bytes
file_bytes (Known verdict) = []
file_bytes (File path bytes) = bytes.items

-- a verdict on the bytes at a path: they are accepted as a derivation's text there, or refused
abbrev pub IsFileVerdict : (dir : Dir) → (path : Path) → (bytes : Bytes) → Verdict → Type 0
IsFileVerdict dir path bytes Good = (drv : Drv) × IsCheck dir path bytes (Ok drv)
IsFileVerdict dir path bytes (Refused fault) =
    (fault ≢ NoMemory) × IsCheck dir path bytes (Err fault)
IsFileVerdict dir path bytes verdict = ⊥

-- the verdict on what was found
abbrev pub IsVerdictOn : Dir → Found → Verdict → Type 0
IsVerdictOn dir (Known known) verdict = verdict ≡ known
IsVerdictOn dir (File path bytes) verdict = IsFileVerdict dir path bytes.items verdict

-- the text and the status of a report, before and after the line of a word
pub record IsLineOf (dir : Dir) (asked : AskedWord) (text : Bytes) (before : Status)
    (more : Bytes) (after : Status) : Type 0 where
  pub verdict : Verdict
  pub is_verdict : IsVerdictOn dir asked.found verdict
  pub line : more ≡ text ++ line_of asked.word.now verdict
  pub is_status : after ≡ (if is_good verdict then before else ended.Refused)

-- the text and the status of a report, before and after the lines of some words
pub record AreLinesOf (dir : Dir) (asked : List AskedWord) (text : Bytes) (before : Status)
    (more : Bytes) (after : Status) : Type 0 where
  pub rows : List (AskedWord × Verdict)
  pub asked_are : map (λ row. row.0) rows ≡ asked
  pub each : All (λ row. IsVerdictOn dir row.0.found row.1) rows
  pub lines : more ≡ text ++ flat_map (λ row. line_of row.0.word.now row.1) rows
  pub is_status : after
      ≡ (if list_all (λ row. is_good row.1) rows then before else ended.Refused)
