-- *Texts out*, the lines of `check`: the verdicts on each word, by what the source of the files may
-- answer.
use Rattle.std.specs.Prelude.{◌≡◌, ◌≢◌, ◌⊎◌, Bool, true, false, List, [], ◌∷◌, ◌++◌, map, codes}
use Rattle.std.specs.Prelude.{All, Some, None, Ok, Err, if◌then◌else◌}
use Rattle.std.specs.List.{flat_map, list_all}
use Rattle.nix_names.specs.Bytes.{Bytes, Dir, Path}
use Rattle.nix_names.specs.StorePaths.{path_fault}
use Rattle.nix_drv.specs.Checked.{IsCheck}
use Rattle.nix_drv.specs.Derivation.{Drv}
use Rattle.nix_drv.specs.Sources.{Answer}
use Rattle.nix_drv.specs.declared.fault.DrvFault.TheVariants.{NoMemory}
use Rattle.nix_drv.specs.declared.source.SourceFault.TheVariants.{Missing, Device}
use Rattle.nix_realise.specs.FaultWords.{name_fault_words, drv_fault_words}
use Rattle.nix_realise.specs.declared.cli.exit.Status.{Status}
use Rattle.nix_realise.specs.declared.cli.exit.Status.TheVariants as ended
use Rattle.nix_realise.specs.declared.queries.check_verdict.Verdict.{Verdict}
use Rattle.nix_realise.specs.declared.queries.check_verdict.Verdict.TheVariants.{Good, NoPath, Unreadable}
use Rattle.nix_realise.specs.declared.queries.check_verdict.Verdict.TheVariants.{Refused}

-- A verdict on a word. It is no path of the folder; or its file can't be read; or bytes that its
-- file may have are refused as a derivation's text at that path; or they are accepted.
abbrev pub IsCheckVerdict : (gives : Path → Answer → Type 0) → (dir : Dir) → (word : Bytes)
    → Verdict
    → Type 0
IsCheckVerdict gives dir word (NoPath fault) = path_fault dir word ≡ Some fault
IsCheckVerdict gives dir word Unreadable =
    (path_fault dir word ≡ None) × (gives word (Err Missing) ⊎ gives word (Err Device))
IsCheckVerdict gives dir word (Refused fault) =
    (path_fault dir word ≡ None) × (fault ≢ NoMemory)
    × ((bytes : Bytes) × gives word (Ok bytes) × IsCheck dir word bytes (Err fault))
IsCheckVerdict gives dir word Good =
    (path_fault dir word ≡ None)
    × ((bytes : Bytes) × (drv : Drv) × gives word (Ok bytes) × IsCheck dir word bytes (Ok drv))

-- whether a verdict finds nothing wrong
abbrev pub is_good : Verdict → Bool
is_good Good = true
is_good verdict = false

-- the words of a verdict: those of its fault
abbrev pub verdict_words : Verdict → Bytes
verdict_words Good = []
verdict_words (NoPath fault) = name_fault_words fault
verdict_words Unreadable = codes "Unreadable"
verdict_words (Refused fault) = drv_fault_words fault

-- the line of a word that is wrong
abbrev pub bad_line : (word words : Bytes) → Bytes
bad_line word words = codes "bad " ++ word ++ codes ": " ++ words ++ 10 ∷ []

-- the line of a word
abbrev pub line_of : (word : Bytes) → Verdict → Bytes
line_of word Good = codes "ok " ++ word ++ 10 ∷ []
line_of word verdict = bad_line word (verdict_words verdict)

-- The report of `check`: one line for each word, in their order, by a verdict on it. The status
-- says whether a verdict is bad.
pub record IsCheckReport (gives : Path → Answer → Type 0) (dir : Dir) (words : List Bytes)
    (text : Bytes) (status : Status) : Type 0 where
  pub rows : List (Bytes × Verdict)
  pub words_are : map (λ row. row.0) rows ≡ words
  pub each : All (λ row. IsCheckVerdict gives dir row.0 row.1) rows
  pub lines : text ≡ flat_map (λ row. line_of row.0 row.1) rows
  pub is_status : status
      ≡ (if list_all (λ row. is_good row.1) rows then ended.Done else ended.Refused)
