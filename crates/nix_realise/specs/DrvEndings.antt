-- How a run of `add-drv` ends: what was printed, and which file was not written.
use Rattle.std.specs.Prelude.{◌≡◌, ◌⊎◌, Option, Result, Ok, Err}
use Rattle.std.specs.Io.KnownBytes.{Appends}
use Rattle.nix_names.specs.Bytes.{Bytes, Path}
use Rattle.command_line.specs.declared.options.AddDrvRequest.{AddDrvRequest}
use Rattle.nix_realise.specs.AddedDrv.{IsAddingDrv}
use Rattle.nix_realise.specs.Files.{FileBytes}
use Rattle.nix_realise.specs.Endings.{path_line}
use Rattle.nix_realise.specs.Folders.{may_give}
use Rattle.nix_realise.specs.declared.additions.added_drv.AddedDrv.{AddedDrv}
use Rattle.nix_realise.specs.declared.io.all_written.AllWritten.{AllWritten}
use Rattle.nix_realise.specs.declared.cli.exit.Status.TheVariants.{Done}
use Rattle.nix_realise.specs.declared.cli.run_error.RunError.{RunError}
use Rattle.nix_realise.specs.declared.cli.run_error.RunError.TheVariants.{NoMemory, NotWritten, Unwritable}

-- The file of the derivation is not written, and nothing is printed; or standard output refuses the
-- line of its path.
abbrev pub IsNotPut : (path : Path) → (before after : Option Bytes) → RunError → Type 0
IsNotPut path before after stop =
    ((after ≡ before) × ((stop ≡ NoMemory) ⊎ (stop ≡ NotWritten path))) ⊎ (stop ≡ Unwritable)

-- How a run ends, by what FILE gave. Nothing is known of the folder's files. Nothing is printed
-- where the draft is refused.
abbrev pub DrvEndsBy : AddDrvRequest → FileBytes → (before after : Option Bytes)
    → Result AllWritten RunError → Type 0
DrvEndsBy request gave before after (Ok written) =
    (written.status ≡ Done)
    × ((added : AddedDrv) × IsAddingDrv (λ _ answer. may_give answer) request gave (Ok added)
    × Appends before after (path_line added.path))
DrvEndsBy request gave before after (Err stop) =
    ((after ≡ before) × IsAddingDrv (λ _ answer. may_give answer) request gave (Err stop))
    ⊎ ((added : AddedDrv) × IsAddingDrv (λ _ answer. may_give answer) request gave (Ok added)
    × IsNotPut added.path before after stop)

-- how a run ends: nothing is known of what FILE gave
abbrev pub DrvEnds : AddDrvRequest → (before after : Option Bytes) → Result AllWritten RunError → Type 0
DrvEnds request before after result =
    (gave : FileBytes) × DrvEndsBy request gave before after result
