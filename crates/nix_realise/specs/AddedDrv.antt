-- What `add-drv` answers to a request, by what its file gave: the filled derivation's path and
-- text, or the first fault.
use Rattle.std.specs.Prelude.{◌≡◌, ◌≢◌, ◌⊎◌, Result, Ok, Err}
use Rattle.std.specs.Borrow.{Bor}
use Rattle.nix_names.specs.Bytes.{Bytes, Dir, Path}
use Rattle.nix_names.specs.Names.{IsStoreDir}
use Rattle.nix_drv.specs.Derivation.{Drv, IsDrvText}
use Rattle.nix_drv.specs.Outcome.{IsReading}
use Rattle.nix_drv.specs.Sources.{Answer}
use Rattle.nix_drv.specs.declared.fault.DrvFault.{DrvFault}
use Rattle.nix_drv.specs.declared.fault.DrvFault.TheVariants as drv
use Rattle.drv_graph.specs.Filling.{IsFilling}
use Rattle.drv_graph.specs.declared.fault.GraphFault.{GraphFault}
use Rattle.drv_graph.specs.declared.fault.GraphFault.TheVariants as graph
use Rattle.drv_graph.specs.declared.fault.NodeFault.TheVariants as node
use Rattle.command_line.specs.declared.options.AddDrvRequest.{AddDrvRequest}
use Rattle.nix_realise.specs.Files.{FileBytes}
use Rattle.nix_realise.specs.StoreDirs.{IsStoreDirOf}
use Rattle.nix_realise.specs.declared.additions.added_drv.AddedDrv.{AddedDrv}
use Rattle.nix_realise.specs.declared.io.files.FileFault.TheVariants as file
use Rattle.nix_realise.specs.declared.cli.run_error.RunError.{RunError}
use Rattle.nix_realise.specs.declared.cli.run_error.RunError.TheVariants.{BadDraft, BadDrv, BadName}
use Rattle.nix_realise.specs.declared.cli.run_error.RunError.TheVariants.{NoMemory, Unreadable}

-- The draft whose text these bytes are, or what is wrong with them.
abbrev pub IsDraftRead : Bor Bytes → (bytes : Bytes) → Result Drv RunError → Type 0
IsDraftRead path bytes (Ok draft) = IsReading bytes (Ok draft)
IsDraftRead path bytes (Err stop) =
    (stop ≡ NoMemory)
    ⊎ ((fault : DrvFault) × (stop ≡ BadDraft path (node.Text fault)) × (fault ≢ drv.NoMemory)
    × IsReading bytes (Err fault))

-- The draft by what FILE gave, or a fault.
abbrev pub IsDraftOf : Bor Bytes → FileBytes → Result Drv RunError → Type 0
IsDraftOf path (Ok bytes) answer = IsDraftRead path bytes answer
IsDraftOf path (Err file.Unreadable) answer = answer ≡ Err (Unreadable path)
IsDraftOf path (Err file.NoMemory) answer = answer ≡ Err NoMemory

-- What ends a run whose draft can't be filled, for this fault. A fault of the draft is blamed on
-- FILE, a fault of another derivation on its path.
abbrev pub fill_stop : AddDrvRequest → GraphFault → RunError
fill_stop request graph.NoMemory = NoMemory
fill_stop request (graph.At path fault) = BadDrv path fault
fill_stop request (graph.Draft fault) = BadDraft request.file fault
fill_stop request graph.Name = BadName request.name

-- The draft filled under the request's profile in a folder, by a source, with its path; or a fault.
abbrev pub IsFillingOf : (dir : Dir) → (gives : Path → Answer → Type 0) → AddDrvRequest → Drv
    → Result (Drv × Path) RunError → Type 0
IsFillingOf dir gives request draft (Ok made) =
    IsFilling request.profile dir gives request.name.now draft (Ok made)
IsFillingOf dir gives request draft (Err stop) =
    (fault : GraphFault) × (stop ≡ fill_stop request fault)
    × IsFilling request.profile dir gives request.name.now draft (Err fault)

-- The store folder is well-formed, and FILE gave the draft's text.
abbrev pub HasDraft : AddDrvRequest → FileBytes → Drv → Type 0
HasDraft request gave draft =
    IsStoreDir request.store_dir.now × IsDraftOf request.file gave (Ok draft)

-- What `add-drv` answers: the path and the text of the filled draft, or the first fault of the
-- store folder, FILE, the draft's text and its filling. Want of memory may be answered in place of
-- any of them but a refused folder.
abbrev pub IsAddingDrv : (gives : Path → Answer → Type 0) → AddDrvRequest → FileBytes
    → Result AddedDrv RunError → Type 0
IsAddingDrv gives request gave (Ok added) =
    (draft : Drv) × HasDraft request gave draft
    × ((filled : Drv)
    × IsFilling request.profile request.store_dir.now gives request.name.now draft
    (Ok (filled, added.path))
    × IsDrvText filled added.text.items)
IsAddingDrv gives request gave (Err stop) =
    IsStoreDirOf request.store_dir (Err stop)
    ⊎ ((IsStoreDir request.store_dir.now × IsDraftOf request.file gave (Err stop))
    ⊎ (((draft : Drv) × HasDraft request gave draft
    × IsFillingOf request.store_dir.now gives request draft (Err stop))
    ⊎ ((stop ≡ NoMemory) × IsStoreDir request.store_dir.now)))
