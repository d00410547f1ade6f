-- The store folder of a command line.
use Rattle.std.specs.Prelude.{◌≡◌, Result, Ok, Err}
use Rattle.std.specs.Borrow.{Bor}
use Rattle.nix_names.specs.Bytes.{Bytes, Dir}
use Rattle.nix_names.specs.Names.{IsStoreDir}
use Rattle.nix_realise.specs.declared.cli.run_error.RunError.{RunError}
use Rattle.nix_realise.specs.declared.cli.run_error.RunError.TheVariants.{BadStoreDir, NoMemory}

-- The store folder that a word spells, or a fault. A word that is no store folder is refused
-- whether there is memory or not.
abbrev pub IsStoreDirOf : Bor Bytes → Result Dir RunError → Type 0
IsStoreDirOf text (Ok dir) = (dir ≡ text.now) × IsStoreDir text.now
IsStoreDirOf text (Err (BadStoreDir blamed)) = (blamed ≡ text) × ¬ (IsStoreDir text.now)
IsStoreDirOf text (Err NoMemory) = ¬ (¬ (IsStoreDir text.now))
IsStoreDirOf text (Err stop) = ⊥
