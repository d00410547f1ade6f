-- What ends a run of `restore` that read no archive.
use Rattle.std.specs.Borrow.{Bor}
use Rattle.nix_names.specs.Bytes.{Bytes}
use Rattle.nix_realise.specs.declared.archives.input.InputFault.{InputFault}
use Rattle.nix_realise.specs.declared.archives.input.InputFault.TheVariants.{NoMemory, Stray, Unreadable}
use Rattle.nix_realise.specs.declared.cli.run_error.RunError.{RunError}
use Rattle.nix_realise.specs.declared.cli.run_error.RunError.TheVariants.{BadArchive, InputUnreadable}
use Rattle.nix_realise.specs.declared.cli.run_error.RunError.TheVariants.{NoMemory as NoMemoryLeft}

abbrev pub input_stop : (path : Bor Bytes) → InputFault → RunError
input_stop path (Stray offset) = BadArchive path offset
input_stop path Unreadable = InputUnreadable
input_stop path NoMemory = NoMemoryLeft
