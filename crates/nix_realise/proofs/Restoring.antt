-- How `restore` ends where no archive was read.
use Rattle.std.proofs.Common.{ℕ, List, Option, Err, refl}
use Rattle.command_line.specs.declared.options.RestoreRequest.{RestoreRequest}
use Rattle.nix_realise.specs.ArchiveEndings.{RestoreEndsBy}
use Rattle.nix_realise.specs.private.Inputs.{IsNoInput}
use Rattle.nix_realise.specs.private.Restoring.{input_stop}
use Rattle.nix_realise.specs.declared.archives.input.InputFault.{InputFault}
use Rattle.nix_realise.specs.declared.archives.input.InputFault.TheVariants.{NoMemory, Stray, Unreadable}

pub stop_ends : (request : RestoreRequest) (old new : Option (List ℕ)) (fault : InputFault)
    → IsNoInput old new fault → RestoreEndsBy request old new (Err (input_stop request.path fault))
stop_ends request old new (Stray offset) h = (refl, h)
stop_ends request old new Unreadable h = tt
stop_ends request old new NoMemory h = tt
