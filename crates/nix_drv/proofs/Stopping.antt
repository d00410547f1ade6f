-- Where a call ends by a `?`, it stops as the reading does.
use Rattle.std.proofs.Common.{◌≡◌, ℕ, Result}
use Rattle.std.specs.Result.{IsErrAnd}
use Rattle.std.proofs.lemmas.Result.{err_from_is_err_and}
use Rattle.nix_drv.specs.declared.fault.ParseFault.{ParseFault}
use Rattle.nix_drv.specs.private.ParseFaults.{Fails, Gives}

pub gives_stop : {X Y : Type 0} (view : X → Y) (r : Result X ParseFault) (stop : ParseFault)
    (reading : Result Y ℕ) → IsErrAnd r (λ e. e ≡ stop) → Fails stop reading → Gives view r reading
gives_stop view r stop reading is fails =
    let p = err_from_is_err_and r is in rw (p.1, p.2) fails
