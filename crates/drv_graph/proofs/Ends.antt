-- What a call gives that ends by a `?`.
use Rattle.std.proofs.Common.{◌≡◌, Err, Result}
use Rattle.std.specs.Result.{IsErrAnd}
use Rattle.std.proofs.lemmas.Result.{err_from_is_err_and}

pub err_is : {T E : Type 0} (r : Result T E) (e : E) → IsErrAnd r (λ y. y ≡ e) → r ≡ Err e
err_is r e is = let p = err_from_is_err_and r is in rw (p.1, p.2)
