-- Answers of a reader that reached the view.
use Rattle.std.specs.Prelude.{Result, Ok, Err}
use Rattle.valid_view.specs.Answers.{IfGone}
use Rattle.valid_view.specs.declared.fault.ViewFault.{ViewFault}
use Rattle.valid_view.specs.declared.fault.ViewFault.TheVariants.{NoMemory, NotValid, NoView}

-- an answer by what was seen says nothing of a view that was not reached
pub reached : {A : Type 0} (answer : Result A ViewFault) (fact : Type 0) → IfGone answer ⊥
    → IfGone answer fact
reached (Ok a) fact is = tt
reached (Err (NotValid path)) fact is = tt
reached (Err NoMemory) fact is = tt
reached (Err (NoView why)) fact is = absurd is
