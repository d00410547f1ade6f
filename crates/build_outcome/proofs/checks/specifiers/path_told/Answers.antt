use Rattle.std.proofs.Common.{⊎_elim}
use Rattle.build_outcome.proofs.Specifiers.{no_path_told}
use Rattle.build_outcome.proofs.checks.specifiers.path_told.Goals as goal

pub returns-in_default : goal.returns-in_default
returns-in_default c = ⊎_elim
    (λ wrong. no_path_told _ _ _ _ c.without_slash.ensures wrong)
    (λ memory. absurd (c.in_default.not-NoMemory memory.1))
    c.in-Err.ensures
