use Rattle.std.proofs.Common.{is_some, ap, not, rules}
use Rattle.nix_drv.specs.Strings.{letter}
use Rattle.nix_drv.proofs.Runs.{first_within, none_before, passes_there}
use Rattle.nix_drv.proofs.escapes.plain_len.Goals as goal

pub returns-clause-within : goal.returns-clause-within
returns-clause-within c = search (rules, first_within)

pub returns-clause-plain : goal.returns-clause-plain
returns-clause-plain c k lt =
    ap not (none_before (λ b. is_some (letter b)) _ _
    _ c.escape_offset.ensures c.unwrap_or.ensures k lt)

pub returns-clause-ends : goal.returns-clause-ends
returns-clause-ends c lt = search (rules, passes_there)
