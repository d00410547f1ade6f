use Rattle.std.proofs.Common.{rules}
use Rattle.valid_table.proofs.Blamed.{blamed_or_closed}
use Rattle.valid_table.proofs.EnteredPaths.{all_new, known_after}
use Rattle.valid_table.proofs.path_table.admission.blame.Goals as goal

pub returns-then-registration-registrations : goal.returns-then-registration-registrations
returns-then-registration-registrations c = search (rules, known_after)

pub returns : goal.returns
returns c = search (rules, all_new, blamed_or_closed)
