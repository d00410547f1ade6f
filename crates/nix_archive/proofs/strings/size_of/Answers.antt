use Rattle.std.proofs.Common.{arith}
use Rattle.nix_archive.proofs.strings.size_of.Goals as goal

pub returns-clause-fits : goal.returns-clause-fits
returns-clause-fits c = λ i. omega (arith, c.type_inv.bytes i)
