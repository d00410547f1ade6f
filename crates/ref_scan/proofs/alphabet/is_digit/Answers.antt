use Rattle.std.proofs.Common.{arith}
use Rattle.ref_scan.proofs.Digits.{table_at}
use Rattle.ref_scan.proofs.alphabet.is_digit.Goals as goal

pub returns : goal.returns
returns c = table_at c.args.byte (omega arith)
