use Rattle.std.proofs.Common.{rules}
use Rattle.valid_table.proofs.DigestTexts.{no_digest}
use Rattle.valid_table.proofs.journal_text.lines.digest_of.Goals as goal
use Rattle.nix_names.proofs.Tests.{told_other}

pub returns-in-None : goal.returns-in-None
returns-in-None c = search (rules, no_digest, told_other)
