use Rattle.std.proofs.Common.{subst}
use Rattle.memchr.specs.Find.{IsLastByte, is_byte}
use Rattle.nix_names.proofs.PathTexts.{after_last_slash, without_slash}
use Rattle.nix_names.proofs.store_path.base_offset.Goals as goal

pub returns-in-Some-clause-offset : goal.returns-in-Some-clause-offset
returns-in-Some-clause-offset c = after_last_slash _ _
    (subst (IsLastByte (is_byte 47) c.args.text.now) c.in-Some.is c.memrchr.ensures)

pub returns-in-None-clause-offset : goal.returns-in-None-clause-offset
returns-in-None-clause-offset c = without_slash _
    (subst (IsLastByte (is_byte 47) c.args.text.now) c.in-None.is c.memrchr.ensures)
