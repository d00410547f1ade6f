use Rattle.std.proofs.Common.{◌∙◌, ◌+◌, subst}
use Rattle.memchr.specs.Find.{IsLastByte, is_byte}
use Rattle.nix_names.proofs.PathTexts.{after_last_slash, without_slash}
use Rattle.process_build.proofs.Filling.{rest_is}
use Rattle.process_build.proofs.process.setup.last_component.Goals as goal

pub returns-in-Some : goal.returns-in-Some
returns-in-Some c =
    rest_is c.args.text.now (c.in-Some.slash + 1)
    ∙ after_last_slash _ _
    (subst (IsLastByte (is_byte 47) c.args.text.now) c.in-Some.is c.memrchr.ensures)

pub returns-in-None : goal.returns-in-None
returns-in-None c =
    without_slash _ (subst (IsLastByte (is_byte 47) c.args.text.now) c.in-None.is c.memrchr.ensures)
