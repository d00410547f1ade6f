use Rattle.std.proofs.Common.{◌∙◌, codes}
use Rattle.std.specs.Str.Parse.{ParsesUnsigned, ExplainsUnsignedError, HasUnsignedDigitsIfOk}
use Rattle.clap.specs.Words.{found_of, rows_of}
use Rattle.clap.proofs.WalkLemmas.{one_text-rows}
use Rattle.command_line.proofs.Cores.{cores_read}
use Rattle.command_line.proofs.words.cores_of.Goals as goal

pub returns : goal.returns
returns c =
    let same = one_text-rows (found_of c.args.found.now) (codes "cores") in
    cores_read _
    (λ bs r. ParsesUnsigned 16 10 bs r × ExplainsUnsignedError 10 bs r × HasUnsignedDigitsIfOk bs r)
    (rows_of (found_of c.args.found.now)) c.get_one.result (λ u x g. g.0) c.requires
    (λ none. c.get_one.ensures.none (same ∙ none))
    (λ t some. c.get_one.ensures.value t (same ∙ some))
