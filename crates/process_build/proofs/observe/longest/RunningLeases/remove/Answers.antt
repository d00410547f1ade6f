use Rattle.std.proofs.Common.{◌==◌, not, rules}
use Rattle.std.proofs.lemmas.Fn.{filter_same}
use Rattle.process_build.proofs.observe.longest.RunningLeases.remove.Goals as goal

pub returns : goal.returns
returns c =
    filter_same _ (λ one. not (one.number == c.args.number)) _ (λ one kept f called. search rules) _ _
    c.retain.ensures.filtered
