use Rattle.std.proofs.Common.{sym, ◌∙◌}
use Rattle.std.proofs.lemmas.List.{take_rest}
use Rattle.nix_names.proofs.PathFaults.{starts_with_slash_after}
use Rattle.nix_names.proofs.store_path.is_under.Goals as goal

pub returns-then-starts_with-clause-value : goal.returns-then-starts_with-clause-value
returns-then-starts_with-clause-value c =
    c.starts_with-then-starts_with.ensures.value
    ∙ starts_with_slash_after c.args.text.now c.args.dir.now _
    (sym c.starts_with.ensures.value ∙ c.if-starts_with.true) (take_rest c.args.text.now _)
