use Rattle.std.proofs.Common.{drop, ap, ◌∙◌}
use Rattle.std.proofs.lemmas.List.{take_rest}
use Rattle.nix_names.specs.Names.{is_name}
use Rattle.nix_names.proofs.PathTexts.{name_of_is}
use Rattle.nix_names.proofs.store_path.StorePath.name.Goals as goal

pub returns-clause-value : goal.returns-clause-value
returns-clause-value c = take_rest c.base.result.now 33 ∙ ap (drop 33) c.base.ensures.value

pub returns-clause-named : goal.returns-clause-named
returns-clause-named c =
    let same = take_rest c.base.result.now 33 ∙ ap (drop 33) c.base.ensures.value in
    ap is_name same ∙ name_of_is c.args.self.now c.base.ensures.is_path
