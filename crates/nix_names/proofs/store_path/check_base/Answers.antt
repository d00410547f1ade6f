use Rattle.std.proofs.Common.{ap, sym, ◌∙◌, not, Some, None, if◌then◌else◌}
use Rattle.std.proofs.lemmas.List.{take_rest}
use Rattle.nix_names.specs.declared.fault.NameFault.TheVariants.{BadName}
use Rattle.nix_names.proofs.PathFaults.{fault_after_hash}
use Rattle.nix_names.proofs.store_path.check_base.Goals as goal

pub returns-then-not-is_name : goal.returns-then-not-is_name
returns-then-not-is_name c =
    let begins = sym c.begins_with_hash_part.ensures.value ∙ c.if-not-begins_with_hash_part.false in
    fault_after_hash c.args.base.now _ begins (take_rest c.args.base.now 33)
    ∙ ap (λ b. if not b then Some BadName else None)
    (sym c.is_name.ensures ∙ c.if-not-is_name.true)

pub returns : goal.returns
returns c =
    let begins = sym c.begins_with_hash_part.ensures.value ∙ c.if-not-begins_with_hash_part.false in
    fault_after_hash c.args.base.now _ begins (take_rest c.args.base.now 33)
    ∙ ap (λ b. if not b then Some BadName else None)
    (sym c.is_name.ensures ∙ c.if-not-is_name.false)
