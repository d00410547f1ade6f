use Rattle.std.proofs.Common.{length, ap, arith, ◌∙◌}
use Rattle.std.proofs.lemmas.List.{take_rest}
use Rattle.nix_names.proofs.PathTexts.{base_long}
use Rattle.nix_names.proofs.store_path.key_of.Goals as goal

pub unreachable-requires : goal.unreachable-requires
unreachable-requires c =
    let long = base_long c.args.text.now c.requires in
    let base = ap length (take_rest c.args.text.now c.base_offset.result ∙
    c.base_offset.ensures.offset) in
    let short = c.in-None.ensures.cases in omega (arith, long, base, short)
