use Rattle.builder_start.proofs.Names.{file_name_utf8}
use Rattle.builder_start.proofs.entries.file_of.Goals as goal

pub unreachable-requires : goal.unreachable-requires
unreachable-requires c =
    c.in_default.ensures.cases.0 (file_name_utf8 c.args.name.now c.requires)
