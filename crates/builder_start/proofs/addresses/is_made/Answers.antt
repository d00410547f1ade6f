use Rattle.builder_start.proofs.PathFolders.{folder_is_of}
use Rattle.builder_start.proofs.addresses.is_made.Goals as goal

pub returns : goal.returns
returns c =
    rw (
      folder_is_of c.args.dir.now c.args.path.now c.requires,
      ← c.name.ensures.value,
      ← c.in_ok-made.ensures,
    ) c.eq.ensures
