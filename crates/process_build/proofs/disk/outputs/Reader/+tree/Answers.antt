use Rattle.process_build.proofs.AllowedLinks.{allowed_dir}
use Rattle.process_build.proofs.disk.outputs.Reader.+tree.Goals as goal

pub tree-returns-in_ok-members-in-Folder-clause-plain :
    goal.tree-returns-in_ok-members-in-Folder-clause-plain
tree-returns-in_ok-members-in-Folder-clause-plain g t c =
    allowed_dir c.args.profile c.in_ok-members-in-Folder.field-0 c.in_ok-members-in-Folder.ensures.plain
