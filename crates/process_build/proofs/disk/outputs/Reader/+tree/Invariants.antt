use Rattle.std.proofs.Common.{◌+◌, ◌*◌}
use Rattle.process_build.proofs.AllowedLinks.{AreAllowed}
use Rattle.process_build.proofs.disk.outputs.Reader.+tree.Given as goal

abbrev pub decreases-member : goal.decreases-member
decreases-member g l = 3 * l.below

abbrev pub decreases-members : goal.decreases-members
decreases-members g l = 3 * l.below + 1

abbrev pub decreases-tree : goal.decreases-tree
decreases-tree g l = 3 * l.below + 2

-- the members so far have no symbolic links where outputs may have none
abbrev pub invariant-members-loop-name : goal.invariant-members-loop-name
invariant-members-loop-name g l = AreAllowed l.profile l.members.items
