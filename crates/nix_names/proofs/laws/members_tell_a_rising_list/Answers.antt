use Rattle.nix_names.proofs.RisingLists.{rising_same}
use Rattle.nix_names.proofs.laws.members_tell_a_rising_list.Goals as goal

pub returns : goal.returns
returns c = rising_same
