use Rattle.ref_scan.proofs.LinksAdded.{links_add}
use Rattle.ref_scan.proofs.laws.links_add.Goals as goal

pub returns : goal.returns
returns c = links_add
