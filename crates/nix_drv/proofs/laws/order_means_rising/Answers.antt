use Rattle.nix_drv.proofs.Rising.{order_means_rising}
use Rattle.nix_drv.proofs.laws.order_means_rising.Goals as goal

pub returns : goal.returns
returns c = order_means_rising
