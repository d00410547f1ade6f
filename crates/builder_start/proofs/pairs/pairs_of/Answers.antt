use Rattle.std.proofs.Common.{[]}
use Rattle.builder_start.proofs.TokenPairs.{one_pair}
use Rattle.builder_start.proofs.pairs.pairs_of.Goals as goal

pub pairs-preserved : goal.pairs-preserved
pairs-preserved c =
    one_pair c.pairs.pairs.items c.push.new.self.items c.pairs.rest.now
    (record { ref_ptr = (0, 0); now = [] }) _ c.in-len2-up.len_at_least c.pairs.invariant
    c.in_ok-push.ensures.items
