-- The leases of a trace.
use Rattle.std.proofs.Common.{◌≡◌, ◌∙◌, ◌++◌, ◌∷◌, [], ap, List, map}
use Rattle.std.proofs.lemmas.List.{map-append}
use Rattle.process_build.specs.declared.process.lease.EndedLease.{EndedLease}
use Rattle.nix_realise.specs.RunTraces.{LeaseEnd, lease_end}

-- one lease more
pub one_more : (old new : List EndedLease) (lease : EndedLease) (end : LeaseEnd)
    → new ≡ old ++ lease ∷ [] → lease_end lease ≡ end
    → map lease_end new ≡ map lease_end old ++ end ∷ []
one_more old new lease end is same =
    ap (map lease_end) is ∙ map-append lease_end old (lease ∷ [])
    ∙ ap (λ e. map lease_end old ++ e ∷ []) same
