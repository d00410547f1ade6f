use Rattle.std.proofs.Common.{refl, subst, sym}
use Rattle.drv_graph.specs.declared.kinds.Kind.{Kind}
use Rattle.build_outcome.specs.Verdicts.{IsRecordDigest}
use Rattle.build_outcome.proofs.FixedDigests.{fixed_record}
use Rattle.build_outcome.proofs.Knowns.{known_archive}
use Rattle.build_outcome.proofs.record.record_digest.Goals as goal

pub returns-in-Addressed : goal.returns-in-Addressed
returns-in-Addressed c permitted output known taken =
    subst (λ (k : Kind). IsRecordDigest c.args.job.now.profile k output.tree
    c.addressed_digest.result) (sym c.in-Addressed.is)
    (c.addressed_digest.ensures c.args.job.now permitted output known refl c.in-Addressed.is)

pub returns-in-Fixed : goal.returns-in-Fixed
returns-in-Fixed c permitted output known taken =
    fixed_record c.args.job.now.profile c.args.job.now.kind output.tree c.in-Fixed.method
    c.in-Fixed.digest c.in-Fixed.is taken
    (known_archive c.args.job.now permitted output c.args.known.now known)
