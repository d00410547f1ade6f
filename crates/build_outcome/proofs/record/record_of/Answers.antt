use Rattle.build_outcome.proofs.Knowns.{record_made}
use Rattle.build_outcome.proofs.record.record_of.Goals as goal

pub returns : goal.returns
returns c =
    record_made c.args.job.now c.args.permitted.now c.args.known.now c.new.result _ _ _
    c.new.ensures.references c.new.ensures.digest c.new.ensures.nar
    (λ output known. c.in_ok-references.ensures.found c.args.job.now output known)
    (λ output known taken. c.record_digest-digest.ensures c.args.permitted.now output known taken)
    (λ output known. c.record_nar-nar.ensures output.tree
    (c.sum.ensures c.args.job.now c.args.permitted.now output known))
