use Rattle.std.proofs.Common.{rules}
use Rattle.drv_graph.specs.private.Owners.{owned}
use Rattle.drv_graph.proofs.Owners.{clash_entered, clash_many, owner_within, owning_all, owning_clash}
use Rattle.drv_graph.proofs.walks.output_owners.own.Goals as goal

pub has_as_many-requires : goal.has_as_many-requires
has_as_many-requires c =
    owner_within _ (owned c.args.owners.now) _
    _ c.requires.owners c.first_owner-owner.ensures

pub returns-then-not-has_as_many : goal.returns-then-not-has_as_many
returns-then-not-has_as_many c = search (rules, owning_clash, clash_many)

pub returns-then-not-branch : goal.returns-then-not-branch
returns-then-not-branch c = search (rules, owning_clash, clash_entered)

pub returns : goal.returns
returns c =
    owning_all _ (owned c.args.owners.now) (owned c.enter.new.owners)
    _ _ _ _
    _ c.requires.kept c.requires.owners c.requires.distinct
    c.has_as_many.ensures c.if-not-has_as_many.false c.unwrap_or-first.ensures
    c.in_ok-enter.ensures c.if-not-branch.false
