use Rattle.std.proofs.Common.{◌+◌, drop, subst, take}
use Rattle.nix_names.proofs.Lists.{parts_at}
use Rattle.valid_view.specs.Shown.{IsShowable}
use Rattle.valid_view.proofs.Feeds.{first_follows}
use Rattle.valid_view.proofs.opening.fill.Goals as goal

pub add-requires : goal.add-requires
add-requires g c =
    let entries = c.args.entries.now in
    let i = c.loop-entry.entry-index in
    let entry = c.entry-item.result in
    let showable : IsShowable entries =
    record { closed = c.requires.journal.closed; once = c.requires.journal.once } in
    rw c.loop-entry.invariant
    (first_follows (take i entries) entry (drop (i + 1) entries)
    (subst IsShowable (parts_at entries i entry c.loop-entry-test.true c.entry-item.is) showable))
