use Rattle.std.proofs.Common.{◌≡◌, ◌++◌, drop}
use Rattle.std.specs.List.{flat_map}
use Rattle.nix_realise.specs.LastLines.{kept_lease}
use Rattle.nix_realise.proofs.words.kept_lines.kept_leases.Given as goal

-- the leases so far, and those of the events that are left
abbrev pub invariant-events : goal.invariant-events
invariant-events g l =
    l.leases.items
    ++ flat_map (kept_lease l.book.run.graph.nodes l.kept) (drop l.event-index l.book.history.events)
    ≡ flat_map (kept_lease l.book.run.graph.nodes l.kept) l.book.history.events
