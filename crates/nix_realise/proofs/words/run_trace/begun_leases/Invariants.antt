use Rattle.std.proofs.Common.{◌≡◌, ◌++◌, drop, map}
use Rattle.nix_realise.specs.RunTraces.{lease_end, leases_of}
use Rattle.nix_realise.proofs.words.run_trace.begun_leases.Given as goal

-- the leases so far, and those of the events that are left
abbrev pub invariant-events : goal.invariant-events
invariant-events g l =
    map lease_end l.leases.items
    ++ leases_of l.book.run l.book.history (drop l.event-index l.book.history.events)
    ≡ leases_of l.book.run l.book.history l.book.history.events
