use Rattle.std.proofs.Common.{◌≡◌, ◌++◌, drop}
use Rattle.std.specs.List.{flat_map}
use Rattle.process_build.specs.Traces.{event_after}
use Rattle.process_build.proofs.observe.traces.write_more.Given as goal

-- what is written, and the events of the leases that are left
abbrev pub invariant-leases : goal.invariant-leases
invariant-leases l =
    l.out.items ++ flat_map event_after (drop l.lease-index l.leases) ≡ l.initial.out.items
    ++ flat_map event_after l.leases
