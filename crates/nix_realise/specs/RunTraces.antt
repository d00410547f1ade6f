-- The trace of a run, by its history (this product's own, `FORMATS.md`).
use Rattle.std.specs.Prelude.{◌≡◌, ℕ, Bool, List, [], ◌∷◌, flat_map, map}
use Rattle.nix_names.specs.Bytes.{Bytes, Path}
use Rattle.process_build.specs.Traces.{trace_of}
use Rattle.process_build.specs.declared.process.lease.EndedLease.{EndedLease}
use Rattle.run_report.specs.Reports.{path_at}
use Rattle.run_states.specs.Runs.{History, Run, state_in}
use Rattle.run_states.specs.States.{is_good}
use Rattle.run_states.specs.declared.state.Event.{Event}
use Rattle.run_states.specs.declared.state.Event.TheVariants.{Begin}

-- What a trace tells of a lease, but for its worker and its times: the path of its derivation, its
-- number, and whether its outputs were registered.
pub record LeaseEnd : Type 0 where
  pub path : Path
  pub number : ℕ
  pub is_good : Bool

-- the lease with this number, by what became of its derivation
abbrev pub lease_at : Run → History → (d number : ℕ) → LeaseEnd
lease_at run history d number = record {
  path = path_at run.graph.nodes d;
  number = number;
  is_good = is_good (state_in run history d);
}

-- the lease that an event began, if it did
abbrev pub lease_of : Run → History → Event → List LeaseEnd
lease_of run history (Begin d number) = lease_at run history d number ∷ []
lease_of run history event = []

-- the leases that some events began, in their order
abbrev pub leases_of : Run → History → List Event → List LeaseEnd
leases_of run history events = flat_map (lease_of run history) events

-- what a trace tells of a lease
abbrev pub lease_end : EndedLease → LeaseEnd
lease_end lease = record {
  path = lease.path;
  number = lease.times.number;
  is_good = lease.is_good;
}

-- The text is a trace with an event for each Begin of a history, in their order, which is that of
-- their numbers. Only the workers and the times are not told by the history.
pub record IsRunTrace (run : Run) (history : History) (text : Bytes) : Type 0 where
  pub leases : List EndedLease
  pub each : map lease_end leases ≡ leases_of run history history.events
  pub is_text : text ≡ trace_of leases
