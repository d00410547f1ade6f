-- The trace of a run: a text in Chrome's trace event format ("Trace Event Format", JSON object
-- format, complete events), with an event for each lease.
use Rattle.std.specs.Prelude.{◌≢◌, ◌<◌, ◌≤◌, ◌++◌, ℕ, Bool, true, false, List, [], ◌∷◌, All, codes, decimal, flat_map}
use Rattle.nix_names.specs.Bytes.{Bytes, Path}
use Rattle.nix_names.specs.StorePaths.{IsStorePath}
use Rattle.process_build.specs.Leases.{drv_name}
use Rattle.process_build.specs.declared.process.lease.EndedLease.{EndedLease}

-- the word for how a lease ended
unfoldable pub end_word : (is_good : Bool) → Bytes
end_word true = codes "built"
end_word false = codes "failed"

-- the first fields of an event: the name of the derivation, and that the event is a complete one
unfoldable pub named_fields : EndedLease → Bytes
named_fields lease =
    codes "{\"name\":\"" ++ drv_name lease.path ++ codes "\",\"ph\":\"X\",\"pid\":1"

-- the worker as the thread; when the lease began and how long it was, in microseconds
unfoldable pub timed_fields : EndedLease → Bytes
timed_fields lease =
    codes ",\"tid\":" ++ decimal lease.times.worker ++ codes ",\"ts\":" ++ decimal lease.times.start
    ++ codes ",\"dur\":" ++ decimal lease.times.length

-- the first argument of an event, the number of the lease
unfoldable pub number_field : EndedLease → Bytes
number_field lease = codes "\"lease\":" ++ decimal lease.times.number

-- the second argument, how it ended
unfoldable pub end_field : EndedLease → Bytes
end_field lease = codes ",\"ended\":\"" ++ end_word lease.is_good ++ codes "\""

-- the last argument of an event, the path of the derivation
unfoldable pub path_field : EndedLease → Bytes
path_field lease = codes ",\"path\":\"" ++ lease.path ++ codes "\"}}"

-- the arguments of an event
unfoldable pub args_of : EndedLease → Bytes
args_of lease =
    codes ",\"args\":{" ++ number_field lease ++ end_field lease ++ path_field lease

-- the event of a lease
unfoldable pub event_of : EndedLease → Bytes
event_of lease =
    named_fields lease ++ timed_fields lease ++ args_of lease

-- an event that stands after another, on a line of its own
unfoldable pub event_after : EndedLease → Bytes
event_after lease = codes ",\n" ++ event_of lease

-- the events of some leases, in their order
unfoldable pub events_of : List EndedLease → Bytes
events_of [] = []
events_of (first ∷ more) = event_of first ++ flat_map event_after more

-- a byte stands for itself in a JSON string (RFC 8259, section 7): it is printable ASCII, and
-- neither a quotation mark nor a backslash
abbrev pub IsPlain : ℕ → Type 0
IsPlain b = (32 ≤ b) × (b < 127) × (b ≢ 34) × (b ≢ 92)

-- each byte of a store path stands for itself in a JSON string, and so does each of a name in it
abbrev pub PathsArePlain : Type 0
PathsArePlain = (path : Path) → IsStorePath path → All IsPlain path

-- the trace of these leases
abbrev pub trace_of : List EndedLease → Bytes
trace_of leases = codes "{\"traceEvents\":[" ++ events_of leases ++ codes "]}\n"
