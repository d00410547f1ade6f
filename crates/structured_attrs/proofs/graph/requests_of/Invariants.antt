use Rattle.std.proofs.Common.{◌≡◌, map}
use Rattle.serde_json.specs.View.{members_view}
use Rattle.structured_attrs.specs.Graphs.{member_requests, shown_request}
use Rattle.structured_attrs.proofs.Gathered.{gathered}
use Rattle.structured_attrs.proofs.graph.requests_of.Given as goal

-- the requests so far and those of the members that are left are the requests of all
abbrev pub invariant-members : goal.invariant-members
invariant-members l = gathered (map shown_request l.requests.items) (member_requests (members_view l.key-iterator)) ≡ member_requests (members_view l.members.entries)
