-- The paths of the first requests were found.
use Rattle.std.proofs.Common.{◌≡◌, All, map, take}
use Rattle.valid_table.specs.Valid.{IsValid}
use Rattle.structured_attrs.specs.Graphs.{shown_request}
use Rattle.builder_start.specs.Structured.{texts_asked}
use Rattle.builder_start.proofs.requests.roots_of.Given as goal

abbrev pub invariant-requests : goal.invariant-requests
invariant-requests l = record {
  ok : l.roots.items ≡ texts_asked (map shown_request (take l.request-index l.requests));
  valid : All (IsValid l.rows) l.roots.items;
}
