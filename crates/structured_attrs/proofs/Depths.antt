-- How deep outputs and graphs nest.
use Rattle.std.proofs.Common.{◌≡◌, ℕ, ◌≤◌, List, [], ◌∷◌, Option, Some, None, Result, Ok, Err, OnOk, OnErr, ap, String, Global, codes, string_bytes, arith}
use Rattle.serde_json.specs.View.{members_view}
use Rattle.serde_json.proofs.Views.{Entry}
use Rattle.serde_json.specs.Data.{Data, string, Members, put, depth, items_depth, members_depth}
use Rattle.nix_names.specs.Bytes.{Path}
use Rattle.structured_attrs.specs.Graphs.{with_outputs, outputs_data, path_items, with_ca, row_members, row_data, row_items, graph_data}
use Rattle.structured_attrs.specs.declared.graph.GraphRow.{GraphRow}
use Rattle.structured_attrs.specs.declared.outputs.OutputPath.{OutputPath}
use Rattle.structured_attrs.proofs.Nesting.{members_depth-put}

pub depth-outputs : (outputs : List OutputPath) (found : Members) (n : ℕ) → members_depth found ≤ n → members_depth (with_outputs outputs found) ≤ n
depth-outputs [] found n h = h
depth-outputs (output ∷ rest) found n h =
    depth-outputs rest _ n (members_depth-put (string_bytes output.name) (string output.path) found n (omega arith) h)

depth-paths : (paths : List Path) → items_depth (path_items paths) ≤ 0
depth-paths [] = omega arith
depth-paths (path ∷ paths) = omega (arith, depth-paths paths)

depth-ca : (ca : Option (String Global)) (rest : Members) (n : ℕ) → members_depth rest ≤ n → members_depth (with_ca ca rest) ≤ n
depth-ca None rest n h = h
depth-ca (Some ca) rest n h = members_depth-put (codes "ca") (string (string_bytes ca)) rest n (omega arith) h

depth-row : (row : GraphRow) → depth (row_data row) ≤ 2
depth-row row =
    let flat = depth-paths row.registration.info.references in
    omega (arith, depth-ca row.ca (row_members row) 1 (omega (arith, flat)))

depth-rows : (rows : List GraphRow) → items_depth (row_items rows) ≤ 2
depth-rows [] = omega arith
depth-rows (row ∷ rows) = omega (arith, depth-row row, depth-rows rows)

pub depth-graph : (rows : List GraphRow) → depth (graph_data rows) ≤ 3
depth-graph rows = omega (arith, depth-rows rows)

-- an object keeps its depth where a shallow value is put into it, or nothing is
pub keeps_depth : {E : Type 0} (r : Result (Unit {0}) E) (key : List ℕ) (d : Data) (old new : List Entry) → OnOk r (members_view new ≡ put key d (members_view old)) → OnErr r (new ≡ old)
    → depth d ≤ 126 → members_depth (members_view old) ≤ 126 → members_depth (members_view new) ≤ 126
keeps_depth (Ok u) key d old new ok err shallow before = omega (arith, ap members_depth ok, members_depth-put key d (members_view old) 126 shallow before)
keeps_depth (Err e) key d old new ok err shallow before = omega (arith, ap (λ es. members_depth (members_view es)) err)
