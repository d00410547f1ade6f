-- Outputs and graphs of references among structured attributes (Nix manual, "Advanced Attributes",
-- `__structuredAttrs` and `exportReferencesGraph`).
use Rattle.std.specs.Prelude.{ℕ, List, [], ◌∷◌, ◌++◌, Option, Some, None, String, codes, if◌then◌else◌, map, option_and_then, option_map, string_bytes}
use Rattle.std.specs.Str.{bytes_eq}
use Rattle.std.specs.declared.alloc.Global.{Global}
use Rattle.serde_json.specs.Data.{Data, null, boolean, number, string, array, object, unsigned, Items, no_items, item, Members, no_members, member, put}
use Rattle.serde_json.specs.Find.{as_object, get_member}
use Rattle.nix_names.specs.Base32.{base32}
use Rattle.nix_names.specs.Bytes.{Path}
use Rattle.structured_attrs.specs.Strings.{texts_of}
use Rattle.structured_attrs.specs.declared.graph.GraphRow.{GraphRow}
use Rattle.structured_attrs.specs.declared.graph.GraphRequest.{GraphRequest}
use Rattle.structured_attrs.specs.declared.outputs.OutputPath.{OutputPath}

-- ---- outputs

-- some members, and the paths of some outputs, each under its name; of a name that comes twice the
-- last one stays
abbrev pub with_outputs : List OutputPath → Members → Members
with_outputs [] found = found
with_outputs (output ∷ rest) found =
    with_outputs rest (put (string_bytes output.name) (string output.path) found)

-- the object of outputs
abbrev pub outputs_data : List OutputPath → Data
outputs_data outputs = object (with_outputs outputs no_members)

-- ---- graphs

-- the paths as strings
abbrev pub path_items : List Path → Items
path_items [] = no_items
path_items (path ∷ paths) = item (string path) (path_items paths)

-- some members, and a content address where there is one
abbrev pub with_ca : Option (String Global) → Members → Members
with_ca None found = found
with_ca (Some ca) found = put (codes "ca") (string (string_bytes ca)) found

-- what the record of a path has besides its content address: the size of its closure, the SHA-256
-- and the size of its archive, the path, and its references
abbrev pub row_members : GraphRow → Members
row_members row =
    member (codes "closureSize") (number (unsigned row.closure_size))
    (member (codes "narHash") (string (codes "sha256:" ++ base32 row.nar.hash))
    (member (codes "narSize") (number (unsigned row.nar.size))
    (member (codes "path") (string row.registration.path)
    (member (codes "references") (array (path_items row.registration.info.references))
    no_members))))

-- the record of a path
abbrev pub row_data : GraphRow → Data
row_data row = object (with_ca row.ca (row_members row))

-- the records of some paths
abbrev pub row_items : List GraphRow → Items
row_items [] = no_items
row_items (row ∷ rows) = item (row_data row) (row_items rows)

-- the array of records
abbrev pub graph_data : List GraphRow → Data
graph_data rows = array (row_items rows)

-- ---- requests

-- the texts of a key's value, where the key is not `outputs`, which Nix refuses
abbrev pub request_texts : List ℕ → Data → Option (List (List ℕ))
request_texts key d = if bytes_eq key (codes "outputs") then None else texts_of d

-- each key and its texts, by key
abbrev pub member_requests : Members → Option (List (List ℕ × List (List ℕ)))
member_requests no_members = Some []
member_requests (member key d ms) =
    option_and_then (λ texts. option_map (λ rest. (key, texts) ∷ rest) (member_requests ms)) (request_texts key d)

-- what an object asks for: nothing where there is none
abbrev pub requests_within : Option Members → Option (List (List ℕ × List (List ℕ)))
requests_within None = Some []
requests_within (Some ms) = member_requests ms

-- what exportReferencesGraph asks for, which is nothing where it is no object
abbrev pub graph_requests : Members → Option (List (List ℕ × List (List ℕ)))
graph_requests attributes = requests_within
    (option_and_then as_object (get_member (codes "exportReferencesGraph") attributes))

-- the key and the texts of a request
abbrev pub shown_request : GraphRequest → List ℕ × List (List ℕ)
shown_request request = (string_bytes request.key, map (λ (s : String Global). string_bytes s) request.paths.items)
