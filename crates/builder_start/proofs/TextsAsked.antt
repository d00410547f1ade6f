-- The texts that are asked for, request by request.
use Rattle.std.proofs.Common.{◌≡◌, ◌≢◌, ◌∙◌, ℕ, ◌+◌, ◌<◌, List, [], ◌∷◌, ◌++◌, None, All, Contains, ap, get_or, length, map, refl, subst, sym, take, drop, ⊎_elim}
use Rattle.std.proofs.lemmas.Grind.{flat_map-append}
use Rattle.std.proofs.lemmas.List.{map-append, append-nil}
use Rattle.std.proofs.lemmas.List.Elements.{All-contains, Contains-append_left, Contains-append_right}
use Rattle.nix_names.proofs.Lists.{All-from_contains, Contains-cons_cases, Contains-map, Contains-middle, Contains-nothing, parts_at, taken_more}
use Rattle.valid_table.specs.declared.entry.Registration.{Registration}
use Rattle.structured_attrs.specs.Graphs.{shown_request}
use Rattle.structured_attrs.specs.declared.graph.GraphRequest.{GraphRequest}
use Rattle.structured_attrs.specs.declared.graph.GraphRow.{GraphRow}
use Rattle.build_outcome.specs.declared.job.WholeInput.{WholeInput}
use Rattle.builder_start.specs.Graphs.{AreGraphPaths, IsGraph, IsInGraph}
use Rattle.builder_start.specs.Structured.{IsGraphOf, IsRow, LacksNar, texts_asked}
use Rattle.builder_start.specs.private.Shown.{texts_of}
use Rattle.builder_start.proofs.GraphStarts.{in_more}

-- a text of a request is asked for
text_asked : (asked : List (List ℕ × List (List ℕ))) (request : List ℕ × List (List ℕ))
    (text : List ℕ) → Contains asked request → Contains request.1 text
    → Contains (texts_asked asked) text
text_asked [] request text has one = absurd (Contains-nothing request has)
text_asked (r ∷ asked) request text has one =
    ⊎_elim
    (λ same. Contains-append_left r.1 (texts_asked asked) text
    (subst (λ (q : List ℕ × List (List ℕ)). Contains q.1 text) (sym same) one))
    (λ later. Contains-append_right r.1 (texts_asked asked) text
    (text_asked asked request text later one))
    (Contains-cons_cases r asked request has)

read_there : (requests : List GraphRequest) (i : ℕ) (request : GraphRequest)
    → i < length requests → request ≡ get_or requests i request
    → Contains (map shown_request requests) (shown_request request)
read_there requests i request within at =
    Contains-map shown_request requests request
    (subst (λ rs. Contains rs request) (sym (parts_at requests i request within at))
    (Contains-middle (take i requests) (drop (i + 1) requests) request))

-- what holds of all texts that are asked for holds of those of a request
pub of_request : (P : List ℕ → Type 0) (requests : List GraphRequest) (i : ℕ)
    (request : GraphRequest) → i < length requests → request ≡ get_or requests i request
    → All P (texts_asked (map shown_request requests)) → All P (texts_of request.paths.items)
of_request P requests i request within at all =
    All-from_contains P (texts_of request.paths.items)
    (λ text has. All-contains P (texts_asked (map shown_request requests)) text all
    (text_asked (map shown_request requests) (shown_request request) text
    (read_there requests i request within at) has))

-- the texts of a request are asked for
pub texts_of_request : (requests : List GraphRequest) (i : ℕ) (request : GraphRequest)
    → i < length requests → request ≡ get_or requests i request → (text : List ℕ)
    → Contains (texts_of request.paths.items) text
    → Contains (texts_asked (map shown_request requests)) text
texts_of_request requests i request within at text has =
    text_asked (map shown_request requests) (shown_request request) text
    (read_there requests i request within at) has

-- where no path lacks its archive, none of a request's does
pub nars_of_request : (rows : List Registration) (whole : List WholeInput)
    (requests : List GraphRequest) (i : ℕ) (request : GraphRequest) → i < length requests
    → request ≡ get_or requests i request
    → ((path : List ℕ) → LacksNar rows whole (map shown_request requests) path → ⊥)
    → (row : Registration) → IsInGraph rows whole (texts_of request.paths.items) row.path
    → Contains rows row → row.info.nar ≢ None
nars_of_request rows whole requests i request within at none row is known lacks =
    none row.path (
      row,
      known,
      refl,
      lacks,
      in_more rows whole (texts_of request.paths.items) (texts_asked (map shown_request requests))
          (texts_of_request requests i request within at) row.path is,
    )

-- the texts of one request more
pub texts_more : (requests : List GraphRequest) (i : ℕ) (request : GraphRequest)
    → i < length requests → request ≡ get_or requests i request
    → texts_asked (map shown_request (take (i + 1) requests))
    ≡ texts_asked (map shown_request (take i requests)) ++ texts_of request.paths.items
texts_more requests i request within at =
    ap (λ (rs : List GraphRequest). texts_asked (map shown_request rs))
    (taken_more requests i request within at)
    ∙ ap texts_asked (map-append shown_request (take i requests) (request ∷ []))
    ∙ flat_map-append (λ (r : List ℕ × List (List ℕ)). r.1) (map shown_request (take i requests))
    (shown_request request ∷ [])
    ∙ ap (λ (ts : List (List ℕ)). texts_asked (map shown_request (take i requests)) ++ ts)
    (append-nil (texts_of request.paths.items))

-- each record of a graph has its archive
pub graph_nars : (rows : List Registration) (whole : List WholeInput) (roots texts : List (List ℕ))
    (graph : List Registration) → roots ≡ texts → IsGraph rows whole roots graph
    → ((row : Registration) → IsInGraph rows whole texts row.path → Contains rows row
    → row.info.nar ≢ None)
    → All (λ (row : Registration). row.info.nar ≢ None) graph
graph_nars rows whole roots texts graph same is nars =
    All-from_contains (λ (row : Registration). row.info.nar ≢ None) graph
    (λ row has.
    nars row
    (subst (λ ts. IsInGraph rows whole ts row.path) same
    ((is.paths.each row.path).0 (Contains-map (λ (r : Registration). r.path) graph row has)))
    (All-contains (Contains rows) graph row is.known has))

-- the rows of a request's graph
pub graph_of_request : (rows : List Registration) (whole : List WholeInput) (request : GraphRequest)
    (found : List GraphRow)
    → AreGraphPaths rows whole (texts_of request.paths.items)
    (map (λ (r : GraphRow). r.registration.path) found)
    → All (IsRow rows) found
    → IsGraphOf rows whole (shown_request request) ((shown_request request).0, found)
graph_of_request rows whole request found paths each = record {
  key = refl;
  paths = paths;
  each = each;
}
