-- Graphs that are set one after the other.
use Rattle.std.proofs.Common.{◌≡◌, ◌∙◌, ℕ, ◌+◌, ◌<◌, ◌≤◌, List, [], ◌∷◌, ◌++◌, ap, get_or, length, map, refl, subst, sym, take}
use Rattle.std.specs.List.{AllZip}
use Rattle.std.proofs.lemmas.List.{map-append, take_all}
use Rattle.nix_names.proofs.Lists.{taken_more}
use Rattle.serde_json.specs.Data.{Members, put}
use Rattle.valid_table.specs.declared.entry.Registration.{Registration}
use Rattle.structured_attrs.specs.Graphs.{graph_data, shown_request}
use Rattle.structured_attrs.specs.declared.graph.GraphRequest.{GraphRequest}
use Rattle.structured_attrs.specs.declared.graph.GraphRow.{GraphRow}
use Rattle.build_outcome.specs.declared.job.WholeInput.{WholeInput}
use Rattle.builder_start.specs.Structured.{IsGraphOf, with_graphs}
use Rattle.builder_start.proofs.Files.{zip_push}

-- The graphs of the first requests are set.
pub record AreSetSoFar (rows : List Registration) (whole : List WholeInput) (requests : List GraphRequest) (i : ℕ)
    (before now : Members) : Type 0 where
  pub graphs : List (List ℕ × List GraphRow)
  pub each : AllZip (IsGraphOf rows whole) (map shown_request (take i requests)) graphs
  pub set : now ≡ with_graphs graphs before

with_one_more : (graphs : List (List ℕ × List GraphRow)) (graph : List ℕ × List GraphRow)
    (before : Members) → with_graphs (graphs ++ graph ∷ []) before
    ≡ put graph.0 (graph_data graph.1) (with_graphs graphs before)
with_one_more [] graph before = refl
with_one_more (g ∷ graphs) graph before =
    with_one_more graphs graph (put g.0 (graph_data g.1) before)

pub none_set : (rows : List Registration) (whole : List WholeInput) (requests : List GraphRequest) (before : Members)
    → AreSetSoFar rows whole requests 0 before before
none_set rows whole requests before = record { graphs = []; each = tt; set = refl }

pub one_set : (rows : List Registration) (whole : List WholeInput) (requests : List GraphRequest) (i : ℕ)
    (request : GraphRequest) (before now after : Members) (graph : List GraphRow)
    → i < length requests → request ≡ get_or requests i request
    → AreSetSoFar rows whole requests i before now
    → IsGraphOf rows whole (shown_request request) ((shown_request request).0, graph)
    → after ≡ put (shown_request request).0 (graph_data graph) now
    → AreSetSoFar rows whole requests (i + 1) before after
one_set rows whole requests i request before now after graph within at sofar is set =
    let one : List ℕ × List GraphRow = ((shown_request request).0, graph) in
    record {
      graphs = sofar.graphs ++ one ∷ [];
      each = subst (λ rs. AllZip (IsGraphOf rows whole) rs (sofar.graphs ++ one ∷ []))
          (sym (ap (map shown_request) (taken_more requests i request within at)
          ∙ map-append shown_request (take i requests) (request ∷ [])))
          (zip_push (IsGraphOf rows whole) (map shown_request (take i requests)) sofar.graphs
          (shown_request request) one sofar.each is);
      set = set ∙ ap (put one.0 (graph_data graph)) sofar.set
          ∙ sym (with_one_more sofar.graphs one before);
    }

pub all_set : (rows : List Registration) (whole : List WholeInput) (requests : List GraphRequest) (i : ℕ)
    (before now : Members) → length requests ≤ i → AreSetSoFar rows whole requests i before now
    → (graphs : List (List ℕ × List GraphRow))
    × AllZip (IsGraphOf rows whole) (map shown_request requests) graphs
    × (now ≡ with_graphs graphs before)
all_set rows whole requests i before now end sofar = (
  sofar.graphs,
  subst (λ (rs : List GraphRequest). AllZip (IsGraphOf rows whole) (map shown_request rs) sofar.graphs)
      (take_all i requests end) sofar.each,
  sofar.set,
)
