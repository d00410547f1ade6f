use Rattle.std.proofs.Common.{◌≡◌, ◌+◌, ◌++◌, ◌∷◌, ◌∙◌, [], ℕ, List, All, Contains, ap, arith, map, subst, sym, take}
use Rattle.std.proofs.lemmas.List.{map_push}
use Rattle.std.proofs.lemmas.List.Elements.{All-push}
use Rattle.nix_names.proofs.Lists.{taken_more}
use Rattle.valid_table.specs.Entries.{paths_registered}
use Rattle.valid_table.specs.declared.entry.Registration.{Registration}
use Rattle.structured_attrs.specs.declared.graph.GraphRow.{GraphRow}
use Rattle.builder_start.specs.Structured.{IsRow}
use Rattle.builder_start.proofs.graphs.rows_of.Goals as goal

pub row_of-requires-clause-known : goal.row_of-requires-clause-known
row_of-requires-clause-known c =
    subst (Contains c.args.rows.now) (sym c.row-item.is)
    (c.requires.known c.rows.row-index c.row-item.result (omega arith))

pub rows-preserved : goal.rows-preserved
rows-preserved c =
    let l = c.rows in
    let item = c.row-item.result in
    let row : GraphRow = c.in_ok-row_of.field-0 in
    let front = take l.row-index c.args.graph.now in
    let items = c.in_ok-push.ensures.items in
    let more : take (l.row-index + 1) c.args.graph.now ≡ front ++ item ∷ [] =
    taken_more c.args.graph.now l.row-index item (omega arith) c.row-item.is in
    record {
      paths = ap (map (λ (r : GraphRow). r.registration.path)) items
          ∙ map_push (λ (r : GraphRow). r.registration.path) l.found.items row
          ∙ ap (λ (ps : List (List ℕ)). ps ++ row.registration.path ∷ []) l.invariant.paths
          ∙ ap (λ (r : Registration). paths_registered front ++ r.path ∷ [])
          c.in_ok-row_of.ensures.path
          ∙ sym (ap paths_registered more ∙ map_push (λ (r : Registration). r.path) front item);
      each = subst (All (IsRow c.args.rows.now)) (sym items)
          (All-push (IsRow c.args.rows.now) l.found.items row l.invariant.each
          c.in_ok-row_of.ensures.row);
    }
