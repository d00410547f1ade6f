use Rattle.std.proofs.Common.{◌≡◌, ◌⊎◌, ℕ, nat_eq}
use Rattle.std.specs.List.{list_any}
use Rattle.valid_table.specs.private.Closing.{path_at}
use Rattle.valid_table.specs.private.Keys.{IsKey, folder_of}
use Rattle.valid_table.specs.Tables.{registrations_of}
use Rattle.valid_table.proofs.FirstRows.{after_added, chosen_rows, chosen_same, keys_swept, regrouped_is, swept_first}
use Rattle.valid_table.proofs.path_table.sort_paths.keyed_rows.Goals as goal

pub push_late-requires-clause-keys : goal.push_late-requires-clause-keys
push_late-requires-clause-keys c =
    let registrations = registrations_of c.args.rows.now.entries in
    keys_swept
    (λ (k : ℕ × ℕ). (k.0 ≡ 0) ⊎ (IsKey (folder_of registrations) (path_at registrations k.1) k.0))
    (λ (k : ℕ × ℕ). list_any (nat_eq k.1) c.args.found.now.rows)
    _ _ _
    _ c.rows_to_sweep-ordered.ensures.either c.in_ok-keyed.ensures.items
    c.in_ok-push_found.ensures c.requires.keys

pub returns-clause-rows : goal.returns-clause-rows
returns-clause-rows c =
    let found = c.args.found.now.rows in
    let ordered = c.rows_to_sweep-ordered.result.now in
    chosen_rows _ _ _
    _
    (swept_first _ _ _ c.rows_to_sweep-ordered.ensures.either c.requires.first)
    c.requires.rows
    (regrouped_is found ordered _ _
    _ c.in_ok-keyed.ensures.items
    (after_added (λ row. list_any (nat_eq row) found) _ _
    _ c.in_ok-push_found.ensures)
    c.in_ok-push_late.ensures.rows)

pub returns-clause-same : goal.returns-clause-same
returns-clause-same c =
    let found = c.args.found.now.rows in
    let ordered = c.rows_to_sweep-ordered.result.now in
    chosen_same _ _ _ _
    (swept_first _ _ _ c.rows_to_sweep-ordered.ensures.either c.requires.first)
    (regrouped_is found ordered _ _
    _ c.in_ok-keyed.ensures.items
    (after_added (λ row. list_any (nat_eq row) found) _ _
    _ c.in_ok-push_found.ensures)
    c.in_ok-push_late.ensures.rows)
