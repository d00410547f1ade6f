use Rattle.std.proofs.Common.{◌≡◌, ◌∙◌, ◌<◌, length, rules, subst, sym}
use Rattle.std.specs.Prelude.{All}
use Rattle.valid_table.specs.Entries.{registered}
use Rattle.valid_table.specs.Valid.{IsValid}
use Rattle.nix_realise.specs.Verifying.{words_of}
use Rattle.nix_realise.proofs.AskedPaths.{all_asked, named_asked, no_items}
use Rattle.nix_realise.proofs.verification.asked_paths.asked_paths.Goals as goal

pub returns-then-is_empty-clause-ok : goal.returns-then-is_empty-clause-ok
returns-then-is_empty-clause-ok c =
    let none : length c.args.named.items ≡ 0 = search rules in
    (all_asked (words_of c.args.request.now) c.args.journal.now c.in_ok-valid_paths.field-0.items
    c.sort_paths.result.items (sym c.requires ∙ no_items c.args.named.items none)
    c.in_ok-valid_paths.ensures c.sort_paths.ensures.rising c.sort_paths.ensures.same).0

pub returns-then-is_empty-clause-valid : goal.returns-then-is_empty-clause-valid
returns-then-is_empty-clause-valid c =
    let none : length c.args.named.items ≡ 0 = search rules in
    (all_asked (words_of c.args.request.now) c.args.journal.now c.in_ok-valid_paths.field-0.items
    c.sort_paths.result.items (sym c.requires ∙ no_items c.args.named.items none)
    c.in_ok-valid_paths.ensures c.sort_paths.ensures.rising c.sort_paths.ensures.same).1

pub returns-clause-ok : goal.returns-clause-ok
returns-clause-ok c =
    let some : 0 < length c.args.named.items = search rules in
    let valid : All (IsValid (registered c.args.journal.now.entries)) c.args.named.items =
    subst (All (IsValid (registered c.args.journal.now.entries))) c.deref-2.ensures.value
    c.in_default.ensures in
    let asked =
    named_asked c.args.named.items c.args.journal.now c.sort_paths-2.result.items some valid
    c.sort_paths-2.ensures.rising c.sort_paths-2.ensures.same in
    rw (← c.requires) asked.0

pub returns-clause-valid : goal.returns-clause-valid
returns-clause-valid c =
    let some : 0 < length c.args.named.items = search rules in
    let valid : All (IsValid (registered c.args.journal.now.entries)) c.args.named.items =
    subst (All (IsValid (registered c.args.journal.now.entries))) c.deref-2.ensures.value
    c.in_default.ensures in
    (named_asked c.args.named.items c.args.journal.now c.sort_paths-2.result.items some valid
    c.sort_paths-2.ensures.rising c.sort_paths-2.ensures.same).1
