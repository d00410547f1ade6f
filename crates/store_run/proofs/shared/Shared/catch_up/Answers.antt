use Rattle.std.proofs.Common.{◌∙◌, List, ap, subst, sym}
use Rattle.std.specs.Option.{option_copied}
use Rattle.std.specs.Prelude.{OnOk}
use mathlib.Core.List.{IsPrefix}
use Rattle.valid_table.specs.declared.entry.Entry.{Entry}
use Rattle.valid_view.proofs.Prefixes.{prefix_trans}
use Rattle.store_run.specs.private.JobVerdicts.{HasCaughtUp}
use Rattle.store_run.specs.private.Sharing.{Share}
use Rattle.store_run.proofs.Permits.{journal_showable, none_first, stays_by_view, stays_without_seeds, where_ok}
use Rattle.store_run.proofs.shared.Shared.catch_up.Goals as goal

pub returns-in_default-clause-ok : goal.returns-in_default-clause-ok
returns-in_default-clause-ok g c = λ number lease showable valid.
    stays_without_seeds c.args.reader.now.seen c.args.self.now.book.history.entries c.args.job.now
    (sym c.deref.ensures.value
    ∙ none_first _
    (sym c.first.ensures.value ∙ ap option_copied c.in_default.is))

pub returns-clause-ok : goal.returns-clause-ok
returns-clause-ok g c =
    let book = c.self.inside.book in
    subst (λ (s : Share). OnOk c.look.result
    (HasCaughtUp c.args.reader.now.seen s.book c.args.job.now)) c.self.view_is
    (where_ok c.look.result c.look.ensures.known (λ known number lease showable valid.
    let told : IsPrefix book.shown c.learn.new.self.told =
    subst (λ (front : List Entry). IsPrefix front c.learn.new.self.told)
    (c.prefix.ensures book.shown c.tell.ensures.told) c.learn.ensures.told in
    stays_by_view _ _ _
    _ c.args.job.now
    (subst (λ (seen : List Entry). IsPrefix seen c.look.new.reader.seen) c.learn.ensures.seen
    c.look.ensures.later)
    (prefix_trans _ _ _ told known.0)
    (book.pending, c.tell.ensures.outlet) known.1
    (journal_showable _ c.tell.ensures.is_journal) valid
    (c.tell.ensures.seeds c.args.job.now number lease)))
