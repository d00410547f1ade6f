use Rattle.store_run.proofs.KeptTexts.{builds_over_look, of_some}
use Rattle.store_run.proofs.kept_text.KeptText.look.Goals as goal

pub returns-clause-seeds : goal.returns-clause-seeds
returns-clause-seeds g c =
    let book = c.args.book.now in
    of_some c.what_is_new.result c.what_is_new.ensures.is (λ looked is.
    builds_over_look book.run book.history book.shown c.prefix-shown.result looked.shown
    c.tell.ensures.seeds (c.prefix-shown.ensures book.shown c.tell.ensures.told) is)
