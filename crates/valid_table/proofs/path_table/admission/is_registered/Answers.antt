use Rattle.std.proofs.Common.{rules}
use Rattle.std.proofs.lemmas.Fn.{always_returns_same}
use Rattle.valid_table.proofs.Searched.{compared, search_tells}
use Rattle.valid_table.proofs.path_table.admission.is_registered.Goals as goal

pub returns : goal.returns
returns c =
    let path = c.args.path.now in
    rw c.is_ok.ensures.value
    (search_tells _ _ _ c.requires
    c.binary_search_by-found.ensures.bound
    (c.binary_search_by-found.ensures.position (compared path)
    (always_returns_same _ _ _ (λ a r f k. (search rules, search rules)))))
