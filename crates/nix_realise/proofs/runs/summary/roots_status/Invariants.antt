use Rattle.std.proofs.Common.{◌≡◌, drop}
use Rattle.std.specs.List.{list_all}
use Rattle.run_states.specs.Runs.{state_in}
use Rattle.run_states.specs.States.{is_good}
use Rattle.nix_realise.proofs.runs.summary.roots_status.Given as goal

-- whether all roots were realised, by those that are left
abbrev pub invariant-roots : goal.invariant-roots
invariant-roots g l =
    list_all (λ d. is_good (state_in l.book.run l.book.history d))
    (drop l.root-index l.book.run.graph.roots)
    ≡ list_all (λ d. is_good (state_in l.book.run l.book.history d)) l.book.run.graph.roots
