-- The status of a run of `realise`, by what became of its roots.
use Rattle.std.specs.Prelude.{if◌then◌else◌}
use Rattle.std.specs.List.{list_all}
use Rattle.run_states.specs.Runs.{History, Run as RunOver, state_in}
use Rattle.run_states.specs.States.{is_good}
use Rattle.nix_realise.specs.declared.cli.exit.Status.{Status}
use Rattle.nix_realise.specs.declared.cli.exit.Status.TheVariants.{Done, Unrealised}

-- the status: `Done` where each root was built or reused
abbrev pub roots_status : RunOver → History → Status
roots_status run history =
    if list_all (λ d. is_good (state_in run history d)) run.graph.roots
    then Done else Unrealised
