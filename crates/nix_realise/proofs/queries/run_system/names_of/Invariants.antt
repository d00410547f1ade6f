use Rattle.std.proofs.Common.{◌≡◌, map, take}
use Rattle.nix_drv.specs.Parts.{bytes_of}
use Rattle.command_line.specs.declared.options.Builtin.{Builtin}
use Rattle.nix_realise.proofs.queries.run_system.names_of.Given as goal

-- the names so far
abbrev pub invariant-loop-builtin : goal.invariant-loop-builtin
invariant-loop-builtin l =
    map bytes_of l.names.items
    ≡ map (λ (b : Builtin). b.name.now) (take l.builtin-index l.builtins)
