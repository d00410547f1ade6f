use Rattle.std.proofs.Common.{◌≡◌, map, take, string_bytes}
use Rattle.nix_realise.proofs.cli.process.texts.Given as goal

-- the arguments so far
abbrev pub invariant-loop-argument : goal.invariant-loop-argument
invariant-loop-argument l =
    map (λ w. w.now) l.words.items ≡ map string_bytes (take l.argument-index l.arguments)
