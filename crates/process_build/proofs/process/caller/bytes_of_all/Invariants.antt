use Rattle.std.proofs.Common.{◌≡◌, map, take}
use Rattle.std.specs.Prelude.{string_bytes}
use Rattle.process_build.proofs.process.caller.bytes_of_all.Given as goal

-- the bytes of the texts so far
abbrev pub invariant-loop-text : goal.invariant-loop-text
invariant-loop-text l =
    map (λ t. t.now) l.all.items ≡ map string_bytes (take l.text-index l.texts)
