use Rattle.std.proofs.Common.{All, take}
use Rattle.std.specs.List.{AllZip}
use Rattle.process_build.specs.Setups.{IsFilled, IsProcessText, text_bytes}
use Rattle.process_build.proofs.process.setup.args_of.Given as goal

-- the arguments so far are filled, and can be given to a process
abbrev pub invariant-loop-arg : goal.invariant-loop-arg
invariant-loop-arg l = record {
  filled : AllZip (λ arg filled. IsFilled l.placeholders.outputs.now arg.items (text_bytes filled))
      (take l.arg-index l.args) l.texts.items;
  given : All (λ t. IsProcessText (text_bytes t)) l.texts.items;
}
