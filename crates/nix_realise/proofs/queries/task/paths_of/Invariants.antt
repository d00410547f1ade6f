use Rattle.std.proofs.Common.{◌≡◌, map, take}
use Rattle.nix_realise.specs.Tasks.{ArePaths}
use Rattle.nix_realise.proofs.queries.task.paths_of.Given as goal

-- the words so far are the paths so far
abbrev pub invariant-loop-word : goal.invariant-loop-word
invariant-loop-word l = record {
  same : l.paths.items ≡ map (λ w. w.now) (take l.word-index l.words);
  paths : ArePaths l.dir (map (λ w. w.now) (take l.word-index l.words));
}
