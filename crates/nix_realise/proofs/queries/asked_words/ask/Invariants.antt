use Rattle.std.proofs.Common.{◌≡◌, All, map, take}
use Rattle.nix_drv.specs.Sources.{GivesSame}
use Rattle.nix_realise.specs.private.CheckGroups.{IsFound}
use Rattle.nix_realise.proofs.queries.asked_words.ask.Given as goal

abbrev pub invariant-loop-word : goal.invariant-loop-word
invariant-loop-word g l = record {
  keeps : GivesSame (g.S.DrvSource.gives l.fn.source) (g.S.DrvSource.gives l.source);
  words_are : map (λ a. a.word.now) l.asked.items ≡ map (λ w. w.now) (take l.word-index l.words);
  each : All (λ a. IsFound (g.S.DrvSource.gives l.fn.source) l.dir a.word.now a.found)
      l.asked.items;
}
