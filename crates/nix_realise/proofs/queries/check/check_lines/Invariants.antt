use Rattle.std.proofs.Common.{◌≡◌, ◌++◌, Bor, List, ℕ, map}
use Rattle.nix_drv.specs.Sources.{GivesSame}
use Rattle.nix_realise.specs.CheckLines.{IsCheckReport}
use Rattle.nix_realise.proofs.queries.check.check_lines.Given as goal

-- the lines so far are the report on the words so far
abbrev pub invariant-loop-group : goal.invariant-loop-group
invariant-loop-group g l = record {
  keeps : GivesSame (g.S.DrvSource.gives l.fn.source) (g.S.DrvSource.gives l.source);
  done : List (Bor (List ℕ));
  words_are : done ++ l.group-iterator.rest.now ≡ l.words;
  report : IsCheckReport (g.S.DrvSource.gives l.fn.source) l.dir (map (λ w. w.now) done)
      l.report.lines.items l.report.status;
}
