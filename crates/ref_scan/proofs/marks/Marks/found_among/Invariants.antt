use Rattle.std.proofs.Common.{[], ◌∷◌, ◌++◌, take}
use Rattle.ref_scan.specs.Scan.{IsFoundIn}
use Rattle.ref_scan.proofs.marks.Marks.found_among.Given as goal

abbrev pub invariant-loop-number : goal.invariant-loop-number
invariant-loop-number l = IsFoundIn (l.self.ended ++ l.self.present ∷ []) (take l.number l.paths)
    l.found.items
