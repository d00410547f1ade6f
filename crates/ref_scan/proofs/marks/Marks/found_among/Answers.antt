use Rattle.std.proofs.Common.{◌≡◌, ◌∙◌, ◌+◌, ◌++◌, ◌∷◌, [], sym, subst, arith, get_or}
use Rattle.std.proofs.lemmas.Bool.{false≢true}
use Rattle.std.proofs.lemmas.List.{get_or_default}
use Rattle.nix_names.specs.Rising.{IsRising}
use Rattle.nix_names.specs.StorePaths.{hash_part_of}
use Rattle.nix_names.proofs.RisingLists.{rising_take}
use Rattle.ref_scan.specs.Scan.{OccursIn}
use Rattle.ref_scan.proofs.Findings.{found_one, found_no_more}
use Rattle.ref_scan.proofs.marks.Marks.found_among.Goals as goal
use Rattle.ref_scan.proofs.marks.Marks.found_among.Goals.{then-is_met+in_ok-copy+in_ok-push, else-is_met}
use Rattle.nix_names.proofs.Lists.{taken_more}

pub loop-number-preserved : goal.loop-number-preserved
loop-number-preserved c =
    let paths = c.args.paths.now in
    let i = c.loop-number.number in
    let path = c.index-paths-number.result in
    let lists = c.args.self.now.ended ++ c.args.self.now.present ∷ [] in
    let taken = taken_more paths i path (omega arith) c.index-paths-number.is in
    let rises = subst IsRising taken (rising_take paths (i + 1) c.requires.rising) in
    let here : get_or paths i [] ≡ path = get_or_default paths i [] path (omega arith)
    ∙ sym c.index-paths-number.is in
    elim c.if-is_met.branch [
      | then-is_met+in_ok-copy+in_ok-push w ↦
          rw (w.found-is, w.in_ok-push.ensures.items, w.in_ok-copy.ensures.same, taken)
          (found_one lists _ _ _ rises c.loop-number.invariant
          (subst (λ p. OccursIn (hash_part_of p) lists) here (c.is_met.ensures.0 w.if-is_met.true)))
      | else-is_met w ↦
          rw (w.found-is, taken)
          (found_no_more lists _ _ _ c.loop-number.invariant
          (λ occurs. false≢true (sym w.if-is_met.false
          ∙ c.is_met.ensures.1 (subst (λ p. OccursIn (hash_part_of p) lists) (sym here) occurs))))
    ]
