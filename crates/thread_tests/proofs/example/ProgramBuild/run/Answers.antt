use Rattle.std.proofs.Common.{◌≡◌, ◌∙◌, Bool, false, [], ◌∷◌, Some, inr, refl, ap, subst, rules}
use Rattle.std.specs.Prelude.{codes, pos}
use Rattle.std.specs.Global.{Vec}
use Rattle.nix_names.specs.Names.{same_bytes}
use Rattle.ref_scan.specs.declared.tree.Tree.{Dir}
use Rattle.ref_scan.specs.declared.tree.Member.{Member}
use Rattle.ref_scan.specs.private.Walk.{pieces_below}
use Rattle.ref_scan.proofs.Folders.{pieces_dir}
use Rattle.build_outcome.specs.declared.job.Answer.{Answer}
use Rattle.store_run.specs.ScheduleExample.{IsEmptyFolder, Leaves, owned}
use Rattle.thread_tests.proofs.example.ProgramBuild.run.Goals as goal

-- a folder of no members is empty
empty_dir : (members : Vec Member) → members.items ≡ [] → IsEmptyFolder (Dir members)
empty_dir members none = pieces_dir members ∙ ap pieces_below none

pub returns : goal.returns
returns c =
    let items : c.push.new.self.items ≡ Some (owned (Dir c.new-2.result)) ∷ [] = search rules in
    let other : false ≡ same_bytes c.args.job.now.builder.items (codes "/bin/false") =
    rw (c.as_slice.ensures.value, c.as_slice-2.ensures) at c.if-eq.ensures in
    let answer : Answer = record { status = Some (pos 0); outputs = c.push.new.self } in
    let leaves : Leaves false answer =
    (refl, (Dir c.new-2.result, empty_dir c.new-2.result c.new-2.ensures.items, items)) in
    record {
      outcome = inr (subst (λ (fails : Bool). Leaves fails answer) other leaves);
      unprepared = search rules;
    }
