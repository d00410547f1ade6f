use Rattle.std.proofs.Common.{◌≡◌, ◌∙◌, Bool, if◌then◌else◌, refl, subst, sym}
use Rattle.valid_table.specs.Entries.{registered}
use Rattle.valid_table.specs.Valid.{IsValid}
use Rattle.nix_realise.proofs.VerifiedLines.{lines_more, lines_nil}
use Rattle.nix_realise.specs.Verifying.{is_bad}
use Rattle.nix_realise.specs.declared.cli.exit.Status.TheVariants.{Unrealised}
use Rattle.nix_realise.proofs.verification.verify.verify_all.Goals as goal
use Rattle.nix_realise.proofs.verification.verify.verify_all.Goals.{then-is_bad, else-is_bad}

pub verify_one-requires : goal.verify_one-requires
verify_one-requires g c =
    subst (IsValid (registered c.args.journal.now.entries)) (sym c.path-item.is)
    (c.requires c.loop-path.path-index c.path-item.result c.loop-path-test.true)

pub loop-path-init : goal.loop-path-init
loop-path-init g c = rw c.new-lines.ensures.items (lines_nil c.args.journal.now)

pub loop-path-preserved : goal.loop-path-preserved
loop-path-preserved g c =
    let bad : Bool = is_bad c.in_ok-found.found in
    let ends : c.if-is_bad.status ≡ (if bad then Unrealised else c.loop-path.status) =
    elim c.if-is_bad.branch [
      | then-is_bad w ↦ w.status-is ∙ rw (← w.if-is_bad.ensures) refl
      | else-is_bad w ↦ w.status-is ∙ rw (← w.if-is_bad.ensures) refl
    ] in
    lines_more c.args.journal.now c.args.paths.now c.loop-path.path-index c.path-item.result
    c.loop-path.lines.items c.loop-path.status c.in_ok-found.found _ c.if-is_bad.status
    c.loop-path-test.true c.path-item.is c.loop-path.invariant c.in_ok-found.ensures.ok
    c.in_ok-write_line.ensures ends
