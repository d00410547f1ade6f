use Rattle.std.proofs.Common.{◌∙◌, subst, sym, List, ℕ}
use Rattle.nix_realise.specs.LastLines.{IsLastText}
use Rattle.nix_realise.proofs.WriteErrors.{short_text}
use Rattle.nix_realise.proofs.runs.realise.Realisation.write_and_report.Goals as goal

pub returns-in-Ok : goal.returns-in-Ok
returns-in-Ok g c =
    let printed = rw c.deref-2.ensures.value at c.in-Ok.ensures in
    let fits = rw c.deref.ensures.value at c.in_ok-written.ensures.fits in
    let kept = c.take_kept-kept.result in
    let lines = subst (λ (text : List ℕ). IsLastText c.args.self.now.request.now
    c.args.book.now.run c.args.book.now.history kept text)
    (sym c.with.ensures.lines) c.in_ok-lines.ensures in (
      (c.in_ok-report.report.items, c.in_ok-report.ensures, printed),
      c.with.ensures.status ∙ c.roots_status.ensures,
      (kept, c.take_kept-kept.ensures, lines),
      short_text c.in_ok-bytes.bytes.items _ fits c.in_ok-bytes.ensures,
    )
