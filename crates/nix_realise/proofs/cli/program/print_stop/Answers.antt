use Rattle.std.proofs.Common.{◌∙◌, subst}
use Rattle.std.specs.Io.KnownBytes.{Appends}
use Rattle.nix_realise.proofs.cli.program.print_stop.Goals as goal

pub returns-in-Err : goal.returns-in-Err
returns-in-Err g c = c.print_no_line.ensures c.args.stop.now

pub returns-in-Ok-print_bytes : goal.returns-in-Ok-print_bytes
returns-in-Ok-print_bytes g c = (
  c.row.ensures.status,
  subst (Appends (g.E.Write.contents c.args.err.now) (g.E.Write.contents c.print_bytes.new.to))
      (c.deref.ensures.value ∙ c.in-Ok.ensures) c.in-Ok-print_bytes.ensures,
)
