use Rattle.std.proofs.Common.{◌∙◌, refl, subst}
use Rattle.std.specs.Io.KnownBytes.{Appends}
use Rattle.nix_realise.proofs.queries.faults.print_faults.Goals as goal

pub returns-in-Ok : goal.returns-in-Ok
returns-in-Ok g c = (
  refl,
  (
    c.in_ok-table.table,
    subst (Appends (g.O.Write.contents c.args.out.now) (g.O.Write.contents c.print_bytes.new.to))
        (c.as_bytes.ensures.value ∙ c.text.ensures) c.in-Ok.ensures,
  ),
)
