use Rattle.std.proofs.lemmas.List.{append_assoc}
use Rattle.run_report.proofs.Drawn.{names_listed}
use Rattle.run_report.proofs.forecast.edges.write_between.Goals as goal

pub returns-in-Some : goal.returns-in-Some
returns-in-Some c =
    rw (
      append_assoc,
      names_listed _ c.in-Some.first.now c.in-Some.others.now c.deref.result.now
          c.in-Some.ensures.cases.0 c.deref.ensures.value,
    ) at c.write_listed.ensures
