use Rattle.run_report.specs.Forecasts.{foretold}
use Rattle.run_report.specs.Listing.{numbers_of}
use Rattle.run_report.proofs.Drawn.{drawn}
use Rattle.run_report.proofs.forecast.picture.picture_of.Goals as goal

pub returns : goal.returns
returns c =
    let forecast = c.args.forecast.now in
    record {
      wanted = numbers_of c.in_ok-listed.listed.items;
      by_path = rw c.plan.ensures at c.in_ok-listed.ensures.by_path;
      is_text = drawn forecast.run.graph (foretold forecast.run forecast.entries)
          c.in_ok-roots.roots.items c.in_ok-listed.listed.items c.new-text.result.items
          c.write_picture.new.out.items (rw c.plan-2.ensures at c.in_ok-roots.ensures)
          c.new-text.ensures.items
          (rw (c.deref.ensures.value, c.deref-2.ensures.value) at c.in_ok-write_picture.ensures);
    }
