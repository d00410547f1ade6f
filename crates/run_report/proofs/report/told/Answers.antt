use Rattle.std.proofs.Common.{refl}
use Rattle.std.specs.List.{flat_map}
use Rattle.run_report.specs.Listing.{numbers_of}
use Rattle.run_report.specs.Reports.{outputs_at, told_at}
use Rattle.run_report.proofs.Listings.{lines_made}
use Rattle.run_report.proofs.report.told.Goals as goal

pub returns : goal.returns
returns g c =
    let graph = g.S.States.graph c.args.states.now in
    let named = g.S.States.names c.args.states.now in
    let state = g.S.States.states c.args.states.now in
    let listed = c.in_ok-listed.listed.items in
    record {
      wanted = numbers_of listed;
      by_path = rw c.plan.ensures at c.in_ok-listed.ensures.by_path;
      named = named;
      are_named = λ d is. refl;
      is_text = lines_made (told_at c.args.tense graph.nodes named state)
          (flat_map (outputs_at graph.nodes state) graph.roots) listed c.new-text.result.items
          c.write_lines.new.out.items c.write_roots.new.out.items c.new-text.ensures.items
          (rw c.deref.ensures.value at c.in_ok-write_lines.ensures) c.in_ok-write_roots.ensures;
    }
