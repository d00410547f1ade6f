use Rattle.process_build.proofs.walk.entry_names.names_in.Goals as goal

pub returns-clause-all : goal.returns-clause-all
returns-clause-all g c = record {
  read = c.in_ok-names.names.items;
  are_read = c.in_ok-names.ensures.all;
  is_ended = c.in_ok-names.ensures.ended;
  same = c.last_first.ensures.same;
}
