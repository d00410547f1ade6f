use Rattle.store_run.proofs.GraphExample.{asks_for_records, seeds_alone, starts_alone, starts_with_left}
use Rattle.store_run.proofs.laws.start_may_ask_for_a_graph.Goals as goal

pub returns-clause-seeds : goal.returns-clause-seeds
returns-clause-seeds c = seeds_alone

pub returns-clause-asks : goal.returns-clause-asks
returns-clause-asks c = asks_for_records

pub returns-clause-start : goal.returns-clause-start
returns-clause-start c = λ job start asks. starts_alone job asks start

pub returns-clause-longer : goal.returns-clause-longer
returns-clause-longer c = λ job start asks. starts_with_left job asks start
