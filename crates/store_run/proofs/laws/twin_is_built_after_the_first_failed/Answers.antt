use Rattle.std.proofs.Common.{rules}
use Rattle.store_run.proofs.TwinExample.{beside_first, beside_second, first_failed, second_built, second_freed, second_waits, third_built, thread, whole}
use Rattle.store_run.proofs.TwinLoads.{loads}
use Rattle.store_run.proofs.TwinPlans.{are_twins, first_path, output_is, second_path}
use Rattle.store_run.proofs.laws.twin_is_built_after_the_first_failed.Goals as goal

pub returns-clause-loads : goal.returns-clause-loads
returns-clause-loads c = loads

pub returns-clause-first_path : goal.returns-clause-first_path
returns-clause-first_path c = first_path

pub returns-clause-second_path : goal.returns-clause-second_path
returns-clause-second_path c = second_path

pub returns-clause-output : goal.returns-clause-output
returns-clause-output c = search (rules, output_is)

pub returns-clause-twins : goal.returns-clause-twins
returns-clause-twins c = are_twins

pub returns-clause-waits : goal.returns-clause-waits
returns-clause-waits c = second_waits

pub returns-clause-freed : goal.returns-clause-freed
returns-clause-freed c = second_freed

pub returns-clause-whole : goal.returns-clause-whole
returns-clause-whole c = whole

pub returns-clause-beside_first : goal.returns-clause-beside_first
returns-clause-beside_first c = beside_first

pub returns-clause-beside_second : goal.returns-clause-beside_second
returns-clause-beside_second c = beside_second

pub returns-clause-failed : goal.returns-clause-failed
returns-clause-failed c = first_failed

pub returns-clause-built : goal.returns-clause-built
returns-clause-built c = second_built

pub returns-clause-third : goal.returns-clause-third
returns-clause-third c = third_built

pub returns-clause-in_turn : goal.returns-clause-in_turn
returns-clause-in_turn c = thread
