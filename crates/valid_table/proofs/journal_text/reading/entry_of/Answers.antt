use Rattle.std.proofs.Common.{rules}
use Rattle.std.proofs.lemmas.Option.{MatchOption-at_none}
use Rattle.std.proofs.lemmas.Result.{err_from_is_err_and}
use Rattle.valid_table.proofs.EntryLines.{added_stops, no_entry}
use Rattle.valid_table.proofs.LineSteps.{stops_where}
use Rattle.valid_table.proofs.journal_text.reading.entry_of.Goals as goal

pub returns-in_err-added-clause-left : goal.returns-in_err-added-clause-left
returns-in_err-added-clause-left c = search (rules, err_from_is_err_and, stops_where, added_stops)

pub returns-in-None-clause-left : goal.returns-in-None-clause-left
returns-in-None-clause-left c = search (rules, no_entry, MatchOption-at_none)
