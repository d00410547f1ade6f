use Rattle.std.proofs.Common.{All, List, inl, inr, refl, subst, sym, ℕ}
use Rattle.std.proofs.lemmas.Bool.{false≢true}
use Rattle.valid_table.specs.Entries.{registered}
use Rattle.valid_table.specs.Valid.{IsValid}
use Rattle.valid_table.proofs.JournalLists.{closed_references_valid}
use Rattle.valid_view.specs.Answers.{AreRecords}
use Rattle.store_run.proofs.Starting.{preparing, records_closed}
use Rattle.store_run.proofs.start.start.Goals as goal

pub records-requires : goal.records-requires
records-requires g c =
    inl (subst (All (IsValid (registered c.args.reader.now.told))) (sym c.deref.ensures.value)
    c.requires)

pub prepare-requires-clause-rising : goal.prepare-requires-clause-rising
prepare-requires-clause-rising g c = c.in_ok-rows.ensures.records.closure.rising

pub prepare-requires-clause-closed : goal.prepare-requires-clause-closed
prepare-requires-clause-closed g c =
    records_closed (registered c.records.new.reader.seen) c.deref.result.now
    c.in_ok-rows.rows.items
    (closed_references_valid c.records.new.reader.seen c.in_ok-rows.ensures.showable.closed)
    c.in_ok-rows.ensures.records

pub returns-clause-start : goal.returns-clause-start
returns-clause-start g c =
    let seen = c.records.new.reader.seen in
    let rows = c.in_ok-rows.rows.items in
    inr (
      c.asks_for_records.ensures.0 c.if-not-asks_for_records.false,
      record {
        rows = rows;
        are_rows = subst (λ (roots : List (List ℕ)). AreRecords (registered seen) roots rows)
            c.deref.ensures.value c.in_ok-rows.ensures.records;
        is = preparing rows c.args.job.now c.prepare.result c.prepare.ensures.ok
            c.prepare.ensures.refused;
      },
    )
