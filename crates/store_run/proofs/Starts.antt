-- What is prepared for a job by lists that go on from one list.
use Rattle.std.proofs.Common.{List, ◌⊎◌, inl, inr, ⊎_elim}
use Rattle.valid_table.specs.declared.entry.Entry.{Entry}
use Rattle.valid_view.proofs.SharedRecords.{records_are_shared}
use Rattle.store_run.specs.Starts.{IsPreparedBy, SetupIsShared}

-- the law
pub setup_is_shared : SetupIsShared
setup_is_shared common a b job start of_a of_b in_a in_b valid = ⊎_elim inl
    (λ asked. inr (
      asked.0,
      record {
        rows = asked.1.rows;
        are_rows = records_are_shared common a b job.seeds.items asked.1.rows of_a of_b in_a in_b
            valid asked.1.are_rows;
        is = asked.1.is;
      },
    ))
