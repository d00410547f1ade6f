-- How a run ends, by how its book ends.
use Rattle.std.proofs.Common.{◌≡◌, ◌≤◌, inl, inr, IfErr, IfOk, ℕ, List, arith, false}
use Rattle.std.specs.Bool.{◌==◌}
use Rattle.std.proofs.lemmas.Bool.Decides.{nat_tests}
use Rattle.std.specs.Prelude.{IfSome, MatchResult, Option, Some, None, Result, Ok, Err}
use Rattle.drv_graph.specs.Plans.{Graph}
use Rattle.valid_table.specs.declared.entry.Entry.{Entry}
use Rattle.sched_core.specs.Books.{Ledger}
use Rattle.run_states.specs.Legal.{IsLegal}
use Rattle.run_states.specs.Systems.{Platform}
use Rattle.run_states.specs.declared.fault.BookFault.{BookFault}
use Rattle.run_states.specs.declared.fault.BookFault.TheVariants as book_fault
use Rattle.build_outcome.specs.declared.job.Answer.{Answer}
use Rattle.build_outcome.specs.declared.job.Job.{Job}
use Rattle.build_outcome.specs.declared.reason.Reason.{Reason}
use Rattle.store_run.specs.Builders.{IsAnswered}
use Rattle.store_run.specs.private.Ending.{IsHandedOut, IsRunEnd, IsRunEndFault, IsUnfinished, fault_of_stop, handed_out}
use Rattle.store_run.specs.Realising.{IsCutOff, IsLeft, IsBookOver, IsRealised, IsRunFault}
use Rattle.store_run.specs.private.Sharing.{Share}
use Rattle.store_run.specs.Workers.{AreWorkers}
use Rattle.store_run.specs.declared.fault.RunFault.{RunFault}
use Rattle.store_run.specs.declared.fault.RunFault.TheVariants as fault

-- ---- what the book shows that a run hands out

handed_shown : (fact : List Entry → Type 0) (fault : RunFault) (book : Ledger) → fact book.shown
    → IfSome (handed_out fault book) (λ (b : Ledger). fact b.shown)
handed_shown fact fault.ForeignPlan book holds = tt
handed_shown fact fault.NoWorkers book holds = holds
handed_shown fact fault.NoView book holds = holds
handed_shown fact fault.ThreadFault book holds = holds
handed_shown fact fault.NoMemory book holds = holds

-- what holds of the list that the workers' book shows
pub shown_at_end : (fact : List Entry → Type 0) (plan : Graph) (system : Platform)
    (opening : List Entry) (share : Share) (ended : Result Ledger (RunFault × Ledger))
    (result : Result Ledger (RunFault × Option Ledger)) → fact share.book.shown
    → IsRunEnd plan system opening share ended → IsHandedOut ended result
    → MatchResult result (λ (b : Ledger). fact b.shown)
    (λ (e : RunFault × Option Ledger). IfSome e.1 (λ (b : Ledger). fact b.shown))
shown_at_end fact plan system opening share (Ok book) result holds end out =
    rw out (rw end.0 holds)
shown_at_end fact plan system opening share (Err e) result holds end out =
    rw out (handed_shown fact e.0 e.1 (rw end.0 holds))

-- ---- how it ends

-- what is neither 0 nor more than 64
pub are_workers : (count : ℕ) → (count == 0) ≡ false → count ≤ 64 → AreWorkers count
are_workers count some few = (grind (arith, nat_tests), few)

module _ (may : Job → Result Answer Reason → Type 0) (plan : Graph) (system : Platform)
    (opening : List Entry) (count : ℕ) (workers : AreWorkers count) (share : Share)
    (legal : IsLegal share.book.run share.book.history)
    (answered : IsAnswered may share.book.run share.book.history) where
  left_over : (book : Ledger) → book ≡ share.book → IsBookOver plan system opening book
      → IsLeft may plan system opening book
  left_over book same over = record {
    over = over;
    legal = rw same legal;
    answered = rw same answered;
  }

  -- a run that ends well
  went_to_its_end : (book : Ledger) → IsRunEnd plan system opening share (Ok book)
      → IsRealised may plan system opening count book
  went_to_its_end book end = record {
    workers = workers;
    left = left_over book end.0 end.1;
    settled = end.2;
  }

  cut_off : (book : Ledger) → book ≡ share.book → IsUnfinished plan system opening share.book
      → IsCutOff may plan system opening count book
  cut_off book same unfinished = record {
    workers = workers;
    left = left_over book same (rw same unfinished.over);
    unsettled = rw same unfinished.unsettled;
  }

  -- a run that ends with a fault
  by_stop : (stop : Option BookFault) (book : Ledger)
      → IsCutOff may plan system opening count book
      → IsRunFault may plan system opening count (fault_of_stop stop)
      (handed_out (fault_of_stop stop) book)
  by_stop None book cut = cut
  by_stop (Some book_fault.NoMemory) book cut = cut
  by_stop (Some book_fault.NoView) book cut = cut
  by_stop (Some book_fault.ForeignLease) book cut = cut
  by_stop (Some book_fault.NotLawful) book cut = cut

  was_cut_off : (fault : RunFault) (book : Ledger) → book ≡ share.book
      → IsRunEndFault plan system opening share fault
      → IsRunFault may plan system opening count fault (handed_out fault book)
  was_cut_off fault book same (inl (is, foreign)) = rw is (
    share.book,
    record {
      workers = workers;
      legal = legal;
      answered = answered;
      foreign = foreign;
    },
  )
  was_cut_off fault book same (inr (is, unfinished)) =
      rw is (by_stop share.stop book (cut_off book same unfinished))

  pub at_ok : (ended : Result Ledger (RunFault × Ledger))
      (result : Result Ledger (RunFault × Option Ledger))
      → IsRunEnd plan system opening share ended → IsHandedOut ended result
      → IfOk result (IsRealised may plan system opening count)
  at_ok (Ok book) result end out = rw out (went_to_its_end book end)
  at_ok (Err e) result end out = rw out tt

  pub at_err : (ended : Result Ledger (RunFault × Ledger))
      (result : Result Ledger (RunFault × Option Ledger))
      → IsRunEnd plan system opening share ended → IsHandedOut ended result
      → IfErr result (λ e. IsRunFault may plan system opening count e.0 e.1)
  at_err (Ok book) result end out = rw out tt
  at_err (Err e) result end out = rw out (was_cut_off e.0 e.1 end.0 end.1)
