-- *Realise*: how a run ends (this product's own).
use Rattle.std.specs.Prelude.{◌≡◌, ℕ, Option, Some, None, List, Result}
use Rattle.drv_graph.specs.Plans.{Graph}
use Rattle.valid_table.specs.declared.entry.Entry.{Entry}
use Rattle.valid_view.specs.declared.refusal.OpenFault.{OpenFault}
use Rattle.valid_view.specs.declared.refusal.OpenFault.TheVariants as refused
use Rattle.run_states.specs.StateTables.{IsRunSettled}
use Rattle.run_states.specs.Systems.{Platform}
use Rattle.sched_core.specs.Books.{Ledger}
use Rattle.run_states.specs.Legal.{IsLegal}
use Rattle.build_outcome.specs.declared.job.Answer.{Answer}
use Rattle.build_outcome.specs.declared.job.Job.{Job}
use Rattle.build_outcome.specs.declared.reason.Reason.{Reason}
use Rattle.store_run.specs.Builders.{IsAnswered}
use Rattle.store_run.specs.Workers.{AreWorkers}
use Rattle.store_run.specs.declared.fault.RunFault.{RunFault}
use Rattle.store_run.specs.declared.fault.RunFault.TheVariants.{NoWorkers, NoView, ThreadFault, NoMemory, ForeignPlan}

-- A book is over a plan, for a system, and opened with these entries.
pub record IsBookOver (plan : Graph) (system : Platform) (opening : List Entry) (book : Ledger)
    : Type 0 where
  pub plan_is : book.run.graph ≡ plan
  pub system_is : book.run.system ≡ system
  pub opening_is : book.history.opening ≡ opening

-- What a run leaves behind: a book over this plan, system and entries. Its history is legal,
-- and what became of each derivation is a verdict on what a builder may give.
pub record IsLeft (may : Job → Result Answer Reason → Type 0) (plan : Graph) (system : Platform)
    (opening : List Entry) (book : Ledger)
    : Type 0 where
  pub over : IsBookOver plan system opening book
  pub legal : IsLegal book.run book.history
  pub answered : IsAnswered may book.run book.history

-- What a run by `count` workers leaves behind at its end: every wanted derivation is settled.
pub record IsRealised (may : Job → Result Answer Reason → Type 0) (plan : Graph) (system : Platform)
    (opening : List Entry) (count : ℕ) (book : Ledger)
    : Type 0 where
  pub workers : AreWorkers count
  pub left : IsLeft may plan system opening book
  pub settled : IsRunSettled book.run book.history

-- What a run by `count` workers leaves behind that ended early: its book isn't settled.
pub record IsCutOff (may : Job → Result Answer Reason → Type 0) (plan : Graph) (system : Platform)
    (opening : List Entry) (count : ℕ) (book : Ledger)
    : Type 0 where
  pub workers : AreWorkers count
  pub left : IsLeft may plan system opening book
  pub unsettled : IsRunSettled book.run book.history → ⊥

-- the fault of a run whose view can't be opened
abbrev pub fault_of_opening : OpenFault → RunFault
fault_of_opening refused.NoMemory = NoMemory
fault_of_opening (refused.NoView why) = NoView

-- What a run by `count` workers leaves behind whose book is not over this plan, system and
-- entries.
pub record IsForeign (may : Job → Result Answer Reason → Type 0) (plan : Graph) (system : Platform)
    (opening : List Entry) (count : ℕ) (book : Ledger)
    : Type 0 where
  pub workers : AreWorkers count
  pub legal : IsLegal book.run book.history
  pub answered : IsAnswered may book.run book.history
  pub foreign : IsBookOver plan system opening book → ⊥

-- Why a run by `count` workers gives no settled book, and which book it leaves behind. By
-- `ForeignPlan` it gives none: the one that the workers left isn't over plan, system and entries.
abbrev pub IsRunFault : (may : Job → Result Answer Reason → Type 0) → Graph → (system : Platform)
    → (opening : List Entry) → (count : ℕ) → RunFault → Option Ledger → Type 0
IsRunFault may plan system opening count NoWorkers None = AreWorkers count → ⊥
IsRunFault may plan system opening count NoWorkers (Some book) = ⊥
IsRunFault may plan system opening count NoView None = AreWorkers count
IsRunFault may plan system opening count NoView (Some book) = ⊥
IsRunFault may plan system opening count ThreadFault None = ⊥
IsRunFault may plan system opening count ThreadFault (Some book) =
    IsCutOff may plan system opening count book
IsRunFault may plan system opening count NoMemory None = AreWorkers count
IsRunFault may plan system opening count NoMemory (Some book) =
    IsCutOff may plan system opening count book
IsRunFault may plan system opening count ForeignPlan None =
    (book : Ledger) × IsForeign may plan system opening count book
IsRunFault may plan system opening count ForeignPlan (Some book) = ⊥
