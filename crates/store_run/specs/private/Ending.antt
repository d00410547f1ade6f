-- How a run ends whose workers have ended (this product's own).
use Rattle.std.specs.Prelude.{◌≡◌, ◌⊎◌, Option, Some, None, List, Result, Ok, Err}
use Rattle.drv_graph.specs.Plans.{Graph}
use Rattle.valid_table.specs.declared.entry.Entry.{Entry}
use Rattle.run_states.specs.StateTables.{IsRunSettled}
use Rattle.run_states.specs.Systems.{Platform}
use Rattle.sched_core.specs.Books.{Ledger}
use Rattle.run_states.specs.declared.fault.BookFault.{BookFault}
use Rattle.run_states.specs.declared.fault.BookFault.TheVariants.{NoMemory as RefusedMemory}
use Rattle.store_run.specs.Realising.{IsBookOver}
use Rattle.store_run.specs.private.Sharing.{Share}
use Rattle.store_run.specs.declared.fault.RunFault.{RunFault}
use Rattle.store_run.specs.declared.fault.RunFault.TheVariants.{ThreadFault, NoMemory, ForeignPlan}

-- A book is over this plan, system and entries, and isn't settled.
pub record IsUnfinished (plan : Graph) (system : Platform) (opening : List Entry) (book : Ledger)
    : Type 0 where
  pub over : IsBookOver plan system opening book
  pub unsettled : IsRunSettled book.run book.history → ⊥

-- the fault of a run whose book isn't settled: `NoMemory` where want of memory stopped the run, and
-- `ThreadFault` where something else or nothing did
abbrev pub fault_of_stop : Option BookFault → RunFault
fault_of_stop (Some RefusedMemory) = NoMemory
fault_of_stop other = ThreadFault

-- by which fault a run ends whose workers have ended, by what they shared: by `ForeignPlan` where
-- the book isn't over plan, system and entries, and else by what stopped the run, where it isn't
-- settled
abbrev pub IsRunEndFault : Graph → (system : Platform) → (opening : List Entry) → Share → RunFault
    → Type 0
IsRunEndFault plan system opening share fault =
    ((fault ≡ ForeignPlan) × (IsBookOver plan system opening share.book → ⊥))
    ⊎ ((fault ≡ fault_of_stop share.stop) × IsUnfinished plan system opening share.book)

-- How a run ends whose workers have ended, by what they shared. The book is given in any case. It
-- ends well where the book is over plan, system and entries, and settled.
abbrev pub IsRunEnd : Graph → (system : Platform) → (opening : List Entry) → Share
    → Result Ledger (RunFault × Ledger) → Type 0
IsRunEnd plan system opening share (Ok book) = (book ≡ share.book)
    × IsBookOver plan system opening book × IsRunSettled book.run book.history
IsRunEnd plan system opening share (Err e) =
    (e.1 ≡ share.book) × IsRunEndFault plan system opening share e.0

-- the book that a run hands out that ends by a fault: none where it isn't over plan, system and
-- entries
abbrev pub handed_out : RunFault → Ledger → Option Ledger
handed_out ForeignPlan book = None
handed_out fault book = Some book

-- what a run hands out, by how it ended
abbrev pub IsHandedOut : (ended : Result Ledger (RunFault × Ledger))
    → Result Ledger (RunFault × Option Ledger) → Type 0
IsHandedOut (Ok book) result = result ≡ Ok book
IsHandedOut (Err e) result = result ≡ Err (e.0, handed_out e.0 e.1)
