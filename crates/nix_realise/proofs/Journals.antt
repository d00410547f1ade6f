-- What ends a run whose journal file gave no journal.
use Rattle.std.proofs.Common.{◌≡◌, ℕ, List, Ok, Err}
use Rattle.valid_table.specs.Reading.{IsJournalReading}
use Rattle.valid_table.specs.declared.fault.TableFault.{TableFault}
use Rattle.valid_table.specs.declared.fault.TableFault.TheVariants as table
use Rattle.nix_realise.specs.AddedText.{IsJournalOf}
use Rattle.nix_realise.specs.Files.{FileBytes}
use Rattle.nix_realise.specs.RunErrors.{stop_of}

pub journal_refused : (dir : List ℕ) (gave : FileBytes) (bytes : List ℕ) (fault : TableFault)
    → gave ≡ Ok bytes → IsJournalReading dir bytes (Err fault)
    → IsJournalOf dir gave (Err (stop_of fault))
journal_refused dir gave bytes table.NoMemory is reading = tt
journal_refused dir gave bytes fault is reading = ((λ same. cc), (bytes, is, reading))
