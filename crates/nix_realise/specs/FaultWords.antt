-- The words by which a line names a fault: its name, and its value in parentheses.
use Rattle.std.specs.Prelude.{codes, decimal}
use Rattle.nix_names.specs.Bytes.{Bytes}
use Rattle.nix_names.specs.declared.fault.NameFault.{NameFault}
use Rattle.nix_names.specs.declared.fault.NameFault.TheVariants as name
use Rattle.nix_drv.specs.Strings.{string_text}
use Rattle.nix_drv.specs.declared.fault.DrvFault.{DrvFault}
use Rattle.nix_drv.specs.declared.fault.DrvFault.TheVariants as drv
use Rattle.run_report.specs.Words.{with_value}
use Rattle.store_run.specs.declared.fault.RunFault.{RunFault}
use Rattle.store_run.specs.declared.fault.RunFault.TheVariants as run
use Rattle.valid_table.specs.declared.fault.TableFault.{TableFault}
use Rattle.valid_table.specs.declared.fault.TableFault.TheVariants as table

-- the words of a fault of a name; offsets are counted from 0
abbrev pub name_fault_words : NameFault → Bytes
name_fault_words name.BadLength = codes "BadLength"
name_fault_words (name.BadChar offset) = with_value (codes "BadChar") (decimal offset)
name_fault_words name.Overflow = codes "Overflow"
name_fault_words name.NotInStore = codes "NotInStore"
name_fault_words name.BadHashPart = codes "BadHashPart"
name_fault_words name.BadName = codes "BadName"
name_fault_words name.BadStoreDir = codes "BadStoreDir"
name_fault_words name.NoMemory = codes "NoMemory"

-- the words of a fault of a derivation; a text is spelled as in a derivation's own text
abbrev pub drv_fault_words : DrvFault → Bytes
drv_fault_words drv.NoMemory = codes "NoMemory"
drv_fault_words (drv.Syntax offset) = with_value (codes "Syntax") (decimal offset)
drv_fault_words (drv.Order offset) = with_value (codes "Order") (decimal offset)
drv_fault_words drv.TooLong = codes "TooLong"
drv_fault_words (drv.TextPathMismatch path) = with_value (codes "TextPathMismatch") path
drv_fault_words drv.NotADrvName = codes "NotADrvName"
drv_fault_words drv.NotSorted = codes "NotSorted"
drv_fault_words (drv.BadReference text) = with_value (codes "BadReference") (string_text text.items)

-- the words of a fault of a journal; lines are counted from 1
abbrev pub table_fault_words : TableFault → Bytes
table_fault_words table.NoMemory = codes "NoMemory"
table_fault_words (table.BadLine line) = with_value (codes "BadLine") (decimal line)
table_fault_words (table.NotClosed line) = with_value (codes "NotClosed") (decimal line)
table_fault_words (table.Twice line) = with_value (codes "Twice") (decimal line)
table_fault_words table.WrongVersion = codes "WrongVersion"
table_fault_words (table.NotValid path) = with_value (codes "NotValid") path
table_fault_words table.TooLong = codes "TooLong"
table_fault_words (table.Unclosed path) = with_value (codes "Unclosed") path
table_fault_words (table.AlreadyValid path) = with_value (codes "AlreadyValid") path

-- the words of a fault of a run
abbrev pub run_fault_words : RunFault → Bytes
run_fault_words run.NoWorkers = codes "NoWorkers"
run_fault_words run.NoView = codes "NoView"
run_fault_words run.ThreadFault = codes "ThreadFault"
run_fault_words run.NoMemory = codes "NoMemory"
run_fault_words run.ForeignPlan = codes "ForeignPlan"
