-- What a reader of a view knows, and what it is answered.
use Rattle.std.specs.Prelude.{◌≡◌, ◌⊎◌, ◌<◌, List, All, length, map, Result, Ok, Err}
use Rattle.std.specs.Global.{Vec}
use Rattle.nix_names.specs.Bytes.{Path}
use Rattle.nix_names.specs.Firsts.{IsFirst}
use Rattle.valid_table.specs.Closure.{IsClosure}
use Rattle.valid_table.specs.PathInfos.{PathInfo}
use Rattle.valid_table.specs.Valid.{IsNotValid, IsValid, Registers}
use Rattle.valid_table.specs.declared.entry.Entry.{Entry}
use Rattle.valid_table.specs.declared.entry.Registration.{Registration}
use Rattle.valid_view.specs.declared.fault.ViewFault.{ViewFault}
use Rattle.valid_view.specs.declared.fault.ViewFault.TheVariants.{NoMemory, NotValid, NoView}
use Rattle.valid_view.specs.declared.seen.Seen.{Seen}
use Rattle.valid_view.specs.declared.seen.Seen.TheVariants.{Absent, Valid}

-- The list that a reader saw shown when it last looked, and the longest that it was told of.
pub record Knowing : Type 0 where
  pub seen : List Entry
  pub told : List Entry

-- a fact holds where the view was reached: each answer but `NoView` is by the list that was seen
abbrev pub WhereSeen : {A : Type 0} → Result A ViewFault → Type 0 → Type 0
WhereSeen (Err (NoView why)) fact = Unit {0}
WhereSeen answer fact = fact

-- a fact holds where the view was not reached
abbrev pub IfGone : {A : Type 0} → Result A ViewFault → Type 0 → Type 0
IfGone (Err (NoView why)) fact = fact
IfGone answer fact = Unit {0}

-- Why a reader can't reach the view: nothing new was seen, since the writer is gone; or the list
-- that was seen has fewer entries than the one that the reader was told of.
abbrev pub IsUnreached : (seen told now : List Entry) → Type 0
IsUnreached seen told now = (now ≡ seen) ⊎ (length now < length told)

-- what is answered where one path is asked for: *Valid*
abbrev pub IsLook : List Registration → Path → Result Seen ViewFault → Type 0
IsLook registrations path (Ok Absent) = IsNotValid registrations path
IsLook registrations path (Ok (Valid digest)) =
    (info : PathInfo) × Registers registrations path info × (digest ≡ info.digest)
IsLook registrations path (Err (NoView why)) = Unit {0}
IsLook registrations path (Err other) = ⊥

-- what is answered where the closure of some roots is asked for: *Closure*
abbrev pub IsViewClosing : List Registration → (roots : List Path) → Result (Vec Path) ViewFault
    → Type 0
IsViewClosing registrations roots (Ok all) = All (IsValid registrations) roots
    × IsClosure registrations roots all.items
IsViewClosing registrations roots (Err (NotValid path)) =
    IsFirst (IsValid registrations) (IsNotValid registrations) roots path
IsViewClosing registrations roots (Err NoMemory) = Unit {0}
IsViewClosing registrations roots (Err (NoView why)) = Unit {0}

-- These are the records of the closure of some roots, in rising order of their paths.
pub record AreRecords (registrations : List Registration) (roots : List Path)
    (rows : List Registration) : Type 0 where
  pub closure : IsClosure registrations roots (map (λ (r : Registration). r.path) rows)
  pub known : All (λ (r : Registration). Registers registrations r.path r.info) rows

-- what is answered where the records of the closure of some roots are asked for
abbrev pub IsViewRecords : List Registration → (roots : List Path)
    → Result (Vec Registration) ViewFault → Type 0
IsViewRecords registrations roots (Ok rows) = All (IsValid registrations) roots
    × AreRecords registrations roots rows.items
IsViewRecords registrations roots (Err (NotValid path)) =
    IsFirst (IsValid registrations) (IsNotValid registrations) roots path
IsViewRecords registrations roots (Err NoMemory) = Unit {0}
IsViewRecords registrations roots (Err (NoView why)) = Unit {0}
