-- What the line of progress shows of the calls that it heard (this product's own, `FORMATS.md`).
use Rattle.std.specs.Prelude.{◌≡◌, ℕ, ◌+◌, ◌-◌, ◌^◌, ◌≤◌, Bool, true, false, not, min, List, [], ◌∷◌, ◌++◌, All, Contains, IfOk, Option, Some, None, Result, Ok, Err, codes, count_by, decimal, map, suc, take, zero, ◌/◌}
use Rattle.std.specs.declared.alloc.AllocError.{AllocError}
use Rattle.std.specs.Borrow.{Bor}
use Rattle.std.specs.Global.{Vec}
use Rattle.std.specs.List.Sorted.{IsPermutation}
use Rattle.nix_names.specs.Bytes.{Bytes}
use Rattle.process_build.specs.Leases.{drv_name}
use Rattle.process_build.specs.declared.observe.counts.JobCounts.{JobCounts}
use Rattle.process_build.specs.declared.observe.counts.Numbers.{Numbers}
use Rattle.process_build.specs.declared.process.lease.RunningLease.{RunningLease}
use Rattle.process_build.specs.declared.observe.line.LineContent.{LineContent}
use Rattle.process_build.specs.declared.observe.shown_numbers.ShownNumbers.{ShownNumbers}

-- a call that the line hears: a job began, or a job ended, well or not; with the number of
-- derivations that were unsettled then
pub data Heard : Type 0 where
  Began : (unsettled : ℕ) → Heard
  Ended : (is_good : Bool) → (unsettled : ℕ) → Heard

-- a job began
abbrev pub begins : Heard → Bool
begins (Began unsettled) = true
begins (Ended is_good unsettled) = false

-- a job ended
abbrev pub ends : Heard → Bool
ends (Began unsettled) = false
ends (Ended is_good unsettled) = true

-- a job ended well
abbrev pub ends_well : Heard → Bool
ends_well (Began unsettled) = false
ends_well (Ended is_good unsettled) = is_good

-- a job ended, and not well
abbrev pub ends_badly : Heard → Bool
ends_badly (Began unsettled) = false
ends_badly (Ended is_good unsettled) = not is_good

-- the number of derivations that were unsettled at a call
abbrev pub unsettled_at : Heard → ℕ
unsettled_at (Began unsettled) = unsettled
unsettled_at (Ended is_good unsettled) = unsettled

-- the greatest number of a 64-bit count, at which a count stops
abbrev pub most : ℕ
most = 2 ^ 64 - 1

-- how many of the calls have a property; the count stops at `most`
abbrev pub count_of : (Heard → Bool) → List Heard → ℕ
count_of is_such calls = min (count_by is_such calls) most

-- the number is the greatest of these
abbrev pub IsGreatest : List ℕ → ℕ → Type 0
IsGreatest numbers n = Contains numbers n × All (λ m. m ≤ n) numbers

-- the number is the least of these
abbrev pub IsLeast : List ℕ → ℕ → Type 0
IsLeast numbers n = Contains numbers n × All (λ m. n ≤ m) numbers

-- the number is the greatest count of unsettled derivations in a call, or 0 without a call
abbrev pub IsAllOf : List Heard → ℕ → Type 0
IsAllOf calls n = IsGreatest (0 ∷ map unsettled_at calls) n

-- the number is the least count of unsettled derivations in a call, or `most` without a call
abbrev pub IsUnsettledOf : List Heard → ℕ → Type 0
IsUnsettledOf calls n = IsLeast (most ∷ map unsettled_at calls) n

-- These are the counts of the calls.
pub record AreCountsOf (calls : List Heard) (counts : JobCounts) : Type 0 where
  pub begun : counts.begun ≡ count_of begins calls
  pub built : counts.built ≡ count_of ends_well calls
  pub failed : counts.failed ≡ count_of ends_badly calls
  pub all : IsAllOf calls counts.all
  pub unsettled : IsUnsettledOf calls counts.unsettled

-- The numbers of these calls. Running are the jobs that began, less those that ended. Waiting are
-- the unsettled derivations, less the running jobs. A difference is never below 0.
pub record AreNumbersOf (calls : List Heard) (numbers : Numbers) : Type 0 where
  pub running : numbers.running ≡ count_of begins calls - count_by ends calls
  pub built : numbers.built ≡ count_of ends_well calls
  pub failed : numbers.failed ≡ count_of ends_badly calls
  pub waiting : (unsettled : ℕ) × IsUnsettledOf calls unsettled
      × (numbers.waiting ≡ unsettled - numbers.running)
  pub all : IsAllOf calls numbers.all

-- what was shown last is the numbers of these calls; before any call nothing was shown
abbrev pub IsShownLast : List Heard → Option ShownNumbers → Type 0
IsShownLast calls None = calls ≡ []
IsShownLast calls (Some last) = AreNumbersOf calls last.numbers

-- these are the counts of some calls, and what was shown last is their numbers
abbrev pub IsHeardAndShown : JobCounts → Option ShownNumbers → Type 0
IsHeardAndShown counts last =
    (calls : List Heard) × AreCountsOf calls counts × IsShownLast calls last

-- the bytes that erase the line
abbrev pub no_line : Bytes
no_line = 13 ∷ 27 ∷ codes "[K"

-- the numbers in words
unfoldable pub number_words : Numbers → Bytes
number_words numbers =
    codes "nix_realise: " ++ decimal numbers.running ++ codes " running, " ++ decimal numbers.built
    ++ codes " built, " ++ decimal numbers.failed ++ codes " failed, " ++ decimal numbers.waiting
    ++ codes " waiting, of " ++ decimal numbers.all

-- for how many whole seconds a lease has run at this time, in microseconds, and the name of its
-- derivation
unfoldable pub named_by : (at : ℕ) → RunningLease → Bytes
named_by at running =
    codes ", " ++ decimal ((at - running.start) / 1_000_000) ++ codes " s in "
    ++ drv_name running.path

-- what is said of the lease that runs longest, if one is known
abbrev pub longest_words : (at : ℕ) → Option (Bor RunningLease) → Bytes
longest_words at (Some running) = named_by at running.now
longest_words at None = []

-- the words of a line
unfoldable pub words_of : LineContent → Bytes
words_of line = number_words line.numbers ++ longest_words line.at line.longest

-- the beginning of some words that fits into so many columns; all of them where the columns are not
-- known
abbrev pub cut_to_columns : (columns : Option ℕ) → (words : Bytes) → Bytes
cut_to_columns (Some columns) words = take columns words
cut_to_columns None words = words

-- A line: it erases the line before it, and has the words that fit. A terminal that is narrower than
-- is known cuts it at its last column.
abbrev pub line_of : LineContent → Bytes
line_of line =
    no_line ++ (27 ∷ codes "[?7l") ++ cut_to_columns line.columns (words_of line)
    ++ (27 ∷ codes "[?7h")

-- what is written while `running` jobs run: the line; or the bytes that erase it, where no job runs
-- or there was no memory for a line
abbrev pub shown_text : (running : ℕ) → Result (Vec ℕ) AllocError → Bytes
shown_text zero line = no_line
shown_text (suc running) (Ok line) = line.items
shown_text (suc running) (Err error) = no_line

-- the text is what is written for this line
abbrev pub IsShown : LineContent → (text : Bytes) → Type 0
IsShown line text =
    (made : Result (Vec ℕ) AllocError) × IfOk made (λ m. m.items ≡ line_of line)
    × (text ≡ shown_text line.numbers.running made)

-- the running, built and failed jobs add up to the jobs that began
abbrev pub NumbersAddUp : Type 0
NumbersAddUp =
    (calls : List Heard) (numbers : Numbers) → AreNumbersOf calls numbers
    → count_by begins calls ≤ most → count_by ends calls ≤ count_by begins calls
    → numbers.running + numbers.built + numbers.failed ≡ count_by begins calls

-- the number of all derivations never falls when more calls are heard
abbrev pub AllNeverFalls : Type 0
AllNeverFalls =
    (calls more : List Heard) (before after : JobCounts) → AreCountsOf calls before
    → AreCountsOf (calls ++ more) after → before.all ≤ after.all

-- the number of unsettled derivations never rises when more calls are heard
abbrev pub UnsettledNeverRises : Type 0
UnsettledNeverRises =
    (calls more : List Heard) (before after : JobCounts) → AreCountsOf calls before
    → AreCountsOf (calls ++ more) after → after.unsettled ≤ before.unsettled

-- the order of the calls doesn't change the counts
abbrev pub OrderIsNoMatter : Type 0
OrderIsNoMatter =
    (calls others : List Heard) (left right : JobCounts) → IsPermutation calls others
    → AreCountsOf calls left → AreCountsOf others right → left ≡ right
