-- Closures among the records of a job's paths.
use Rattle.std.proofs.Common.{◌≡◌, ℕ, List, [], ◌∷◌, Result, Ok, Err, IfOk, All, Contains, sym, subst}
use Rattle.std.specs.Global.{Vec}
use Rattle.std.specs.declared.alloc.AllocError.{AllocError}
use Rattle.std.proofs.lemmas.List.Elements.{All-contains_itself, All-weaker}
use Rattle.valid_table.specs.Closure.{IsClosure, LeadsByReferences}
use Rattle.valid_table.specs.Entries.{paths_registered}
use Rattle.valid_table.specs.Valid.{IsValid}
use Rattle.valid_table.specs.declared.entry.Registration.{Registration}
use Rattle.builder_start.specs.Graphs.{AreClosureRecords}

-- ---- closures

valid_at_end : (rows : List Registration) (from to : List ℕ) (steps : List (List ℕ))
    → LeadsByReferences rows from to steps → IsValid rows to
valid_at_end rows from to [] leads = subst (IsValid rows) leads.1 leads.0
valid_at_end rows from to (next ∷ steps) leads = valid_at_end rows next to steps leads.1

-- each path of a closure is valid
pub closure_valid : (rows : List Registration) (roots all : List (List ℕ))
    → IsClosure rows roots all → All (IsValid rows) all
closure_valid rows roots all is =
    All-weaker (Contains all) (IsValid rows)
    (λ path has.
    let h = (is.each path).0 has in
    valid_at_end rows h.0 path h.2.0 h.2.1)
    all (All-contains_itself all)

-- records that are found for the paths of a closure are its records
pub records_answered : (rows known : List Registration) (roots paths : List (List ℕ))
    (result : Result (Vec Registration) AllocError)
    → IfOk result (λ found. paths_registered found.items ≡ paths)
    → IfOk result (λ found. All (Contains known) found.items) → known ≡ rows
    → IsClosure rows roots paths
    → IfOk result (λ found. AreClosureRecords rows roots found.items)
records_answered rows known roots paths (Ok found) is all same closure = record {
  closure = subst (IsClosure rows roots) (sym is) closure;
  known = subst (λ rs. All (Contains rs) found.items) same all;
}
records_answered rows known roots paths (Err error) is all same closure = tt
