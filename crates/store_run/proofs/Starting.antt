-- The records of the closure of paths, and what is prepared by them.
use Rattle.std.proofs.Common.{◌≡◌, ◌⊎◌, ◌∷◌, [], ℕ, List, Result, Ok, Err, All, ⊎_elim, arith, subst, sym}
use Rattle.std.specs.Prelude.{Contains, IfErr, IfOk, flat_map}
use Rattle.std.proofs.lemmas.List.Elements.{All-contains, Contains-append_left, Contains-append_right}
use Rattle.nix_names.proofs.Lists.{All-from_contains, Contains-cons_cases, Contains-map}
use Rattle.valid_table.specs.Valid.{AreReferencesValid, IsValid, RefersTo, Registers, references_of}
use Rattle.valid_table.specs.declared.entry.Registration.{Registration}
use Rattle.valid_table.proofs.Reaching.{reached_more}
use Rattle.valid_view.specs.Answers.{AreRecords}
use Rattle.run_states.proofs.Dones.{part_with}
use Rattle.build_outcome.specs.declared.job.Job.{Job}
use Rattle.build_outcome.specs.declared.preparation.Prepared.{Prepared}
use Rattle.build_outcome.specs.declared.reason.Reason.{Reason}
use Rattle.build_outcome.specs.declared.reason.Reason.TheVariants.{OutOfMemory}
use Rattle.builder_start.specs.Preparing.{IsPrepared, IsUnprepared}
use Rattle.store_run.specs.Starts.{IsPreparing}

-- ---- the records of a closure

with_part : {A B : Type 0} (f : A → List B) (xs : List A) (x : A) (y : B) → Contains xs x
    → Contains (f x) y → Contains (flat_map f xs) y
with_part f [] x y has one = absurd (omega (arith, has.1))
with_part f (z ∷ zs) x y has one =
    ⊎_elim
    (λ same. Contains-append_left (f z) (flat_map f zs) y
    (subst (λ w. Contains (f w) y) (sym same) one))
    (λ later. Contains-append_right (f z) (flat_map f zs) y (with_part f zs x y later one))
    (Contains-cons_cases z zs x has)

-- each reference in the records of a closure is the path of one of them
pub records_closed : (registrations : List Registration) (roots : List (List ℕ))
    (rows : List Registration) → AreReferencesValid registrations
    → AreRecords registrations roots rows → AreReferencesValid rows
records_closed registrations roots rows closed are =
    let references = λ (r : Registration). r.info.references in
    All-from_contains (IsValid rows) (references_of rows)
    (λ next has.
    let from = part_with references rows next has in
    let row = from.0 in
    let known : Registers registrations row.path row.info =
    All-contains (λ (r : Registration). Registers registrations r.path r.info) rows row are.known
    from.1 in
    let refers : RefersTo registrations row.path next = (row.info, known, from.2) in
    let valid : IsValid registrations next =
    All-contains (IsValid registrations) (references_of registrations) next closed
    (with_part references registrations (record { path = row.path; info = row.info }) next known
    from.2) in
    let reached = (are.closure.each row.path).0
    (Contains-map (λ (r : Registration). r.path) rows row from.1) in
    (are.closure.each next).1
    (reached_more registrations roots row.path next reached refers valid))

-- ---- what is prepared

pub preparing : (rows : List Registration) (job : Job) (start : Result Prepared Reason)
    → IfOk start (IsPrepared rows job)
    → IfErr start (λ reason. (reason ≡ OutOfMemory) ⊎ IsUnprepared rows job reason)
    → IsPreparing rows job start
preparing rows job (Ok prepared) is refused = is
preparing rows job (Err reason) is refused = refused
