use Rattle.std.proofs.Common.{◌≡◌, ◌⊎◌, arith, inl, inr, Bool, ℕ, length, refl, subst, sym}
use Rattle.nix_archive.specs.Tokens.{FileBegun, FileEnded, FolderBegun, FolderEnded, LinkTo, tokens}
use Rattle.nix_archive.specs.declared.event.Event.{Event}
use Rattle.nix_archive.specs.declared.event.Event.TheVariants.{BeginFolder, EndFolder, BeginFile, EndFile}
use Rattle.ref_scan.proofs.Countings.{Measures, counted_begin, counted_end, counted_level, measure_bytes, measure_one}
use Rattle.ref_scan.proofs.hearers.tree_counts.TreeCountsHear.hear.Goals as goal

pub returns-in-BeginEntry : goal.returns-in-BeginEntry
returns-in-BeginEntry c =
    rw c.in-BeginEntry.is (λ earlier are.
    counted_begin c.args.self.now _ earlier _ are c.saturating_add-self.ensures refl
    c.saturating_add-self-in-BeginEntry.ensures c.max-self.ensures)

pub returns-in-EndEntry : goal.returns-in-EndEntry
returns-in-EndEntry c =
    rw c.in-EndEntry.is (λ earlier are.
    counted_end c.args.self.now _ earlier are refl refl c.saturating_sub-self.ensures refl)

-- an event counts nothing
plain : (event : Event) → (event ≡ BeginFolder) ⊎ ((event ≡ EndFolder)
    ⊎ (((executable : Bool) × (size : ℕ) × (event ≡ BeginFile executable size))
    ⊎ ((size : ℕ) × (event ≡ EndFile size)))) → Measures (tokens event) 0 0 0
plain event (inl is) =
    subst (λ (e : Event). Measures (tokens e) 0 0 0) (sym is) (measure_one FolderBegun (λ l. refl))
plain event (inr (inl is)) =
    subst (λ (e : Event). Measures (tokens e) 0 0 0) (sym is) (measure_one FolderEnded (λ l. refl))
plain event (inr (inr (inl (executable, size, is)))) =
    subst (λ (e : Event). Measures (tokens e) 0 0 0) (sym is)
    (measure_one (FileBegun executable size) (λ l. refl))
plain event (inr (inr (inr (size, is)))) =
    subst (λ (e : Event). Measures (tokens e) 0 0 0) (sym is)
    (measure_one (FileEnded size) (λ l. refl))

pub returns-in-BeginFolder : goal.returns-in-BeginFolder
returns-in-BeginFolder c = λ earlier are.
    counted_level c.args.self.now _ earlier (tokens c.args.event) 0
    (plain c.args.event c.in-BeginFolder.is) are refl
    (omega (arith, are.bytes)) refl refl

pub returns-in-Piece : goal.returns-in-Piece
returns-in-Piece c =
    let bytes = c.in-Piece.bytes.now in
    rw c.in-Piece.is (λ earlier are.
    counted_level c.args.self.now _ earlier _ (length bytes) (measure_bytes bytes) are refl
    c.saturating_add-self-in-Piece.ensures refl refl)

pub returns-in-Link : goal.returns-in-Link
returns-in-Link c =
    let target = c.in-Link.target.now in
    rw c.in-Link.is (λ earlier are.
    counted_level c.args.self.now _ earlier _ (length target)
    (measure_one (LinkTo target) (λ l. refl)) are refl
    c.saturating_add-self-in-Link.ensures refl refl)
