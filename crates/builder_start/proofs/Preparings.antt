-- Why nothing can be prepared.
use Rattle.std.proofs.Common.{◌≡◌, ◌⊎◌, ℕ, List, None, Some, inl, inr, subst, sym, ⊎_elim}
use Rattle.valid_table.specs.declared.entry.Registration.{Registration}
use Rattle.build_outcome.specs.declared.job.Job.{Job}
use Rattle.build_outcome.specs.declared.reason.Reason.{Reason}
use Rattle.build_outcome.specs.declared.reason.Reason.TheVariants.{BadGraph, OutOfMemory}
use Rattle.build_outcome.specs.Attributes.{json_of}
use Rattle.builder_start.specs.Asked.{graphs_of, tokens_or_none}
use Rattle.builder_start.specs.Entries.{AskForBadGraphs}
use Rattle.builder_start.specs.Preparing.{IsUnprepared}
use Rattle.builder_start.specs.private.Shown.{IsUntold, IsWhy}

pub no_texts : (rows : List Registration) (job : Job) (text : List ℕ) (reason : Reason)
    → json_of job ≡ Some text → IsUntold rows job text reason
    → (reason ≡ OutOfMemory) ⊎ IsUnprepared rows job reason
no_texts rows job text reason is untold =
    ⊎_elim
    (λ why. ⊎_elim (λ none. inl none)
    (λ bad. inr (subst (IsUnprepared rows job) (sym bad.0) (text, is, bad.1))) why)
    (λ other.
    ⊎_elim
    (λ why. ⊎_elim (λ none. inl none)
    (λ bad. inr (subst (IsUnprepared rows job) (sym bad.0) (inr (text, is, other.0, bad.1)))) why)
    (λ nar. inr (subst (IsUnprepared rows job) (sym nar.1) (text, is, other.0, nar.2, nar.3)))
    other.1)
    untold

pub no_files : (rows : List Registration) (job : Job) (reason : Reason) → json_of job ≡ None
    → IsWhy BadGraph (AskForBadGraphs rows job.whole_inputs.items (tokens_or_none (graphs_of job))) reason
    → (reason ≡ OutOfMemory) ⊎ IsUnprepared rows job reason
no_files rows job reason is why =
    ⊎_elim (λ none. inl none)
    (λ bad. inr (subst (IsUnprepared rows job) (sym bad.0) (inl (is, bad.1)))) why
