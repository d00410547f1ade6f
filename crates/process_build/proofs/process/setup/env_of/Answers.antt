use Rattle.std.proofs.Common.{◌≡◌, ◌⊎◌, ◌<◌, ◌+◌, ℕ, List, All, get_or, inl, inr, length, map, subst}
use Rattle.std.proofs.Common.{sym, take}
use Rattle.std.specs.List.{AllZip}
use Rattle.std.proofs.lemmas.List.Elements.{All-push}
use Rattle.std.proofs.lemmas.Result.{err_from_is_err_and}
use Rattle.nix_drv.specs.Derivation.{EnvEntry}
use Rattle.build_outcome.specs.declared.job.JobOutput.{JobOutput}
use Rattle.build_outcome.specs.declared.reason.Reason.{Reason}
use Rattle.build_outcome.specs.declared.reason.Reason.TheVariants.{NoStart, OutOfMemory}
use Rattle.process_build.specs.Setups.{HasNoEntry, IsFilledEntry, IsProcessEntry, entry_of_var}
use Rattle.process_build.specs.private.RawVars.{entry_of_raw}
use Rattle.process_build.specs.declared.process.entries.RawVar.{RawVar}
use Rattle.process_build.proofs.Mapped.{contains_mapped}
use Rattle.process_build.proofs.Zips.{zip_mapped}
use Rattle.process_build.proofs.process.setup.env_of.Goals as goal

-- an entry that an environment can't have is one of all
one_of_all : (outputs : List JobOutput) (all : List RawVar) (i : ℕ) (e : RawVar) (reason : Reason)
    → i < length all → e ≡ get_or all i e
    → (reason ≡ OutOfMemory) ⊎ ((reason ≡ NoStart) × (filled : EnvEntry)
    × IsFilledEntry outputs (entry_of_raw e) filled × (¬ (IsProcessEntry filled)))
    → (reason ≡ OutOfMemory) ⊎ ((reason ≡ NoStart) × HasNoEntry outputs (map entry_of_raw all))
one_of_all outputs all i e reason low is (inl short) = inl short
one_of_all outputs all i e reason low is (inr refused) = inr (
  refused.0,
  (entry_of_raw e, refused.1, contains_mapped entry_of_raw all i e low is, refused.2, refused.3),
)

pub returns-in_err-filled_var-clause-refused : goal.returns-in_err-filled_var-clause-refused
returns-in_err-filled_var-clause-refused c =
    let e = err_from_is_err_and c.from_residual.result
    c.from_residual.ensures.1 in
    rw (e.1, e.2)
    (one_of_all c.args.placeholders.now.outputs.now c.args.entries.now c.loop-entry.entry-index
    c.entry-item.result c.in_err-filled_var.field-0.0 c.loop-entry-test.true c.entry-item.is
    c.in_err-filled_var.ensures.refused)

pub loop-entry-preserved : goal.loop-entry-preserved
loop-entry-preserved c =
    let outputs = c.args.placeholders.now.outputs.now in
    let held = c.loop-entry.invariant in
    record {
      filled =
          subst (AllZip (λ e filled. IsFilledEntry outputs e (entry_of_var filled))
          (map entry_of_raw (take (c.loop-entry.entry-index + 1) c.args.entries.now)))
          (sym c.in_ok-push.ensures.items)
          (zip_mapped (λ e filled. IsFilledEntry outputs e (entry_of_var filled)) entry_of_raw
          c.args.entries.now c.loop-entry.env.items c.loop-entry.entry-index c.entry-item.result _
          c.loop-entry-test.true c.entry-item.is held.filled c.in_ok-filled_var.ensures.filled);
      given =
          subst (All (λ var. IsProcessEntry (entry_of_var var))) (sym c.in_ok-push.ensures.items)
          (All-push (λ var. IsProcessEntry (entry_of_var var)) c.loop-entry.env.items _ held.given
          c.in_ok-filled_var.ensures.given);
    }
