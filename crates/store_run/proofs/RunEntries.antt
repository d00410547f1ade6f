-- The entries of a legal history go on from those that it opened with.
use Rattle.std.proofs.Common.{◌∙◌, ℕ, List, [], ◌∷◌, ◌++◌, ap, append-nil, append_assoc, subst, sym}
use Rattle.valid_table.specs.PathInfos.{PathInfo}
use Rattle.valid_table.specs.declared.entry.Entry.{Entry}
use Rattle.build_outcome.specs.declared.reason.Reason.{Reason}
use Rattle.run_states.specs.Legal.{begins, legal_begin, legal_done, legal_fail, legal_opening}
use Rattle.run_states.specs.Runs.{Run}
use Rattle.run_states.specs.declared.state.Event.{Event}
use Rattle.run_states.specs.declared.state.Event.TheVariants.{Begin, Done as Finish, Fail}
use Rattle.sched_core.specs.Books.{IsDone}
use Rattle.store_run.specs.RunJournals.{AreDoneEntries, EntriesGoOn}

module _ (run : Run) where
  -- a Begin adds no entry
  after_begin : (before : List Entry) (events : List Event) (more : List Entry) (d lease : ℕ)
      → AreDoneEntries run before events more
      → AreDoneEntries run before (events ++ Begin d lease ∷ []) more
  after_begin before [] [] d lease are = tt
  after_begin before [] (entry ∷ more) d lease are = absurd are
  after_begin before (Finish e n ∷ events) [] d lease are = absurd are
  after_begin before (Finish e n ∷ events) (entry ∷ more) d lease are =
      (are.0, after_begin (before ++ entry ∷ []) events more d lease are.1)
  after_begin before (Begin e n ∷ events) more d lease are =
      after_begin before events more d lease are
  after_begin before (Fail e n why ∷ events) more d lease are =
      after_begin before events more d lease are

  -- nor does a Fail
  after_fail : (before : List Entry) (events : List Event) (more : List Entry) (d lease : ℕ)
      (reason : Reason) → AreDoneEntries run before events more
      → AreDoneEntries run before (events ++ Fail d lease reason ∷ []) more
  after_fail before [] [] d lease reason are = tt
  after_fail before [] (entry ∷ more) d lease reason are = absurd are
  after_fail before (Finish e n ∷ events) [] d lease reason are = absurd are
  after_fail before (Finish e n ∷ events) (entry ∷ more) d lease reason are =
      (are.0, after_fail (before ++ entry ∷ []) events more d lease reason are.1)
  after_fail before (Begin e n ∷ events) more d lease reason are =
      after_fail before events more d lease reason are
  after_fail before (Fail e n why ∷ events) more d lease reason are =
      after_fail before events more d lease reason are

  -- a Done adds its own
  after_done : (before : List Entry) (events : List Event) (more : List Entry) (d lease : ℕ)
      (infos : List PathInfo) (entry : Entry) → AreDoneEntries run before events more
      → IsDone run (before ++ more) d infos entry
      → AreDoneEntries run before (events ++ Finish d lease ∷ []) (more ++ entry ∷ [])
  after_done before [] [] d lease infos entry are done = (
    (infos, subst (λ (es : List Entry). IsDone run es d infos entry) (append-nil before) done),
    tt,
  )
  after_done before [] (other ∷ more) d lease infos entry are done = absurd are
  after_done before (Finish e n ∷ events) [] d lease infos entry are done = absurd are
  after_done before (Finish e n ∷ events) (other ∷ more) d lease infos entry are done = (
    are.0,
    after_done (before ++ other ∷ []) events more d lease infos entry are.1
        (subst (λ (es : List Entry). IsDone run es d infos entry)
        (sym (append_assoc before (other ∷ []) more)) done),
  )
  after_done before (Begin e n ∷ events) more d lease infos entry are done =
      after_done before events more d lease infos entry are done
  after_done before (Fail e n why ∷ events) more d lease infos entry are done =
      after_done before events more d lease infos entry are done

pub entries_go_on : EntriesGoOn
entries_go_on run _ (legal_opening entries journal) = ([], sym (append-nil entries), tt)
entries_go_on run _ (legal_begin history d legal within wanted ready) =
    let (more, goes_on, are) = entries_go_on run history legal in (
      more,
      goes_on,
      after_begin run history.opening history.events more d (begins history.events) are,
    )
entries_go_on run _
    (legal_done history d lease node infos entry legal phase is_node allowed is_entry) =
    let (more, goes_on, are) = entries_go_on run history legal in (
      more ++ entry ∷ [],
      ap (λ (es : List Entry). es ++ entry ∷ []) goes_on
          ∙ append_assoc history.opening more (entry ∷ []),
      after_done run history.opening history.events more d lease infos entry are
          (subst (λ (es : List Entry). IsDone run es d infos entry) goes_on (record {
            node = node;
            is_node = is_node;
            allowed = allowed;
            is_entry = is_entry;
          })),
    )
entries_go_on run _ (legal_fail history d lease reason legal phase) =
    let (more, goes_on, are) = entries_go_on run history legal in (
      more,
      goes_on,
      after_fail run history.opening history.events more d lease reason are,
    )
