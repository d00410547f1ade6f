-- *Any schedule*: a whole run and one thread over the same opening are alike.
use Rattle.std.proofs.Common.{◌≡◌, ◌∙◌, ℕ, length, List, Result, sym, subst, ⊎_elim, rules}
use Rattle.drv_graph.specs.SoundGraphs.{IsSound}
use Rattle.valid_table.specs.Valid.{IsJournal}
use Rattle.valid_table.specs.declared.entry.Entry.{Entry}
use Rattle.valid_table.proofs.JournalLists.{closed_references_valid}
use Rattle.run_states.specs.Legal.{IsLegal}
use Rattle.run_report.specs.Reports.{IsReportIn}
use Rattle.run_states.specs.Runs.{History, IsWanted, Run, state_in}
use Rattle.run_states.specs.States.{Broken, Idle, phase_of}
use Rattle.build_outcome.specs.declared.job.Answer.{Answer}
use Rattle.build_outcome.specs.declared.job.Job.{Job}
use Rattle.build_outcome.specs.declared.reason.Reason.{Reason}
use Rattle.build_outcome.specs.declared.reason.Reason.TheVariants.{OutOfMemory}
use Rattle.run_states.specs.declared.state.State.{State}
use Rattle.run_states.specs.declared.state.State.TheVariants.{Failed}
use Rattle.run_report.proofs.NamedPaths.{names_in, one_report_in}
use Rattle.run_report.proofs.RunReports.{told_moved}
use Rattle.run_states.proofs.Registering.{entries_are_journal}
use Rattle.run_states.proofs.Seeds.{opened_with}
use Rattle.store_run.specs.OneThread.{HadTurns}
use Rattle.store_run.specs.Scheduling.{AlikeReportTheSame, AreAlike, AnySchedule, HasOneOutcome, IsWholeRun, OneReport, RealisedIsEnded, RealisedIsWhole, SameReports, WholeRunsAreAlike}
use Rattle.store_run.proofs.Alike.{IsAccounted, are_alike}
use Rattle.store_run.proofs.AlikeNames.{names_alike}
use Rattle.store_run.proofs.Telling.{begun_is, broke_is, drv_paths, from_is, made_is}
use Rattle.store_run.proofs.ToldRuns.{IsTold, told_begin, told_done, told_fail, told_from, told_opening}
use Rattle.store_run.proofs.Turns.{turned_is, turned_settled}
use Rattle.store_run.proofs.Unhindered.{state_by}

module _ (excused : Reason → Type 0) (may : Job → Result Answer Reason → Type 0) (run : Run) where
  pub opening_journal : (history : History) → IsTold excused may run history
      → IsJournal history.opening
  opening_journal _ (told_opening entries journal) = journal
  opening_journal _ (told_begin history d told legal can) = opening_journal _ told
  opening_journal _ (told_done history d lease node infos entry told legal phase at came is_entry) =
      opening_journal _ told
  opening_journal _ (told_fail history d lease reason told legal phase why) = opening_journal _ told

  -- a told history in which nothing is excused
  accounted : IsSound run.graph → (history : History) → IsTold excused may run history
      → IsLegal run history
      → ((d : ℕ) (why : Reason) → phase_of history.events d ≡ Broken why → excused why → ⊥)
      → IsAccounted may run history
  accounted sound history told legal none =
      let opens = opened_with _ _ legal in
      record {
        begun = begun_is excused may _ sound _ told;
        made = made_is excused may _ sound _ told;
        broke = λ d why at. ⊎_elim (λ excuse. absurd (none d why at excuse)) (λ came. came)
            (broke_is excused may _ sound _ told d _ at);
        more = opens.0;
        parts = opens.1;
        closed = closed_references_valid _ (opening_journal _ told).closed;
        once = (entries_are_journal run history (drv_paths excused may run sound) legal).once;
        from = from_is excused may _ _ told;
      }

module _ (may : Job → Result Answer Reason → Type 0) (run : Run) (history : History)
    (whole : IsWholeRun may run history) where
  pub run_told : IsTold (λ reason. reason ≡ OutOfMemory) may run history
  run_told = search (rules, told_from)

  -- no derivation failed for want of memory
  none_excused : (d : ℕ) (why : Reason) → phase_of history.events d ≡ Broken why
      → why ≡ OutOfMemory → ⊥
  none_excused d why at is =
      let was = begun_is (λ reason. reason ≡ OutOfMemory) may _ whole.end.plan _ run_told d
      (λ idle. let clash : Broken why ≡ Idle = sym at ∙ idle in cc) in
      whole.end.memory d was.within was.wanted
      (subst (λ (r : Reason). state_in run history d ≡ Failed r) is
      (state_by _ history whole.end.plan d _ at))

  pub run_accounted : IsAccounted may run history
  run_accounted = search (rules, accounted, run_told, none_excused)

pub whole_runs_are_alike : (may : Job → Result Answer Reason → Type 0) → WholeRunsAreAlike may
whole_runs_are_alike may run history other whole whole' opening =
    search (rules, are_alike, run_accounted)

pub realised_is_ended : (may : Job → Result Answer Reason → Type 0) → RealisedIsEnded may
realised_is_ended may plan system opening count book sound realised memory = search rules

pub realised_is_whole : (may : Job → Result Answer Reason → Type 0) → RealisedIsWhole may
realised_is_whole may plan system opening count book sound outcome realised memory = record {
  end = realised_is_ended may plan system opening count book sound realised memory;
  outcome = subst (HasOneOutcome may) (sym realised.left.over.plan_is) outcome;
}

-- the first turns of one thread
pub turns_accounted : (may : Job → Result Answer Reason → Type 0) (run : Run)
    (sound : IsSound run.graph) (opening : List Entry) (count : ℕ) (other : History)
    → HadTurns may run opening count other → IsAccounted may run other
turns_accounted may run sound opening count other had =
    let turned = turned_is may _ sound _ _ _ had in
    accounted (λ reason. ⊥) _ run sound other turned.told turned.legal (λ d why at none. none)

pub any_schedule : (may : Job → Result Answer Reason → Type 0) → AnySchedule may
any_schedule may run history other whole one =
    let turned = turned_is may _ whole.end.plan _ _ _
    one in
    are_alike may run whole.end.plan whole.outcome _ _
    (run_accounted may run history whole)
    (turns_accounted may run whole.end.plan history.opening (length run.graph.nodes) other one)
    whole.end.settled (turned_settled may run whole.end.plan history.opening other one)
    turned.opening_is

-- the report follows from the states and the records
pub alike_report_the_same : AlikeReportTheSame
alike_report_the_same run history other alike opening text =
    (moved history other alike opening, moved other history back (sym opening))
  where
    back : AreAlike run other history
    back = record {
      states = λ d. sym (alike.states d);
      records = λ path info. ((alike.records path info).1, (alike.records path info).0);
    }

    moved : (one two : History) → AreAlike run one two → two.opening ≡ one.opening
        → IsReportIn run one text → IsReportIn run two text
    moved one two alike same =
        told_moved _ run.graph (IsWanted run one.opening) (IsWanted run two.opening)
        (names_in run one) (names_in run two) (state_in run one) (state_in run two) text
        (λ d. (
          subst (λ (opens : List Entry). IsWanted run opens d) (sym same),
          subst (λ (opens : List Entry). IsWanted run opens d) same,
        ))
        (λ d named wanted is. names_alike run one two alike.records d (alike.states d) named is)
        alike.states

-- so there is one
pub one_report_of : (may : Job → Result Answer Reason → Type 0) → OneReport may
one_report_of may run history other a b whole one of_a of_b =
    let alike = any_schedule may run history other whole one in
    let turned = turned_is may _ whole.end.plan _ _ _
    one in
    one_report_in run history a b of_a
    ((alike_report_the_same run history other alike turned.opening_is b).1 of_b)

pub same_reports : (may : Job → Result Answer Reason → Type 0) → SameReports may
same_reports may run history other whole one =
    search (rules, alike_report_the_same, any_schedule, turned_is)
