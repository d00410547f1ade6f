-- Legal histories in which each event tells what it follows from.
use Rattle.std.proofs.Common.{◌≡◌, ◌⊎◌, ℕ, List, [], ◌∷◌, ◌++◌, Result, Ok, Err, Some, refl, ap, subst, rules}
use Rattle.std.specs.Prelude.{slice_get}
use Rattle.std.proofs.lemmas.List.{same_from_push}
use Rattle.drv_graph.specs.Nodes.{Node}
use Rattle.valid_table.specs.PathInfos.{PathInfo}
use Rattle.valid_table.specs.Valid.{IsJournal}
use Rattle.valid_table.specs.declared.entry.Entry.{Entry}
use Rattle.run_states.specs.StateTables.{CanBegin}
use Rattle.run_states.specs.Runs.{opened}
use Rattle.run_states.specs.Legal.{IsEntryOf, IsLegal, legal_opening, legal_begin, legal_done, legal_fail, begun, ended, failed}
use Rattle.run_states.specs.Runs.{History, Run}
use Rattle.run_states.specs.States.{Begun, phase_of}
use Rattle.build_outcome.specs.declared.job.Answer.{Answer}
use Rattle.build_outcome.specs.declared.job.Job.{Job}
use Rattle.build_outcome.specs.declared.reason.Reason.{Reason}
use Rattle.build_outcome.specs.declared.reason.Reason.TheVariants.{OutOfMemory}
use Rattle.store_run.specs.Builders.{IsAnswered, IsVerdictAfter, answered_begin, answered_done, answered_fail, answered_opening}

-- A legal history, each event of which tells what it follows from. A Fail may be excused.
pub data IsTold (excused : Reason → Type 0) (may : Job → Result Answer Reason → Type 0) (run : Run)
    : History → Type 0 where
  told_opening : (entries : List Entry) → IsJournal entries
      → IsTold excused may run (opened entries)
  told_begin : (history : History) (d : ℕ) → IsTold excused may run history → IsLegal run history
      → CanBegin run history d → IsTold excused may run (begun history d)
  told_done : (history : History) (d lease : ℕ) (node : Node) (infos : List PathInfo)
      (entry : Entry) → IsTold excused may run history → IsLegal run history
      → phase_of history.events d ≡ Begun lease → slice_get run.graph.nodes d ≡ Some node
      → IsVerdictAfter may run history.entries d (Ok infos) → IsEntryOf node infos entry
      → IsTold excused may run (ended history d lease entry)
  told_fail : (history : History) (d lease : ℕ) (reason : Reason) → IsTold excused may run history
      → IsLegal run history → phase_of history.events d ≡ Begun lease
      → excused reason ⊎ IsVerdictAfter may run history.entries d (Err reason)
      → IsTold excused may run (failed history d lease reason)

-- ---- answered histories

no_push : {X : Type 0} (xs : List X) (x : X) → [] ≡ xs ++ x ∷ [] → ⊥
no_push [] x e = cc
no_push (y ∷ xs) x e = cc

same_history : (a b : History) → a.opening ≡ b.opening → a.entries ≡ b.entries
    → a.events ≡ b.events → a ≡ b
same_history a b opening entries events = search rules

module _ (may : Job → Result Answer Reason → Type 0) (run : Run) where
  -- what is answered after a Begin was so before it
  pub answered_before_begin : (g : History) → IsAnswered may run g → (history : History) (d : ℕ)
      → g ≡ begun history d → IsAnswered may run history
  answered_before_begin _ (answered_opening entries) history d is = search (rules, no_push)
  answered_before_begin _ (answered_begin before e answered) history d is =
      search (rules, same_from_push, same_history, before)
  answered_before_begin _ (answered_done before e lease node infos entry answered at came is_entry)
      history d is = search (rules, same_from_push)
  answered_before_begin _ (answered_fail before e lease reason answered why) history d is =
      search (rules, same_from_push)

  -- what an answered Done tells
  pub record WasDone (history : History) (d : ℕ) (entry : Entry) : Type 0 where
    pub before : IsAnswered may run history
    pub node : Node
    pub infos : List PathInfo
    pub is_node : slice_get run.graph.nodes d ≡ Some node
    pub came : IsVerdictAfter may run history.entries d (Ok infos)
    pub is_entry : IsEntryOf node infos entry

  pub answered_by_done : (g : History) → IsAnswered may run g
      → (history : History) (d lease : ℕ) (entry : Entry)
      → g ≡ ended history d lease entry → WasDone history d entry
  answered_by_done _ (answered_opening entries) history d lease entry is = search (rules, no_push)
  answered_by_done _ (answered_begin before e answered) history d lease entry is =
      search (rules, same_from_push)
  answered_by_done _ (answered_done before e number node infos own answered at came is_entry)
      history d lease entry is =
      let events = same_from_push _ _ _
      _ (ap (λ (h : History). h.events) is) in
      let entries = same_from_push _ _ _ _
      (ap (λ (h : History). h.entries) is) in
      let same = same_history _ _ (ap (λ (h : History). h.opening) is) entries.0 events.0
      in
      let last = events.1 in
      let number_is : e ≡ d = cc in
      record {
        before = subst (IsAnswered may run) same answered;
        node = node;
        infos = infos;
        is_node = subst (λ n. slice_get run.graph.nodes n ≡ Some node) number_is at;
        came = subst (λ n. IsVerdictAfter may run history.entries n (Ok infos)) number_is
            (subst (λ (h : History). IsVerdictAfter may run h.entries e (Ok infos)) same came);
        is_entry = subst (IsEntryOf node infos) entries.1 is_entry;
      }
  answered_by_done _ (answered_fail before e number reason answered why) history d lease entry is =
      search (rules, same_from_push)

  -- what an answered Fail tells
  pub record WasFailed (history : History) (d : ℕ) (reason : Reason) : Type 0 where
    pub before : IsAnswered may run history
    pub why : (reason ≡ OutOfMemory) ⊎ IsVerdictAfter may run history.entries d (Err reason)

  pub answered_by_fail : (g : History) → IsAnswered may run g
      → (history : History) (d lease : ℕ) (reason : Reason)
      → g ≡ failed history d lease reason → WasFailed history d reason
  answered_by_fail _ (answered_opening entries) history d lease reason is = search (rules, no_push)
  answered_by_fail _ (answered_begin before e answered) history d lease reason is =
      search (rules, same_from_push)
  answered_by_fail _ (answered_done before e number node infos own answered at came is_entry)
      history d lease reason is = search (rules, same_from_push)
  answered_by_fail _ (answered_fail before e number given answered why) history d lease reason is =
      search (rules, same_from_push, same_history, before, why)

  -- a legal history that is answered is told
  pub told_from : (history : History) → IsLegal run history → IsAnswered may run history
      → IsTold (λ reason. reason ≡ OutOfMemory) may run history
  told_from _ (legal_opening entries journal) answered = told_opening entries journal
  told_from _ (legal_begin history d legal within wanted ready) answered =
      search (
        rules,
        told_begin,
        answered_before_begin,
        told_from _ legal (answered_before_begin _ answered _ d refl),
      )
  told_from _ (legal_done history d lease node infos entry legal phase is_node allowed is_entry)
      answered =
      let was =
      answered_by_done _ answered _ d _ _ refl in
      told_done history d lease was.node was.infos entry (told_from _ legal was.before) legal
      phase was.is_node was.came was.is_entry
  told_from _ (legal_fail history d lease reason legal phase) answered =
      let was =
      answered_by_fail _ answered _ d _ _ refl in
      told_fail history d lease reason (told_from _ legal was.before) legal phase was.why
