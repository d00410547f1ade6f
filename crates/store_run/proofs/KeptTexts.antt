-- How the text of a run's entries goes on.
use Rattle.std.proofs.Common.{◌≡◌, ◌∙◌, ◌++◌, ℕ, List, Result, Ok, Err, OnOk, ap, ap₂, subst, sym, refl, cond, length, take, take_at}
use Rattle.std.proofs.Math.Seq.{take-length}
use Rattle.std.specs.Prelude.{IfSome, None, Option, Some}
use Rattle.std.specs.Result.{is_ok}
use Rattle.nix_names.specs.Bytes.{Bytes}
use Rattle.valid_table.specs.Texts.{text}
use Rattle.valid_table.specs.declared.entry.Entry.{Entry}
use Rattle.valid_table.specs.declared.path_table.version.Version.{Version}
use Rattle.valid_table.proofs.WrittenTexts.{text_goes_on}
use Rattle.build_outcome.specs.declared.job.Answer.{Answer}
use Rattle.build_outcome.specs.declared.job.Job.{Job}
use Rattle.build_outcome.specs.declared.reason.Reason.{Reason}
use Rattle.run_states.specs.Runs.{History, Run}
use Rattle.run_states.specs.Systems.{Platform}
use Rattle.drv_graph.specs.Plans.{Graph}
use Rattle.sched_core.specs.Books.{BuildsOver, Ledger}
use Rattle.store_run.specs.Keeping.{IsInterimJournal, TakesEachInterimJournal, interim_version}
use Rattle.store_run.specs.Realising.{IsBookOver}
use Rattle.store_run.specs.private.Looking.{AreKeptIn, IsLook, IsNews, Looked}

-- the fresh lines after the text of what was shown are the text of what is shown
pub shown_goes_on : (version : Version) (known entries : List Entry) (looked : Looked)
    (before after : Bytes)
    → IsNews version known entries looked → before ≡ text version known
    → after ≡ before ++ looked.fresh → after ≡ text version looked.shown
shown_goes_on version known entries looked before after news is more =
    more
    ∙ (ap (λ b. b ++ looked.fresh) is
    ∙ (ap (λ l. text version known ++ l) news.fresh_lines
    ∙ (sym (text_goes_on version known news.fresh) ∙ sym (ap (text version) news.goes_on))))

-- the lines of what waits after that are the text of all entries
pub all_goes_on : (version : Version) (known entries : List Entry) (looked : Looked)
    (before after : Bytes)
    → IsNews version known entries looked → before ≡ text version looked.shown
    → after ≡ before ++ looked.waiting → after ≡ text version entries
all_goes_on version known entries looked before after news is more =
    more
    ∙ (ap (λ b. b ++ looked.waiting) is
    ∙ (ap (λ l. text version looked.shown ++ l) news.waiting_lines
    ∙ (sym (text_goes_on version looked.shown news.waiting) ∙ sym (ap (text version) news.all))))

-- a list to which something may have been added begins with what it was
pub still_begins : {T E : Type 0} (r : Result T E) (n : ℕ) (before more after : Bytes)
    → n ≡ length before → after ≡ cond (is_ok r) (before ++ more) before
    → take n after ≡ before
still_begins (Ok x) n before more after len is = rw (is, len) (take_at before more _ refl)
still_begins (Err e) n before more after len is = rw (is, len) (take-length before)

-- where something was added, what holds of the sum
pub added : {T E P : Type 0} (r : Result T E) (before more after : Bytes)
    → after ≡ cond (is_ok r) (before ++ more) before → (after ≡ before ++ more → P) → OnOk r P
added (Ok x) before more after is holds = holds is
added (Err e) before more after is holds = tt

-- what holds in any case holds where a call succeeds
pub at_ok : {T E P : Type 0} (r : Result T E) → P → OnOk r P
at_ok (Ok x) holds = holds
at_ok (Err e) holds = tt

-- the text of the entries that a look found may be handed over
pub may_be_kept : (may : Job → Result Answer Reason → Type 0) (was_shown : List Entry → Type 0)
    (is_this_run : Run → List Entry → Type 0) (may_keep : List Entry → Bytes → Type 0)
    (version : Version) (known shown : List Entry) (looked : Looked) (kept bytes : Bytes)
    → TakesEachInterimJournal may was_shown is_this_run may_keep
    → AreKeptIn is_this_run version
    → IsLook may was_shown is_this_run version known looked
    → ((entries : List Entry) → IsNews version known entries looked → kept ≡ text version entries)
    → bytes ≡ kept → shown ≡ looked.shown → may_keep shown bytes
may_be_kept may was_shown is_this_run may_keep version known shown looked kept bytes each kept_in
    look is same is_looked =
    subst (λ (s : List Entry). may_keep s bytes) (sym is_looked)
    (each look.run look.history.opening looked.shown bytes look.over (record {
      history = look.history;
      opening_is = refl;
      legal = look.legal;
      answered = look.answered;
      is_shown = look.is_shown;
      goes_on = (look.news.waiting, sym look.news.all);
      seeds = look.seeds;
      text_is = same ∙ is look.history.entries look.news
          ∙ ap (λ (v : Version). text v look.history.entries)
          (sym (kept_in look.run look.history.opening look.over));
    }))

-- what follows where there is something
pub of_some : {A : Type 0} {Fact Other : A → Type 0} (found : Option A) → IfSome found Fact
    → ((x : A) → Fact x → Other x) → IfSome found Other
of_some (Some x) fact follows = follows x fact
of_some None fact follows = tt

-- what a look shows is what the book shows, so all is valid there that is built from
pub builds_over_look : (run : Run) (history : History) (shown told looked : List Entry)
    → BuildsOver run history shown → told ≡ shown → looked ≡ told
    → BuildsOver run history looked
builds_over_look run history shown told looked builds is same =
    subst (BuildsOver run history) (sym (same ∙ is)) builds

-- the run over a plan, for a system
abbrev run_of : Graph → Platform → Run
run_of graph system = record { graph = graph; system = system }

-- what is kept of a book's run is kept of the run over the plan and system that the book is over
pub kept_of_run : (may : Job → Result Answer Reason → Type 0) (was_shown : List Entry → Type 0)
    (plan : Graph) (system : Platform) (entries : List Entry) (book : Ledger) (run : Run)
    (opening shown : List Entry) (bytes : Bytes)
    → IsBookOver plan system entries book
    → (run ≡ book.run) × (opening ≡ book.history.opening)
    → IsInterimJournal may was_shown run opening shown bytes
    → IsInterimJournal may was_shown (record { graph = plan; system = system }) entries shown bytes
kept_of_run may was_shown plan system entries book run opening shown bytes over is kept =
    let given_run : Run = record { graph = plan; system = system } in
    let same : book.run ≡ given_run =
    ap₂ (λ (g : Graph) (s : Platform). run_of g s) over.plan_is over.system_is in
    subst (λ (r : Run). IsInterimJournal may was_shown r entries shown bytes) (is.0 ∙ same)
    (subst (λ (o : List Entry). IsInterimJournal may was_shown run o shown bytes)
    (is.1 ∙ over.opening_is) kept)

-- the texts that are kept of the run of a book are in the version of that run
pub version_of_book : (run its_run : Run) (opening its_opening given : List Entry)
    → (run ≡ its_run) × (opening ≡ its_opening) → its_opening ≡ given
    → interim_version run.graph.profile opening ≡ interim_version its_run.graph.profile given
version_of_book run its_run opening its_opening given is same =
    ap₂ (λ (r : Run) (o : List Entry). interim_version r.graph.profile o) is.0 (is.1 ∙ same)
