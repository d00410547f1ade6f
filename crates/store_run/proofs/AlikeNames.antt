-- The lines of two reports name the same paths where each path has the same records.
use Rattle.std.proofs.Common.{◌≡◌, ◌∙◌, ◌↔◌, ℕ, List, Option, subst, sym}
use Rattle.valid_table.specs.Entries.{registered}
use Rattle.valid_table.specs.PathInfos.{PathInfo}
use Rattle.valid_table.specs.Valid.{Registers}
use Rattle.run_report.specs.NamedPaths.{IsNamedIn}
use Rattle.run_report.proofs.NamedPaths.{named_after, names_in, one_named}
use Rattle.run_states.specs.Runs.{History, Run, state_in}
use Rattle.run_states.specs.declared.state.State.{State}
use Rattle.store_run.proofs.Carried.{refer_alike}

module _ (run : Run) (history other : History)
    (records : (path : List ℕ) (info : PathInfo) → Registers (registered history.entries) path info
    ↔ Registers (registered other.entries) path info)
    (d : ℕ) (same : state_in run history d ≡ state_in run other d) where
  pub names_alike : (named : Option (List ℕ)) → names_in run history d named
      → names_in run other d named
  names_alike named is =
      subst (λ (s : State). IsNamedIn run.graph other.entries d s named) same
      (named_after run.graph history.entries other.entries
      (refer_alike history.entries other.entries records) d (state_in run history d) named is)

  -- so a line names one path in both
  pub one_in_both : (m n : Option (List ℕ)) → names_in run history d m → names_in run other d n
      → m ≡ n
  one_in_both m n of_m of_n =
      one_named run.graph other.entries d (state_in run other d) m n (names_alike m of_m) of_n
