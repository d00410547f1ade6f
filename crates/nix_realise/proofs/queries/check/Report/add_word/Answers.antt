use Rattle.nix_realise.proofs.CheckGroups.{file_line, known_line}
use Rattle.nix_realise.proofs.queries.check.Report.add_word.Goals as goal
use Rattle.nix_realise.proofs.queries.check.Report.add_word.Goals.{in-Known+in_ok-add_line-in-Known, in-File+in_ok-verdict-in-File+in_ok-add_line-in-File+in-Refused+in-TextPathMismatch-1, in-File+in_ok-verdict-in-File+in_ok-add_line-in-File+in-Refused+in-BadReference-1, in-File+in_ok-verdict-in-File+in_ok-add_line-in-File+in-Refused+in-NoMemory-1, in-File+in_ok-verdict-in-File+in_ok-add_line-in-File+in-Good-1}

pub returns-clause-added : goal.returns-clause-added
returns-clause-added c =
    elim c.match-asked.branch [
      | in-Known+in_ok-add_line-in-Known w ↦
          rw w.self-is
          (known_line _ _ w.in-Known.verdict _ _ _ _ w.in-Known.is
          w.in_ok-add_line-in-Known.ensures.line w.in_ok-add_line-in-Known.ensures.status)
      | in-File+in_ok-verdict-in-File+in_ok-add_line-in-File+in-Refused+in-TextPathMismatch-1 w ↦
          rw w.self-is
          (file_line _ _ _ _ _ _ _ _ _ _ w.in-File.is w.deref.ensures.value
          w.in_ok-verdict-in-File.ensures.verdict w.in_ok-add_line-in-File.ensures.line
          w.in_ok-add_line-in-File.ensures.status)
      | in-File+in_ok-verdict-in-File+in_ok-add_line-in-File+in-Refused+in-BadReference-1 w ↦
          rw w.self-is
          (file_line _ _ _ _ _ _ _ _ _ _ w.in-File.is w.deref.ensures.value
          w.in_ok-verdict-in-File.ensures.verdict w.in_ok-add_line-in-File.ensures.line
          w.in_ok-add_line-in-File.ensures.status)
      | in-File+in_ok-verdict-in-File+in_ok-add_line-in-File+in-Refused+in-NoMemory-1 w ↦
          rw w.self-is
          (file_line _ _ _ _ _ _ _ _ _ _ w.in-File.is w.deref.ensures.value
          w.in_ok-verdict-in-File.ensures.verdict w.in_ok-add_line-in-File.ensures.line
          w.in_ok-add_line-in-File.ensures.status)
      | in-File+in_ok-verdict-in-File+in_ok-add_line-in-File+in-Good-1 w ↦
          rw w.self-is
          (file_line _ _ _ _ _ _ _ _ _ _ w.in-File.is w.deref.ensures.value
          w.in_ok-verdict-in-File.ensures.verdict w.in_ok-add_line-in-File.ensures.line
          w.in_ok-add_line-in-File.ensures.status)
    ]
