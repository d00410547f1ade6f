-- The line of a derivation that failed or is refused, as it is written.
use Rattle.std.proofs.Common.{◌≡◌, ◌∙◌, ◌<◌, ℕ, List, ◌++◌, Option, Some, Result, ap, codes, length, subst, sym}
use Rattle.std.specs.Prelude.{OnOk, slice_get}
use Rattle.std.specs.declared.alloc.AllocError.{AllocError}
use Rattle.std.proofs.lemmas.List.{append_assoc}
use Rattle.nix_names.proofs.Lists.{element_at}
use Rattle.nix_drv.specs.Derivation.{Drv}
use Rattle.drv_graph.specs.Nodes.{Node, paths_of}
use Rattle.drv_graph.specs.PlanNodes.{drvs_of}
use Rattle.build_outcome.specs.declared.reason.Reason.{Reason}
use Rattle.run_states.specs.declared.state.Refusal.{Refusal}
use Rattle.run_states.specs.declared.state.State.{State}
use Rattle.run_states.specs.declared.state.State.TheVariants.{Failed, Refused}
use Rattle.run_report.specs.Reports.{failed_word, line_of, lines_if_some, refused_word, told_at, why_line}
use Rattle.run_report.specs.Words.{reason_words, refusal_words}
use Rattle.run_report.specs.declared.report.tense.Tense.{Tense}
use Rattle.run_report.proofs.Wordings.{found_again, joined}

-- ---- a derivation of a plan

module _ (tense : Tense) (nodes : List Node) (named : Option (List ℕ)) (state : State) (d : ℕ)
    (path : List ℕ) (drv : Drv) (low : d < length nodes)
    (at_path : slice_get (paths_of nodes) d ≡ Some path)
    (at_drv : slice_get (drvs_of nodes) d ≡ Some drv) where
  -- the line of its node is its line
  told_with : (s : State) (text : List ℕ) → state ≡ s
      → ((node : Node) → path ≡ node.path → drv ≡ node.drv → text ≡ line_of tense nodes named node s)
      → text ≡ told_at tense nodes (λ e. named) (λ e. state) d
  told_with s text is lines =
      lines there.0 path_is drv_is
      ∙ ap (λ (t : State). line_of tense nodes named there.0 t) (sym is)
      ∙ ap (λ (o : Option Node). lines_if_some (λ node. line_of tense nodes named node state) o)
      (sym there.1)
    where
      there : (node : Node) × (slice_get nodes d ≡ Some node)
      there = element_at nodes d low

      path_is : path ≡ there.0.path
      path_is =
          let same : Some path ≡ Some there.0.path =
          sym at_path ∙ found_again (λ (n : Node). n.path) nodes d there.0 there.1 in cc

      drv_is : drv ≡ there.0.drv
      drv_is =
          let same : Some drv ≡ Some there.0.drv =
          sym at_drv ∙ found_again (λ (n : Node). n.drv) nodes d there.0 there.1 in cc

  pub failed_line : (word : List ℕ) (reason : Reason) → state ≡ Failed reason
      → word ≡ failed_word tense
      → why_line word path (reason_words drv named reason)
      ≡ told_at tense nodes (λ e. named) (λ e. state) d
  failed_line word reason is word_is =
      told_with (Failed reason) (why_line word path (reason_words drv named reason)) is
      (λ node path_is drv_is.
      ap (λ (w : List ℕ). why_line w path (reason_words drv named reason)) word_is
      ∙ ap (λ (p : List ℕ). why_line (failed_word tense) p (reason_words drv named reason)) path_is
      ∙ ap (λ (v : Drv). why_line (failed_word tense) node.path (reason_words v named reason))
      drv_is)

  pub refused_line : (word : List ℕ) (cause : Refusal) → state ≡ Refused cause
      → word ≡ refused_word tense
      → why_line word path (refusal_words nodes drv cause)
      ≡ told_at tense nodes (λ e. named) (λ e. state) d
  refused_line word cause is word_is =
      told_with (Refused cause) (why_line word path (refusal_words nodes drv cause)) is
      (λ node path_is drv_is.
      ap (λ (w : List ℕ). why_line w path (refusal_words nodes drv cause)) word_is
      ∙ ap (λ (p : List ℕ). why_line (refused_word tense) p (refusal_words nodes drv cause)) path_is
      ∙ ap (λ (v : Drv). why_line (refused_word tense) node.path (refusal_words nodes v cause))
      drv_is)

-- ---- in two pieces

five : (a b c d e f : List ℕ) → a ++ b ++ c ++ d ++ e ++ f ≡ a ++ (b ++ c ++ d ++ e ++ f)
five a b c d e f =
    ap (λ (l : List ℕ). l ++ f)
    (ap (λ (l : List ℕ). l ++ e) (joined a b c d) ∙ append_assoc a (b ++ c ++ d) e)
    ∙ append_assoc a (b ++ c ++ d ++ e) f

pub two_pieces : (answer : Result (Unit {0}) AllocError)
    (out between after word path why line : List ℕ)
    → between ≡ out ++ word ++ path ++ codes ": " → why_line word path why ≡ line
    → OnOk answer (after ≡ between ++ why ++ codes "\n") → OnOk answer (after ≡ out ++ line)
two_pieces answer out between after word path why line start is written =
    subst (λ (l : List ℕ). OnOk answer (after ≡ l)) same written
  where
    same : between ++ why ++ codes "\n" ≡ out ++ line
    same =
        ap (λ (l : List ℕ). l ++ why ++ codes "\n") start
        ∙ five out word path (codes ": ") why (codes "\n")
        ∙ ap (λ (l : List ℕ). out ++ l) is
