-- What `clap` finds in the words of a command line.
use Rattle.std.proofs.Common.{◌≡◌, ◌∙◌, ⊎_elim, ap, inl, inr, refl, subst, sym, true, ℕ, List, []}
use Rattle.clap.specs.Faults.{fault_of, is_simple_and_free}
use Rattle.clap.specs.Kinds.{HasKind}
use Rattle.clap.specs.Words.{App, kind_of}
use Rattle.clap.specs.declared.error.Error.{Error}
use Rattle.clap.proofs.OnLiterals.{clap_on_literals}
use Rattle.command_line.specs.CommandLine.{command_line}
use Rattle.command_line.specs.Usage.{IsReadFault, faults_in}

-- `clap` says which faults it finds on this command line
pub is_free : is_simple_and_free command_line ≡ true
unfolding clap_on_literals
is_free = refl

-- words in which it finds none have none
pub none_found : (words : List (List ℕ)) (app : App) → app ≡ command_line
    → fault_of app words ≡ [] → faults_in words ≡ []
unfolding faults_in
none_found words app same none = ap (λ (a : App). fault_of a words) (sym same) ∙ none

-- what it finds is a fault of the words, or want of memory
pub fault_found : (words : List (List ℕ)) (app : App) (error : Error) → app ≡ command_line
    → HasKind (fault_of app words) error → IsReadFault words (kind_of error)
unfolding faults_in
fault_found words app error same has =
    ⊎_elim inl (λ among. inr (inl among))
    (subst (λ (a : App). HasKind (fault_of a words) error) same has)
