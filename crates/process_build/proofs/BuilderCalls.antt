-- The settings of a command, one after another.
use Rattle.std.proofs.Common.{◌≡◌, ◌∙◌, ap, sym, refl, ℕ, Bool, true, false, List, [], ◌∷◌, ◌++◌}
use Rattle.std.proofs.Common.{map, take, length, get_or, ◌+◌, ◌<◌, Option, Some, None, option_map}
use Rattle.std.proofs.Common.{if◌then◌else◌}
use Rattle.std.proofs.lemmas.Bool.{false≢true}
use Rattle.std.proofs.lemmas.List.{map_more}
use Rattle.std.proofs.lemmas.List.Sums.{fold-append}
use Rattle.std.proofs.lemmas.Slice.Eq.{bytes_eq-Decides}
use Rattle.std.specs.Bool.{Decides}
use Rattle.std.specs.Process.{command_var, SameOtherVars}
use Rattle.std.specs.Str.{bytes_eq}
use Rattle.std.specs.declared.alloc.Global.{Global}
use Rattle.std.specs.declared.process.command.Command.{Command}
use Rattle.nix_drv.specs.Derivation.{EnvEntry}
use Rattle.process_build.specs.Setups.{entry_of_var, value_of}
use Rattle.process_build.specs.declared.process.setup.SetupVar.{SetupVar}

-- what an entry makes of the value of a key
after : List ℕ → Option (List ℕ) → EnvEntry → Option (List ℕ)
after key value e = if bytes_eq e.key key then Some e.value else value

value_push : (key : List ℕ) (entries : List EnvEntry) (e : EnvEntry)
    → value_of key (entries ++ e ∷ []) ≡ after key (value_of key entries) e
unfolding after
value_push key entries e =
    fold-append (λ v x. if bytes_eq x.key key then Some x.value else v) None entries (e ∷ [])

set_one : (old new : Command Global) (key value k : List ℕ) (before : Option (List ℕ)) (b : Bool)
    → Decides b (key ≡ k) → command_var new key ≡ Some (Some value) → SameOtherVars old new key
    → command_var old k ≡ option_map Some before
    → command_var new k ≡ option_map Some (if b then Some value else before)
set_one old new key value k before true d set others was =
    ap (command_var new) (sym (d.0 refl)) ∙ set
set_one old new key value k before false d set others was =
    others k (λ same. false≢true (d.1 (sym same))) ∙ was

-- what a command says of each variable after one more of some variables is set
pub set_more : (old new : Command Global) (vars : List SetupVar) (i : ℕ) (var : SetupVar)
    → i < length vars → var ≡ get_or vars i var
    → command_var new (entry_of_var var).key ≡ Some (Some (entry_of_var var).value)
    → SameOtherVars old new (entry_of_var var).key
    → ((k : List ℕ) → command_var old k
    ≡ option_map Some (value_of k (map entry_of_var (take i vars))))
    → (k : List ℕ) → command_var new k
    ≡ option_map Some (value_of k (map entry_of_var (take (i + 1) vars)))
unfolding after
set_more old new vars i var below is set others was k =
    let e : EnvEntry = entry_of_var var in
    let before : List EnvEntry = map entry_of_var (take i vars) in
    set_one old new e.key e.value k (value_of k before) (bytes_eq e.key k)
    (bytes_eq-Decides e.key k) set others (was k)
    ∙ ap (option_map Some) (sym (value_push k before e)
    ∙ ap (value_of k) (ap (λ v. before ++ entry_of_var v ∷ []) is
    ∙ sym (map_more entry_of_var vars i var below)))
