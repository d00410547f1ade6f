-- How a command line grows by an argument, and by a subcommand.
use Rattle.std.proofs.Common.{◌≡◌, ◌∙◌, ap, ap₂, refl, Bool, true, false, not, Result}
use Rattle.std.specs.Prelude.{IfOk}
use Rattle.std.proofs.lemmas.Bool.{false≢true}
use Rattle.std.proofs.lemmas.Result.{IfOk-weaker}
use Rattle.clap.specs.Words.{AddsArg, AddsSubcommand, App, Rule, app_of, rule_of, with_rule}
use Rattle.clap.specs.Words.{with_subcommand}
use Rattle.clap.specs.declared.builder.arg.Arg.{Arg}
use Rattle.clap.specs.declared.builder.command.Command.{Command}
use Rattle.clap.proofs.WalkLemmas.{both}

pub not_true : (b : Bool) → not b ≡ true → b ≡ false
not_true false e = refl
not_true true e = absurd (false≢true e)

-- by an argument that is its own alone
pub grown_by_arg : (old : Command) (a : Arg) (new : Command) (before : App) (rule : Rule)
    → a.global ≡ false → app_of old ≡ before → rule_of a ≡ rule → AddsArg old a new
    → app_of new ≡ with_rule before rule
grown_by_arg old a new before rule own same is adds = adds.shape own ∙ ap₂ with_rule same is

-- by a subcommand without the settings that reach into others
pub grown_by_subcommand : (old sub new : Command) (before line : App)
    → line.top.is_plain ≡ true → app_of old ≡ before → app_of sub ≡ line
    → AddsSubcommand old sub new
    → app_of new ≡ with_subcommand before line.top
grown_by_subcommand old sub new before line plain same is adds =
    let all = ap (λ (app : App). app.top.is_plain) is ∙ plain in
    let first = both _ _ all in
    let second = both _ _ first.1 in
    let third = both _ _ second.1 in
    adds.shape (not_true _ third.0) ∙ ap₂ with_subcommand same (ap (λ (app : App). app.top) is)

pub ended_by_arg : (E : Type 0) (old : Command) (a : Arg) (r : Result Command E) (before : App)
    (rule : Rule)
    → a.global ≡ false → app_of old ≡ before → rule_of a ≡ rule → IfOk r (λ new. AddsArg old a new)
    → IfOk r (λ new. app_of new ≡ with_rule before rule)
ended_by_arg E old a r before rule own same is adds =
    IfOk-weaker r _ _ (λ new h. grown_by_arg old a new before rule own same is h) adds

pub ended_by_subcommand : (E : Type 0) (old sub : Command) (r : Result Command E)
    (before line : App)
    → line.top.is_plain ≡ true → app_of old ≡ before → app_of sub ≡ line
    → IfOk r (λ new. AddsSubcommand old sub new)
    → IfOk r (λ new. app_of new ≡ with_subcommand before line.top)
ended_by_subcommand E old sub r before line plain same is adds =
    IfOk-weaker r _ _ (λ new h. grown_by_subcommand old sub new before line plain same is h) adds
