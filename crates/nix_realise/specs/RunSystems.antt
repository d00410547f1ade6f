-- What a run builds for, by its words (this product's own).
use Rattle.std.specs.Prelude.{◌≡◌, ◌==◌, ◌⊎◌, ◌++◌, not, ℕ, Bool, List, [], ◌∷◌, Option, Some, None, codes, filter, length, map, option_map}
use Rattle.std.specs.List.{slice_split}
use Rattle.nix_names.specs.Bytes.{Bytes, Name}
use Rattle.drv_graph.specs.declared.profile.Profile.{Profile}
use Rattle.drv_graph.specs.declared.profile.Profile.TheVariants.{Nix, Plain}
use Rattle.run_states.specs.Systems.{Platform}
use Rattle.command_line.specs.declared.options.Builtin.{Builtin}
use Rattle.command_line.specs.declared.options.RunRequest.{RunRequest}

-- whether a byte is a comma
abbrev pub is_comma : ℕ → Bool
is_comma byte = byte == 44

-- the features that a text names, with commas between them
abbrev pub features_in : (text : Bytes) → List Bytes
features_in text = filter (λ word. not (length word == 0)) (slice_split is_comma text)

-- the features that each system offers, where none are named
abbrev pub own_features : List Bytes
own_features = codes "benchmark" ∷ codes "big-parallel" ∷ codes "nixos-test" ∷ []

-- the features of a run under `nix`: those that are named; or else those of each system, and that of
-- a machine on which virtual ones run, which no clause can say
abbrev pub HasFeatures : (named : Option Bytes) → List Bytes → Type 0
HasFeatures (Some text) features = features ≡ features_in text
HasFeatures None features =
    (features ≡ own_features) ⊎ (features ≡ own_features ++ codes "kvm" ∷ [])

-- What a run builds for under a profile: a system by its name alone; or one with features, and with
-- the builtin builders for which there are programs.
abbrev pub IsSystemUnder : Profile → RunRequest → Platform → Type 0
IsSystemUnder Plain request system =
    system ≡ record { name = request.system.now; features = []; builtins = [] }
IsSystemUnder Nix request system =
    (system.name ≡ request.system.now)
    × HasFeatures (option_map (λ f. f.now) request.features) system.features
    × (system.builtins ≡ map (λ (b : Builtin). b.name.now) request.builtins.items)

-- what a run builds for
abbrev pub IsSystemOf : RunRequest → Platform → Type 0
IsSystemOf request system = IsSystemUnder request.profile request system
