-- What a run builds for, and what a derivation asks of it (Nix manual, "system-features" and
-- "requiredSystemFeatures"; Nix 2.8, which starts its builtin builders itself).
use Rattle.std.specs.Prelude.{◌&&◌, ◌++◌, not, Bool, ℕ, Option, Some, None, List, [], codes, nat_eq}
use Rattle.std.specs.Cmp.{IsEquivalence, and_equiv, on_equiv}
use Rattle.std.specs.Cmp.Lexicographic.{lists_equiv, nat_list_eq_equiv, pointwise}
use Rattle.std.specs.List.{list_any, position, starts_with}
use Rattle.nix_names.specs.Bytes.{Bytes, Name}
use Rattle.nix_names.specs.Names.{same_bytes}
use Rattle.nix_drv.specs.Derivation.{Drv}
use Rattle.build_outcome.specs.Tokens.{tokens}
use Rattle.run_states.specs.Structured.{attributes_of_text, json_of, listed_features, value_of}

-- What a run builds for: the name of its system, the features that it offers, and the names of the
-- builtin builders for which it has a program.
pub record Platform : Type 0 where
  pub name : Bytes
  pub features : List Bytes
  pub builtins : List Name

-- whether a derivation's builder is one of Nix's own, which no process is
abbrev pub is_builtin : Drv → Bool
is_builtin drv = starts_with nat_eq drv.builder (codes "builtin:")

-- whether a run has a program for a derivation's builder, which is a builtin one
abbrev pub has_program : Platform → Drv → Bool
has_program system drv =
    list_any (λ name. same_bytes drv.builder (codes "builtin:" ++ name)) system.builtins

-- whether a derivation's builder is a builtin one for which a run has no program
abbrev pub lacks_program : Platform → Drv → Bool
lacks_program system drv = is_builtin drv && not (has_program system drv)

-- a value; empty where there is none
abbrev pub value_or_empty : Option Bytes → Bytes
value_or_empty (Some value) = value
value_or_empty None = []

-- the text in which a derivation without structured attributes asks for features, an entry of its
-- environment
abbrev pub features_text : Drv → Bytes
features_text drv = value_or_empty (value_of (codes "requiredSystemFeatures") drv)

-- the features that a derivation asks for, by the text of its structured attributes, if it has any:
-- those that they list, else the tokens of that entry
abbrev pub features_by : (json : Option Bytes) → Drv → List Bytes
features_by (Some json) drv = listed_features (attributes_of_text json)
features_by None drv = tokens (features_text drv)

-- the features that a derivation asks for, in their order
abbrev pub required_features : Drv → List Bytes
required_features drv = features_by (json_of drv) drv

-- whether a system offers a feature
abbrev pub offers : Platform → Bytes → Bool
offers system feature = list_any (same_bytes feature) system.features

-- the index of the first of some features that a system doesn't offer
abbrev pub first_missing : Platform → List Bytes → Option ℕ
first_missing system features = position (λ feature. not (offers system feature)) features

-- the index, among the features that a derivation asks for, of the first that a system doesn't
-- offer
abbrev pub missing_feature : Platform → Drv → Option ℕ
missing_feature system drv = first_missing system (required_features drv)

-- whether two systems have the same name, features and builtin builders, in the same order
abbrev pub same_platform : Platform → Platform → Bool
same_platform a b =
    (pointwise nat_eq a.name b.name && pointwise (pointwise nat_eq) a.features b.features)
    && pointwise (pointwise nat_eq) a.builtins b.builtins

-- `same_platform` is an equivalence
pub same_platform_laws : IsEquivalence same_platform
same_platform_laws =
    and_equiv
    (and_equiv (on_equiv (λ (p : Platform). p.name) nat_list_eq_equiv)
    (on_equiv (λ (p : Platform). p.features) (lists_equiv nat_list_eq_equiv)))
    (on_equiv (λ (p : Platform). p.builtins) (lists_equiv nat_list_eq_equiv))
