-- The kind of a derivation's outputs, from its outputs.
use Rattle.std.proofs.Common.{◌≡◌, ◌≢◌, ℕ, false, List, [], ◌∷◌, ◌++◌, length, Ok, Err, inl, inr, refl, sym, ap, subst, ◌∙◌, rules}
use Rattle.std.specs.Prelude.{All, Contains, IfOk, IfErr, Result, codes}
use Rattle.std.proofs.lemmas.List.Elements.{All-contains}
use Rattle.nix_names.proofs.DigestTexts.{one_digest, one_name}
use Rattle.nix_names.specs.Digests.{name_of}
use Rattle.nix_names.specs.Methods.{is_marked, mark_of}
use Rattle.nix_names.specs.declared.digest.Algorithm.{Algorithm}
use Rattle.nix_names.specs.declared.digest.Algorithm.TheVariants.{Md5, Sha1, Sha256, Sha512}
use Rattle.nix_names.specs.declared.digest.Digest.{Digest}
use Rattle.nix_drv.specs.Derivation.{Drv, Output}
use Rattle.drv_graph.specs.private.Checking.{IsFixedKind, IsKindFault, IsNotTaken, SaysSome}
use Rattle.drv_graph.specs.declared.fault.OutputFault.{OutputFault}
use Rattle.drv_graph.specs.declared.fault.OutputFault.TheVariants.{NoMemory, MixedOutputs, UnknownMethod, BadName, UnknownOutput, OutputMismatch, EnvMismatch}
use Rattle.drv_graph.specs.Kinds.{AreMixed, HasKind, IsAddressed, IsFixed, HasUnknownMethod, Takes, algo_of}
use Rattle.drv_graph.specs.declared.kinds.Kind.{Kind}
use Rattle.drv_graph.specs.declared.kinds.Kind.TheVariants.{Addressed, Fixed}
use Rattle.nix_names.specs.declared.method.Method.{Method}
use Rattle.nix_names.specs.declared.method.Method.TheVariants.{Flat, Recursive}
use Rattle.nix_names.proofs.Lists.{Contains-cons_cases, Contains-first, Contains-nothing}
use Rattle.drv_graph.specs.declared.profile.Profile.{Profile}

-- ---- kinds

pub some_outputs : (outputs : List Output) (n : ℕ) → length outputs ≡ n → n ≢ 0 → outputs ≡ [] → ⊥
some_outputs outputs n long some none = search rules

-- an output that says something among outputs that aren't one alone
pub mixed : (drv : Drv) (outputs : List Output) → outputs ≡ drv.outputs → (o : Output)
    × Contains outputs o × (IsAddressed o → ⊥)
    → ((o : Output) → outputs ≡ o ∷ [] → o.name ≡ codes "out" → ⊥) → AreMixed drv
mixed drv outputs is (o, has, says) alone = search rules

not_mixed : (drv : Drv) (only : Output) → drv.outputs ≡ only ∷ [] → only.name ≡ codes "out"
    → AreMixed drv → ⊥
not_mixed drv only is named (inl none) = search rules
not_mixed drv only is named (inr (o, has, says, other)) =
    search (rules, Contains-cons_cases, Contains-nothing)

-- outputs of one kind aren't mixed
pub kind_not_mixed : (drv : Drv) (kind : Kind) → HasKind drv kind → AreMixed drv → ⊥
kind_not_mixed drv Addressed has (inl none) = has.0 none
kind_not_mixed drv Addressed has (inr (o, here, says, other)) = search (rules, All-contains)
kind_not_mixed drv (Fixed method digest) (only, is, fixed) mixed = not_mixed drv _ is.0 is.1 mixed

-- the only output says something
says_alone : (only : Output) (outputs : List Output) → outputs ≡ only ∷ [] → (o : Output)
    × Contains outputs o × (IsAddressed o → ⊥) → IsAddressed only → ⊥
says_alone only outputs is (o, has, says) addressed =
    search (rules, Contains-cons_cases, Contains-nothing)

pub unknown : {profile : Profile} (drv : Drv) (outputs : List Output) (only : Output)
    (name : List ℕ) → outputs
    ≡ drv.outputs → outputs ≡ only ∷ [] → only.name ≡ codes "out"
    → (o : Output) × Contains outputs o × (IsAddressed o → ⊥)
    → IsNotTaken profile only → name ≡ only.name
    → (AreMixed drv → ⊥) × ((o : Output) × Contains drv.outputs o × HasUnknownMethod profile o
    × (name ≡ o.name))
unknown drv outputs only name here is named says none same =
    search (rules, not_mixed, Contains-first, says_alone)

fixed_has_kind : (profile : Profile) (drv : Drv) (only : Output) (kind : Kind)
    → drv.outputs ≡ only ∷ [] → only.name
    ≡ codes "out" → IsFixedKind profile only (Ok kind) → HasKind drv kind × Takes profile kind
fixed_has_kind profile drv only Addressed is named h = absurd h
fixed_has_kind profile drv only (Fixed method digest) is named h = ((only, (is, named), h.0), h.1)

fixed_fault : (profile : Profile) (drv : Drv) (outputs : List Output) (only : Output)
    (fault : OutputFault) → outputs
    ≡ drv.outputs → outputs ≡ only ∷ [] → only.name ≡ codes "out"
    → SaysSome outputs → IsFixedKind profile only (Err fault) → IsKindFault profile drv fault
fixed_fault profile drv outputs only (UnknownMethod output) here is named says h = search
    (rules, unknown)
fixed_fault profile drv outputs only NoMemory here is named says h =
    not_mixed drv only (sym here ∙ is) named
fixed_fault profile drv outputs only MixedOutputs here is named says h = absurd h
fixed_fault profile drv outputs only BadName here is named says h = h
fixed_fault profile drv outputs only (UnknownOutput input output) here is named says h = h
fixed_fault profile drv outputs only (OutputMismatch output expected) here is named says h = h
fixed_fault profile drv outputs only (EnvMismatch output) here is named says h = h

-- what is answered of the only output is right of the derivation
pub kind_from : (profile : Profile) (drv : Drv) (outputs : List Output) (only : Output)
    (answer : Result Kind OutputFault) → outputs ≡ drv.outputs → outputs ≡ only ∷ [] → only.name
    ≡ codes "out"
    → SaysSome outputs → IsFixedKind profile only answer → IfOk answer
    (λ kind. HasKind drv kind × Takes profile kind)
    × IfErr answer (IsKindFault profile drv)
kind_from profile drv outputs only (Ok kind) here is named says h = search (rules, fixed_has_kind)
kind_from profile drv outputs only (Err fault) here is named says h = search (rules, fixed_fault)

-- ---- one kind

-- an algorithm's name has no mark
name_unmarked : (algorithm : Algorithm) → is_marked (name_of algorithm) ≡ false
name_unmarked Md5 = refl
name_unmarked Sha1 = refl
name_unmarked Sha256 = refl
name_unmarked Sha512 = refl

-- method and algorithm are told by their spelling
one_spelling : (m n : Method) (a b : Algorithm) → mark_of m ++ name_of a ≡ mark_of n ++ name_of b
    → (m ≡ n) × (a ≡ b)
one_spelling Flat Flat a b same = (refl, one_name a b same)
one_spelling Flat Recursive a b same =
    let marked = ap is_marked same in
    cc (name_unmarked a)
one_spelling Recursive Flat a b same =
    let marked = ap is_marked same in
    cc (name_unmarked b)
one_spelling Recursive Recursive a b same =
    let rest : name_of a ≡ name_of b = cc in
    (refl, one_name a b rest)

some_name : (algorithm : Algorithm) → name_of algorithm ≡ [] → ⊥
some_name Md5 e = cc
some_name Sha1 e = cc
some_name Sha256 e = cc
some_name Sha512 e = cc

some_method : (m : Method) (digest : Digest) → algo_of m digest ≡ [] → ⊥
some_method Flat digest e = some_name _ e
some_method Recursive digest e = cc

not_both : (drv : Drv) (method : Method) (digest : Digest) → All IsAddressed drv.outputs
    → HasKind drv (Fixed method digest) → ⊥
not_both drv method digest each (output, only, fixed) =
    let addressed = All-contains IsAddressed _ _ each
    (subst (λ (os : List Output). Contains os output) (sym only.0) (Contains-first _ []))
    in
    some_method _ _ (sym fixed.0 ∙ addressed.0)

-- an output is fixed by one method and digest
one_fixed : (o : Output) (m m' : Method) (d d' : Digest) → IsFixed o m d → IsFixed o m' d'
    → Fixed m d ≡ Fixed m' d'
one_fixed o m m' d d' fixed fixed' =
    let method = one_spelling m m' _ _ (sym fixed.0 ∙ fixed'.0) in
    let digest : d ≡ d' = one_digest d d' fixed.2 fixed'.2 method.1 (sym fixed.1 ∙ fixed'.1) in
    ap (λ (k : Method). Fixed k d) method.0 ∙ ap (λ (e : Digest). Fixed m' e) digest

pub one_kind : (drv : Drv) (a b : Kind) → HasKind drv a → HasKind drv b → a ≡ b
one_kind drv Addressed Addressed is_a is_b = refl
one_kind drv Addressed (Fixed method digest) is_a is_b = search (rules, not_both)
one_kind drv (Fixed method digest) Addressed is_a is_b = search (rules, not_both)
one_kind drv (Fixed m d) (Fixed m' d') (o, only, fixed) (o', only', fixed') =
    let lists : o ∷ [] ≡ o' ∷ [] = sym only.0 ∙ only'.0 in
    let same : o ≡ o' = cc in
    one_fixed o m m' d d' fixed
    (subst (λ (p : Output). IsFixed p m' d') (sym same) fixed')
