-- The parts of the check of outputs, one after the other.
use Rattle.std.proofs.Common.{◌≡◌, ◌+◌, ◌<◌, ℕ, zero, suc, Bool, true, false, List, [], ◌∷◌, ◌++◌, add-one, append-nil, append_assoc, get_or, length, take, drop, map, Some, inl, inr, sym, ap, subst, ◌∙◌, arith, rules}
use Rattle.std.specs.Prelude.{All, Contains, IfOk, Result, Ok, Err}
use Rattle.std.specs.List.{slice_get}
use Rattle.std.proofs.lemmas.Bool.{cases_lt}
use Rattle.std.proofs.lemmas.List.Elements.{All-append}
use Rattle.std.proofs.lemmas.Option.{get_or_from_slice_get, same_Some, slice_get-map, slice_get_within, slice_get-get_or}
use Rattle.nix_names.specs.Firsts.{IsFirstWhere}
use Rattle.nix_names.proofs.FirstElements.{first_within}
use Rattle.nix_drv.specs.Derivation.{Drv, EnvEntry, Input, Output}
use Rattle.drv_graph.specs.private.Checking.{AreExpected, EntriesFit, FitBefore, FitsExpected, HasMisfit, IsEnvFault, IsEnvMismatch, IsFirstPair, IsKindFault, IsMismatch, IsNameFault, IsPathFault, IsSoundCheck, IsUnknownOutput, IsUseFault, IsValueFault, PathFits}
use Rattle.drv_graph.specs.Expected.{IsExpected}
use Rattle.drv_graph.specs.private.ExpectedPaths.{IsMaskedDigest, output_path}
use Rattle.drv_graph.specs.private.UsedInputs.{uses_of}
use Rattle.drv_graph.specs.declared.kinds.Kind.TheVariants.{Addressed}
use Rattle.nix_names.specs.Rising.{IsRising}
use Rattle.nix_names.proofs.RisingLists.{not_below_itself, sorted_from_rising}
use Rattle.std.specs.Prelude.{Vec}
use Rattle.std.specs.Bool.{MatchBool}
use Rattle.std.specs.Option.{option_map}
use Rattle.std.specs.Cmp.Lexicographic.{slice_cmp}
use Rattle.std.specs.Ordering.{nat_cmp}
use Rattle.std.specs.declared.cmp.Ordering.TheVariants.{Less}
use Rattle.std.specs.declared.alloc.AllocError.{AllocError}
use Rattle.std.specs.declared.alloc.Global.{Global}
use Rattle.std.proofs.lemmas.Map.Keys.{Less-from_sorted}
use Rattle.drv_graph.specs.Kinds.{HasKind, Takes}
use Rattle.drv_graph.specs.Outputs.{AreSound, HasOtherEntry, IsKnownUse, IsOutputsCheck, IsWellNamed, PathsFit, Use, uses}
use Rattle.drv_graph.specs.declared.kinds.Kind.{Kind}
use Rattle.drv_graph.specs.declared.fault.OutputFault.{OutputFault}
use Rattle.drv_graph.specs.declared.fault.OutputFault.TheVariants.{NoMemory, MixedOutputs, UnknownMethod, BadName, UnknownOutput, OutputMismatch, EnvMismatch}
use Rattle.drv_graph.proofs.KindAnswers.{kind_not_mixed}
use Rattle.drv_graph.proofs.Loops.{beside, zipped_from_map, slice_get-take}
use Rattle.drv_graph.proofs.OneText.{one_path}
use Rattle.nix_names.proofs.Lists.{Contains-from_get, Contains-map, get_from_contains, split_get}
use Rattle.drv_graph.specs.declared.profile.Profile.{Profile}

-- ---- kind, names and uses

pub kind_is_sound : (profile : Profile) (name : List ℕ) (drv : Drv) (used : List Drv)
    (fault : OutputFault)
    → IsKindFault profile drv fault → IsSoundCheck profile name drv used (Err fault)
kind_is_sound profile name drv used NoMemory h = h
kind_is_sound profile name drv used MixedOutputs h = h
kind_is_sound profile name drv used (UnknownMethod output) h = h
kind_is_sound profile name drv used BadName h = absurd h
kind_is_sound profile name drv used (UnknownOutput input output) h = absurd h
kind_is_sound profile name drv used (OutputMismatch output expected) h = h
kind_is_sound profile name drv used (EnvMismatch output) h = h

pub name_is_sound : (profile : Profile) (name : List ℕ) (drv : Drv) (used : List Drv) (kind : Kind)
    (outputs : List Output) (fault : OutputFault) → HasKind drv kind → Takes profile kind
    → outputs ≡ drv.outputs → IsNameFault name outputs fault → IsSoundCheck profile name drv used
    (Err fault)
name_is_sound profile name drv used kind outputs NoMemory is taken same h = kind_not_mixed drv _ is
name_is_sound profile name drv used kind outputs BadName is taken same h = search rules
name_is_sound profile name drv used kind outputs MixedOutputs is taken same h = absurd h
name_is_sound profile name drv used kind outputs (UnknownMethod output) is taken same h = absurd h
name_is_sound profile name drv used kind outputs
    (UnknownOutput input output) is taken same h = absurd h
name_is_sound profile name drv used kind outputs
    (OutputMismatch output expected) is taken same h = h
name_is_sound profile name drv used kind outputs (EnvMismatch output) is taken same h = h

pub use_is_sound : (profile : Profile) (name : List ℕ) (drv : Drv) (used : List Drv) (kind : Kind)
    (outputs : List Output) (inputs : List Input) (fault : OutputFault) → HasKind drv kind
    → Takes profile kind → outputs ≡ drv.outputs
    → All (IsWellNamed name) outputs → inputs ≡ drv.inputs → IsUseFault (uses inputs used) fault
    → IsSoundCheck profile name drv used (Err fault)
use_is_sound profile name drv used kind outputs inputs NoMemory is taken same named here h =
    kind_not_mixed drv kind is
use_is_sound profile name drv used kind outputs inputs
    (UnknownOutput input output) is taken same named here h =
    search rules
use_is_sound profile name drv used kind outputs inputs MixedOutputs is taken same named here h =
    absurd h
use_is_sound profile name drv used kind outputs inputs
    (UnknownMethod output) is taken same named here h =
    absurd h
use_is_sound profile name drv used kind outputs inputs BadName is taken same named here h = absurd h
use_is_sound profile name drv used kind outputs inputs
    (OutputMismatch output expected) is taken same named here
    h = h
use_is_sound profile name drv used kind outputs inputs
    (EnvMismatch output) is taken same named here h = h

pub all_sound : {profile : Profile} (name : List ℕ) (drv : Drv) (used : List Drv) (kind : Kind)
    (outputs : List Output)
    (inputs : List Input) → HasKind drv kind → Takes profile kind → outputs ≡ drv.outputs
    → All (IsWellNamed name) outputs → inputs ≡ drv.inputs → All IsKnownUse (uses inputs used)
    → AreSound profile name drv used kind
all_sound name drv used kind outputs inputs is taken same named here known = record {
  has_kind = is;
  taken = taken;
  named = subst (λ (os : List Output). All (IsWellNamed name) os) same named;
  known = subst (λ (is : List Input). All IsKnownUse (uses is used)) here known;
}

-- ---- uses

pub unknown_use : (all : List Use) (u : Use) (fault : OutputFault)
    → IsFirstWhere (λ (other : Use). IsKnownUse other → ⊥) all u
    → IsUnknownOutput u.input u.output fault
    → IsUseFault all fault
unknown_use all u (UnknownOutput input output) first h = (u, first, h.0, h.1)
unknown_use all u NoMemory first h = absurd h
unknown_use all u MixedOutputs first h = h
unknown_use all u (UnknownMethod output) first h = h
unknown_use all u BadName first h = h
unknown_use all u (OutputMismatch output expected) first h = h
unknown_use all u (EnvMismatch output) first h = h

-- ---- values

-- one pair more fits
pub fit_more : (Fits : Output → List ℕ → Type 0) (outputs : List Output) (paths : List (List ℕ))
    (i : ℕ) (o : Output) (path : List ℕ)
    → slice_get outputs i ≡ Some o → slice_get paths i ≡ Some path → FitBefore Fits outputs paths i
    → Fits o path → FitBefore Fits outputs paths (i + 1)
fit_more Fits outputs paths i o path at_o at_path before here k p q below at_p at_q =
    search (rules, cases_lt, same_Some)

pub mismatch : (in_draft : Bool) (outputs : List Output) (paths : List (List ℕ)) (i : ℕ)
    (o : Output) (path : List ℕ) (fault : OutputFault)
    → slice_get outputs i ≡ Some o → slice_get paths i ≡ Some path
    → FitBefore (PathFits in_draft) outputs paths i → (PathFits in_draft o path → ⊥)
    → IsMismatch o.name path fault → IsPathFault in_draft outputs paths fault
mismatch in_draft outputs paths i o path (OutputMismatch output expected) at_o at_path before wrong
    h = search rules
mismatch in_draft outputs paths i o path NoMemory at_o at_path before wrong h = tt
mismatch in_draft outputs paths i o path MixedOutputs at_o at_path before wrong h = h
mismatch in_draft outputs paths i o path (UnknownMethod output) at_o at_path before wrong h = h
mismatch in_draft outputs paths i o path BadName at_o at_path before wrong h = h
mismatch in_draft outputs paths i o path (UnknownOutput input output) at_o at_path before wrong h =
    h
mismatch in_draft outputs paths i o path (EnvMismatch output) at_o at_path before wrong h = h

pub path_is_value : (in_draft : Bool) (drv : Drv) (outputs : List Output) (paths : List (List ℕ))
    (fault : OutputFault) → outputs ≡ drv.outputs → IsPathFault in_draft outputs paths fault
    → IsValueFault in_draft drv paths fault
path_is_value in_draft drv outputs paths (OutputMismatch output expected) same h = search rules
path_is_value in_draft drv outputs paths NoMemory same h = tt
path_is_value in_draft drv outputs paths MixedOutputs same h = h
path_is_value in_draft drv outputs paths (UnknownMethod output) same h = h
path_is_value in_draft drv outputs paths BadName same h = h
path_is_value in_draft drv outputs paths (UnknownOutput input output) same h = h
path_is_value in_draft drv outputs paths (EnvMismatch output) same h = absurd h

pub env_is_value : (in_draft : Bool) (drv : Drv) (paths : List (List ℕ)) (fault : OutputFault)
    → FitBefore (PathFits in_draft) drv.outputs paths (length drv.outputs)
    → IsEnvFault in_draft drv.env drv.outputs paths fault → IsValueFault in_draft drv paths fault
env_is_value in_draft drv paths (EnvMismatch output) fit h = (fit, h)
env_is_value in_draft drv paths NoMemory fit h = tt
env_is_value in_draft drv paths MixedOutputs fit h = h
env_is_value in_draft drv paths (UnknownMethod output) fit h = h
env_is_value in_draft drv paths BadName fit h = h
env_is_value in_draft drv paths (UnknownOutput input output) fit h = h
env_is_value in_draft drv paths (OutputMismatch output expected) fit h = absurd h

-- ---- all of them

module _ (in_draft : Bool) (dir name : List ℕ) (kind : Kind) (drv : Drv) (hashes : List (List ℕ))
    (paths : List (List ℕ)) (expected : AreExpected dir name kind drv hashes paths) where
  abbrev Expected : Output → List ℕ → Type 0
  Expected = IsExpected dir name kind drv hashes

  -- the expected path of an output at an index is the one beside it
  at_index : (k : ℕ) (o : Output) → slice_get drv.outputs k ≡ Some o → (path : List ℕ)
      × (slice_get paths k ≡ Some path) × Expected o path
  at_index k o at = search (rules, beside)

  pub paths_fit : FitBefore (PathFits in_draft) drv.outputs paths (length drv.outputs)
      → PathsFit (FitsExpected in_draft) Expected drv
  paths_fit fit k d below =
      let at = slice_get-get_or _ k d below in
      let found = at_index k _ at in
      (found.0, found.2, fit k (get_or drv.outputs k d) found.0 below at found.1)

  no_other : (k : ℕ) (o : Output) → slice_get drv.outputs k ≡ Some o
      → FitBefore (EntriesFit in_draft drv.env) drv.outputs paths (k + 1)
      → HasOtherEntry (FitsExpected in_draft) Expected drv o → ⊥
  no_other k o at fit (entry, path, has, key, is, misfit) = search (rules, at_index, one_path)

  pub entries_fit : FitBefore (EntriesFit in_draft drv.env) drv.outputs paths (length drv.outputs)
      → All (λ o. HasOtherEntry (FitsExpected in_draft) Expected drv o → ⊥) drv.outputs
  entries_fit fit k d below = search (rules, no_other, slice_get-get_or)

  pub first_mismatch : (o : Output) (path : List ℕ)
      → IsFirstPair (PathFits in_draft) (λ p q. PathFits in_draft p q → ⊥) drv.outputs paths o path
      → IsFirstWhere (λ (p : Output). (q : List ℕ) × Expected p q
      × (FitsExpected in_draft p.path q → ⊥))
      drv.outputs o × Expected o path
  first_mismatch o path pair =
      let found = at_index _ o pair.is_output in
      let one : found.0 ≡ path = same_Some found.0 path (sym found.1 ∙ pair.is_path) in
      let here : Expected o path = subst (λ (q : List ℕ). Expected o q) one found.2 in (
        record {
          before = take pair.index drv.outputs;
          after = drop (suc pair.index) drv.outputs;
          parts = split_get _ _ o pair.is_output;
          is = (path, here, pair.wrong);
          others = λ k d below (q, is, misfit).
              let at = slice_get-take _ _ k
              _
              (slice_get-get_or _ k d below) in
              let beside_it = at_index k _ at.1 in
              let same : q ≡ beside_it.0 = one_path _ _ _ _ _
              _ q _ is beside_it.2 in
              misfit (subst
              (λ (r : List ℕ). FitsExpected in_draft (get_or (take pair.index drv.outputs) k d).path
              r) (sym same)
              (pair.before k (get_or (take pair.index drv.outputs) k d) beside_it.0 at.0 at.1
              beside_it.1));
        },
        here,
      )

  pub first_other : (o : Output) (path : List ℕ)
      → IsFirstPair (EntriesFit in_draft drv.env) (λ p q. HasMisfit in_draft drv.env p.name q)
      drv.outputs paths o path
      → IsFirstWhere (HasOtherEntry (FitsExpected in_draft) Expected drv) drv.outputs o
  first_other o path pair =
      let found = at_index _ o pair.is_output in
      let one : found.0 ≡ path = same_Some found.0 path (sym found.1 ∙ pair.is_path) in
      let here : Expected o path = subst (λ (q : List ℕ). Expected o q) one found.2 in
      record {
        before = take pair.index drv.outputs;
        after = drop (suc pair.index) drv.outputs;
        parts = split_get _ _ o pair.is_output;
        is = (pair.wrong.0, path, pair.wrong.1, pair.wrong.2, here, pair.wrong.3);
        others = λ k d below.
            let at = slice_get-take _ _ k
            _
            (slice_get-get_or _ k d below) in
            no_other k _ at.1
            (λ j p q before. pair.before j p q (omega (arith, before, at.0)));
      }

  -- what is wrong with the values is what the check answers
  pub value_is_checked : {profile : Profile} (used : List Drv) (fault : OutputFault)
      → AreSound profile name drv used kind
      → IsValueFault in_draft drv paths fault
      → IsOutputsCheck (FitsExpected in_draft) profile dir name drv used hashes (Err fault)
  value_is_checked used (OutputMismatch output path) sound (o, pair, is) =
      let first = first_mismatch o _ pair in (kind, sound, (o, first.0, first.1, is))
  value_is_checked used (EnvMismatch output) sound (fit, (o, path, pair, is)) =
      search (rules, paths_fit, first_other)
  value_is_checked used NoMemory sound h = kind_not_mixed drv _ sound.has_kind
  value_is_checked used MixedOutputs sound h = absurd h
  value_is_checked used (UnknownMethod output) sound h = absurd h
  value_is_checked used BadName sound h = absurd h
  value_is_checked used (UnknownOutput input output) sound h = absurd h

  -- a check that finds nothing
  pub all_right : {profile : Profile} (used : List Drv) → AreSound profile name drv used kind
      → FitBefore (PathFits in_draft) drv.outputs paths (length drv.outputs)
      → FitBefore (EntriesFit in_draft drv.env) drv.outputs paths (length drv.outputs)
      → IsOutputsCheck (FitsExpected in_draft) profile dir name drv used hashes (Ok kind)
  all_right used sound fit entries = (sound, paths_fit fit, entries_fit entries)

-- what holds anyway holds where a call succeeds
pub on_ok : {T E : Type 0} (P : Type 0) (answer : Result T E) → P → IfOk answer (λ _. P)
on_ok P (Ok value) holds = holds
on_ok P (Err fault) holds = tt

pub addressed_from : (dir name inner : List ℕ) (drv : Drv) (hashes : List (List ℕ))
    (outputs : List Output) (answer : Result (Vec (List ℕ) Global) AllocError)
    → IsMaskedDigest drv hashes inner → outputs ≡ drv.outputs
    → IfOk answer (λ paths. paths.items ≡ map (output_path dir name inner) outputs)
    → IfOk answer (λ paths. AreExpected dir name Addressed drv hashes paths.items)
addressed_from dir name inner drv hashes outputs (Err refused) digest same are = tt
addressed_from dir name inner drv hashes outputs (Ok paths) digest same are =
    search (rules, zipped_from_map)

-- ---- uses of several inputs

pub uses_split : (inputs : List Input) (drvs : List Drv) (i : ℕ) (x : Input) (d : Drv)
    → slice_get inputs i ≡ Some x → slice_get drvs i ≡ Some d
    → (after : List Use)
    × (uses inputs drvs ≡ uses (take i inputs) (take i drvs)
    ++ (uses_of x.path d x.names ++ after))
uses_split [] drvs i x d at_x at_d = absurd cc
uses_split (y ∷ ys) [] i x d at_x at_d = absurd cc
uses_split (y ∷ ys) (e ∷ es) zero x d at_x at_d =
    let one : y ≡ x = cc in
    let other : e ≡ d = cc in (
      uses ys es,
      ap (λ (z : Input). uses_of z.path e z.names ++ uses ys es) one
          ∙ ap (λ (f : Drv). uses_of x.path f x.names ++ uses ys es) other,
    )
uses_split (y ∷ ys) (e ∷ es) (suc i) x d at_x at_d =
    search (rules, append_assoc, uses_split ys es i x d at_x at_d)

uses_next : (inputs : List Input) (drvs : List Drv) (i : ℕ) (x : Input) (d : Drv)
    → slice_get inputs i ≡ Some x → slice_get drvs i ≡ Some d
    → uses (take (suc i) inputs) (take (suc i) drvs) ≡ uses (take i inputs) (take i drvs)
    ++ uses_of x.path d x.names
uses_next [] drvs i x d at_x at_d = absurd cc
uses_next (y ∷ ys) [] i x d at_x at_d = absurd cc
uses_next (y ∷ ys) (e ∷ es) zero x d at_x at_d = search (rules, append-nil)
uses_next (y ∷ ys) (e ∷ es) (suc i) x d at_x at_d =
    search (rules, append_assoc, uses_next ys es i x d at_x at_d)

pub known_more : (inputs : List Input) (drvs : List Drv) (i : ℕ) (x : Input) (d : Drv)
    → slice_get inputs i ≡ Some x → slice_get drvs i ≡ Some d
    → All IsKnownUse (uses (take i inputs) (take i drvs))
    → All IsKnownUse (uses_of x.path d x.names)
    → All IsKnownUse (uses (take (i + 1) inputs) (take (i + 1) drvs))
known_more inputs drvs i x d at_x at_d before here =
    subst (λ (n : ℕ). All IsKnownUse (uses (take n inputs) (take n drvs))) (sym (add-one i))
    (subst (λ (us : List Use). All IsKnownUse us) (sym (uses_next _ _ i x d at_x at_d))
    (All-append IsKnownUse _ _
    before here))

use_fault_within : (before middle after : List Use) (fault : OutputFault) → All IsKnownUse before
    → IsUseFault middle fault → IsUseFault (before ++ (middle ++ after)) fault
use_fault_within before middle after (UnknownOutput input output) known (u, first, a, b) =
    search (rules, first_within)
use_fault_within before middle after NoMemory known h = tt
use_fault_within before middle after MixedOutputs known h = h
use_fault_within before middle after (UnknownMethod output) known h = h
use_fault_within before middle after BadName known h = h
use_fault_within before middle after (OutputMismatch output expected) known h = h
use_fault_within before middle after (EnvMismatch output) known h = h

pub use_fault_at : (inputs : List Input) (drvs : List Drv) (i : ℕ) (x : Input) (d : Drv)
    (fault : OutputFault) → slice_get inputs i ≡ Some x → slice_get drvs i ≡ Some d
    → All IsKnownUse (uses (take i inputs) (take i drvs))
    → IsUseFault (uses_of x.path d x.names) fault → IsUseFault (uses inputs drvs) fault
use_fault_at inputs drvs i x d fault at_x at_d before here =
    search (rules, uses_split, use_fault_within)

-- ---- entries under a name

indices_one : (keys : List (List ℕ)) (i j : ℕ) (key : List ℕ) → IsRising keys → slice_get keys i
    ≡ Some key → slice_get keys j ≡ Some key → i < j → ⊥
indices_one keys i j key rises at_i at_j before =
    let less : slice_cmp nat_cmp (get_or keys i []) (get_or keys j [])
    ≡ Less = Less-from_sorted (slice_cmp nat_cmp) _ i j [] (sorted_from_rising _ rises)
    before (slice_get_within keys j key at_j) in
    let here : slice_cmp nat_cmp key key ≡ Less =
    rw (get_or_from_slice_get _ i _ [] at_i, get_or_from_slice_get _ j _ [] at_j) at
    less in
    not_below_itself key here

one_entry : (env : List EnvEntry) (i j : ℕ) (a b : EnvEntry)
    → IsRising (map (λ (e : EnvEntry). e.key) env) → slice_get env i ≡ Some a → slice_get env j
    ≡ Some b → a.key ≡ b.key → a ≡ b
one_entry env i j a b rises at_a at_b same =
    let keys = map (λ (e : EnvEntry). e.key) env in
    let key_a : slice_get keys i ≡ Some a.key = slice_get-map (λ (e : EnvEntry). e.key) env i
    ∙ ap (option_map (λ (e : EnvEntry). e.key)) at_a in
    let key_b : slice_get keys j ≡ Some a.key = slice_get-map (λ (e : EnvEntry). e.key) env j
    ∙ ap (option_map (λ (e : EnvEntry). e.key)) at_b ∙ ap (λ (k : List ℕ). Some k) (sym same) in
    elim (cases_lt i j) [
      | inl before ↦ absurd (indices_one _ i j _ rises key_a key_b before)
      | inr not_before ↦ elim (cases_lt j i) [
        | inl later ↦ absurd (indices_one _ j i _ rises key_b key_a later)
        | inr not_after ↦
            let index : i ≡ j = omega arith in
            same_Some a b (sym at_a ∙ ap (λ (n : ℕ). slice_get env n) index ∙ at_b)
      ]
    ]

pub entry_answer : (in_draft : Bool) (env : List EnvEntry) (name path : List ℕ) (answer : Bool)
    (index : ℕ) (entry : EnvEntry) → IsRising (map (λ (e : EnvEntry). e.key) env)
    → slice_get (map (λ (e : EnvEntry). e.key) env) index ≡ Some name → slice_get env index
    ≡ Some entry → MatchBool answer (FitsExpected in_draft entry.value path)
    (FitsExpected in_draft entry.value path → ⊥)
    → MatchBool answer (HasMisfit in_draft env name path → ⊥) (HasMisfit in_draft env name path)
entry_answer in_draft env name path true index entry rises at_key at fits =
    λ (other, has, key, misfit).
    let found = get_from_contains _ _ has in
    let here : Some entry.key ≡ Some name = sym
    (slice_get-map (λ (e : EnvEntry). e.key) env index
    ∙ ap (option_map (λ (e : EnvEntry). e.key)) at) ∙ at_key in
    let same : other ≡ entry = one_entry _ _ _ _ _ rises found.1 at
    (key ∙ sym (same_Some entry.key name here)) in
    misfit (subst (λ (e : EnvEntry). FitsExpected in_draft e.value path) (sym same) fits)
entry_answer in_draft env name path false index entry rises at_key at fits =
    search (rules, slice_get-map, Contains-from_get, same_Some)

-- outputs that fit, seen otherwise
pub fit_moved : (Fits : Output → List ℕ → Type 0) (outputs others : List Output)
    (paths : List (List ℕ)) (n m : ℕ) → outputs ≡ others → n ≡ m → FitBefore Fits outputs paths n
    → FitBefore Fits others paths m
fit_moved Fits outputs others paths n m same long fit = search rules

pub env_mismatch : (in_draft : Bool) (env : List EnvEntry) (outputs : List Output)
    (paths : List (List ℕ)) (i : ℕ) (o : Output) (path : List ℕ) (fault : OutputFault)
    → slice_get outputs i ≡ Some o → slice_get paths i ≡ Some path
    → FitBefore (EntriesFit in_draft env) outputs paths i → HasMisfit in_draft env o.name path
    → IsEnvMismatch o.name fault → IsEnvFault in_draft env outputs paths fault
env_mismatch in_draft env outputs paths i o path (EnvMismatch output) at_o at_path before wrong
    h = search rules
env_mismatch in_draft env outputs paths i o path NoMemory at_o at_path before wrong h = tt
env_mismatch in_draft env outputs paths i o path MixedOutputs at_o at_path before wrong h = h
env_mismatch in_draft env outputs paths i o path (UnknownMethod output) at_o at_path before wrong
    h = h
env_mismatch in_draft env outputs paths i o path BadName at_o at_path before wrong h = h
env_mismatch in_draft env outputs paths i o path (UnknownOutput input output) at_o at_path before
    wrong h = h
env_mismatch in_draft env outputs paths i o path (OutputMismatch output expected) at_o at_path
    before wrong h = h

-- where no entry has a key, none misfits
pub no_misfit : (in_draft : Bool) (env : List EnvEntry) (key name path : List ℕ)
    → (Contains (map (λ (e : EnvEntry). e.key) env) key → ⊥) → key ≡ name
    → HasMisfit in_draft env name path → ⊥
no_misfit in_draft env key name path none same (entry, has, is, misfit) =
    none (subst (λ (k : List ℕ). Contains (map (λ (e : EnvEntry). e.key) env) k) (is ∙ sym same)
    (Contains-map (λ (e : EnvEntry). e.key) _ _ has))
