-- Where the closure of an output begins, by marks of the outputs' paths.
use Rattle.std.proofs.Common.{◌≡◌, ◌∙◌, ◌↔◌, inl, inr, ⊎_elim, ℕ, ◌+◌, Bool, true, false, List, [], ◌∷◌, ◌++◌, length, Some, nat_eq, sym, ap, subst, arith}
use Rattle.std.specs.Prelude.{Contains, IfOk, IsTrue, Result, Ok, Err}
use Rattle.std.specs.Cmp.Lexicographic.{pointwise}
use Rattle.std.specs.Global.{Vec}
use Rattle.std.specs.List.{IsDistinct, slice_get}
use Rattle.std.proofs.lemmas.Bool.{false≢true}
use Rattle.std.proofs.Math.Nat.{eq-or-lt_of_le}
use Rattle.std.proofs.lemmas.List.Elements.{Contains-append_left, Contains-push, Contains-push_cases}
use Rattle.std.proofs.lemmas.Option.{slice_get_within}
use Rattle.drv_graph.specs.Plans.{LeadsBy}
use Rattle.nix_names.specs.Rising.{IsRising}
use Rattle.valid_table.specs.PathInfos.{PathInfo}
use Rattle.build_outcome.specs.Checks.{AreRootsOf, LeadsAmong}
use Rattle.build_outcome.specs.Verdicts.{OutputRefersTo, outputs_of}
use Rattle.build_outcome.specs.declared.checks.roots.OutputRoots.{OutputRoots}
use Rattle.build_outcome.specs.declared.job.Job.{Job}
use Rattle.build_outcome.specs.private.Linking.{AreEachOnce, AreLinks, HaveLinks}
use Rattle.build_outcome.specs.private.Reaching.{AreReached}
use Rattle.build_outcome.specs.private.RootPaths.{AddsOutside, IsMetPath, RefersOut}
use Rattle.build_outcome.specs.private.Walking.{Goes, goes_nowhere, goes_on}
use Rattle.build_outcome.proofs.Cycles.{goes_leads, linked_by}
use Rattle.build_outcome.proofs.Linkages.{same_key}
use Rattle.nix_names.proofs.Lists.{Contains-from_get, Contains-nothing, same_element}

-- ---- the outputs that are met

-- what the mark at a path's index tells
pub met_told : (keys : List (List ℕ)) (marks : List Bool) (path : List ℕ) (index : ℕ)
    (value : Bool) → IsDistinct (pointwise nat_eq) keys → slice_get keys index ≡ Some path
    → slice_get marks index ≡ Some value → IsTrue value ↔ IsMetPath keys marks path
met_told keys marks path index value distinct at here = (
  λ is. (index, at, here ∙ ap Some is),
  λ h.
      let same : h.0 ≡ index = same_key keys distinct h.0 index path h.1 at in
      let marked : slice_get marks index ≡ Some true =
      subst (λ k. slice_get marks k ≡ Some true) same h.2 in
      let clash : Some value ≡ Some true = sym here ∙ marked in cc,
)

pub not_met : (keys : List (List ℕ)) (marks : List Bool) (path : List ℕ)
    → (Contains keys path → ⊥) → IsTrue false ↔ IsMetPath keys marks path
not_met keys marks path none = (
  λ is. absurd (false≢true is),
  λ h. absurd (none (Contains-from_get keys h.0 path h.1)),
)

-- those of some outputs that are met
abbrev pub AreMet : (outputs keys : List (List ℕ)) → List Bool → (met : List (List ℕ)) → Type 0
AreMet outputs keys marks met = (path : List ℕ) → Contains met path
    ↔ (Contains outputs path × IsMetPath keys marks path)

pub met_none : (keys : List (List ℕ)) (marks : List Bool) (met : List (List ℕ)) → met ≡ []
    → AreMet [] keys marks met
met_none keys marks met none path = (
  λ has. absurd (Contains-nothing path (subst (λ (l : List (List ℕ)). Contains l path) none has)),
  λ h. absurd (Contains-nothing path h.0),
)

pub met_more : (outputs keys : List (List ℕ)) (marks : List Bool) (met : List (List ℕ))
    (output : List ℕ) → AreMet outputs keys marks met → IsMetPath keys marks output
    → AreMet (outputs ++ output ∷ []) keys marks (met ++ output ∷ [])
met_more outputs keys marks met output was is path = (
  λ has. ⊎_elim
      (λ earlier. let h = (was path).0 earlier in (Contains-append_left _ _ _ h.0, h.1))
      (λ e. (
        subst (Contains (outputs ++ output ∷ [])) e (Contains-push _ _),
        subst (IsMetPath keys marks) e is,
      ))
      (Contains-push_cases _ _ _ has),
  λ h. ⊎_elim
      (λ earlier. Contains-append_left _ _ _ ((was path).1 (earlier, h.1)))
      (λ e. subst (Contains (met ++ output ∷ [])) e (Contains-push _ _))
      (Contains-push_cases _ _ _ h.0),
)

pub met_other : (outputs keys : List (List ℕ)) (marks : List Bool) (met : List (List ℕ))
    (output : List ℕ) → AreMet outputs keys marks met → (IsMetPath keys marks output → ⊥)
    → AreMet (outputs ++ output ∷ []) keys marks met
met_other outputs keys marks met output was not path = (
  λ has. let h = (was path).0 has in (Contains-append_left _ _ _ h.0, h.1),
  λ h. ⊎_elim
      (λ earlier. (was path).1 (earlier, h.1))
      (λ e. absurd (not (subst (IsMetPath keys marks) (sym e) h.1)))
      (Contains-push_cases _ _ _ h.0),
)

-- ---- references that are no keys

pub adds_nothing : (keys old : List (List ℕ)) → AddsOutside keys [] old old
adds_nothing keys old path =
    (inl, λ h. ⊎_elim (λ has. has) (λ new. absurd (Contains-nothing path new.0)) h)

pub adds_outside : (keys references old now : List (List ℕ)) (reference : List ℕ)
    → AddsOutside keys references old now → (Contains keys reference → ⊥)
    → AddsOutside keys (references ++ reference ∷ []) old (now ++ reference ∷ [])
adds_outside keys references old now reference was none path = (
  λ has. ⊎_elim
      (λ earlier. ⊎_elim inl (λ new. inr (Contains-append_left _ _ _ new.0, new.1))
      ((was path).0 earlier))
      (λ e. inr (
        subst (Contains (references ++ reference ∷ [])) e (Contains-push _ _),
        λ key. none (subst (Contains keys) (sym e) key),
      ))
      (Contains-push_cases _ _ _ has),
  λ h. ⊎_elim
      (λ has. Contains-append_left _ _ _ ((was path).1 (inl has)))
      (λ new. ⊎_elim
      (λ earlier. Contains-append_left _ _ _ ((was path).1 (inr (earlier, new.1))))
      (λ e. subst (Contains (now ++ reference ∷ [])) e (Contains-push _ _))
      (Contains-push_cases _ _ _ new.0))
      h,
)

pub adds_no_key : (keys references old now : List (List ℕ)) (reference : List ℕ)
    → AddsOutside keys references old now → Contains keys reference
    → AddsOutside keys (references ++ reference ∷ []) old now
adds_no_key keys references old now reference was key path = (
  λ has. ⊎_elim inl (λ new. inr (Contains-append_left _ _ _ new.0, new.1)) ((was path).0 has),
  λ h. ⊎_elim
      (λ has. (was path).1 (inl has))
      (λ new. ⊎_elim
      (λ earlier. (was path).1 (inr (earlier, new.1)))
      (λ e. absurd (new.1 (subst (Contains keys) e key)))
      (Contains-push_cases _ _ _ new.0))
      h,
)

-- ---- what the outputs that are met refer to

-- the paths that are no keys, and to which the first `count` outputs refer, where they are met
abbrev pub AreOutside : (outputs : List (List ℕ)) → List PathInfo → (keys : List (List ℕ))
    → List Bool → (count : ℕ) → (outside : List (List ℕ)) → Type 0
AreOutside outputs infos keys marks count outside = (path : List ℕ) → Contains outside path
    ↔ RefersOut outputs infos keys marks count path

pub outside_none : (outputs : List (List ℕ)) (infos : List PathInfo) (keys : List (List ℕ))
    (marks : List Bool) (outside : List (List ℕ)) → outside ≡ []
    → AreOutside outputs infos keys marks 0 outside
outside_none outputs infos keys marks outside nothing path = (
  λ has. absurd (Contains-nothing path
      (subst (λ (l : List (List ℕ)). Contains l path) nothing has)),
  λ h. let low = h.3 in absurd (omega arith),
)

widened : (outputs : List (List ℕ)) (infos : List PathInfo) (keys : List (List ℕ))
    (marks : List Bool) (count : ℕ) (path : List ℕ)
    → RefersOut outputs infos keys marks count path
    → RefersOut outputs infos keys marks (count + 1) path
widened outputs infos keys marks count path (n, output, info, low, at, info_at, met, has, none) =
    (n, output, info, omega (arith, low), at, info_at, met, has, none)

pub outside_more : (outputs : List (List ℕ)) (infos : List PathInfo) (keys : List (List ℕ))
    (marks : List Bool) (count : ℕ) (output : List ℕ) (info : PathInfo)
    (outside after : List (List ℕ)) → AreOutside outputs infos keys marks count outside
    → slice_get outputs count ≡ Some output → slice_get infos count ≡ Some info
    → IsMetPath keys marks output → AddsOutside keys info.references outside after
    → AreOutside outputs infos keys marks (count + 1) after
outside_more outputs infos keys marks count output info outside after was at info_at met adds path = (
  λ has. ⊎_elim
      (λ earlier. widened outputs infos keys marks count path ((was path).0 earlier))
      (λ new. (count, output, info, omega arith, at, info_at, met, new.0, new.1))
      ((adds path).0 has),
  back,
)
  where
    back : RefersOut outputs infos keys marks (count + 1) path → Contains after path
    back (n, output', info', low, at', info_at', met', has, none) = ⊎_elim
        (λ e.
        let same : info' ≡ info = same_element infos count info' info
        (subst (λ k. slice_get infos k ≡ Some info') e info_at') info_at in
        (adds path).1 (inr
        (subst (λ (i : PathInfo). Contains i.references path) same has, none)))
        (λ less. (adds path).1 (inl ((was path).1
        (n, output', info', less, at', info_at', met', has, none))))
        (eq-or-lt_of_le {n = n} {m = count} (omega (arith, low)))

pub outside_same : (outputs : List (List ℕ)) (infos : List PathInfo) (keys : List (List ℕ))
    (marks : List Bool) (count : ℕ) (output : List ℕ) (outside : List (List ℕ))
    → AreOutside outputs infos keys marks count outside → slice_get outputs count ≡ Some output
    → (IsMetPath keys marks output → ⊥) → AreOutside outputs infos keys marks (count + 1) outside
outside_same outputs infos keys marks count output outside was at not path = (
  λ has. widened outputs infos keys marks count path ((was path).0 has),
  back,
)
  where
    back : RefersOut outputs infos keys marks (count + 1) path → Contains outside path
    back (n, output', info', low, at', info_at', met', has, none) = ⊎_elim
        (λ e. absurd (not (subst (IsMetPath keys marks)
        (same_element outputs count output' output
        (subst (λ k. slice_get outputs k ≡ Some output') e at') at) met')))
        (λ less. (was path).1 (n, output', info', less, at', info_at', met', has, none))
        (eq-or-lt_of_le {n = n} {m = count} (omega (arith, low)))

-- ---- all together

-- references lead where links lead
goes_from_leads : (paths : List (List ℕ)) (infos : List PathInfo) (links : List (Vec ℕ))
    (have : HaveLinks paths infos links) (a b : List ℕ) (steps : List (List ℕ)) (n : ℕ)
    → LeadsBy (OutputRefersTo paths infos) a b steps → slice_get have.keys n ≡ Some a
    → (m : ℕ) × (slice_get have.keys m ≡ Some b) × Goes links n m
goes_from_leads paths infos links have a b [] n same at =
    (n, subst (λ (p : List ℕ). slice_get have.keys n ≡ Some p) same at, goes_nowhere n)
goes_from_leads paths infos links have a b (next ∷ steps) n (refers, rest) at =
    let step = linked_by paths infos links have n a next at refers in
    let later = goes_from_leads paths infos links have next b steps step.0 rest step.1 in
    (later.0, later.1, goes_on n step.0 later.0 step.2 later.2)

module _ (job : Job) (infos : List PathInfo) (own : List ℕ) (keys : List (List ℕ))
    (links : List (Vec ℕ)) (start : ℕ) (marks : List Bool)
    (once : AreEachOnce (outputs_of job) keys)
    (are : AreLinks (outputs_of job) infos keys (length infos) links)
    (begun : slice_get keys start ≡ Some own) (reached : AreReached links start marks) where
  have : HaveLinks (outputs_of job) infos links
  have = record { keys = keys; once = once; are = are }

  met_leads : (path : List ℕ) → IsMetPath keys marks path → LeadsAmong job infos own path
  unfolding have
  met_leads path (index, at, marked) =
      goes_leads (outputs_of job) infos links have start index ((reached.each index).0 marked)
      own path begun at

  leads_met : (path : List ℕ) → LeadsAmong job infos own path → IsMetPath keys marks path
  unfolding have
  leads_met path (steps, leads) =
      let met = goes_from_leads (outputs_of job) infos links have own path steps start leads begun in
      (met.0, met.1, (reached.each met.0).1 met.2)

  pub roots_told : (met out inside outside : List (List ℕ))
      → AreMet (outputs_of job) keys marks met
      → AreOutside (outputs_of job) infos keys marks (length infos) out
      → IsRising inside → ((path : List ℕ) → Contains inside path ↔ Contains met path)
      → IsRising outside → ((path : List ℕ) → Contains outside path ↔ Contains out path)
      → AreRootsOf job infos own inside outside
  roots_told met out inside outside are_met are_out rises same rises' same' = record {
    inside_rises = rises;
    outside_rises = rises';
    inside_each = λ path. (
      λ has. let h = (are_met path).0 ((same path).0 has) in (h.0, met_leads path h.1),
      λ h. (same path).1 ((are_met path).1 (h.0, leads_met path h.1)),
    );
    outside_each = λ path. (
      λ has. let h = (are_out path).0 ((same' path).0 has) in (
        h.0,
        h.1,
        met_leads h.1 h.6,
        h.4,
        (h.2, h.5, h.7),
        λ among. h.8 ((once.same path).1 among),
      ),
      λ h. (same' path).1 ((are_out path).1 (
        h.0,
        h.1,
        h.4.0,
        slice_get_within infos h.0 h.4.0 h.4.1,
        h.3,
        h.4.1,
        leads_met h.1 h.2,
        h.4.2,
        λ key. h.5 ((once.same path).0 key),
      )),
    );
  }

-- the roots among what was reached, by the paths of the outputs
pub roots_among_told : (outputs : List (List ℕ)) (infos : List PathInfo) (keys : List (List ℕ))
    (links : List (Vec ℕ)) (start : ℕ) (marks : List Bool) (n : ℕ) (first : List ℕ)
    → AreEachOnce outputs keys → AreLinks outputs infos keys (length infos) links
    → slice_get keys start ≡ Some first → slice_get outputs n ≡ Some first
    → AreReached links start marks → (met out inside outside : List (List ℕ))
    → AreMet outputs keys marks met → AreOutside outputs infos keys marks (length infos) out
    → IsRising inside → ((path : List ℕ) → Contains inside path ↔ Contains met path)
    → IsRising outside → ((path : List ℕ) → Contains outside path ↔ Contains out path)
    → (job : Job) (own : List ℕ) → outputs ≡ outputs_of job → slice_get outputs n ≡ Some own
    → AreRootsOf job infos own inside outside
roots_among_told outputs infos keys links start marks n first once are begun at reached met out
    inside outside are_met are_out rises same rises' same' job own is own_at =
    let own_is : first ≡ own = same_element outputs n first own at own_at in
    roots_told job infos own keys links start marks
    (subst (λ (l : List (List ℕ)). AreEachOnce l keys) is once)
    (subst (λ (l : List (List ℕ)). AreLinks l infos keys (length infos) links) is are)
    (subst (λ (p : List ℕ). slice_get keys start ≡ Some p) own_is begun) reached met out inside
    outside (subst (λ (l : List (List ℕ)). AreMet l keys marks met) is are_met)
    (subst (λ (l : List (List ℕ)). AreOutside l infos keys marks (length infos) out) is are_out)
    rises same rises' same'

-- the roots that were told are those of this job
pub roots_of_job : {E : Type 0} (job : Job) (outputs : List (List ℕ))
    (records infos : List PathInfo) (n : ℕ) (result : Result OutputRoots E)
    → outputs ≡ outputs_of job → records ≡ infos
    → IfOk result (λ roots. (job : Job) (own : List ℕ) → outputs ≡ outputs_of job
    → slice_get outputs n ≡ Some own
    → AreRootsOf job records own roots.own.items roots.outside.items)
    → IfOk result (λ roots. (own : List ℕ) → slice_get (outputs_of job) n ≡ Some own
    → AreRootsOf job infos own roots.own.items roots.outside.items)
roots_of_job job outputs records infos n (Ok roots) is same told = λ own at.
    subst (λ (i : List PathInfo). AreRootsOf job i own roots.own.items roots.outside.items) same
    (told job own is (subst (λ (l : List (List ℕ)). slice_get l n ≡ Some own) (sym is) at))
roots_of_job job outputs records infos n (Err e) is same told = told
