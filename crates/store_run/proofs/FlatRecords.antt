-- Under `plain`, a derivation that was begun declares no archive. So its records have no archives,
-- and digests of files' bytes alone.
use Rattle.std.proofs.Common.{◌≡◌, ◌∙◌, ◌++◌, ◌||◌, ℕ, Bool, true, false, List, [], ◌∷◌, All, Result, Ok, ap, refl, subst, sym, ⊎_elim}
use Rattle.std.specs.Prelude.{Contains, IfSome, None, Some, codes, slice_get}
use Rattle.std.specs.List.{list_any}
use Rattle.std.proofs.lemmas.Bool.{false≢true, true≢false}
use Rattle.nix_names.specs.Digests.{name_of}
use Rattle.nix_names.specs.Methods.{mark_of}
use Rattle.nix_names.specs.Names.{same_bytes}
use Rattle.nix_names.specs.StorePaths.{IsStorePath}
use Rattle.nix_names.specs.declared.digest.Algorithm.{Algorithm}
use Rattle.nix_names.specs.declared.digest.Digest.{Digest}
use Rattle.nix_names.specs.declared.method.Method.TheVariants.{Flat, Recursive}
use Rattle.nix_names.specs.declared.method.MethodDigest.{MethodDigest}
use Rattle.nix_names.proofs.Lists.{Contains-from_get}
use Rattle.nix_drv.specs.Derivation.{Drv, Output}
use Rattle.nix_drv.specs.Sources.{Answer as SourceAnswer}
use Rattle.drv_graph.specs.Kinds.{HasKind, Takes}
use Rattle.drv_graph.specs.Nodes.{Node}
use Rattle.drv_graph.specs.Plans.{IsPlan}
use Rattle.drv_graph.specs.declared.kinds.Kind.TheVariants.{Fixed}
use Rattle.drv_graph.specs.declared.profile.Profile.{Profile}
use Rattle.drv_graph.specs.declared.profile.Profile.TheVariants.{Plain}
use Rattle.valid_table.specs.PathInfos.{PathInfo}
use Rattle.valid_table.specs.declared.entry.Entry.{Entry}
use Rattle.build_outcome.specs.Jobs.{IsJob}
use Rattle.build_outcome.specs.Verdicts.{IsVerdict}
use Rattle.build_outcome.specs.declared.job.Answer.{Answer}
use Rattle.build_outcome.specs.declared.job.Job.{Job}
use Rattle.build_outcome.specs.declared.reason.Reason.{Reason}
use Rattle.build_outcome.proofs.PlainRecords.{plain_records_are_flat}
use Rattle.run_states.specs.Legal.{begins}
use Rattle.run_states.specs.Runs.{History, Run, has_left_out, has_tree, is_unsupported_under, precondition_at, state_in, terms_of}
use Rattle.run_states.specs.Systems.{Platform, is_builtin}
use Rattle.run_states.specs.States.{Idle, phase_of, state, table}
use Rattle.run_states.specs.declared.precondition.Precondition.TheVariants.{Free}
use Rattle.run_states.specs.declared.state.Event.TheVariants.{Begin, Done as Finish, Fail}
use Rattle.run_states.specs.declared.state.State.TheVariants.{Ready}
use Rattle.run_states.proofs.OtherEvents.{begun_not_idle, phase_other, same_or_other}
use Rattle.run_states.proofs.Seeds.{ready_by}
use Rattle.store_run.proofs.Preconditions.{supported_of_free}
use Rattle.store_run.proofs.StorePlans.{kind_taken}
use Rattle.store_run.proofs.ToldRuns.{IsTold, told_begin, told_done, told_fail, told_opening}
use Rattle.store_run.proofs.Unhindered.{precondition_in}

-- ---- what was begun stood free

ready_free : (run : Run) (history : History) (d : ℕ) → state_in run history d ≡ Ready
    → precondition_in run history d ≡ Free
unfolding state table
ready_free run history d ready = let facts = ready_by _ _ _ _ _ ready in facts.free

pub begun_free : (excused : Reason → Type 0) (may : Job → Result Answer Reason → Type 0) (run : Run)
    (history : History) → IsTold excused may run history → (d : ℕ)
    → (phase_of history.events d ≡ Idle → ⊥) → precondition_in run history d ≡ Free
begun_free excused may run _ (told_opening entries journal) d moved = absurd (moved refl)
begun_free excused may run _ (told_begin history e told legal can) d moved =
    ⊎_elim
    (λ same. subst (λ n. precondition_in run history n ≡ Free) same
    (ready_free run history e can.ready))
    (λ other. begun_free excused may run history told d (λ idle. moved
    (phase_other history.events (Begin e (begins history.events)) d other ∙ idle)))
    (same_or_other e d)
begun_free excused may run _
    (told_done history e lease node infos entry told legal phase is_node came is_entry) d moved =
    begun_free excused may run history told d (λ idle. ⊎_elim
    (λ same. begun_not_idle (phase_of history.events e) lease phase
    (ap (phase_of history.events) same ∙ idle))
    (λ other. moved (phase_other history.events (Finish e lease) d other ∙ idle))
    (same_or_other e d))
begun_free excused may run _ (told_fail history e lease reason told legal phase why) d moved =
    begun_free excused may run history told d (λ idle. ⊎_elim
    (λ same. begun_not_idle (phase_of history.events e) lease phase
    (ap (phase_of history.events) same ∙ idle))
    (λ other. moved (phase_other history.events (Fail e lease reason) d other ∙ idle))
    (same_or_other e d))

-- ---- and declares no archive

last_fails : (a b c : Bool) → (a || b || c) ≡ false → c ≡ false
last_fails true b c none = absurd (true≢false none)
last_fails false true c none = absurd (true≢false none)
last_fails false false c none = none

-- the declared hash of a whole tree is told by its algorithm
abbrev is_tree : Output → Bool
is_tree output = same_bytes output.algo (codes "r:sha256")

tree_told : (drv : Drv) (digest : Digest) → HasKind drv (Fixed Recursive digest)
    → Takes Plain (Fixed Recursive digest) → has_tree drv ≡ true
tree_told drv digest (output, only, fixed) taken =
    ap (list_any is_tree) only.0
    ∙ ap (λ (algo : List ℕ). list_any is_tree (record output { algo = algo } ∷ []))
    (fixed.0 ∙ ap (λ (a : Algorithm). mark_of Recursive ++ name_of a) taken)

supported_declares_none : (system : Platform) (drv : Drv) (digest : Digest)
    → is_unsupported_under Plain system drv ≡ false
    → HasKind drv (Fixed Recursive digest) → Takes Plain (Fixed Recursive digest) → ⊥
supported_declares_none system drv digest supported has_kind taken =
    false≢true
    (sym (last_fails (is_builtin drv) (has_left_out drv) (has_tree drv) supported)
    ∙ tree_told drv digest has_kind taken)

module _ (dir : List ℕ) (gives : List ℕ → SourceAnswer → Type 0) (roots : List (List ℕ)) (run : Run)
    (plan : IsPlan dir gives roots run.graph) (are_paths : All IsStorePath roots)
    (plain : run.graph.profile ≡ Plain) where
  free_declares_none : (opening : List Entry) (node : Node) → Contains run.graph.nodes node
      → precondition_at (terms_of run) opening (Some node) ≡ Free → (digest : Digest)
      → HasKind node.drv (Fixed Recursive digest) → ⊥
  free_declares_none opening node has free digest has_kind =
      supported_declares_none run.system node.drv digest
      (subst (λ (p : Profile). is_unsupported_under p run.system node.drv ≡ false) plain
      (supported_of_free (terms_of run) opening node.drv free))
      has_kind
      (subst (λ (p : Profile). Takes p (Fixed Recursive digest)) plain
      (kind_taken dir gives roots run.graph plan are_paths node has (Fixed Recursive digest)
      has_kind))

  -- so the records of a verdict on it are flat
  pub records_are_flat : (opening : List Entry) (d : ℕ) (job : Job) (permitted : List (List ℕ))
      (answer : Answer) (infos : List PathInfo)
      → precondition_at (terms_of run) opening (slice_get run.graph.nodes d) ≡ Free
      → IsJob run.graph d job → IsVerdict job permitted answer (Ok infos)
      → All (λ (info : PathInfo). (info.nar ≡ None)
      × IfSome info.digest (λ (kept : MethodDigest). kept.method ≡ Flat)) infos
  records_are_flat opening d job permitted answer infos free is_job verdict =
      plain_records_are_flat job permitted answer infos verdict (is_job.profile ∙ plain)
      (λ declared is. free_declares_none opening is_job.node
      (Contains-from_get run.graph.nodes d is_job.node is_job.is_node)
      (sym (ap (precondition_at (terms_of run) opening) is_job.is_node) ∙ free) declared
      (subst (HasKind is_job.node.drv) is is_job.kind))
