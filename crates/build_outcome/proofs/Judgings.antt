-- The verdict on what is known of outputs, step by step.
use Rattle.std.proofs.Common.{◌≡◌, ◌≢◌, ◌∙◌, ◌↔◌, inl, inr, ⊎_elim, ℕ, ◌+◌, ◌<◌, List, [], ◌∷◌, ◌++◌, Bool, false, Option, Some, None, length, refl, sym, ap, subst, arith, rules}
use Rattle.std.specs.Prelude.{pos, Err, Ok, Result, IsTrue}
use Rattle.std.proofs.lemmas.Bool.{false≢true}
use Rattle.std.proofs.Math.Nat.{eq-or-lt_of_le}
use Rattle.std.proofs.lemmas.Option.{same_Some}
use Rattle.drv_graph.specs.declared.profile.Profile.TheVariants.{Nix}
use Rattle.ref_scan.specs.declared.tree.Tree.{Tree}
use Rattle.valid_table.specs.PathInfos.{PathInfo}
use Rattle.build_outcome.specs.Verdicts.{AreOutputsThere, AreRecords, HasBadMode, HaveGoodModes, IsCyclic, IsExamining, IsRecordOf, IsTaken, IsTreeFault, IsVerdict, OthersMayWriteAt, left_at, outputs_of, tree_at}
use Rattle.build_outcome.specs.declared.job.Answer.{Answer}
use Rattle.build_outcome.specs.declared.job.Job.{Job}
use Rattle.build_outcome.specs.declared.job.LeftOutput.{LeftOutput}
use Rattle.build_outcome.specs.declared.known_outputs.Known.{Known}
use Rattle.build_outcome.specs.declared.known_outputs.Outputs.{Outputs}
use Rattle.build_outcome.specs.declared.reason.Reason.{Reason}
use Rattle.build_outcome.specs.declared.reason.Reason.TheVariants.{MissingOutput, OutOfMemory}
use Rattle.build_outcome.specs.private.Judging.{AreKnown, IsKnown, IsReadAs, IsTreeTaken}
use Rattle.build_outcome.proofs.Verdicts.{GoodSoFar, RecordsSoFar, SoundSoFar, ThereSoFar, first_fault, first_missing, records_more, sound_more, taken_at}

-- what is known of what lies at an output
abbrev pub IsFoundAt : Outputs → ℕ → Known → Type 0
IsFoundAt outputs n known =
    (job : Job) (permitted : List (List ℕ)) (answer : Answer)
    → AreKnown job permitted answer outputs → n < length job.outputs.items
    → (output : LeftOutput) × (left_at answer n ≡ Some output) × IsKnown job permitted output known

-- nothing lies at an output
abbrev pub IsMissingAt : Outputs → ℕ → Reason → Type 0
IsMissingAt outputs n why =
    (why ≡ MissingOutput n)
    × ((job : Job) (permitted : List (List ℕ)) (answer : Answer)
    → AreKnown job permitted answer outputs → n < length job.outputs.items
    → tree_at answer n ≡ None)

tree_of : (answer : Answer) (n : ℕ) (output : LeftOutput) → left_at answer n ≡ Some output
    → tree_at answer n ≡ Some output.tree
tree_of answer n output at = rw at refl

some_tree : (answer : Answer) (n : ℕ) (output : LeftOutput) → left_at answer n ≡ Some output
    → tree_at answer n ≡ None → ⊥
some_tree answer n output at none =
    let wrong : None ≡ Some output.tree = sym none ∙ tree_of answer n output at in absurd cc

module _ (job : Job) (permitted : List (List ℕ)) (answer : Answer) (outputs : Outputs)
    (is : IsReadAs job permitted answer outputs) where
  pub missing_verdict : (n : ℕ) (why : Reason) → n < length job.outputs.items
      → IsMissingAt outputs n why → ThereSoFar answer n → IsVerdict job permitted answer (Err why)
  missing_verdict n why below missing there =
      subst (λ (w : Reason). IsVerdict job permitted answer (Err w)) (sym missing.0)
      (first_missing job permitted answer n below is.ended is.read there
      (missing.1 job permitted answer is.known below))

  pub there_more : (n : ℕ) (known : Known) → n < length job.outputs.items
      → IsFoundAt outputs n known → ThereSoFar answer n → ThereSoFar answer (n + 1)
  there_more n known below found there m less none =
      let h = found job permitted answer is.known below in
      ⊎_elim
      (λ e. some_tree answer n h.0 h.1 (subst (λ k. tree_at answer k ≡ None) e none))
      (λ before. there m before none)
      (eq-or-lt_of_le {n = m} {m = n} (omega (arith, less)))

  pub are_there : (n : ℕ) → n ≡ length job.outputs.items → ThereSoFar answer n
      → AreOutputsThere job answer
  are_there n all there =
      (is.ended, (λ m below. there m (omega (arith, all, below))), is.read)

  -- nothing is missing
  not_missing : (n : ℕ) (why : Reason) → n < length job.outputs.items
      → AreOutputsThere job answer → IsMissingAt outputs n why → ⊥
  not_missing n why below there missing =
      there.1 n below (missing.1 job permitted answer is.known below)

  pub missing_never : {P : Type 0} (n : ℕ) (why : Reason) → n < length job.outputs.items
      → AreOutputsThere job answer → IsMissingAt outputs n why → P
  missing_never n why below there missing = absurd (not_missing n why below there missing)

  -- ---- modes

  pub mode_known : (n : ℕ) (known : Known) (may : Bool) → n < length job.outputs.items
      → job.profile ≡ Nix → IsFoundAt outputs n known
      → ((output : LeftOutput) → IsKnown job permitted output known
      → may ≡ output.others_may_write)
      → IsTrue may ↔ HasBadMode job answer n
  mode_known n known may below nix found told =
      let h = found job permitted answer is.known below in (
        λ yes. (nix, (h.0, h.1, sym (told h.0 h.2) ∙ yes)),
        λ bad.
            let same : h.0 ≡ bad.1.0 = same_Some h.0 bad.1.0 (sym h.1 ∙ bad.1.1) in
            told h.0 h.2
            ∙ subst (λ (o : LeftOutput). IsTrue o.others_may_write) (sym same) bad.1.2,
      )

  pub mode_missing : (n : ℕ) (why : Reason) → n < length job.outputs.items
      → IsMissingAt outputs n why → HasBadMode job answer n → ⊥
  mode_missing n why below missing bad =
      some_tree answer n bad.1.0 bad.1.1 (missing.1 job permitted answer is.known below)

  -- ---- trees

  pub fault_verdict : (n : ℕ) (known : Known) (why : Reason) → n < length job.outputs.items
      → IsFoundAt outputs n known
      → ((p : List (List ℕ)) (output : LeftOutput) → IsKnown job p output known
      → IsTreeFault job.profile job.kind output.tree why)
      → AreOutputsThere job answer → HaveGoodModes job answer → SoundSoFar job answer n
      → IsVerdict job permitted answer (Err why)
  fault_verdict n known why below found fault there good sound =
      let h = found job permitted answer is.known below in
      first_fault job permitted answer n h.0.tree why below there good sound
      (tree_of answer n h.0 h.1) (fault permitted h.0 h.2)

  pub taken_more : (n : ℕ) (known : Known) → n < length job.outputs.items
      → IsFoundAt outputs n known
      → ((p : List (List ℕ)) (output : LeftOutput) → IsKnown job p output known
      → IsTreeTaken job output.tree)
      → SoundSoFar job answer n → SoundSoFar job answer (n + 1)
  taken_more n known below found taken sound =
      let h = found job permitted answer is.known below in
      sound_more job answer n h.0.tree sound (tree_of answer n h.0 h.1) (taken permitted h.0 h.2)

  -- ---- records

  pub record_more : (infos more : List PathInfo) (n : ℕ) (known : Known) (info : PathInfo)
      → n < length job.outputs.items → IsTaken job answer → IsFoundAt outputs n known
      → ((output : LeftOutput) → IsKnown job permitted output known
      → IsTreeTaken job output.tree → IsRecordOf job permitted output.tree info)
      → RecordsSoFar job permitted answer infos n → more ≡ infos ++ info ∷ []
      → RecordsSoFar job permitted answer more (n + 1)
  record_more infos more n known info below taken found recorded before pushed =
      let h = found job permitted answer is.known below in
      let at : tree_at answer n ≡ Some h.0.tree = tree_of answer n h.0 h.1 in
      records_more job permitted answer infos more n h.0.tree info before at
      (recorded h.0 h.2 (taken_at job answer n h.0.tree taken below at)) pushed

-- what was checked step by step is taken
pub taken_of : (job : Job) (permitted : List (List ℕ)) (answer : Answer) (outputs : Outputs)
    → IsReadAs job permitted answer outputs
    → ((p : List (List ℕ)) (a : Answer) → IsReadAs job p a outputs → AreOutputsThere job a)
    → ((p : List (List ℕ)) (a : Answer) → IsReadAs job p a outputs → HaveGoodModes job a)
    → ((p : List (List ℕ)) (a : Answer) → IsReadAs job p a outputs → AreOutputsThere job a
    → HaveGoodModes job a → IsTaken job a)
    → IsTaken job answer
taken_of job permitted answer outputs is there good taken =
    taken permitted answer is (there permitted answer is) (good permitted answer is)

-- the verdict where no cycle was found
pub acyclic_found : (job : Job) (permitted : List (List ℕ)) (answer : Answer)
    (infos records : List PathInfo) (cyclic : Bool) → IsTaken job answer
    → AreRecords job permitted answer records → infos ≡ records
    → IsTrue cyclic ↔ IsCyclic (outputs_of job) records → cyclic ≡ false
    → IsExamining job permitted answer (Ok infos)
acyclic_found job permitted answer infos records cyclic taken are is told unset =
    subst (λ (l : List PathInfo). IsExamining job permitted answer (Ok l)) (sym is)
    (inr (taken, are, λ round. false≢true (sym unset ∙ told.1 round)))
