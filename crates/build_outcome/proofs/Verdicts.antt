-- The verdict on an answer, reason by reason, and that there is one.
use Rattle.std.proofs.Common.{◌≡◌, ◌∙◌, inl, ⊎_elim, ℕ, suc, ◌+◌, ◌<◌, List, [], ◌∷◌, ◌++◌, length, Some, None, refl, sym, ap, subst, arith, rules}
use Rattle.std.specs.Prelude.{pos, Err}
use Rattle.std.specs.List.{slice_get}
use Rattle.std.proofs.Math.Nat.{eq-or-lt_of_le}
use Rattle.nix_names.specs.declared.digest.Digest.{Digest}
use Rattle.nix_names.specs.declared.method.Method.{Method}
use Rattle.nix_names.proofs.Lists.{get_push_cases}
use Rattle.nix_names.proofs.FirstElements.{first_number}
use Rattle.drv_graph.specs.declared.kinds.Kind.{Kind}
use Rattle.drv_graph.specs.declared.kinds.Kind.TheVariants.{Addressed, Fixed}
use Rattle.drv_graph.specs.declared.profile.Profile.{Profile}
use Rattle.ref_scan.specs.declared.tree.Tree.{Tree}
use Rattle.valid_table.specs.PathInfos.{PathInfo}
use Rattle.build_outcome.specs.declared.job.Answer.{Answer}
use Rattle.build_outcome.specs.declared.job.Job.{Job}
use Rattle.build_outcome.specs.declared.reason.Reason.{Reason}
use Rattle.build_outcome.specs.declared.reason.Reason.TheVariants.{ExitStatus, NoStart, MissingOutput, NotFlatFile, HashMismatch, OutputCycle, TooLarge, ReadFault, OutOfMemory, Killed, BadMode, NotAllowed, BadSpecifier, BadAttributes, BadGraph, UnknownNar, PastMaxSize, PastMaxClosureSize}
use Rattle.build_outcome.specs.Verdicts.{AreOutputsThere, AreRead, AreRecords, HasBadMode, HasForm, HaveGoodModes, IsCyclic, IsExamining, IsFaulty, IsFirstFault, IsRecordAt, IsRecordOf, IsTaken, IsTreeFault, IsVerdict, MayBeTaken, outputs_of, tree_at}

-- What is known once the first `count` outputs were looked at: none of them is missing.
abbrev pub ThereSoFar : Answer → ℕ → Type 0
ThereSoFar answer count = (n : ℕ) → n < count → tree_at answer n ≡ None → ⊥

-- One tree lies at an output.
pub one_tree : (answer : Answer) (n : ℕ) (a b : Tree) → tree_at answer n ≡ Some a → tree_at answer n
    ≡ Some b → a ≡ b
one_tree answer n a b at at' = search rules

-- None of the first `count` outputs is faulty.
abbrev pub SoundSoFar : Job → Answer → ℕ → Type 0
SoundSoFar job answer count =
    (n : ℕ) (why : Reason) → n < count → IsFaulty job answer why n → ⊥

pub sound_more : (job : Job) (answer : Answer) (count : ℕ) (tree : Tree)
    → SoundSoFar job answer count → tree_at answer count ≡ Some tree
    → ((why : Reason) → IsTreeFault job.profile job.kind tree why → ⊥)
    → SoundSoFar job answer (count + 1)
sound_more job answer count tree before at taken n why below faulty =
    ⊎_elim
    (λ e.
    let there = subst (λ k. IsFaulty job answer why k) e faulty in
    taken why (subst (λ (t : Tree). IsTreeFault job.profile job.kind t why)
    (one_tree answer count _ _ there.1 at) there.2))
    (λ less. before n why less faulty)
    (eq-or-lt_of_le {n = n} {m = count} (omega arith))

pub is_taken : (job : Job) (answer : Answer) (count : ℕ) → count ≡ length job.outputs.items
    → AreOutputsThere job answer → HaveGoodModes job answer → SoundSoFar job answer count
    → IsTaken job answer
is_taken job answer count all there good sound =
    (there, good, λ n why below. sound n why (omega arith))

-- what lies at an output that is taken isn't at fault
pub taken_at : (job : Job) (answer : Answer) (n : ℕ) (tree : Tree) → IsTaken job answer
    → n < length job.outputs.items → tree_at answer n ≡ Some tree
    → (why : Reason) → IsTreeFault job.profile job.kind tree why → ⊥
taken_at job answer n tree taken below at why fault = taken.2 n why below (tree, at, fault)

-- Records of the first `count` outputs.
pub record RecordsSoFar (job : Job) (permitted : List (List ℕ)) (answer : Answer)
    (infos : List PathInfo) (count : ℕ) : Type 0 where
  pub as_many : length infos ≡ count
  pub records : (n : ℕ) (info : PathInfo) → slice_get infos n ≡ Some info
      → IsRecordAt job permitted answer n info

pub records_none : (job : Job) (permitted : List (List ℕ)) (answer : Answer)
    (infos : List PathInfo) → infos ≡ [] → RecordsSoFar job permitted answer infos 0
records_none job permitted answer infos is = record {
  as_many = ap length is;
  records = λ n info at. let none : slice_get [] n
      ≡ Some info = subst (λ (l : List PathInfo). slice_get l n ≡ Some info) is at in absurd cc;
}

pub records_more : (job : Job) (permitted : List (List ℕ)) (answer : Answer)
    (infos more : List PathInfo) (count : ℕ) (tree : Tree) (info : PathInfo)
    → RecordsSoFar job permitted answer infos count → tree_at answer count ≡ Some tree
    → IsRecordOf job permitted tree info → more ≡ infos ++ info ∷ []
    → RecordsSoFar job permitted answer more (count + 1)
records_more job permitted answer infos more count tree info before at is_record is =
    subst (λ (l : List PathInfo). RecordsSoFar job permitted answer l (count + 1)) (sym is)
    (record {
      as_many = pushed infos info ∙ ap suc before.as_many ∙ omega arith;
      records = λ n other here. ⊎_elim
          (λ earlier. before.records n other earlier)
          (λ h.
          let index : n ≡ count = h.0 ∙ before.as_many in
          subst (λ k. IsRecordAt job permitted answer k other) (sym index)
          (tree, at, subst (IsRecordOf job permitted tree) h.1 is_record))
          (get_push_cases _ _ n _ here);
    })
  where
    pushed : (xs : List PathInfo) (x : PathInfo) → length (xs ++ x ∷ []) ≡ suc (length xs)
    pushed [] x = refl
    pushed (y ∷ ys) x = ap suc (pushed ys x)

pub are_records : (job : Job) (permitted : List (List ℕ)) (answer : Answer) (infos : List PathInfo)
    (count : ℕ) → count ≡ length job.outputs.items
    → RecordsSoFar job permitted answer infos count
    → AreRecords job permitted answer infos
are_records job permitted answer infos count all so_far = search rules

-- What is at fault with a tree, by its cases.
pub data TreeFault (profile : Profile) (kind : Kind) (tree : Tree) : Reason → Type 0 where
  too_large : (MayBeTaken profile tree → ⊥) → TreeFault profile kind tree TooLarge
  not_flat : (method : Method) (declared : Digest) → kind ≡ Fixed method declared
      → MayBeTaken profile tree → (HasForm profile method tree → ⊥)
      → TreeFault profile kind tree NotFlatFile
  mismatched : (method : Method) (declared : Digest) → kind ≡ Fixed method declared
      → MayBeTaken profile tree → HasForm profile method tree
      → TreeFault profile kind tree HashMismatch

pub tree_fault_cases : (profile : Profile) (kind : Kind) (tree : Tree) (why : Reason)
    → IsTreeFault profile kind tree why → TreeFault profile kind tree why
tree_fault_cases profile kind tree TooLarge fault = too_large fault
tree_fault_cases profile (Fixed method declared) tree NotFlatFile fault =
    not_flat method declared refl fault.0 fault.1
tree_fault_cases profile (Fixed method declared) tree HashMismatch fault =
    mismatched method declared refl fault.0 fault.1
tree_fault_cases profile Addressed tree NotFlatFile fault = absurd fault
tree_fault_cases profile Addressed tree HashMismatch fault = absurd fault
tree_fault_cases profile Addressed tree (ExitStatus n) fault = absurd fault
tree_fault_cases profile Addressed tree NoStart fault = absurd fault
tree_fault_cases profile Addressed tree (MissingOutput n) fault = absurd fault
tree_fault_cases profile Addressed tree OutputCycle fault = absurd fault
tree_fault_cases profile Addressed tree ReadFault fault = absurd fault
tree_fault_cases profile Addressed tree OutOfMemory fault = absurd fault
tree_fault_cases profile Addressed tree Killed fault = absurd fault
tree_fault_cases profile Addressed tree (BadMode n) fault = absurd fault
tree_fault_cases profile Addressed tree (NotAllowed output index) fault = absurd fault
tree_fault_cases profile Addressed tree (BadSpecifier output) fault = absurd fault
tree_fault_cases profile Addressed tree BadAttributes fault = absurd fault
tree_fault_cases profile Addressed tree BadGraph fault = absurd fault
tree_fault_cases profile Addressed tree (UnknownNar index) fault = absurd fault
tree_fault_cases profile Addressed tree (PastMaxSize output) fault = absurd fault
tree_fault_cases profile Addressed tree (PastMaxClosureSize output) fault = absurd fault
tree_fault_cases profile (Fixed method declared) tree (ExitStatus n) fault = absurd fault
tree_fault_cases profile (Fixed method declared) tree NoStart fault = absurd fault
tree_fault_cases profile (Fixed method declared) tree (MissingOutput n) fault = absurd fault
tree_fault_cases profile (Fixed method declared) tree OutputCycle fault = absurd fault
tree_fault_cases profile (Fixed method declared) tree ReadFault fault = absurd fault
tree_fault_cases profile (Fixed method declared) tree OutOfMemory fault = absurd fault
tree_fault_cases profile (Fixed method declared) tree Killed fault = absurd fault
tree_fault_cases profile (Fixed method declared) tree (BadMode n) fault = absurd fault
tree_fault_cases profile (Fixed method declared) tree (NotAllowed output index) fault = absurd fault
tree_fault_cases profile (Fixed method declared) tree (BadSpecifier output) fault = absurd fault
tree_fault_cases profile (Fixed method declared) tree BadAttributes fault = absurd fault
tree_fault_cases profile (Fixed method declared) tree BadGraph fault = absurd fault
tree_fault_cases profile (Fixed method declared) tree (UnknownNar index) fault = absurd fault
tree_fault_cases profile (Fixed method declared) tree (PastMaxSize output) fault = absurd fault
tree_fault_cases profile (Fixed method declared) tree (PastMaxClosureSize output) fault = absurd fault

-- a fault of a tree after trees that are taken is the first
pub first_fault : (job : Job) (permitted : List (List ℕ)) (answer : Answer) (count : ℕ)
    (tree : Tree) (why : Reason) → count < length job.outputs.items → AreOutputsThere job answer
    → HaveGoodModes job answer → SoundSoFar job answer count → tree_at answer count ≡ Some tree
    → IsTreeFault job.profile job.kind tree why → IsVerdict job permitted answer (Err why)
first_fault job permitted answer count tree why below there good sound at fault =
    by why (tree_fault_cases _ _ _ _ fault) (
      count,
      first_number (λ m. (reason : Reason) × IsFaulty job answer reason m)
          _ _ below (why, (tree, at, fault))
          (λ m less h. sound m h.0 less h.1),
      (tree, at, fault),
    )
  where
    by : (reason : Reason) → TreeFault job.profile job.kind tree reason
        → IsFirstFault job answer reason → IsVerdict job permitted answer (Err reason)
    by _ (too_large not_fit) first = (there, good, first)
    by _ (not_flat method declared is may no_form) first = (there, good, first)
    by _ (mismatched method declared is may form) first = (there, good, first)

-- the first output at which nothing lies
pub first_missing : (job : Job) (permitted : List (List ℕ)) (answer : Answer) (count : ℕ) → count
    < length job.outputs.items → answer.status ≡ Some (pos 0) → AreRead job answer
    → ThereSoFar answer count
    → tree_at answer count ≡ None
    → IsVerdict job permitted answer (Err (MissingOutput count))
first_missing job permitted answer count below ended read there none = search (rules, first_number)

-- None of the first `count` outputs has a bad mode.
abbrev pub GoodSoFar : Job → Answer → ℕ → Type 0
GoodSoFar job answer count = (n : ℕ) → n < count → HasBadMode job answer n → ⊥

pub good_more : (job : Job) (answer : Answer) (count : ℕ) → GoodSoFar job answer count
    → (HasBadMode job answer count → ⊥) → GoodSoFar job answer (count + 1)
good_more job answer count before good n below bad =
    ⊎_elim
    (λ e. good (subst (λ k. HasBadMode job answer k) e bad))
    (λ less. before n less bad)
    (eq-or-lt_of_le {n = n} {m = count} (omega arith))

pub have_good_modes : (job : Job) (answer : Answer) (count : ℕ) → count ≡ length job.outputs.items
    → GoodSoFar job answer count → HaveGoodModes job answer
have_good_modes job answer count all good n below = good n (omega arith)

-- the first output with a bad mode
pub first_bad_mode : (job : Job) (permitted : List (List ℕ)) (answer : Answer) (count : ℕ)
    → count < length job.outputs.items → AreOutputsThere job answer → GoodSoFar job answer count
    → HasBadMode job answer count → IsVerdict job permitted answer (Err (BadMode count))
first_bad_mode job permitted answer count below there good bad =
    (there, first_number (HasBadMode job answer) _ _ below bad good)

-- the verdict where no fault was found, by whether there is a cycle
pub cycle_found : (job : Job) (permitted : List (List ℕ)) (answer : Answer) (infos : List PathInfo)
    → IsTaken job answer → AreRecords job permitted answer infos → IsCyclic (outputs_of job) infos
    → IsExamining job permitted answer (Err OutputCycle)
cycle_found job permitted answer infos taken records cyclic = search rules

-- memory was refused once all was taken
pub refused : (job : Job) (permitted : List (List ℕ)) (answer : Answer) (why : Reason)
    → IsTaken job answer → why ≡ OutOfMemory → IsExamining job permitted answer (Err why)
refused job permitted answer why taken is = inl (ap Err is, inl taken)
