-- There is one verdict on an answer.
use Rattle.std.proofs.Common.{◌≡◌, ◌≢◌, ◌<◌, ◌∙◌, ℕ, suc, List, [], ◌∷◌, length, Option, Some, None, refl, sym, ap, subst, arith, rules}
use Rattle.std.specs.Prelude.{ℤ, pos, Result, Ok, Err}
use Rattle.std.specs.List.{slice_get}
use Rattle.sha2.specs.Sha256.{sha256}
use Rattle.nix_names.specs.Digests.{algorithm_of}
use Rattle.nix_names.specs.declared.digest.Digest.{Digest}
use Rattle.nix_names.specs.declared.method.Method.{Method}
use Rattle.nix_names.specs.declared.method.MethodDigest.{MethodDigest}
use Rattle.nix_names.proofs.FirstElements.{number_within, one_first}
use Rattle.drv_graph.specs.declared.kinds.Kind.{Kind}
use Rattle.drv_graph.specs.declared.kinds.Kind.TheVariants.{Addressed, Fixed}
use Rattle.drv_graph.specs.declared.profile.Profile.{Profile}
use Rattle.drv_graph.specs.declared.profile.Profile.TheVariants.{Plain, Nix}
use Rattle.nix_names.proofs.RisingLists.{rising_same}
use Rattle.ref_scan.specs.declared.tree.Tree.{Tree}
use Rattle.valid_table.specs.PathInfos.{NarInfo, PathInfo}
use Rattle.build_outcome.specs.declared.job.Answer.{Answer}
use Rattle.build_outcome.specs.declared.job.Job.{Job}
use Rattle.build_outcome.specs.declared.reason.Reason.{Reason}
use Rattle.build_outcome.specs.declared.reason.Reason.TheVariants.{ExitStatus, NoStart, MissingOutput, NotFlatFile, HashMismatch, OutputCycle, TooLarge, ReadFault, OutOfMemory, Killed, BadMode, NotAllowed, BadSpecifier, BadAttributes, BadGraph, UnknownNar, PastMaxSize, PastMaxClosureSize}
use Rattle.build_outcome.specs.Verdicts.{AreOutputsThere, AreRead, AreRecords, HasBadMode, HasForm, HasOneVerdict, HaveGoodModes, IsCyclic, IsFaulty, IsFirstFault, IsFirstNumber, IsNarOf, IsRecordDigest, IsRecordNar, IsRecordOf, IsTaken, IsTreeFault, IsUnreadAt, IsVerdict, outputs_of, tree_at}
use Rattle.build_outcome.proofs.Archives.{one_archive}
use Rattle.build_outcome.proofs.FixedDigests.{one_digest_by}
use Rattle.build_outcome.proofs.Verdicts.{TreeFault, mismatched, not_flat, one_tree, too_large, tree_fault_cases}

some_is_one : {X : Type 0} (o : Option X) (x y : X) → o ≡ Some x → o ≡ Some y → x ≡ y
some_is_one o x y at at' = search rules

none_or_some : {X : Type 0} (o : Option X) (x : X) → o ≡ None → o ≡ Some x → ⊥
none_or_some o x none some = search rules

-- there is one first number
one_number : (Holds : ℕ → Type 0) (count n m : ℕ) → IsFirstNumber Holds count n
    → IsFirstNumber Holds count m → n ≡ m
one_number Holds count = search (rules, one_first)

-- lists are one where they are as long and have the same at each index
same_list : {X : Type 0} (xs ys : List X) → length xs ≡ length ys
    → ((n : ℕ) (x y : X) → slice_get xs n ≡ Some x → slice_get ys n ≡ Some y → x ≡ y) → xs ≡ ys
same_list [] [] long same = refl
same_list [] (y ∷ ys) long same = absurd (omega arith)
same_list (x ∷ xs) [] long same = absurd (omega arith)
same_list (x ∷ xs) (y ∷ ys) long same =
    let first : x ≡ y = same 0 x y refl refl in
    let rest = same_list xs ys (omega arith) (λ n. same (suc n)) in
    cc

-- a tree has one archive's sum
one_nar : (tree : Tree) (a b : NarInfo) → IsNarOf tree a → IsNarOf tree b → a ≡ b
one_nar tree a b (bytes, has, hash, size) (bytes', has', hash', size') =
    let same = one_archive tree bytes bytes' has has' in
    let hashes = hash ∙ ap sha256 same ∙ sym hash' in
    let sizes = size ∙ ap (λ (l : List ℕ). length l) same ∙ sym size' in
    λ i. record { hash = hashes i; size = sizes i }

-- a tree's record has one digest and one archive
one_record_digest : (profile : Profile) (kind : Kind) (tree : Tree) (a b : Option MethodDigest)
    → IsRecordDigest profile kind tree a → IsRecordDigest profile kind tree b → a ≡ b
one_record_digest profile (Fixed method declared) tree a b (found, is, by) (found', is', by') =
    is
    ∙ ap (λ (d : Digest). Some (record { method = method; digest = d }))
    (one_digest_by method (algorithm_of declared) tree found found' by by')
    ∙ sym is'
one_record_digest Plain Addressed tree a b is is' = is ∙ sym is'
one_record_digest Nix Addressed tree a b is is' = is ∙ sym is'

one_record_nar : (profile : Profile) (tree : Tree) (a b : Option NarInfo)
    → IsRecordNar profile tree a → IsRecordNar profile tree b → a ≡ b
one_record_nar Plain tree a b is is' = is ∙ sym is'
one_record_nar Nix tree a b (sum, is, of) (sum', is', of') =
    is ∙ ap (λ (n : NarInfo). Some n) (one_nar tree sum sum' of of') ∙ sym is'

-- a tree has one record
one_record : (job : Job) (permitted : List (List ℕ)) (tree : Tree) (a b : PathInfo)
    → IsRecordOf job permitted tree a → IsRecordOf job permitted tree b → a ≡ b
one_record job permitted tree a b of of' =
    let found = rising_same _ _ of.found.rising of'.found.rising (λ path. (
      λ has. (of'.found.each path).1 ((of.found.each path).0 has),
      λ has. (of.found.each path).1 ((of'.found.each path).0 has),
    )) in
    let digest = one_record_digest job.profile job.kind tree _ _ of.digest of'.digest in
    let nar = one_record_nar job.profile tree _ _ of.nar of'.nar in
    λ i. record { references = found i; digest = digest i; nar = nar i }

fixed_is_one : (kind : Kind) (method method' : Method) (declared declared' : Digest)
    → kind ≡ Fixed method declared → kind ≡ Fixed method' declared' → method ≡ method'
fixed_is_one kind method method' declared declared' is is' = search rules

-- a tree has one fault
one_tree_fault : (profile : Profile) (kind : Kind) (tree : Tree) (a b : Reason)
    → TreeFault profile kind tree a → TreeFault profile kind tree b → a ≡ b
one_tree_fault profile kind tree _ _ (too_large not) (too_large not') = refl
one_tree_fault profile kind tree _ _ (too_large not) (not_flat method declared is may no_form) =
    absurd (not may)
one_tree_fault profile kind tree _ _ (too_large not) (mismatched method declared is may form) =
    absurd (not may)
one_tree_fault profile kind tree _ _ (not_flat method declared is may no_form) (too_large not) =
    absurd (not may)
one_tree_fault profile kind tree _ _ (not_flat method declared is may no_form)
    (not_flat method' declared' is' may' no_form') = refl
one_tree_fault profile kind tree _ _ (not_flat method declared is may no_form)
    (mismatched method' declared' is' may' form) =
    absurd (no_form (subst (λ (m : Method). HasForm profile m tree)
    (fixed_is_one kind method' method declared' declared is' is) form))
one_tree_fault profile kind tree _ _ (mismatched method declared is may form) (too_large not) =
    absurd (not may)
one_tree_fault profile kind tree _ _ (mismatched method declared is may form)
    (not_flat method' declared' is' may' no_form) =
    absurd (no_form (subst (λ (m : Method). HasForm profile m tree)
    (fixed_is_one kind method method' declared declared' is is') form))
one_tree_fault profile kind tree _ _ (mismatched method declared is may form)
    (mismatched method' declared' is' may' form') = refl

module _ (job : Job) (permitted : List (List ℕ)) (answer : Answer) where
  -- What a verdict says, by its cases.
  data Outcome : Result (List PathInfo) Reason → Type 0 where
    killed : answer.status ≡ None → Outcome (Err Killed)
    exited : (n : ℤ) → answer.status ≡ Some n → n ≢ pos 0 → Outcome (Err (ExitStatus n))
    unread : (n : ℕ) → answer.status ≡ Some (pos 0) → n < length job.outputs.items
        → IsUnreadAt job answer n → Outcome (Err ReadFault)
    missing : (n : ℕ) → answer.status ≡ Some (pos 0) → AreRead job answer
        → IsFirstNumber (λ m. tree_at answer m ≡ None) (length job.outputs.items) n
        → Outcome (Err (MissingOutput n))
    shared : (n : ℕ) → AreOutputsThere job answer
        → IsFirstNumber (HasBadMode job answer) (length job.outputs.items) n
        → Outcome (Err (BadMode n))
    faulty : (why : Reason) → AreOutputsThere job answer → HaveGoodModes job answer
        → IsFirstFault job answer why → Outcome (Err why)
    cyclic : (infos : List PathInfo) → IsTaken job answer → AreRecords job permitted answer infos
        → IsCyclic (outputs_of job) infos → Outcome (Err OutputCycle)
    well : (infos : List PathInfo) → IsTaken job answer → AreRecords job permitted answer infos
        → (IsCyclic (outputs_of job) infos → ⊥) → Outcome (Ok infos)

  outcome_of : (result : Result (List PathInfo) Reason) → IsVerdict job permitted answer result
      → Outcome result
  outcome_of (Ok infos) (taken, records, acyclic) = well infos taken records acyclic
  outcome_of (Err Killed) ended = killed ended
  outcome_of (Err (ExitStatus n)) (ended, apart) = exited n ended apart
  outcome_of (Err ReadFault) (ended, (n, within, is)) = unread n ended within is
  outcome_of (Err (MissingOutput n)) (ended, read, first) = missing n ended read first
  outcome_of (Err (BadMode n)) (there, first) = shared n there first
  outcome_of (Err TooLarge) (there, good, fault) = faulty TooLarge there good fault
  outcome_of (Err NotFlatFile) (there, good, fault) = faulty NotFlatFile there good fault
  outcome_of (Err HashMismatch) (there, good, fault) = faulty HashMismatch there good fault
  outcome_of (Err OutputCycle) (taken, (infos, records, round)) = cyclic infos taken records round
  outcome_of (Err NoStart) none = absurd none
  outcome_of (Err OutOfMemory) none = absurd none
  outcome_of (Err (NotAllowed output index)) none = absurd none
  outcome_of (Err (BadSpecifier output)) none = absurd none
  outcome_of (Err BadAttributes) none = absurd none
  outcome_of (Err BadGraph) none = absurd none
  outcome_of (Err (UnknownNar index)) none = absurd none
  outcome_of (Err (PastMaxSize output)) none = absurd none
  outcome_of (Err (PastMaxClosureSize output)) none = absurd none

  -- the first output without a tree, that with a bad mode, and the first faulty one are among the
  -- outputs
  missing_within : (n : ℕ) → IsFirstNumber (λ m. tree_at answer m ≡ None)
      (length job.outputs.items) n → n < length job.outputs.items
  missing_within n first = search (rules, number_within)

  shared_within : (n : ℕ) → IsFirstNumber (HasBadMode job answer) (length job.outputs.items) n
      → n < length job.outputs.items
  shared_within n first = search (rules, number_within)

  faulty_within : (why : Reason) (fault : IsFirstFault job answer why)
      → fault.0 < length job.outputs.items
  faulty_within why (n, first, fault) = search (rules, number_within)

  one_list : (a b : List PathInfo) → AreRecords job permitted answer a
      → AreRecords job permitted answer b → a ≡ b
  one_list a b records records' =
      same_list a b (records.count ∙ sym records'.count) (λ n x y at at'.
      let of = records.each n x at in
      let of' = records'.each n y at' in
      one_record _ _ _ x y
      (subst (λ (t : Tree). IsRecordOf job permitted t x)
      (one_tree answer n _ _ of.1 of'.1) of.2) of'.2)

  one_fault : (a b : Reason) → IsFirstFault job answer a → IsFirstFault job answer b → a ≡ b
  one_fault a b (n, first, (tree, at, fault)) (m, first', (tree', at', fault')) =
      let index : n ≡ m = one_number (λ k. (why : Reason) × IsFaulty job answer why k)
      _ n m first first' in
      let same : tree ≡ tree' = one_tree answer m tree tree'
      (subst (λ k. tree_at answer k ≡ Some tree) index at) at' in
      one_tree_fault _ _ _ a b
      (tree_fault_cases _ _ _ a
      (subst (λ (t : Tree). IsTreeFault job.profile job.kind t a) same fault))
      (tree_fault_cases _ _ _ b fault')

  one : (a b : Result (List PathInfo) Reason) → Outcome a → Outcome b → a ≡ b
  one _ _ (killed e) (killed e2) = refl
  one _ _ (killed e) (exited n2 e2 apart2) = absurd (none_or_some _ _ e e2)
  one _ _ (killed e) (unread n2 e2 within2 is2) = absurd (none_or_some _ _ e e2)
  one _ _ (killed e) (missing n2 e2 read2 first2) = absurd (none_or_some _ _ e e2)
  one _ _ (killed e) (shared n2 there2 first2) = absurd (none_or_some _ _ e there2.0)
  one _ _ (killed e) (faulty why2 there2 good2 fault2) = absurd (none_or_some _ _ e there2.0)
  one _ _ (killed e) (cyclic infos2 taken2 records2 round2) = absurd (none_or_some _ _ e taken2.0.0)
  one _ _ (killed e) (well infos2 taken2 records2 acyclic2) = absurd (none_or_some _ _ e taken2.0.0)
  one _ _ (exited n e apart) (killed e2) = absurd (none_or_some _ _ e2 e)
  one _ _ (exited n e apart) (exited n2 e2 apart2) =
      ap (λ k. Err (ExitStatus k)) (some_is_one _ n _ e e2)
  one _ _ (exited n e apart) (unread n2 e2 within2 is2) = absurd (apart (some_is_one _ n _ e e2))
  one _ _ (exited n e apart) (missing n2 e2 read2 first2) = absurd (apart (some_is_one _ n _ e e2))
  one _ _ (exited n e apart) (shared n2 there2 first2) =
      absurd (apart (some_is_one _ n _ e there2.0))
  one _ _ (exited n e apart) (faulty why2 there2 good2 fault2) =
      absurd (apart (some_is_one _ n _ e there2.0))
  one _ _ (exited n e apart) (cyclic infos2 taken2 records2 round2) =
      absurd (apart (some_is_one _ n _ e taken2.0.0))
  one _ _ (exited n e apart) (well infos2 taken2 records2 acyclic2) =
      absurd (apart (some_is_one _ n _ e taken2.0.0))
  one _ _ (unread n e within is) (killed e2) = absurd (none_or_some _ _ e2 e)
  one _ _ (unread n e within is) (exited n2 e2 apart2) = absurd (apart2 (some_is_one _ n2 _ e2 e))
  one _ _ (unread n e within is) (unread n2 e2 within2 is2) = refl
  one _ _ (unread n e within is) (missing n2 e2 read2 first2) = absurd (read2 n within is)
  one _ _ (unread n e within is) (shared n2 there2 first2) = absurd (there2.2 n within is)
  one _ _ (unread n e within is) (faulty why2 there2 good2 fault2) = absurd (there2.2 n within is)
  one _ _ (unread n e within is) (cyclic infos2 taken2 records2 round2) =
      absurd (taken2.0.2 n within is)
  one _ _ (unread n e within is) (well infos2 taken2 records2 acyclic2) =
      absurd (taken2.0.2 n within is)
  one _ _ (missing n e read first) (killed e2) = absurd (none_or_some _ _ e2 e)
  one _ _ (missing n e read first) (exited n2 e2 apart2) = absurd (apart2 (some_is_one _ n2 _ e2 e))
  one _ _ (missing n e read first) (unread n2 e2 within2 is2) = absurd (read n2 within2 is2)
  one _ _ (missing n e read first) (missing n2 e2 read2 first2) =
      ap (λ k. Err (MissingOutput k)) (one_number (λ m. tree_at answer m ≡ None) _ n _ first first2)
  one _ _ (missing n e read first) (shared n2 there2 first2) =
      absurd (there2.1 n (missing_within n first) first.is)
  one _ _ (missing n e read first) (faulty why2 there2 good2 fault2) =
      absurd (there2.1 n (missing_within n first) first.is)
  one _ _ (missing n e read first) (cyclic infos2 taken2 records2 round2) =
      absurd (taken2.0.1 n (missing_within n first) first.is)
  one _ _ (missing n e read first) (well infos2 taken2 records2 acyclic2) =
      absurd (taken2.0.1 n (missing_within n first) first.is)
  one _ _ (shared n there first) (killed e2) = absurd (none_or_some _ _ e2 there.0)
  one _ _ (shared n there first) (exited n2 e2 apart2) =
      absurd (apart2 (some_is_one _ n2 _ e2 there.0))
  one _ _ (shared n there first) (unread n2 e2 within2 is2) = absurd (there.2 n2 within2 is2)
  one _ _ (shared n there first) (missing n2 e2 read2 first2) =
      absurd (there.1 n2 (missing_within n2 first2) first2.is)
  one _ _ (shared n there first) (shared n2 there2 first2) =
      ap (λ k. Err (BadMode k)) (one_number (HasBadMode job answer) _ n _ first first2)
  one _ _ (shared n there first) (faulty why2 there2 good2 fault2) =
      absurd (good2 n (shared_within n first) first.is)
  one _ _ (shared n there first) (cyclic infos2 taken2 records2 round2) =
      absurd (taken2.1 n (shared_within n first) first.is)
  one _ _ (shared n there first) (well infos2 taken2 records2 acyclic2) =
      absurd (taken2.1 n (shared_within n first) first.is)
  one _ _ (faulty why there good fault) (killed e2) = absurd (none_or_some _ _ e2 there.0)
  one _ _ (faulty why there good fault) (exited n2 e2 apart2) =
      absurd (apart2 (some_is_one _ n2 _ e2 there.0))
  one _ _ (faulty why there good fault) (unread n2 e2 within2 is2) = absurd (there.2 n2 within2 is2)
  one _ _ (faulty why there good fault) (missing n2 e2 read2 first2) =
      absurd (there.1 n2 (missing_within n2 first2) first2.is)
  one _ _ (faulty why there good fault) (shared n2 there2 first2) =
      absurd (good n2 (shared_within n2 first2) first2.is)
  one _ _ (faulty why there good fault) (faulty why2 there2 good2 fault2) =
      ap Err (one_fault _ _ fault fault2)
  one _ _ (faulty why there good fault) (cyclic infos2 taken2 records2 round2) =
      absurd (taken2.2 fault.0 why (faulty_within why fault) fault.2)
  one _ _ (faulty why there good fault) (well infos2 taken2 records2 acyclic2) =
      absurd (taken2.2 fault.0 why (faulty_within why fault) fault.2)
  one _ _ (cyclic infos taken records round) (killed e2) = absurd (none_or_some _ _ e2 taken.0.0)
  one _ _ (cyclic infos taken records round) (exited n2 e2 apart2) =
      absurd (apart2 (some_is_one _ n2 _ e2 taken.0.0))
  one _ _ (cyclic infos taken records round) (unread n2 e2 within2 is2) =
      absurd (taken.0.2 n2 within2 is2)
  one _ _ (cyclic infos taken records round) (missing n2 e2 read2 first2) =
      absurd (taken.0.1 n2 (missing_within n2 first2) first2.is)
  one _ _ (cyclic infos taken records round) (shared n2 there2 first2) =
      absurd (taken.1 n2 (shared_within n2 first2) first2.is)
  one _ _ (cyclic infos taken records round) (faulty why2 there2 good2 fault2) =
      absurd (taken.2 fault2.0 why2 (faulty_within why2 fault2) fault2.2)
  one _ _ (cyclic infos taken records round) (cyclic infos2 taken2 records2 round2) = refl
  one _ _ (cyclic infos taken records round) (well infos2 taken2 records2 acyclic2) =
      absurd (acyclic2 (subst (IsCyclic (outputs_of job)) (one_list _ _ records records2) round))
  one _ _ (well infos taken records acyclic) (killed e2) = absurd (none_or_some _ _ e2 taken.0.0)
  one _ _ (well infos taken records acyclic) (exited n2 e2 apart2) =
      absurd (apart2 (some_is_one _ n2 _ e2 taken.0.0))
  one _ _ (well infos taken records acyclic) (unread n2 e2 within2 is2) =
      absurd (taken.0.2 n2 within2 is2)
  one _ _ (well infos taken records acyclic) (missing n2 e2 read2 first2) =
      absurd (taken.0.1 n2 (missing_within n2 first2) first2.is)
  one _ _ (well infos taken records acyclic) (shared n2 there2 first2) =
      absurd (taken.1 n2 (shared_within n2 first2) first2.is)
  one _ _ (well infos taken records acyclic) (faulty why2 there2 good2 fault2) =
      absurd (taken.2 fault2.0 why2 (faulty_within why2 fault2) fault2.2)
  one _ _ (well infos taken records acyclic) (cyclic infos2 taken2 records2 round2) =
      absurd (acyclic (subst (IsCyclic (outputs_of job)) (one_list _ _ records2 records) round2))
  one _ _ (well infos taken records acyclic) (well infos2 taken2 records2 acyclic2) =
      ap Ok (one_list _ _ records records2)

pub has_one_verdict : HasOneVerdict
has_one_verdict job permitted answer a b verdict verdict' = search (rules, one, outcome_of)
