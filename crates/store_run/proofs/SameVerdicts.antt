-- The verdict on an answer is the same for jobs with the same outputs, of one kind and under one
-- profile.
use Rattle.std.proofs.Common.{◌≡◌, ◌∙◌, ◌<◌, ℕ, List, All, length, None, Result, Ok, Err, subst, sym, rules}
use Rattle.std.proofs.lemmas.List.{length-map}
use Rattle.drv_graph.specs.declared.kinds.Kind.{Kind}
use Rattle.drv_graph.specs.declared.profile.Profile.{Profile}
use Rattle.ref_scan.specs.declared.tree.Tree.{Tree}
use Rattle.valid_table.specs.PathInfos.{PathInfo}
use Rattle.build_outcome.specs.Verdicts.{AreOutputsThere, AreRead, AreRecords, HasBadMode, HaveGoodModes, IsCyclic, IsFaulty, IsFirstFault, IsFirstNumber, IsRecordDigest, IsRecordNar, IsRecordOf, IsTaken, IsTreeFault, IsUnreadAt, IsVerdict, NeedsArchive, outputs_of, tree_at}
use Rattle.build_outcome.specs.declared.job.Answer.{Answer}
use Rattle.build_outcome.specs.declared.job.Job.{Job}
use Rattle.build_outcome.specs.declared.reason.Reason.{Reason}
use Rattle.build_outcome.specs.declared.reason.Reason.TheVariants.{ExitStatus, NoStart, MissingOutput, NotFlatFile, HashMismatch, OutputCycle, TooLarge, ReadFault, OutOfMemory, Killed, BadMode, NotAllowed, BadSpecifier, BadAttributes, BadGraph, UnknownNar, PastMaxSize, PastMaxClosureSize}

-- ---- firsts

pub all_weaker : {X : Type 0} (P Q : X → Type 0) → ((x : X) → P x → Q x) → (xs : List X) → All P xs
    → All Q xs
all_weaker P Q goes xs all = search rules

pub first_same : (P Q : ℕ → Type 0) → ((n : ℕ) → P n → Q n) → ((n : ℕ) → Q n → P n)
    → (count n : ℕ) → IsFirstNumber P count n → IsFirstNumber Q count n
first_same P Q there back count n first = search (rules, all_weaker, back)

-- ---- what a profile and a kind decide

pub said_of : (Says : Profile → Kind → Type 0) (p q : Profile) (a b : Kind) → p ≡ q → a ≡ b
    → Says p a → Says q b
said_of Says p q a b profiles kinds is =
    subst (λ (r : Profile). Says r b) profiles (subst (λ (k : Kind). Says p k) kinds is)

module _ (job again : Job) (kinds : job.kind ≡ again.kind)
    (profiles : job.profile ≡ again.profile) where
  said_too : (Says : Profile → Kind → Type 0) → Says job.profile job.kind
      → Says again.profile again.kind
  said_too Says is =
      said_of Says job.profile again.profile job.kind again.kind profiles kinds is

  faulty_too : (answer : Answer) (why : Reason) (n : ℕ) → IsFaulty job answer why n
      → IsFaulty again answer why n
  faulty_too answer why n (tree, at, fault) =
      (tree, at, said_too (λ (p : Profile) (k : Kind). IsTreeFault p k tree why) fault)

  unread_too : (answer : Answer) (n : ℕ) → IsUnreadAt job answer n → IsUnreadAt again answer n
  unread_too answer n (tree, at, (needs, none)) =
      (tree, at, (said_too (λ (p : Profile) (k : Kind). NeedsArchive p k) needs, none))

  mode_too : (answer : Answer) (n : ℕ) → HasBadMode job answer n → HasBadMode again answer n
  mode_too answer n (nix, may) = (sym profiles ∙ nix, may)

  record_too : (permitted : List (List ℕ)) (tree : Tree) (info : PathInfo)
      → IsRecordOf job permitted tree info → IsRecordOf again permitted tree info
  record_too permitted tree info is = record {
    found = is.found;
    digest = said_too (λ (p : Profile) (k : Kind). IsRecordDigest p k tree info.digest) is.digest;
    nar = said_too (λ (p : Profile) (k : Kind). IsRecordNar p tree info.nar) is.nar;
  }

-- ---- verdicts

module _ (job again : Job) (outputs : outputs_of job ≡ outputs_of again)
    (kinds : job.kind ≡ again.kind) (profiles : job.profile ≡ again.profile) (answer : Answer) where
  pub counts : length job.outputs.items ≡ length again.outputs.items
  counts = search (rules, length-map)

  within : (n : ℕ) → n < length again.outputs.items → n < length job.outputs.items
  within n low = subst (λ count. n < count) (sym counts) low

  faulty_back : (why : Reason) (n : ℕ) → IsFaulty again answer why n → IsFaulty job answer why n
  faulty_back = faulty_too again job (sym kinds) (sym profiles) answer

  read_too : AreRead job answer → AreRead again answer
  read_too read n low unread =
      read n (within n low) (unread_too again job (sym kinds) (sym profiles) answer n unread)

  there_too : AreOutputsThere job answer → AreOutputsThere again answer
  there_too (status, there, read) =
      (status, λ n low none. there n (within n low) none, read_too read)

  mode_back : (n : ℕ) → HasBadMode again answer n → HasBadMode job answer n
  mode_back = mode_too again job (sym kinds) (sym profiles) answer

  good_too : HaveGoodModes job answer → HaveGoodModes again answer
  good_too good n low bad = good n (within n low) (mode_back n bad)

  first_too : (reason : Reason) → IsFirstFault job answer reason
      → IsFirstFault again answer reason
  first_too reason (n, first, faulty) = (
    n,
    subst (λ count. IsFirstNumber (λ m. (why : Reason) × IsFaulty again answer why m) count n)
        counts
        (first_same (λ m. (why : Reason) × IsFaulty job answer why m)
        (λ m. (why : Reason) × IsFaulty again answer why m)
        (λ m is. (is.0, faulty_too job again kinds profiles answer is.0 m is.1))
        (λ m is. (is.0, faulty_back is.0 m is.1))
        (length job.outputs.items) n first),
    faulty_too job again kinds profiles answer reason n faulty,
  )

  taken_too : IsTaken job answer → IsTaken again answer
  taken_too (there, good, sound) = (
    there_too there,
    good_too good,
    λ n why low faulty. sound n why (within n low) (faulty_back why n faulty),
  )

  records_too : (permitted : List (List ℕ)) (infos : List PathInfo)
      → AreRecords job permitted answer infos → AreRecords again permitted answer infos
  records_too permitted infos are = record {
    count = are.count ∙ counts;
    each = λ n info at.
        let is = are.each n info at in
        (is.0, is.1, record_too job again kinds profiles permitted is.0 info is.2);
  }

  pub verdict_too : (permitted : List (List ℕ)) (verdict : Result (List PathInfo) Reason)
      → IsVerdict job permitted answer verdict → IsVerdict again permitted answer verdict
  verdict_too permitted (Ok infos) is = (
    taken_too is.0,
    records_too permitted infos is.1,
    subst (λ (paths : List (List ℕ)). IsCyclic paths infos → ⊥) outputs is.2,
  )
  verdict_too permitted (Err Killed) is = is
  verdict_too permitted (Err (ExitStatus n)) is = is
  verdict_too permitted (Err ReadFault) (status, (n, low, unread)) = (
    status,
    (
      n,
      subst (λ count. n < count) counts low,
      unread_too job again kinds profiles answer n unread,
    ),
  )
  verdict_too permitted (Err (MissingOutput n)) (status, read, first) = (
    status,
    read_too read,
    subst (λ count. IsFirstNumber (λ m. tree_at answer m ≡ None) count n) counts first,
  )
  verdict_too permitted (Err (BadMode n)) (there, first) = (
    there_too there,
    subst (λ count. IsFirstNumber (HasBadMode again answer) count n) counts
        (first_same (HasBadMode job answer) (HasBadMode again answer)
        (mode_too job again kinds profiles answer) mode_back (length job.outputs.items) n first),
  )
  verdict_too permitted (Err TooLarge) (there, good, fault) =
      (there_too there, good_too good, first_too TooLarge fault)
  verdict_too permitted (Err NotFlatFile) (there, good, fault) =
      (there_too there, good_too good, first_too NotFlatFile fault)
  verdict_too permitted (Err HashMismatch) (there, good, fault) =
      (there_too there, good_too good, first_too HashMismatch fault)
  verdict_too permitted (Err OutputCycle) is = (
    taken_too is.0,
    (
      is.1.0,
      records_too permitted is.1.0 is.1.1,
      subst (λ (paths : List (List ℕ)). IsCyclic paths is.1.0) outputs is.1.2,
    ),
  )
  verdict_too permitted (Err NoStart) is = absurd is
  verdict_too permitted (Err OutOfMemory) is = absurd is
  verdict_too permitted (Err (NotAllowed output index)) is = absurd is
  verdict_too permitted (Err (BadSpecifier output)) is = absurd is
  verdict_too permitted (Err BadAttributes) is = absurd is
  verdict_too permitted (Err BadGraph) is = absurd is
  verdict_too permitted (Err (UnknownNar index)) is = absurd is
  verdict_too permitted (Err (PastMaxSize output)) is = absurd is
  verdict_too permitted (Err (PastMaxClosureSize output)) is = absurd is
