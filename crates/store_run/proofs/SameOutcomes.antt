-- Verdicts on answers that are the same, trees of the same bytes counting as one.
use Rattle.std.proofs.Common.{◌≡◌, ◌∙◌, inl, inr, ℕ, List, Option, Some, None, Result, Ok, Err, ap, refl, subst, sym, rules}
use Rattle.nix_names.specs.Digests.{algorithm_of}
use Rattle.nix_names.specs.declared.digest.Algorithm.{Algorithm}
use Rattle.nix_names.specs.declared.digest.Algorithm.TheVariants.{Sha256}
use Rattle.nix_names.specs.declared.digest.Digest.{Digest}
use Rattle.nix_names.specs.declared.method.Method.{Method}
use Rattle.nix_names.specs.declared.method.Method.TheVariants.{Flat, Recursive}
use Rattle.nix_names.specs.declared.method.MethodDigest.{MethodDigest}
use Rattle.drv_graph.specs.declared.kinds.Kind.{Kind}
use Rattle.drv_graph.specs.declared.kinds.Kind.TheVariants.{Addressed, Fixed}
use Rattle.drv_graph.specs.declared.profile.Profile.{Profile}
use Rattle.drv_graph.specs.declared.profile.Profile.TheVariants.{Plain, Nix}
use Rattle.ref_scan.specs.Scan.{IsFoundIn}
use Rattle.ref_scan.specs.declared.tree.Tree.{Tree}
use Rattle.valid_table.specs.PathInfos.{NarInfo, PathInfo}
use Rattle.valid_table.specs.declared.entry.Registration.{Registration}
use Rattle.build_outcome.specs.Checks.{IsTestedVerdict}
use Rattle.build_outcome.specs.Verdicts.{AreOutputsThere, AreRead, AreRecords, HasBadMode, HasForm, HaveGoodModes, IsDigestBy, IsFaulty, IsFirstFault, IsRecordDigest, IsRecordNar, IsRecordOf, IsTaken, IsTreeFault, IsUnread, IsUnreadAt, IsVerdict, MayBeTaken, flat_digest, tree_at}
use Rattle.build_outcome.specs.declared.job.Answer.{Answer}
use Rattle.build_outcome.specs.declared.job.Job.{Job}
use Rattle.build_outcome.specs.declared.reason.Reason.{Reason}
use Rattle.build_outcome.specs.declared.reason.Reason.TheVariants.{ExitStatus, NoStart, MissingOutput, NotFlatFile, HashMismatch, OutputCycle, TooLarge, ReadFault, OutOfMemory, Killed, BadMode, NotAllowed, BadSpecifier, BadAttributes, BadGraph, UnknownNar, PastMaxSize, PastMaxClosureSize}
use Rattle.store_run.specs.Builders.{IsVerdictOn}
use Rattle.store_run.specs.SameOutcomes.{AllowedIsOne, AreSameAnswers, AreSameOutcomes, AreSameTrees, HaveSameBytes}
use Rattle.store_run.proofs.SameTests.{one_for_both}
use Rattle.store_run.proofs.SameVerdicts.{first_same}

-- ---- trees

same_back : (tree other : Tree) → HaveSameBytes tree other → HaveSameBytes other tree
same_back tree other same = record {
  bytes = sym same.bytes;
  digest = λ algorithm. sym (same.digest algorithm);
  archive = λ text. ((same.archive text).1, (same.archive text).0);
  fits = (same.fits.1, same.fits.0);
  flat = λ profile. ((same.flat profile).1, (same.flat profile).0);
}

taken_there : (profile : Profile) (tree other : Tree) → HaveSameBytes tree other
    → MayBeTaken profile tree → MayBeTaken profile other
taken_there Plain tree other same fits = same.fits.0 fits
taken_there Nix tree other same taken = tt

form_there : (profile : Profile) (method : Method) (tree other : Tree) → HaveSameBytes tree other
    → HasForm profile method tree → HasForm profile method other
form_there profile Flat tree other same flat = (same.flat profile).0 flat
form_there profile Recursive tree other same is = tt

digest_there : (method : Method) (algorithm : Algorithm) (tree other : Tree)
    → HaveSameBytes tree other → (found : Digest) → IsDigestBy method algorithm tree found
    → IsDigestBy method algorithm other found
digest_there Flat algorithm tree other same found is = sym (same.digest algorithm) ∙ is
digest_there Recursive algorithm tree other same found (bytes, has, is) =
    (bytes, (same.archive bytes).0 has, is)

fault_there : (profile : Profile) (kind : Kind) (tree other : Tree) → HaveSameBytes tree other
    → (why : Reason) → IsTreeFault profile kind tree why → IsTreeFault profile kind other why
fault_there profile kind tree other same TooLarge fault =
    λ taken. fault (taken_there profile other tree (same_back tree other same) taken)
fault_there profile (Fixed method declared) tree other same NotFlatFile (taken, formless) = (
  taken_there profile tree other same taken,
  λ form. formless (form_there profile method other tree (same_back tree other same) form),
)
fault_there profile (Fixed method declared) tree other same HashMismatch
    (taken, form, (found, is, apart)) = (
      taken_there profile tree other same taken,
      form_there profile method tree other same form,
      (found, digest_there method (algorithm_of declared) tree other same found is, apart),
    )
fault_there profile Addressed tree other same NotFlatFile fault = absurd fault
fault_there profile Addressed tree other same HashMismatch fault = absurd fault
fault_there profile Addressed tree other same (ExitStatus n) fault = absurd fault
fault_there profile Addressed tree other same NoStart fault = absurd fault
fault_there profile Addressed tree other same (MissingOutput n) fault = absurd fault
fault_there profile Addressed tree other same OutputCycle fault = absurd fault
fault_there profile Addressed tree other same ReadFault fault = absurd fault
fault_there profile Addressed tree other same OutOfMemory fault = absurd fault
fault_there profile Addressed tree other same Killed fault = absurd fault
fault_there profile Addressed tree other same (BadMode n) fault = absurd fault
fault_there profile Addressed tree other same (NotAllowed output index) fault = absurd fault
fault_there profile Addressed tree other same (BadSpecifier output) fault = absurd fault
fault_there profile Addressed tree other same BadAttributes fault = absurd fault
fault_there profile Addressed tree other same BadGraph fault = absurd fault
fault_there profile Addressed tree other same (UnknownNar index) fault = absurd fault
fault_there profile Addressed tree other same (PastMaxSize output) fault = absurd fault
fault_there profile Addressed tree other same (PastMaxClosureSize output) fault = absurd fault
fault_there profile (Fixed method digest) tree other same (ExitStatus n) fault = absurd fault
fault_there profile (Fixed method digest) tree other same NoStart fault = absurd fault
fault_there profile (Fixed method digest) tree other same (MissingOutput n) fault = absurd fault
fault_there profile (Fixed method digest) tree other same OutputCycle fault = absurd fault
fault_there profile (Fixed method digest) tree other same ReadFault fault = absurd fault
fault_there profile (Fixed method digest) tree other same OutOfMemory fault = absurd fault
fault_there profile (Fixed method digest) tree other same Killed fault = absurd fault
fault_there profile (Fixed method digest) tree other same (BadMode n) fault = absurd fault
fault_there profile (Fixed method digest) tree other same (NotAllowed output index) fault =
    absurd fault
fault_there profile (Fixed method digest) tree other same (BadSpecifier output) fault =
    absurd fault
fault_there profile (Fixed method digest) tree other same BadAttributes fault =
    absurd fault
fault_there profile (Fixed method digest) tree other same BadGraph fault =
    absurd fault
fault_there profile (Fixed method digest) tree other same (UnknownNar index) fault =
    absurd fault
fault_there profile (Fixed method digest) tree other same (PastMaxSize output) fault =
    absurd fault
fault_there profile (Fixed method digest) tree other same (PastMaxClosureSize output) fault =
    absurd fault

unread_there : (job : Job) (tree other : Tree) → HaveSameBytes tree other → IsUnread job tree
    → IsUnread job other
unread_there job tree other same (needs, none) =
    (needs, λ bytes has. none bytes ((same.archive bytes).1 has))

record_digest_there : (profile : Profile) (kind : Kind) (tree other : Tree)
    → HaveSameBytes tree other → (digest : Option MethodDigest)
    → IsRecordDigest profile kind tree digest → IsRecordDigest profile kind other digest
record_digest_there profile (Fixed method declared) tree other same digest (found, is, by) =
    (found, is, digest_there method (algorithm_of declared) tree other same found by)
record_digest_there Plain Addressed tree other same digest is =
    is ∙ ap flat_digest (same.digest Sha256)
record_digest_there Nix Addressed tree other same digest is = is

record_nar_there : (profile : Profile) (tree other : Tree) → HaveSameBytes tree other
    → (nar : Option NarInfo) → IsRecordNar profile tree nar → IsRecordNar profile other nar
record_nar_there Plain tree other same nar is = is
record_nar_there Nix tree other same nar (sum, is, (bytes, has, hash, size)) =
    (sum, is, (bytes, (same.archive bytes).0 has, hash, size))

record_there : (job : Job) (permitted : List (List ℕ)) (tree other : Tree)
    → HaveSameBytes tree other → (info : PathInfo) → IsRecordOf job permitted tree info
    → IsRecordOf job permitted other info
record_there job permitted tree other same info is = record {
  found = subst (λ (lists : List (List ℕ)). IsFoundIn lists permitted info.references) same.bytes
      is.found;
  digest = record_digest_there job.profile job.kind tree other same info.digest is.digest;
  nar = record_nar_there job.profile tree other same info.nar is.nar;
}

-- ---- answers

trees_back : (o p : Option Tree) → AreSameTrees o p → AreSameTrees p o
trees_back None None same = tt
trees_back (Some tree) (Some other) same = same_back _ _ same
trees_back None (Some other) same = absurd same
trees_back (Some tree) None same = absurd same

answers_back : (answer other : Answer) → AreSameAnswers answer other → AreSameAnswers other answer
answers_back answer other same = record {
  status = sym same.status;
  trees = λ n. trees_back _ _ (same.trees n);
  modes = λ n. ((same.modes n).1, (same.modes n).0);
}

none_same : (o p : Option Tree) → o ≡ None → AreSameTrees o p → p ≡ None
none_same None None is same = refl
none_same None (Some other) is same = absurd same
none_same (Some tree) p is same = absurd cc

some_same : (tree : Tree) (o p : Option Tree) → o ≡ Some tree → AreSameTrees o p
    → (other : Tree) × (p ≡ Some other) × HaveSameBytes tree other
some_same tree (Some t) (Some other) is same = search rules
some_same tree (Some t) None is same = absurd same
some_same tree None p is same = absurd cc

module _ (job : Job) (answer other : Answer) (same : AreSameAnswers answer other) where
  missing_there : (n : ℕ) → tree_at answer n ≡ None → tree_at other n ≡ None
  missing_there n none = search (rules, none_same)

  -- the tree at the same output of the other answer
  its_tree : (n : ℕ) (tree : Tree) → tree_at answer n ≡ Some tree
      → (its : Tree) × (tree_at other n ≡ Some its) × HaveSameBytes tree its
  its_tree n tree at = some_same tree (tree_at answer n) (tree_at other n) at (same.trees n)

  mode_there : (n : ℕ) → HasBadMode job answer n → HasBadMode job other n
  mode_there n (nix, may) = (nix, (same.modes n).0 may)

  faulty_there : (n : ℕ) (why : Reason) → IsFaulty job answer why n → IsFaulty job other why n
  faulty_there n why (tree, at, fault) =
      let its = its_tree n tree at in
      (its.0, its.1, fault_there job.profile job.kind tree its.0 its.2 why fault)

  unread_at_there : (n : ℕ) → IsUnreadAt job answer n → IsUnreadAt job other n
  unread_at_there n (tree, at, unread) =
      let its = its_tree n tree at in
      (its.0, its.1, unread_there job tree its.0 its.2 unread)

  records_there : (permitted : List (List ℕ)) (infos : List PathInfo)
      → AreRecords job permitted answer infos → AreRecords job permitted other infos
  records_there permitted infos are = record {
    count = are.count;
    each = λ n info index.
        let (tree, at, is) = are.each n info index in
        let its = its_tree n tree at in
        (its.0, its.1, record_there job permitted tree its.0 its.2 info is);
  }

module _ (job : Job) (answer other : Answer) (same : AreSameAnswers answer other) where
  back : AreSameAnswers other answer
  back = answers_back _ _ same

  read_too : AreRead job answer → AreRead job other
  read_too read n low unread = read n low (unread_at_there job other answer back n unread)

  there_too : AreOutputsThere job answer → AreOutputsThere job other
  there_too (status, there, read) = (
    sym same.status ∙ status,
    λ n low none. there n low (missing_there job other answer back n none),
    read_too read,
  )

  good_too : HaveGoodModes job answer → HaveGoodModes job other
  good_too good n low bad = good n low (mode_there job other answer back n bad)

  first_too : (reason : Reason) → IsFirstFault job answer reason → IsFirstFault job other reason
  first_too reason first = (
    first.0,
    first_same (λ m. (why : Reason) × IsFaulty job answer why m)
        (λ m. (why : Reason) × IsFaulty job other why m)
        (λ m faulty. (faulty.0, faulty_there job _ other same m faulty.0 faulty.1))
        (λ m faulty. (faulty.0, faulty_there job _ answer back m faulty.0 faulty.1))
        _ _ first.1,
    faulty_there job _ other same first.0 reason first.2,
  )

  taken_too : IsTaken job answer → IsTaken job other
  taken_too taken = (
    there_too taken.0,
    good_too taken.1,
    λ n why low faulty. taken.2 n why low (faulty_there job other answer back n why faulty),
  )

  verdict_there : (permitted : List (List ℕ)) (verdict : Result (List PathInfo) Reason)
      → IsVerdict job permitted answer verdict → IsVerdict job permitted other verdict
  verdict_there permitted (Ok infos) is =
      (taken_too is.0, records_there job answer other same permitted infos is.1, is.2)
  verdict_there permitted (Err Killed) is = sym same.status ∙ is
  verdict_there permitted (Err (ExitStatus n)) is = (sym same.status ∙ is.0, is.1)
  verdict_there permitted (Err ReadFault) (status, (n, low, unread)) =
      (sym same.status ∙ status, (n, low, unread_at_there job answer other same n unread))
  verdict_there permitted (Err (MissingOutput n)) (status, read, first) = (
    sym same.status ∙ status,
    read_too read,
    first_same (λ m. tree_at answer m ≡ None) (λ m. tree_at other m ≡ None)
        (missing_there job answer other same) (missing_there job other answer back) _ n first,
  )
  verdict_there permitted (Err (BadMode n)) (there, first) = (
    there_too there,
    first_same (HasBadMode job answer) (HasBadMode job other) (mode_there job answer other same)
        (mode_there job other answer back) _ n first,
  )
  verdict_there permitted (Err TooLarge) (there, good, fault) =
      (there_too there, good_too good, first_too TooLarge fault)
  verdict_there permitted (Err NotFlatFile) (there, good, fault) =
      (there_too there, good_too good, first_too NotFlatFile fault)
  verdict_there permitted (Err HashMismatch) (there, good, fault) =
      (there_too there, good_too good, first_too HashMismatch fault)
  verdict_there permitted (Err OutputCycle) (taken, (infos, records, round)) =
      (taken_too taken, (infos, records_there job answer other same permitted infos records, round))
  verdict_there permitted (Err NoStart) is = absurd is
  verdict_there permitted (Err OutOfMemory) is = absurd is
  verdict_there permitted (Err (NotAllowed output index)) is = absurd is
  verdict_there permitted (Err (BadSpecifier output)) is = absurd is
  verdict_there permitted (Err BadAttributes) is = absurd is
  verdict_there permitted (Err BadGraph) is = absurd is
  verdict_there permitted (Err (UnknownNar index)) is = absurd is
  verdict_there permitted (Err (PastMaxSize output)) is = absurd is
  verdict_there permitted (Err (PastMaxClosureSize output)) is = absurd is

  -- the tests are of the records
  tested_there : (registrations : List Registration) (permitted : List (List ℕ))
      (verdict : Result (List PathInfo) Reason)
      → IsTestedVerdict registrations job permitted answer verdict
      → IsTestedVerdict registrations job permitted other verdict
  tested_there registrations permitted (Ok infos) (is, passed) =
      (verdict_there permitted (Ok infos) is, passed)
  tested_there registrations permitted (Err reason) (inl is) =
      inl (verdict_there permitted (Err reason) is)
  tested_there registrations permitted (Err reason) (inr (infos, is, first)) =
      inr (infos, verdict_there permitted (Ok infos) is, first)

pub allowed_is_one : (may : Job → Result Answer Reason → Type 0) → AllowedIsOne may
allowed_is_one may graph allows d job again registrations permitted x y a b is is' gives gives' on
    on' =
    by x y (allows d job again x y is is' gives gives') on on'
  where
    by : (u w : Result Answer Reason) → AreSameOutcomes u w
        → IsVerdictOn registrations job permitted u a
        → IsVerdictOn registrations again permitted w b → a ≡ b
    by (Ok u) (Ok w) same on on' =
        one_for_both graph d job again is is' registrations permitted w a b
        (tested_there job u w same registrations permitted a on) on'
    by (Err u) (Err w) same on on' = search rules
    by (Ok u) (Err w) same on on' = absurd same
    by (Err u) (Ok w) same on on' = absurd same
