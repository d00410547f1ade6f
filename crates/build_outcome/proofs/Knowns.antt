-- What is known of outputs, by their trees or as they were heard.
use Rattle.std.proofs.Common.{◌≡◌, ◌≢◌, ◌∙◌, ◌↔◌, ◌⊎◌, inl, inr, ⊎_elim, ℕ, zero, suc, ◌+◌, ◌<◌, ◌^◌, Bool, true, false, List, [], ◌∷◌, Option, Some, None, MatchOption, length, refl, sym, ap, subst, arith}
use Rattle.std.specs.Borrow.{Bor}
use Rattle.std.specs.Prelude.{⊤, pos, IfOk, IsTrue, Err, Ok, Result, not}
use Rattle.std.specs.List.{slice_get}
use Rattle.std.specs.declared.alloc.Global.{Global}
use Rattle.std.specs.declared.vec.Vec.{Vec}
use Rattle.std.proofs.lemmas.Bool.{false≢true}
use Rattle.std.proofs.lemmas.Option.{same_Some}
use Rattle.nix_names.specs.Digests.{algorithm_of}
use Rattle.nix_names.specs.declared.digest.Algorithm.{Algorithm}
use Rattle.nix_names.specs.declared.digest.Algorithm.TheVariants.{Sha256}
use Rattle.nix_names.specs.declared.digest.Digest.{Digest}
use Rattle.nix_names.specs.declared.method.Method.{Method}
use Rattle.nix_names.specs.declared.method.Method.TheVariants.{Flat, Recursive}
use Rattle.nix_names.specs.declared.method.MethodDigest.{MethodDigest}
use Rattle.drv_graph.specs.declared.kinds.Kind.{Kind}
use Rattle.drv_graph.specs.declared.kinds.Kind.TheVariants.{Addressed, Fixed}
use Rattle.drv_graph.specs.declared.profile.Profile.{Profile}
use Rattle.drv_graph.specs.declared.profile.Profile.TheVariants.{Nix, Plain}
use Rattle.ref_scan.specs.Scan.{IsFound}
use Rattle.ref_scan.specs.declared.tree.Tree.{Tree}
use Rattle.valid_table.specs.PathInfos.{NarInfo, PathInfo}
use Rattle.build_outcome.specs.Heard.{IsKeptOf, IsSumKept, Kept, file_algorithm}
use Rattle.build_outcome.specs.Sums.{IsOutputSum, archive_algorithm}
use Rattle.build_outcome.specs.Verdicts.{HasArchive, HasForm, IsDigestBy, IsFlatFile, IsRecordDigest, IsRecordNar, IsRecordOf, IsTreeFault, MayBeTaken, NeedsArchive, digest_by, file_digest_of, flat_digest, left_at, tree_at}
use Rattle.build_outcome.specs.declared.job.Answer.{Answer}
use Rattle.build_outcome.specs.declared.job.Job.{Job}
use Rattle.build_outcome.specs.declared.job.LeftOutput.{LeftOutput}
use Rattle.build_outcome.specs.declared.known_outputs.Known.{Known}
use Rattle.build_outcome.specs.declared.known_outputs.Known.TheVariants.{Heard as OfHeard, Tree as OfTree}
use Rattle.build_outcome.specs.declared.known_outputs.Outputs.{Outputs}
use Rattle.build_outcome.specs.declared.known_outputs.Outputs.TheVariants.{Trees}
use Rattle.build_outcome.specs.declared.reason.Reason.{Reason}
use Rattle.build_outcome.specs.declared.reason.Reason.TheVariants.{HashMismatch, NotFlatFile}
use Rattle.build_outcome.specs.declared.sums.OutputSum.{OutputSum}
use Rattle.build_outcome.specs.private.Judging.{AreKept, AreKnown, IsKeptAt, IsKnown, IsSumGiven, IsTreeTaken}
use Rattle.build_outcome.specs.private.Summing.{AreSums}
use Rattle.build_outcome.proofs.Archives.{archived_by}
use Rattle.build_outcome.proofs.FixedDigests.{flat_digests}
use Rattle.build_outcome.proofs.Verdicts.{TreeFault, mismatched, not_flat as not_flat_fault, too_large, tree_fault_cases}

-- ---- sums

some_tree : (answer : Answer) (n : ℕ) (output : LeftOutput) → left_at answer n ≡ Some output
    → tree_at answer n ≡ Some output.tree
some_tree answer n output at = rw at refl

-- the sum among those of an answer
pub sum_among : (job : Job) (answer : Answer) (sums : List (Option OutputSum)) (n : ℕ)
    (output : LeftOutput) (given : Option (Bor OutputSum)) → AreSums job answer sums
    → n < length job.outputs.items → left_at answer n ≡ Some output
    → MatchOption given ((sum : OutputSum) → slice_get sums n ≢ Some (Some sum))
    (λ ref. slice_get sums n ≡ Some (Some ref.now)) → IsSumGiven job output.tree given
sum_among job answer sums n output None are below at none =
    λ needed.
    let there = are.whole needed n output.tree below (some_tree answer n output at) in
    none there.0 there.1
sum_among job answer sums n output (Some ref) are below at is =
    are.each n ref.now output.tree is (some_tree answer n output at)

-- the declared digest of an archive, by its sum
pub given_digest : (job : Job) (tree : Tree) (declared : Digest) (sum : OutputSum)
    → IsOutputSum job.kind tree sum → job.kind ≡ Fixed Recursive declared
    → IsDigestBy Recursive (algorithm_of declared) tree sum.digest
given_digest job tree declared sum is kind = (
  is.bytes,
  is.has,
  is.digest ∙ ap (λ (k : Kind). digest_by (archive_algorithm k) is.bytes) kind,
)

-- ---- what was kept, by number

pub kept_at : (job : Job) (permitted : List (List ℕ)) (outputs : List (Option LeftOutput))
    (kept : List (Option Kept)) (n : ℕ) → AreKept job permitted outputs kept
    → (slice_get outputs n ≡ None × slice_get kept n ≡ None)
    ⊎ ((output : Option LeftOutput) × (k : Option Kept) × (slice_get outputs n ≡ Some output)
    × (slice_get kept n ≡ Some k) × IsKeptAt job permitted output k)
kept_at job permitted [] [] n are = inl (refl, refl)
kept_at job permitted [] (k ∷ kept) n are = absurd are
kept_at job permitted (output ∷ outputs) [] n are = absurd are
kept_at job permitted (output ∷ outputs) (k ∷ kept) zero are =
    inr (output, k, refl, refl, are.0)
kept_at job permitted (output ∷ outputs) (k ∷ kept) (suc n) are =
    kept_at job permitted outputs kept n are.1

-- ---- what is known at a number

tree_of : (answer : Answer) (n : ℕ) (output : Option LeftOutput) → left_at answer n ≡ output
    → output ≡ None → tree_at answer n ≡ None
tree_of answer n output at none = let here : left_at answer n ≡ None = at ∙ none in rw here refl

pub trees_known : (job : Job) (permitted : List (List ℕ)) (answer : Answer) (a : Bor Answer)
    (sums : Bor (List (Option OutputSum))) (n : ℕ) (left : Bor LeftOutput)
    (given : Option (Bor OutputSum)) → AreKnown job permitted answer (Trees a sums)
    → n < length job.outputs.items → left_at a.now n ≡ Some left.now
    → MatchOption given ((sum : OutputSum) → slice_get sums.now n ≢ Some (Some sum))
    (λ ref. slice_get sums.now n ≡ Some (Some ref.now))
    → (output : LeftOutput) × (left_at answer n ≡ Some output)
    × IsKnown job permitted output (OfTree left given)
trees_known job permitted answer a sums n left given (same, are) below at is =
    let here : left_at answer n ≡ Some left.now =
    subst (λ (x : Answer). left_at x n ≡ Some left.now) same at in
    (left.now, here, (refl, sum_among job answer sums.now n left.now given are below here is))

pub trees_missing : (job : Job) (permitted : List (List ℕ)) (answer : Answer) (a : Bor Answer)
    (sums : Bor (List (Option OutputSum))) (n : ℕ) → AreKnown job permitted answer (Trees a sums)
    → left_at a.now n ≡ None → tree_at answer n ≡ None
trees_missing job permitted answer a sums n (same, are) none =
    tree_of answer n None (subst (λ (x : Answer). left_at x n ≡ None) same none) refl

-- ---- digests

kept_archive : (job : Job) (tree : Tree) (sum : Option OutputSum) → IsSumKept job tree sum
    → NeedsArchive job.profile job.kind → (bytes : List ℕ) × HasArchive tree bytes
kept_archive job tree None kept needed = absurd (kept needed)
kept_archive job tree (Some sum) kept needed = (kept.bytes, kept.has)

-- where archives are asked for, what is known of an output has one
pub known_archive : (job : Job) (permitted : List (List ℕ)) (output : LeftOutput) (known : Known)
    → IsKnown job permitted output known → NeedsArchive job.profile job.kind
    → (bytes : List ℕ) × HasArchive output.tree bytes
known_archive job permitted output (OfTree left given) told needed =
    archived_by job output.tree given told.1 needed
known_archive job permitted output (OfHeard kept) told needed =
    kept_archive job output.tree kept.now.sum told.0.sum needed

pub asked_plain : (profile : Profile) (kind : Kind) → profile ≡ Plain → kind ≡ Addressed
    → file_algorithm profile kind ≡ Some Sha256
asked_plain profile kind is is' =
    ap (λ (p : Profile). file_algorithm p kind) is ∙ ap (λ (k : Kind). file_algorithm Plain k) is'

asked_by : (profile : Profile) (declared : Digest)
    → file_algorithm profile (Fixed Flat declared) ≡ Some (algorithm_of declared)
asked_by Plain declared = refl
asked_by Nix declared = refl

pub asked_flat : (profile : Profile) (kind : Kind) (method : Method) (declared : Digest)
    (algorithm : Algorithm) → kind ≡ Fixed method declared → method ≡ Flat
    → algorithm ≡ algorithm_of declared → file_algorithm profile kind ≡ Some algorithm
asked_flat profile kind method declared algorithm is flat by =
    ap (file_algorithm profile) (is ∙ ap (λ (m : Method). Fixed m declared) flat)
    ∙ asked_by profile declared ∙ ap Some (sym by)

pub plain_record : (profile : Profile) (tree : Tree) (digest : Option Digest) → profile ≡ Plain
    → digest ≡ file_digest_of Sha256 tree
    → IsRecordDigest profile Addressed tree (flat_digest digest)
plain_record profile tree digest is same =
    subst (λ (p : Profile). IsRecordDigest p Addressed tree (flat_digest digest)) (sym is)
    (ap flat_digest same)

-- what is found by the method of the declared digest
abbrev pub IsFoundBy : Profile → Method → Digest → Tree → Option Digest → Type 0
IsFoundBy profile method declared tree digest =
    MatchOption digest (HasForm profile method tree → ⊥)
    (λ found. HasForm profile method tree × IsDigestBy method (algorithm_of declared) tree found)

found_flat : (profile : Profile) (tree : Tree) (declared found : Digest) (o : Option Digest)
    → o ≡ Some found → IsFlatFile profile tree
    → file_digest_of (algorithm_of declared) tree ≡ Some found
    → IsFoundBy profile Flat declared tree o
found_flat profile tree declared found None is flat at = absurd cc
found_flat profile tree declared found (Some x) is flat at = (flat, at ∙ sym is)

pub flat_found : (profile : Profile) (method : Method) (tree : Tree) (declared : Digest)
    (algorithm : Algorithm) (digest : Option Digest) → method ≡ Flat → IsFlatFile profile tree
    → algorithm ≡ algorithm_of declared → digest ≡ file_digest_of algorithm tree
    → IsFoundBy profile method declared tree digest
flat_found profile method tree declared algorithm digest is flat by same =
    let there = flat_digests profile (algorithm_of declared) tree flat in
    subst (λ (m : Method). IsFoundBy profile m declared tree digest) (sym is)
    (found_flat profile tree declared there.0 digest
    (same ∙ ap (λ (a : Algorithm). file_digest_of a tree) by ∙ there.1) flat there.1)

pub not_flat : (profile : Profile) (method : Method) (tree : Tree) (flat : Bool) → method ≡ Flat
    → IsTrue flat ↔ IsFlatFile profile tree → flat ≡ false → HasForm profile method tree → ⊥
not_flat profile method tree flat is told unset form =
    false≢true
    (sym unset ∙ told.1 (subst (λ (m : Method). HasForm profile m tree) is form))

pub recursive_found : (job : Job) (tree : Tree) (method : Method) (declared : Digest)
    (sum : OutputSum) → method ≡ Recursive → job.kind ≡ Fixed method declared
    → IsOutputSum job.kind tree sum
    → HasForm job.profile method tree
    × IsDigestBy method (algorithm_of declared) tree sum.digest
recursive_found job tree method declared sum is kind told =
    subst (λ (m : Method). HasForm job.profile m tree
    × IsDigestBy m (algorithm_of declared) tree sum.digest) (sym is)
    (tt, given_digest job tree declared sum told (kind ∙ ap (λ (m : Method). Fixed m declared) is))

needs_by : (profile : Profile) (declared : Digest)
    → NeedsArchive profile (Fixed Recursive declared)
needs_by Plain declared = tt
needs_by Nix declared = tt

pub recursive_needs : (profile : Profile) (kind : Kind) (method : Method) (declared : Digest)
    → kind ≡ Fixed method declared → method ≡ Recursive → NeedsArchive profile kind
recursive_needs profile kind method declared is recursive =
    subst (NeedsArchive profile) (sym (is ∙ ap (λ (m : Method). Fixed m declared) recursive))
    (needs_by profile declared)

-- ---- faults

pub past : (b : Bool) (P : Type 0) → IsTrue b ↔ P → b ≡ false → P → ⊥
past b P told unset p = false≢true (sym unset ∙ told.1 p)

pub true_of : (b : Bool) → not b ≡ false → b ≡ true
true_of true is = refl
true_of false is = sym is

pub false_of : (b : Bool) → not b ≡ true → b ≡ false
false_of true is = sym is
false_of false is = refl

pub addressed_taken : (profile : Profile) (kind : Kind) (tree : Tree) → kind ≡ Addressed
    → MayBeTaken profile tree → (why : Reason) → IsTreeFault profile kind tree why → ⊥
addressed_taken profile kind tree is may why fault = by why (tree_fault_cases _ _ _ _ fault)
  where
    by : (reason : Reason) → TreeFault profile kind tree reason → ⊥
    by _ (too_large unfit) = unfit may
    by _ (not_flat_fault method declared is' fits form) =
        let wrong : Addressed ≡ Fixed method declared = sym is ∙ is' in absurd cc
    by _ (mismatched method declared is' fits form) =
        let wrong : Addressed ≡ Fixed method declared = sym is ∙ is' in absurd cc

pub fault_not_flat : (profile : Profile) (kind : Kind) (tree : Tree) (method : Method)
    (declared : Digest) → kind ≡ Fixed method declared → MayBeTaken profile tree
    → (HasForm profile method tree → ⊥) → IsTreeFault profile kind tree NotFlatFile
fault_not_flat profile kind tree method declared is may none =
    subst (λ (k : Kind). IsTreeFault profile k tree NotFlatFile) (sym is) (may, none)

pub fault_mismatch : (profile : Profile) (kind : Kind) (tree : Tree) (method : Method)
    (declared found : Digest) → kind ≡ Fixed method declared → MayBeTaken profile tree
    → HasForm profile method tree × IsDigestBy method (algorithm_of declared) tree found
    → found ≢ declared → IsTreeFault profile kind tree HashMismatch
fault_mismatch profile kind tree method declared found is may told other =
    subst (λ (k : Kind). IsTreeFault profile k tree HashMismatch) (sym is)
    (may, told.0, (found, told.1, other))

-- ---- records

pub record_made : {E : Type 0} (job : Job) (permitted : List (List ℕ)) (known : Known)
    (result : Result PathInfo E) (references : List (List ℕ)) (digest : Option MethodDigest)
    (nar : Option NarInfo) → IfOk result (λ (r : PathInfo). r.references ≡ references)
    → IfOk result (λ (r : PathInfo). r.digest ≡ digest)
    → IfOk result (λ (r : PathInfo). r.nar ≡ nar)
    → ((output : LeftOutput) → IsKnown job permitted output known
    → IsFound output.tree permitted references)
    → ((output : LeftOutput) → IsKnown job permitted output known → IsTreeTaken job output.tree
    → IsRecordDigest job.profile job.kind output.tree digest)
    → ((output : LeftOutput) → IsKnown job permitted output known
    → IsRecordNar job.profile output.tree nar)
    → IfOk result (λ (info : PathInfo). (output : LeftOutput)
    → IsKnown job permitted output known → IsTreeTaken job output.tree
    → IsRecordOf job permitted output.tree info)
record_made job permitted known (Err e) references digest nar a b d found hashed summed = tt
record_made job permitted known (Ok info) references digest nar a b d found hashed summed =
    λ output told taken. record {
      found = subst (IsFound output.tree permitted) (sym a) (found output told);
      digest = subst (IsRecordDigest job.profile job.kind output.tree) (sym b)
          (hashed output told taken);
      nar = subst (IsRecordNar job.profile output.tree) (sym d) (summed output told);
    }
