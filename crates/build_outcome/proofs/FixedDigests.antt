-- What the digests of trees are, and that a tree that a fixed output may have has the declared one.
use Rattle.std.proofs.Common.{◌≡◌, ◌∙◌, ◌⊎◌, inl, inr, ⊎_elim, ℕ, Bool, true, false, List, nat_eq, Option, Some, refl, sym, ap, subst, rules}
use Rattle.std.specs.Cmp.Lexicographic.{pointwise}
use Rattle.nix_names.specs.Digests.{algorithm_of, bytes_of}
use Rattle.nix_names.specs.declared.digest.Algorithm.{Algorithm}
use Rattle.nix_names.specs.declared.digest.Algorithm.TheVariants.{Md5, Sha1, Sha256, Sha512}
use Rattle.nix_names.specs.declared.digest.Digest.{Digest}
use Rattle.nix_names.specs.declared.method.Method.{Method}
use Rattle.nix_names.specs.declared.method.Method.TheVariants.{Flat, Recursive}
use Rattle.nix_names.specs.declared.method.MethodDigest.{MethodDigest}
use Rattle.nix_names.proofs.DigestTexts.{made_again}
use Rattle.nix_names.proofs.RisingLists.{equal_from_eq, unequal_from_eq}
use Rattle.drv_graph.specs.declared.kinds.Kind.{Kind}
use Rattle.drv_graph.specs.declared.kinds.Kind.TheVariants.{Fixed}
use Rattle.drv_graph.specs.declared.profile.Profile.{Profile}
use Rattle.drv_graph.specs.declared.profile.Profile.TheVariants.{Plain, Nix}
use Rattle.ref_scan.specs.Trees.{joined}
use Rattle.ref_scan.specs.declared.tree.Tree.{Tree, File, Pieces, Executable, Link, Dir'}
use Rattle.build_outcome.specs.Verdicts.{HasArchive, HasForm, IsDigestBy, IsFlatFile, IsRecordDigest, IsTreeFault, MayBeTaken, NeedsArchive, digest_by, file_digest_of}
use Rattle.build_outcome.specs.declared.reason.Reason.{Reason}
use Rattle.build_outcome.specs.declared.reason.Reason.TheVariants.{ExitStatus, NoStart, MissingOutput, NotFlatFile, HashMismatch, OutputCycle, TooLarge, ReadFault, OutOfMemory, Killed, BadMode, NotAllowed, BadSpecifier, BadAttributes, BadGraph, UnknownNar, PastMaxSize, PastMaxClosureSize}
use Rattle.build_outcome.proofs.Archives.{one_archive}

one_digest : (a b : Digest) → algorithm_of a ≡ algorithm_of b → bytes_of a ≡ bytes_of b → a ≡ b
one_digest a b algorithm bytes = search (rules, made_again)

-- what an algorithm gives is a digest by it
made_by : (algorithm : Algorithm) (bytes : List ℕ) → algorithm_of (digest_by algorithm bytes)
    ≡ algorithm
made_by Md5 bytes = refl
made_by Sha1 bytes = refl
made_by Sha256 bytes = refl
made_by Sha512 bytes = refl

file_found_by : (algorithm : Algorithm) (tree : Tree) (found : Digest)
    → file_digest_of algorithm tree ≡ Some found → algorithm_of found ≡ algorithm
file_found_by algorithm (File bytes) found is = search (rules, made_by)
file_found_by algorithm (Pieces parts) found is = search (rules, made_by)
file_found_by algorithm (Executable parts) found is = search (rules, made_by)
file_found_by algorithm (Link target) found is = absurd cc
file_found_by algorithm (Dir' shape entries) found is = absurd cc

found_by : (method : Method) (algorithm : Algorithm) (tree : Tree) (found : Digest)
    → IsDigestBy method algorithm tree found → algorithm_of found ≡ algorithm
found_by Flat algorithm tree found is = file_found_by algorithm tree found is
found_by Recursive algorithm tree found is = ap algorithm_of is.2 ∙ made_by algorithm is.0

some_is_one : {X : Type 0} (o : Option X) (x y : X) → o ≡ Some x → o ≡ Some y → x ≡ y
some_is_one o x y at at' = search rules

-- a tree has one digest by a method and an algorithm
pub one_digest_by : (method : Method) (algorithm : Algorithm) (tree : Tree) (a b : Digest)
    → IsDigestBy method algorithm tree a → IsDigestBy method algorithm tree b → a ≡ b
one_digest_by Flat algorithm tree a b is is' =
    some_is_one (file_digest_of algorithm tree) a b is is'
one_digest_by Recursive algorithm tree a b (bytes, has, is) (bytes', has', is') =
    is ∙ ap (digest_by algorithm) (one_archive tree bytes bytes' has has') ∙ sym is'

-- a tree is a flat file or not
flat_or_not : (profile : Profile) (tree : Tree) → IsFlatFile profile tree
    ⊎ (IsFlatFile profile tree → ⊥)
flat_or_not profile (File bytes) = inl tt
flat_or_not profile (Pieces parts) = inl tt
flat_or_not Plain (Executable parts) = inl tt
flat_or_not Nix (Executable parts) = inr (λ no. no)
flat_or_not profile (Link target) = inr (λ no. no)
flat_or_not profile (Dir' shape entries) = inr (λ no. no)

form_or_not : (profile : Profile) (method : Method) (tree : Tree) → HasForm profile method tree
    ⊎ (HasForm profile method tree → ⊥)
form_or_not profile Flat tree = flat_or_not profile tree
form_or_not profile Recursive tree = inl tt

-- a flat file has a digest
pub flat_digests : (profile : Profile) (algorithm : Algorithm) (tree : Tree)
    → IsFlatFile profile tree → (found : Digest) × (file_digest_of algorithm tree ≡ Some found)
flat_digests profile algorithm (File bytes) flat = (digest_by algorithm bytes.items, refl)
flat_digests profile algorithm (Pieces parts) flat =
    (digest_by algorithm (joined parts.items), refl)
flat_digests profile algorithm (Executable parts) flat =
    (digest_by algorithm (joined parts.items), refl)
flat_digests profile algorithm (Link target) flat = absurd flat
flat_digests profile algorithm (Dir' shape entries) flat = absurd flat

-- a tree that has the form of the declared method has a digest by it
digest_there : (profile : Profile) (method : Method) (declared : Digest) (tree : Tree)
    → HasForm profile method tree
    → (NeedsArchive profile (Fixed method declared) → (bytes : List ℕ) × HasArchive tree bytes)
    → (found : Digest) × IsDigestBy method (algorithm_of declared) tree found
digest_there profile Flat declared tree form archived =
    flat_digests profile (algorithm_of declared) tree form
digest_there Plain Recursive declared tree form archived =
    let has = archived tt in (digest_by (algorithm_of declared) has.0, (has.0, has.1, refl))
digest_there Nix Recursive declared tree form archived =
    let has = archived tt in (digest_by (algorithm_of declared) has.0, (has.0, has.1, refl))

-- the digest of a tree that a fixed output may have is the declared one
found_is_declared : (profile : Profile) (method : Method) (declared : Digest) (tree : Tree)
    → ((why : Reason) → IsTreeFault profile (Fixed method declared) tree why → ⊥)
    → (found : Digest) → IsDigestBy method (algorithm_of declared) tree found → found ≡ declared
found_is_declared profile method declared tree taken found is =
    ⊎_elim
    (λ form. by_test form (pointwise nat_eq (bytes_of found) (bytes_of declared)) refl)
    (λ no_form. absurd (taken TooLarge (λ may. taken NotFlatFile (may, no_form))))
    (form_or_not profile method tree)
  where
    by_test : HasForm profile method tree → (same : Bool)
        → pointwise nat_eq (bytes_of found) (bytes_of declared) ≡ same → found ≡ declared
    by_test form true e = one_digest found declared
        (found_by method (algorithm_of declared) tree found is) (equal_from_eq _ _ e)
    by_test form false e =
        let other = unequal_from_eq _ _ e in
        absurd (taken TooLarge (λ may.
        taken HashMismatch (may, form, (found, is, λ same. other (ap bytes_of same)))))

-- a tree that a fixed output may have, and whose archive is there where it is asked for, has the
-- declared digest
fixed_digest : (profile : Profile) (method : Method) (declared : Digest) (tree : Tree)
    → ((why : Reason) → IsTreeFault profile (Fixed method declared) tree why → ⊥)
    → (NeedsArchive profile (Fixed method declared) → (bytes : List ℕ) × HasArchive tree bytes)
    → IsDigestBy method (algorithm_of declared) tree declared
fixed_digest profile method declared tree taken archived =
    ⊎_elim
    (λ form.
    let there = digest_there profile method declared tree form archived in
    subst (IsDigestBy method (algorithm_of declared) tree)
    (found_is_declared profile method declared tree taken there.0 there.1) there.1)
    (λ no_form. absurd (taken TooLarge (λ may. taken NotFlatFile (may, no_form))))
    (form_or_not profile method tree)

-- a tree within the limits, of the declared method's form and with the declared digest, has no
-- fault
pub nothing_wrong : (profile : Profile) (kind : Kind) (tree : Tree) (method : Method)
    (declared found : Digest) → kind ≡ Fixed method declared → MayBeTaken profile tree
    → HasForm profile method tree → IsDigestBy method (algorithm_of declared) tree found → found
    ≡ declared → (why : Reason) → IsTreeFault profile kind tree why → ⊥
nothing_wrong profile kind tree method declared found is may form by same why fault =
    none why (subst (λ (k : Kind). IsTreeFault profile k tree why) is fault)
  where
    none : (reason : Reason) → IsTreeFault profile (Fixed method declared) tree reason → ⊥
    none TooLarge wrong = wrong may
    none NotFlatFile wrong = wrong.1 form
    none HashMismatch wrong =
        wrong.2.2
        (one_digest_by method (algorithm_of declared) tree wrong.2.0 found wrong.2.1 by ∙ same)
    none (ExitStatus n) wrong = absurd wrong
    none NoStart wrong = absurd wrong
    none (MissingOutput n) wrong = absurd wrong
    none OutputCycle wrong = absurd wrong
    none ReadFault wrong = absurd wrong
    none OutOfMemory wrong = absurd wrong
    none Killed wrong = absurd wrong
    none (BadMode output) wrong = absurd wrong
    none (NotAllowed output index) wrong = absurd wrong
    none (BadSpecifier output) wrong = absurd wrong
    none BadAttributes wrong = absurd wrong
    none BadGraph wrong = absurd wrong
    none (UnknownNar index) wrong = absurd wrong
    none (PastMaxSize output) wrong = absurd wrong
    none (PastMaxClosureSize output) wrong = absurd wrong

-- the digest in the record of a fixed output, whose tree is taken
pub fixed_record : (profile : Profile) (kind : Kind) (tree : Tree) (method : Method)
    (declared : Digest) → kind ≡ Fixed method declared
    → ((why : Reason) → IsTreeFault profile kind tree why → ⊥)
    → (NeedsArchive profile kind → (bytes : List ℕ) × HasArchive tree bytes)
    → IsRecordDigest profile kind tree (Some (record { method = method; digest = declared }))
fixed_record profile kind tree method declared is taken archived =
    subst
    (λ (k : Kind). IsRecordDigest profile k tree
    (Some (record { method = method; digest = declared }))) (sym is) (
      declared,
      refl,
      fixed_digest profile method declared tree
          (subst (λ (k : Kind). (why : Reason) → IsTreeFault profile k tree why → ⊥) is taken)
          (subst
          (λ (k : Kind). NeedsArchive profile k → (bytes : List ℕ) × HasArchive tree bytes)
          is archived),
    )

-- the record of a fixed output, whose tree is taken, has the declared digest
pub taken_fixed : (profile : Profile) (kind : Kind) (tree : Tree) (method : Method)
    (declared : Digest) (kept : Option MethodDigest) → kind ≡ Fixed method declared
    → ((why : Reason) → IsTreeFault profile kind tree why → ⊥)
    → IsRecordDigest profile kind tree kept
    → kept ≡ Some (record { method = method; digest = declared })
taken_fixed profile kind tree method declared kept is taken recorded =
    let digest : IsRecordDigest profile (Fixed method declared) tree kept =
    subst (λ (k : Kind). IsRecordDigest profile k tree kept) is recorded in
    digest.1
    ∙ ap (λ (d : Digest). Some (record { method = method; digest = d }))
    (found_is_declared profile method declared tree
    (subst (λ (k : Kind). (why : Reason) → IsTreeFault profile k tree why → ⊥) is taken)
    digest.0 digest.2)
