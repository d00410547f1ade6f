-- What `==` answers of entries and of their parts.
use Rattle.std.specs.Prelude.{◌≡◌, ◌&&◌, ◌↔◌, ℕ, List, Bool, true, false, IsTrue, nat_eq, refl}
use Rattle.std.specs.Cmp.{IsEquivalence, and_equiv, nat_eq_equiv, on_equiv}
use Rattle.std.specs.Cmp.Lexicographic.{lists_equiv, nat_list_eq_equiv, options_equiv, pointwise}
use Rattle.std.specs.Option.{option_eq}
use Rattle.std.proofs.Common.{sym, true≢false}
use Rattle.nix_names.specs.Bytes.{Path}
use Rattle.nix_names.specs.Digests.{algorithm_of, bytes_of, size_of}
use Rattle.nix_names.specs.declared.digest.Digest.{Digest}
use Rattle.nix_names.specs.declared.method.Method.{Method}
use Rattle.nix_names.specs.declared.method.Method.TheVariants.{Flat, Recursive}
use Rattle.nix_names.specs.declared.method.MethodDigest.{MethodDigest}
use Rattle.valid_table.specs.PathInfos.{NarInfo, PathInfo}
use Rattle.valid_table.specs.declared.entry.Entry.{Entry}
use Rattle.valid_table.specs.declared.entry.Entry.TheVariants.{Add, Done}
use Rattle.valid_table.specs.declared.entry.Registration.{Registration}

-- `==` of digests: it compares their algorithms, which differ in size, and their bytes
abbrev pub same_digest : Digest → Digest → Bool
same_digest a b =
    nat_eq (size_of (algorithm_of a)) (size_of (algorithm_of b))
    && pointwise nat_eq (bytes_of a) (bytes_of b)

-- a number for each method
abbrev pub number_of_method : Method → ℕ
number_of_method Flat = 0
number_of_method Recursive = 1

-- `==` of digests with their methods: it compares both
abbrev pub same_found : MethodDigest → MethodDigest → Bool
same_found a b =
    nat_eq (number_of_method a.method) (number_of_method b.method)
    && same_digest a.digest b.digest

-- `==` of archives: it compares their digests and their lengths
abbrev pub same_nar : NarInfo → NarInfo → Bool
same_nar a b = pointwise nat_eq a.hash b.hash && nat_eq a.size b.size

-- `==` of records: it compares their references, their digests and their archives
abbrev pub same_record : PathInfo → PathInfo → Bool
same_record a b =
    pointwise (pointwise nat_eq) a.references b.references
    && (option_eq same_found a.digest b.digest && option_eq same_nar a.nar b.nar)

-- `==` of registrations: it compares their paths and their records
abbrev pub same_registration : Registration → Registration → Bool
same_registration a b = pointwise nat_eq a.path b.path && same_record a.info b.info

-- `==` of entries: they are of one kind, and have equal parts
abbrev pub same_entry : Entry → Entry → Bool
same_entry (Add a) (Add b) = same_registration a b
same_entry (Add a) (Done deriver outputs) = false
same_entry (Done deriver outputs) (Add b) = false
same_entry (Done deriver outputs) (Done other others) =
    pointwise nat_eq deriver other && pointwise same_registration outputs others

-- equality of digests is an equivalence
pub same_digest_laws : IsEquivalence same_digest
same_digest_laws =
    and_equiv (on_equiv (λ (d : Digest). size_of (algorithm_of d)) nat_eq_equiv)
    (on_equiv bytes_of nat_list_eq_equiv)

-- equality of digests with their methods is an equivalence
pub same_found_laws : IsEquivalence same_found
same_found_laws =
    and_equiv (on_equiv (λ (d : MethodDigest). number_of_method d.method) nat_eq_equiv)
    (on_equiv (λ (d : MethodDigest). d.digest) same_digest_laws)

-- equality of archives is an equivalence
pub same_nar_laws : IsEquivalence same_nar
same_nar_laws =
    and_equiv (on_equiv (λ (n : NarInfo). n.hash) nat_list_eq_equiv)
    (on_equiv (λ (n : NarInfo). n.size) nat_eq_equiv)

-- equality of records is an equivalence
pub same_record_laws : IsEquivalence same_record
same_record_laws =
    and_equiv (on_equiv (λ (r : PathInfo). r.references) (lists_equiv nat_list_eq_equiv))
    (and_equiv (on_equiv (λ (r : PathInfo). r.digest) (options_equiv same_found_laws))
    (on_equiv (λ (r : PathInfo). r.nar) (options_equiv same_nar_laws)))

-- equality of registrations is an equivalence
pub same_registration_laws : IsEquivalence same_registration
same_registration_laws =
    and_equiv (on_equiv (λ (r : Registration). r.path) nat_list_eq_equiv)
    (on_equiv (λ (r : Registration). r.info) same_record_laws)

-- equality of outputs is an equivalence
pub same_outputs_laws : IsEquivalence (pointwise same_registration)
same_outputs_laws = lists_equiv same_registration_laws

-- `==` of derivers with their outputs
abbrev same_done : Path × List Registration → Path × List Registration → Bool
same_done a b = pointwise nat_eq a.0 b.0 && pointwise same_registration a.1 b.1

-- equality of derivers with their outputs is an equivalence
done_laws : IsEquivalence same_done
done_laws =
    and_equiv (on_equiv (λ (d : Path × List Registration). d.0) nat_list_eq_equiv)
    (on_equiv (λ (d : Path × List Registration). d.1) same_outputs_laws)

-- an entry is equal to itself
entry_itself : (a : Entry) → same_entry a a ≡ true
entry_itself (Add a) = same_registration_laws.refl a
entry_itself (Done deriver outputs) = done_laws.refl (deriver, outputs)

-- equality of entries goes both ways
entry_back : (a b : Entry) → same_entry a b ≡ same_entry b a
entry_back (Add a) (Add b) = same_registration_laws.symm a b
entry_back (Add a) (Done deriver outputs) = refl
entry_back (Done deriver outputs) (Add b) = refl
entry_back (Done deriver outputs) (Done other others) =
    done_laws.symm (deriver, outputs) (other, others)

-- equal entries are equal to the same entries
entry_alike : (a b c : Entry) → same_entry a b ≡ true → same_entry a c ≡ same_entry b c
entry_alike (Add a) (Add b) (Add c) h = same_registration_laws.congr a b c h
entry_alike (Add a) (Add b) (Done deriver outputs) h = refl
entry_alike (Add a) (Done deriver outputs) c h = absurd (true≢false (sym h))
entry_alike (Done deriver outputs) (Add b) c h = absurd (true≢false (sym h))
entry_alike (Done deriver outputs) (Done other others) (Add c) h = refl
entry_alike (Done deriver outputs) (Done other others) (Done third thirds) h =
    done_laws.congr (deriver, outputs) (other, others) (third, thirds) h

-- equality of entries is an equivalence
pub same_entry_laws : IsEquivalence same_entry
same_entry_laws = record { refl = entry_itself; symm = entry_back; congr = entry_alike }

-- two entries are equal by `==` exactly where they are the same
abbrev pub EqualEntriesAreSame : Type 0
EqualEntriesAreSame = (a b : Entry) → IsTrue (same_entry a b) ↔ (a ≡ b)
