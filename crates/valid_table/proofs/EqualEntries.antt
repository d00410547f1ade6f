-- Entries and their parts that are equal by `==` are the same.
use Rattle.std.proofs.Common.{◌≡◌, ◌&&◌, Decides, nat_eq, refl, sym, ap, true≢false, rules}
use Rattle.std.specs.Prelude.{None, Option, Some}
use Rattle.std.specs.Cmp.{unsigned_Decides}
use Rattle.std.specs.Cmp.Lexicographic.{bytes_decides, pointwise_decides}
use Rattle.std.specs.Option.{option_eq}
use Rattle.nix_names.specs.declared.digest.Digest.{Digest}
use Rattle.nix_names.specs.declared.digest.Digest.TheVariants.{Md5 as OfMd5, Sha1 as OfSha1, Sha256 as OfSha256, Sha512 as OfSha512}
use Rattle.nix_names.specs.declared.method.Method.{Method}
use Rattle.nix_names.specs.declared.method.Method.TheVariants.{Flat, Recursive}
use Rattle.nix_names.specs.declared.method.MethodDigest.{MethodDigest}
use Rattle.nix_names.proofs.Tests.{both_parts}
use Rattle.valid_table.specs.Equality.{EqualEntriesAreSame, number_of_method, same_digest, same_entry, same_found, same_nar, same_record, same_registration}
use Rattle.valid_table.specs.PathInfos.{NarInfo, PathInfo}
use Rattle.valid_table.specs.declared.entry.Entry.{Entry}
use Rattle.valid_table.specs.declared.entry.Entry.TheVariants.{Add, Done}
use Rattle.valid_table.specs.declared.entry.Registration.{Registration}

-- digests that are equal by `==` are the same, and the other way
digest_decides : (a b : Digest) → Decides (same_digest a b) (a ≡ b)
digest_decides (OfMd5 x) (OfMd5 y) = search rules
digest_decides (OfSha1 x) (OfSha1 y) = search rules
digest_decides (OfSha256 x) (OfSha256 y) = search rules
digest_decides (OfSha512 x) (OfSha512 y) = search rules
digest_decides a b = (λ h. absurd (true≢false (sym h)), λ e. cc)

-- so are methods
method_decides : (a b : Method) → Decides (nat_eq (number_of_method a) (number_of_method b)) (a ≡ b)
method_decides Flat Flat = (λ h. refl, λ e. refl)
method_decides Recursive Recursive = (λ h. refl, λ e. refl)
method_decides Flat Recursive = (λ h. absurd (true≢false (sym h)), λ e. cc)
method_decides Recursive Flat = (λ h. absurd (true≢false (sym h)), λ e. cc)

-- so are digests with their methods
found_decides : (a b : MethodDigest) → Decides (same_found a b) (a ≡ b)
found_decides a b =
    both_parts _ _ (method_decides a.method b.method) (digest_decides a.digest b.digest)
    (λ p q j. record { method = p j; digest = q j })
    (λ e. ap (λ (d : MethodDigest). d.method) e)
    (λ e. ap (λ (d : MethodDigest). d.digest) e)

-- so are archives
nar_decides : (a b : NarInfo) → Decides (same_nar a b) (a ≡ b)
nar_decides a b =
    both_parts _ _ (bytes_decides a.hash b.hash) (unsigned_Decides a.size b.size)
    (λ p q j. record { hash = p j; size = q j })
    (λ e. ap (λ (n : NarInfo). n.hash) e)
    (λ e. ap (λ (n : NarInfo). n.size) e)

-- so are digests and archives that may be none
digests_decide : (a b : Option MethodDigest) → Decides (option_eq same_found a b) (a ≡ b)
digests_decide None None = (λ h. refl, λ e. refl)
digests_decide None (Some y) = (λ h. absurd (true≢false (sym h)), λ e. cc)
digests_decide (Some x) None = (λ h. absurd (true≢false (sym h)), λ e. cc)
digests_decide (Some x) (Some y) = search (rules, found_decides)

nars_decide : (a b : Option NarInfo) → Decides (option_eq same_nar a b) (a ≡ b)
nars_decide None None = (λ h. refl, λ e. refl)
nars_decide None (Some y) = (λ h. absurd (true≢false (sym h)), λ e. cc)
nars_decide (Some x) None = (λ h. absurd (true≢false (sym h)), λ e. cc)
nars_decide (Some x) (Some y) = search (rules, nar_decides)

-- what is known of a path beside its references
abbrev Known : Type 0
Known = Option MethodDigest × Option NarInfo

known_decides : (a b : Known)
    → Decides (option_eq same_found a.0 b.0 && option_eq same_nar a.1 b.1) (a ≡ b)
known_decides a b =
    both_parts _ _ (digests_decide a.0 b.0) (nars_decide a.1 b.1)
    (λ p q j. (p j, q j))
    (λ e. ap (λ (k : Known). k.0) e)
    (λ e. ap (λ (k : Known). k.1) e)

-- so are records
records_decide : (a b : PathInfo) → Decides (same_record a b) (a ≡ b)
records_decide a b =
    both_parts _
    _
    (pointwise_decides bytes_decides a.references b.references)
    (known_decides (a.digest, a.nar) (b.digest, b.nar))
    (λ p q j. record { references = p j; digest = (q j).0; nar = (q j).1 })
    (λ e. ap (λ (r : PathInfo). r.references) e)
    (λ e. ap (λ (r : PathInfo). (r.digest, r.nar)) e)

-- so are registrations
registrations_decide : (a b : Registration) → Decides (same_registration a b) (a ≡ b)
registrations_decide a b = search (rules, both_parts, records_decide)

-- so are entries
entries_decide : (a b : Entry) → Decides (same_entry a b) (a ≡ b)
entries_decide (Add a) (Add b) = search (rules, registrations_decide)
entries_decide (Add a) (Done deriver outputs) = (λ h. absurd (true≢false (sym h)), λ e. cc)
entries_decide (Done deriver outputs) (Add b) = (λ h. absurd (true≢false (sym h)), λ e. cc)
entries_decide (Done deriver outputs) (Done other others) =
    both_parts _ _
    (bytes_decides deriver other) (pointwise_decides registrations_decide outputs others)
    (λ p q j. Done (p j) (q j))
    (λ e. cc)
    (λ e. cc)

-- the law, as it is stated
pub equal_entries_are_same : EqualEntriesAreSame
equal_entries_are_same a b = entries_decide a b
