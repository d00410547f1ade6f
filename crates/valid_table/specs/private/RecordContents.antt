-- What a record keeps for a path, and the references, the digest and the archive that are read from
-- it.
use Rattle.std.specs.Prelude.{List, [], Option, None, Some}
use Rattle.std.specs.Arc.{arc_slice_items, arc_value}
use Rattle.nix_names.specs.Bytes.{Path}
use Rattle.nix_names.specs.declared.digest.Digest.{Digest}
use Rattle.nix_names.specs.declared.digest.Digest.TheVariants.{Md5, Sha1, Sha256, Sha512}
use Rattle.nix_names.specs.declared.method.MethodDigest.{MethodDigest}
use Rattle.valid_table.specs.PathInfos.{NarInfo}
use Rattle.valid_table.specs.declared.entry.Details.{Details}
use Rattle.valid_table.specs.declared.entry.RecordContent.{RecordContent}
use Rattle.valid_table.specs.declared.entry.RecordContent.TheVariants.{Nothing, References, Digest as OfDigest, Details as OfDetails}
use Rattle.valid_table.specs.declared.journal_text.stored_digest.StoredDigest.{StoredDigest}
use Rattle.valid_table.specs.declared.journal_text.stored_digest.StoredDigest.TheVariants.{Md5 as StoredMd5, Sha1 as StoredSha1, Sha256 as StoredSha256, Sha512 as StoredSha512}
use Rattle.valid_table.specs.declared.journal_text.stored_digest.StoredMethodDigest.{StoredMethodDigest}

-- the digest that is stored
abbrev pub digest_stored : StoredDigest → Digest
digest_stored (StoredMd5 bytes) = Md5 bytes
digest_stored (StoredSha1 bytes) = Sha1 bytes
digest_stored (StoredSha256 bytes) = Sha256 bytes
digest_stored (StoredSha512 bytes) = Sha512 bytes.value

-- the digest that is stored with its method
abbrev pub found_stored : StoredMethodDigest → MethodDigest
found_stored kept = record { method = kept.method; digest = digest_stored kept.digest }

-- the digest that is stored with its method, where there is one
abbrev pub some_stored : Option StoredMethodDigest → Option MethodDigest
some_stored None = None
some_stored (Some kept) = Some (found_stored kept)

-- the references that are known
abbrev pub references_known : RecordContent → List Path
references_known Nothing = []
references_known (References shared) = arc_slice_items shared
references_known (OfDigest shared) = []
references_known (OfDetails shared) =
    arc_slice_items (arc_value {X = Details} shared).references

-- the digest that is known
abbrev pub digest_known : RecordContent → Option MethodDigest
digest_known Nothing = None
digest_known (References shared) = None
digest_known (OfDigest shared) = Some (found_stored (arc_value {X = StoredMethodDigest} shared))
digest_known (OfDetails shared) = some_stored (arc_value {X = Details} shared).digest

-- the archive that is known
abbrev pub nar_known : RecordContent → Option NarInfo
nar_known Nothing = None
nar_known (References shared) = None
nar_known (OfDigest shared) = None
nar_known (OfDetails shared) = (arc_value {X = Details} shared).nar
