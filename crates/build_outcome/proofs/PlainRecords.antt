-- Under `plain`, records have no archives, and digests of files' bytes alone.
use Rattle.std.proofs.Common.{◌≡◌, ◌≢◌, Option, Some, None, refl, subst, sym}
use Rattle.std.specs.Prelude.{IfSome}
use Rattle.nix_names.specs.declared.digest.Digest.{Digest}
use Rattle.nix_names.specs.declared.method.Method.TheVariants.{Flat, Recursive}
use Rattle.nix_names.specs.declared.method.MethodDigest.{MethodDigest}
use Rattle.nix_names.specs.declared.digest.Algorithm.TheVariants.{Sha256}
use Rattle.nix_names.proofs.Lists.{All-from_contains, get_from_contains}
use Rattle.drv_graph.specs.declared.kinds.Kind.{Kind}
use Rattle.drv_graph.specs.declared.kinds.Kind.TheVariants.{Addressed, Fixed}
use Rattle.drv_graph.specs.declared.profile.Profile.{Profile}
use Rattle.drv_graph.specs.declared.profile.Profile.TheVariants.{Plain}
use Rattle.ref_scan.specs.declared.tree.Tree.{Tree}
use Rattle.valid_table.specs.PathInfos.{PathInfo}
use Rattle.build_outcome.specs.Verdicts.{IsRecordDigest, IsRecordNar, PlainRecordsAreFlat, file_digest_of, flat_digest}

abbrev IsFlat : Option MethodDigest → Type 0
IsFlat digest = IfSome digest (λ (kept : MethodDigest). kept.method ≡ Flat)

flat_of_some : (digest : Option Digest) → IsFlat (flat_digest digest)
flat_of_some None = tt
flat_of_some (Some digest) = refl

flat_of : (kind : Kind) (tree : Tree) (digest : Option MethodDigest)
    → ((declared : Digest) → kind ≢ Fixed Recursive declared)
    → IsRecordDigest Plain kind tree digest → IsFlat digest
flat_of Addressed tree digest apart is =
    subst IsFlat (sym is) (flat_of_some (file_digest_of Sha256 tree))
flat_of (Fixed Flat declared) tree digest apart (found, is, by) = subst IsFlat (sym is) refl
flat_of (Fixed Recursive declared) tree digest apart is = absurd (apart declared refl)

pub plain_records_are_flat : PlainRecordsAreFlat
plain_records_are_flat job permitted answer infos (taken, records, acyclic) plain apart =
    All-from_contains
    (λ (info : PathInfo). (info.nar ≡ None) × IsFlat info.digest) infos (λ info has.
    let index = get_from_contains infos info has in
    let at = records.each index.0 info index.1 in (
      subst (λ (p : Profile). IsRecordNar p at.0 info.nar) plain at.2.nar,
      flat_of job.kind at.0 info.digest apart
          (subst (λ (p : Profile). IsRecordDigest p job.kind at.0 info.digest) plain at.2.digest),
    ))
