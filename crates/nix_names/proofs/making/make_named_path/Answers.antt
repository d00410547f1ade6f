use Rattle.std.proofs.Common.{ap, ◌∙◌}
use Rattle.std.proofs.lemmas.Result.{IfOk-weaker}
use Rattle.sha2.specs.Sha256.{sha256}
use Rattle.nix_names.specs.Base32.{base32}
use Rattle.nix_names.specs.StorePaths.{fingerprint, is_hash_part}
use Rattle.nix_names.proofs.PathDigests.{hash_part_of_fold, made_path}
use Rattle.nix_names.proofs.making.make_named_path.Goals as goal

pub join_path-requires-clause-is_hash : goal.join_path-requires-clause-is_hash
join_path-requires-clause-is_hash c =
    let spelled = c.deref.ensures.value ∙ c.in_ok-hash.ensures.text ∙ ap base32 c.fold20.ensures
    in
    ap is_hash_part spelled ∙ hash_part_of_fold _

pub returns : goal.returns
returns c =
    let digest_is = c.fingerprint_digest-digest.ensures
    ∙ ap (λ dir. sha256 (fingerprint c.args.kind.now c.args.inner.now dir c.args.name.now))
    c.text.ensures.value in
    IfOk-weaker c.join_path.result _ _
    (λ path joined. made_path _ _ _ _ path _ _ _ joined
    (c.deref.ensures.value ∙ c.in_ok-hash.ensures.text) c.fold20.ensures digest_is)
    c.join_path.ensures
