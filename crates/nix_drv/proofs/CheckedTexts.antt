-- Bytes that were read, whose references were parsed, are found at their own path.
use Rattle.std.proofs.Common.{◌≡◌, ◌≢◌, ℕ, List, ap, sym, subst, ◌∙◌, All, Result, Ok, Err, IfOk, IfErr}
use Rattle.sha2.specs.Sha256.{sha256}
use Rattle.nix_names.specs.StorePaths.{IsPathOf, name_of, store_path}
use Rattle.nix_drv.specs.Checked.{IsCheck, IsFoundAt, IsReadAt}
use Rattle.nix_drv.specs.Derivation.{Drv}
use Rattle.nix_drv.specs.OwnPath.{IsOwnPath, referenced_paths, text_kind, text_path}
use Rattle.nix_drv.specs.References.{IsReferencesOf}
use Rattle.nix_drv.specs.declared.fault.DrvFault.{DrvFault}
use Rattle.nix_drv.specs.declared.fault.DrvFault.TheVariants.{TextPathMismatch}

-- the text path with the references of a text is its own path
pub own_path_of : (dir name bytes : List ℕ) (drv : Drv) (refs lent : List (List ℕ)) (own : List ℕ)
    → IsReferencesOf (referenced_paths drv) refs → lent ≡ refs → own ≡ text_path dir name bytes lent
    → IsOwnPath dir name drv bytes own
own_path_of dir name bytes drv refs lent own is_refs same is_own = record {
  refs = refs;
  rising = is_refs.rising;
  same = is_refs.same;
  is_path = is_own ∙ ap (λ (r : List (List ℕ)). text_path dir name bytes r) same;
}

-- so is the one that the digest of its bytes gives
pub own_path_by_digest : (dir name bytes digest : List ℕ) (drv : Drv) (refs lent : List (List ℕ))
    (own : List ℕ) → IsReferencesOf (referenced_paths drv) refs → lent ≡ refs
    → digest ≡ sha256 bytes → own ≡ store_path (text_kind lent) digest dir name
    → IsOwnPath dir name drv bytes own
unfolding text_path
own_path_by_digest dir name bytes digest drv refs lent own is_refs same known is_own =
    own_path_of dir name bytes drv refs lent own is_refs same
    (is_own ∙ ap (λ (d : List ℕ). store_path (text_kind lent) d dir name) known)

-- what is found at its own path stands there, or at another
check_by_found : (dir path bytes : List ℕ) (drv : Drv) (own : List ℕ) (result : Result Drv DrvFault)
    → IsFoundAt dir path bytes drv own
    → IfOk result (λ kept. (kept ≡ drv) × (own ≡ path))
    → IfErr result (λ fault. (fault ≡ TextPathMismatch own) × (own ≢ path))
    → IsCheck dir path bytes result
check_by_found dir path bytes drv own (Ok kept) found ok err =
    subst (λ (d : Drv). IsFoundAt dir path bytes d path) (sym ok.0)
    (subst (λ (p : List ℕ). IsFoundAt dir path bytes drv p) ok.1 found)
check_by_found dir path bytes drv own (Err fault) found ok err =
    subst (λ (f : DrvFault). IsCheck dir path bytes (Err f)) (sym err.0) (drv, found, err.1)

-- a text that was read is found at its own path: here, or it is a mismatch
pub check_ends : (dir path bytes name : List ℕ) (drv : Drv) (own : List ℕ)
    (result : Result Drv DrvFault)
    → IsReadAt path bytes drv → All (IsPathOf dir) (referenced_paths drv) → name ≡ name_of path
    → IsOwnPath dir name drv bytes own
    → IfOk result (λ kept. (kept ≡ drv) × (own ≡ path))
    → IfErr result (λ fault. (fault ≡ TextPathMismatch own) × (own ≢ path))
    → IsCheck dir path bytes result
check_ends dir path bytes name drv own result read good named is_own ok err =
    let found : IsFoundAt dir path bytes drv own = record {
      read = read;
      in_store = good;
      own_path = subst (λ (n : List ℕ). IsOwnPath dir n drv bytes own) named is_own;
    } in
    check_by_found dir path bytes drv own result found ok err
