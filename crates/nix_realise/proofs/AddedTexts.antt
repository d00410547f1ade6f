-- The path of a text that is added.
use Rattle.std.proofs.Common.{◌≡◌, refl, ℕ, List, []}
use Rattle.std.specs.Prelude.{codes}
use Rattle.sha2.specs.Sha256.{sha256}
use Rattle.nix_names.specs.StorePaths.{store_path}
use Rattle.nix_drv.specs.OwnPath.{text_path}

-- the path of a text without references is made with the digest of its bytes
pub text_path_of_digest : (dir name bytes digest : List ℕ)
    → digest ≡ sha256 bytes
    → store_path (codes "text") digest dir name ≡ text_path dir name bytes []
unfolding text_path
text_path_of_digest dir name bytes digest same = rw same refl
