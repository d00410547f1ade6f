-- What of an output is hashed, and how that is written before an algorithm's name (Nix manual,
-- "Store Derivation": fixed content-addressed outputs; Dolstra's thesis, section 5.4).
use Rattle.std.specs.Prelude.{◌≡◌, Bool, false, [], ◌∷◌, ◌++◌, codes, ◌&&◌, ◌==◌}
use Rattle.nix_names.specs.Bytes.{Bytes}
use Rattle.nix_names.specs.Digests.{IsDigest, text_of}
use Rattle.nix_names.specs.declared.method.Method.{Method}
use Rattle.nix_names.specs.declared.method.Method.TheVariants.{Flat, Recursive}
use Rattle.nix_names.specs.declared.method.MethodDigest.{MethodDigest}

-- the mark of a method: `r:` where the archive of a tree is hashed, and nothing where the bytes of
-- a file are
abbrev pub mark_of : Method → Bytes
mark_of Flat = []
mark_of Recursive = codes "r:"

-- whether a text begins with `r:`
abbrev pub is_marked : Bytes → Bool
is_marked [] = false
is_marked (a ∷ []) = false
is_marked (a ∷ b ∷ rest) = (a == 114) && (b == 58)

-- a digest with its method's mark, its algorithm's name and a colon before it
abbrev pub method_text_of : MethodDigest → Bytes
method_text_of found = mark_of found.method ++ text_of found.digest

-- a text is that of one digest by one method
abbrev pub TextIsOfOneMethodDigest : Type 0
TextIsOfOneMethodDigest = (a b : MethodDigest) → IsDigest a.digest → IsDigest b.digest
    → method_text_of a ≡ method_text_of b → a ≡ b
