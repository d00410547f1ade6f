-- Which bytes are a path, and which are a line's path and digest up to its newline.
use Rattle.std.proofs.Common.{false, ◌≡◌, ◌≢◌, ◌⊎◌, ℕ, List, ◌∷◌, ◌++◌, Option, Some, None, inl, inr, sym, ap, ◌∙◌, subst, rules}
use Rattle.std.proofs.lemmas.Bool.{false≢true}
use Rattle.nix_names.specs.Names.{IsStoreDir, is_drv_name}
use Rattle.nix_names.specs.StorePaths.{IsPathOf, name_of, path_fault}
use Rattle.nix_names.specs.declared.method.MethodDigest.{MethodDigest}
use Rattle.nix_names.specs.declared.fault.NameFault.{NameFault}
use Rattle.nix_names.specs.declared.fault.NameFault.TheVariants.{NoMemory}
use Rattle.nix_names.proofs.PathFaults.{no_fault_of_path}
use Rattle.valid_table.specs.PathInfos.{NarInfo}
use Rattle.valid_table.specs.private.Readers.{HasNoFields, IsDeriverLine, IsFieldsLine, IsNoLine, IsPathLine}
use Rattle.valid_table.specs.private.Steps.{IsAbove}
use Rattle.valid_table.specs.Texts.{IsKnownOf, known_text}
use Rattle.valid_table.specs.declared.path_table.version.Version.{Version}
use Rattle.valid_table.proofs.LineTexts.{fields_apart, two_fields, two_path_lines}
use Rattle.valid_table.proofs.Separators.{Lacks, known_lacks, dir_lacks, lacks_not, newline, path_lacks, same_cut, space}

-- bytes that are refused, not for want of memory, are no path
pub no_path : (dir text : List ℕ) (fault : NameFault) → (path_fault dir text ≡ Some fault)
    ⊎ ((path_fault dir text ≡ None) × (fault ≡ NoMemory)) → (fault ≡ NoMemory → ⊥)
    → IsPathOf dir text → ⊥
no_path dir text fault (inl wrong) other is = let none = no_fault_of_path _ _ is in cc
no_path dir text fault (inr memory) other is = other memory.1

-- without a newline there is no line with a path
pub no_path_line : (dir bytes path rest : List ℕ) → Lacks 10 bytes → IsPathLine dir bytes path rest
    → ⊥
no_path_line dir bytes path rest none is = search (rules, lacks_not)

-- where what stands before the first newline is no path, there is no line with a path
pub other_path_line : (dir bytes line after path rest : List ℕ) → IsStoreDir dir → Lacks 10 line
    → bytes ≡ line ++ 10 ∷ after → (IsPathOf dir line → ⊥) → IsPathLine dir bytes path rest → ⊥
other_path_line dir bytes line after path rest of_dir none parts other is =
    let same = same_cut _ _ _ _ _
    (path_lacks _ newline _ _ (dir_lacks _ newline _ of_dir) is.of_dir) none
    (sym is.parts ∙ parts) in
    other (subst (IsPathOf dir) same.0 is.of_dir)

-- without a space there are no fields
pub no_space : (version : Version) (dir bytes path : List ℕ) (digest : Option MethodDigest)
    (nar : Option NarInfo)
    (rest : List ℕ) → Lacks 32 bytes
    → IsFieldsLine version dir bytes path digest nar rest → ⊥
no_space version dir bytes path digest nar rest none is = search (rules, lacks_not, fields_apart)

-- fields, and what stands before the first space and after it
module _ (version : Version) (dir bytes text fields : List ℕ) (of_dir : IsStoreDir dir)
    (none : Lacks 32 text)
    (parts : bytes ≡ text ++ 32 ∷ fields) (path : List ℕ) (digest : Option MethodDigest)
    (nar : Option NarInfo)
    (rest : List ℕ) (is : IsFieldsLine version dir bytes path digest nar rest) where
  -- the path of the fields is what stands before the space
  after_space : (path ≡ text) × (known_text version digest nar ++ (10 ∷ rest) ≡ fields)
  after_space =
      same_cut _ _ _ _ _
      (path_lacks _ space _ _ (dir_lacks _ space _ of_dir) is.of_dir) none
      (sym (fields_apart _ _ _ _ _) ∙ sym is.parts ∙ parts)

  -- a newline stands after the space
  pub no_newline : Lacks 10 fields → ⊥
  no_newline lacks = lacks_not _ _ _ (subst (Lacks 10) (sym after_space.1) lacks)

  -- what is known of the path stands up to that newline
  pub other_digest : (line after : List ℕ) → Lacks 10 line → fields ≡ line ++ 10 ∷ after
      → ((d : Option MethodDigest) (n : Option NarInfo) → IsKnownOf version d n
      → line ≢ known_text version d n) → ⊥
  other_digest line after lacks ends other =
      other digest nar is.is_known
      (sym (same_cut _ _ _ _ _
      (known_lacks _ _ _ is.is_known)
      lacks (after_space.1 ∙ ends)).0)

  -- and a path before the space
  pub other_path : (IsPathOf dir text → ⊥) → ⊥
  other_path other = other (subst (IsPathOf dir) after_space.0 is.of_dir)

-- a line with another path than a `.drv` one is no deriver's
pub not_drv : (dir bytes path after name other rest : List ℕ) → IsPathLine dir bytes path after
    → name ≡ name_of path → is_drv_name name ≡ false → IsDeriverLine dir bytes other rest → ⊥
not_drv dir bytes path after name other rest line named fails is =
    let same = two_path_lines _ _ _ _ _ _ is.line line in
    false≢true (sym fails ∙ ap is_drv_name (named ∙ ap name_of (sym same.0)) ∙ is.named)

-- nor is one that no output follows
pub not_ahead : (dir bytes path after other rest : List ℕ) → IsPathLine dir bytes path after
    → IsNoLine 79 after → IsDeriverLine dir bytes other rest → ⊥
not_ahead dir bytes path after other rest line none is =
    let same = two_path_lines _ _ _ _ _ _ is.line line in
    none is.ahead.0 (sym same.1 ∙ is.ahead.1)

-- a path that isn't above the one before it is not the one of a line that is wanted
pub low_fields : (version : Version) (dir : List ℕ) (before : Option (List ℕ))
    (fields path : List ℕ)
    (digest : Option MethodDigest) (nar : Option NarInfo) (rest : List ℕ)
    → IsFieldsLine version dir fields path digest nar rest → (IsAbove before path → ⊥)
    → HasNoFields version dir before fields
low_fields version dir before fields path digest nar rest line low =
    λ other sum archive more above is.
    low (subst (IsAbove before) (two_fields _ _ _ _ _ _ _ _ _ _ _ is
    line).0
    above)
