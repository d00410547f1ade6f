-- Newlines and spaces part a text in one way only, where what stands before them has none; paths,
-- digests and archives have none.
use Rattle.std.proofs.Common.{◌≡◌, ◌≢◌, ◌<◌, ◌+◌, ◌%◌, ◌^◌, ℕ, Bool, true, false, List, [], ◌∷◌, ◌++◌, Option, Some, None, refl, sym, ap, ◌∙◌, subst, arith, codes, IsTrue, rules}
use Rattle.std.specs.Prelude.{decimal}
use Rattle.std.proofs.lemmas.Fmt.{decimal_by_steps}
use Rattle.std.specs.List.{All, AllPass, flat_map, list_all}
use Rattle.std.proofs.lemmas.Bool.{and_parts, false≢true}
use Rattle.std.proofs.lemmas.List.{append_assoc, append_cancel_left}
use Rattle.std.proofs.lemmas.List.Elements.{All-append, All-cons, All-head, All-nil, All-tail, All-weaker}
use Rattle.std.proofs.lemmas.List.Sums.{AllPass-from_list_all}
use Rattle.hex.specs.Hex.{encode_lower, is_hex_digit}
use Rattle.hex.proofs.HexLemmas.{decode_of-encode_lower, decode_of-ok}
use Rattle.nix_names.specs.Base32.{is_digit}
use Rattle.nix_names.specs.Digests.{IsDigest, algorithm_of, bytes_of, digits_of, name_of, text_of}
use Rattle.nix_names.specs.Methods.{mark_of}
use Rattle.nix_names.specs.Names.{IsStoreDir, is_component, is_name, is_name_char}
use Rattle.nix_names.specs.StorePaths.{IsPathOf, is_hash_part}
use Rattle.nix_names.specs.declared.digest.Algorithm.{Algorithm}
use Rattle.nix_names.specs.declared.digest.Algorithm.TheVariants.{Md5, Sha1, Sha256, Sha512}
use Rattle.nix_names.specs.declared.digest.Digest.{Digest}
use Rattle.nix_names.specs.declared.method.Method.{Method}
use Rattle.nix_names.specs.declared.method.Method.TheVariants.{Flat, Recursive}
use Rattle.nix_names.specs.declared.method.MethodDigest.{MethodDigest}
use Rattle.nix_names.proofs.DigestTexts.{bytes_everywhere}
use Rattle.valid_table.specs.PathInfos.{IsNarInfo, NarInfo}
use Rattle.valid_table.specs.Texts.{IsDigestOf, IsKnownOf, digest_text, known_text, nar_text}
use Rattle.valid_table.specs.declared.path_table.version.Version.{Version}
use Rattle.valid_table.specs.declared.path_table.version.Version.TheVariants.{One, Two, Three}

-- a list has no element that equals this one
abbrev pub Lacks : ℕ → List ℕ → Type 0
Lacks b xs = All (λ x. x ≢ b) xs

-- ---- where a text is cut

-- two texts up to the first such byte are the same, where the wholes are
pub same_cut : (b : ℕ) (xs ys x y : List ℕ) → Lacks b xs → Lacks b ys → xs ++ (b ∷ x) ≡ ys
    ++ (b ∷ y) → (xs ≡ ys) × (x ≡ y)
same_cut b [] [] x y none other e = (refl, cc)
same_cut b [] (c ∷ ys) x y none other e = search (rules, All-head)
same_cut b (a ∷ xs) [] x y none other e = search (rules, All-head)
same_cut b (a ∷ xs) (c ∷ ys) x y none other e =
    let rest : xs ++ (b ∷ x) ≡ ys ++ (b ∷ y) = cc in
    let same = same_cut b xs ys x y (All-tail (λ z. z ≢ b) a xs none)
    (All-tail (λ z. z ≢ b) c ys other) rest in
    (cc (same.0), same.1)

-- a text has such a byte
pub lacks_not : (b : ℕ) (xs rest : List ℕ) → Lacks b (xs ++ (b ∷ rest)) → ⊥
lacks_not b [] rest none = All-head (λ z. z ≢ b) b _ none refl
lacks_not b (x ∷ xs) rest none = lacks_not b xs _ (All-tail (λ z. z ≢ b) x _ none)

-- a byte that fails a test is none of those that pass
pub apart : (test : ℕ → Bool) (b : ℕ) (xs : List ℕ) → test b ≡ false → AllPass test xs → Lacks b xs
apart test b xs fails pass = search (rules, All-weaker, false≢true)

pub passing : (test : ℕ → Bool) (b : ℕ) (xs : List ℕ) → test b ≡ false → list_all test xs ≡ true
    → Lacks b xs
passing test b xs fails pass = apart test b _ fails (AllPass-from_list_all test _ pass)

-- ---- paths

-- a byte that stands in no path, and in nothing that is known of it
pub record IsSeparator (b : ℕ) : Type 0 where
  pub no_name : is_name_char b ≡ false
  pub no_digit : is_digit b ≡ false
  pub no_slash : 47 ≢ b
  pub no_dash : 45 ≢ b
  pub no_hex : is_hex_digit b ≡ false
  pub no_colon : 58 ≢ b
  pub no_mark : 114 ≢ b
  pub no_number : (digit : ℕ) → digit < 10 → 48 + digit ≢ b

pub newline : IsSeparator 10
unfolding is_name_char
newline = record {
  no_name = refl;
  no_digit = refl;
  no_slash = λ e. absurd (omega (arith, e));
  no_dash = λ e. absurd (omega (arith, e));
  no_hex = refl;
  no_colon = λ e. absurd (omega (arith, e));
  no_mark = λ e. absurd (omega (arith, e));
  no_number = λ digit small e. absurd (omega (arith, e));
}

pub space : IsSeparator 32
unfolding is_name_char
space = record {
  no_name = refl;
  no_digit = refl;
  no_slash = λ e. absurd (omega (arith, e));
  no_dash = λ e. absurd (omega (arith, e));
  no_hex = refl;
  no_colon = λ e. absurd (omega (arith, e));
  no_mark = λ e. absurd (omega (arith, e));
  no_number = λ digit small e. absurd (omega (arith, e));
}

components_lack : (b : ℕ) → IsSeparator b → (parts : List (List ℕ))
    → All (λ part. IsTrue (is_component part)) parts → Lacks b (flat_map (λ part. 47 ∷ part) parts)
unfolding is_component
components_lack b is [] each = All-nil (λ z. z ≢ b)
components_lack b is (part ∷ parts) each =
    let chars = (and_parts _ _
    (and_parts _ _
    (and_parts _ _ (All-head (λ p. IsTrue (is_component p)) part parts each)).0).0).1 in
    All-append (λ z. z ≢ b) (47 ∷ part) (flat_map (λ part. 47 ∷ part) parts)
    (All-cons (λ z. z ≢ b) 47 part is.no_slash (passing is_name_char b part is.no_name chars))
    (components_lack b is parts (All-tail (λ p. IsTrue (is_component p)) part parts each))

-- a store folder has none
pub dir_lacks : (b : ℕ) → IsSeparator b → (dir : List ℕ) → IsStoreDir dir → Lacks b dir
dir_lacks b is dir h = search (rules, components_lack)

-- nor has what stands after the folder in a path
after_dir : (b : ℕ) → IsSeparator b → (dir path : List ℕ) → IsPathOf dir path → (rest : List ℕ)
    × (path ≡ dir ++ rest) × Lacks b rest
unfolding is_hash_part is_name
after_dir b is dir path h = (
  47 ∷ h.hash ++ (45 ∷ h.name),
  h.parts,
  All-append (λ z. z ≢ b) (47 ∷ h.hash) (45 ∷ h.name)
      (All-cons (λ z. z ≢ b) 47 h.hash is.no_slash
      (passing is_digit b h.hash is.no_digit (and_parts _ _ h.is_hash).1))
      (All-cons (λ z. z ≢ b) 45 h.name is.no_dash
      (passing is_name_char b h.name is.no_name (and_parts _ _ (and_parts _ _ h.named).0).1)),
)

-- a path of a folder without one has none
pub path_lacks : (b : ℕ) → IsSeparator b → (dir path : List ℕ) → Lacks b dir → IsPathOf dir path
    → Lacks b path
path_lacks b is dir path clear h =
    let parts = after_dir b is _ _ h in
    subst (Lacks b) (sym parts.1) (All-append (λ z. z ≢ b) _ _ clear parts.2)

-- two paths of a folder up to a separator are the same, where the wholes are
pub same_path : (b : ℕ) → IsSeparator b → (dir p q x y : List ℕ) → IsPathOf dir p → IsPathOf dir q
    → p ++ (b ∷ x) ≡ q ++ (b ∷ y) → (p ≡ q) × (x ≡ y)
same_path b is dir p q x y one two e =
    let a = after_dir b is _ p one in
    let c = after_dir b is _ q two in
    let whole : dir ++ (a.0 ++ (b ∷ x)) ≡ dir ++ (c.0 ++ (b ∷ y)) =
    sym (ap (λ (t : List ℕ). t ++ (b ∷ x)) a.1 ∙ append_assoc dir a.0 (b ∷ x)) ∙ e
    ∙ ap (λ (t : List ℕ). t ++ (b ∷ y)) c.1 ∙ append_assoc dir c.0 (b ∷ y) in
    let same = same_cut b _ _ x y a.2 c.2 (append_cancel_left dir _ _ whole) in
    (a.1 ∙ ap (λ (t : List ℕ). dir ++ t) same.0 ∙ sym c.1, same.1)

-- ---- what is known of a path

-- a byte that is no hexadecimal digit stands in none of them
pub hex_lacks : (b : ℕ) → is_hex_digit b ≡ false → (bytes : List ℕ) → All (λ x. x < 256) bytes
    → Lacks b (encode_lower bytes)
hex_lacks b is bytes each =
    apart is_hex_digit b _ is
    (decode_of-ok _ _ (decode_of-encode_lower _ (bytes_everywhere _ each))).1

-- an algorithm's name has no separator
name_lacks : (b : ℕ) → IsSeparator b → (algorithm : Algorithm) → Lacks b (name_of algorithm)
unfolding is_name_char
name_lacks b is Md5 = passing is_name_char b (codes "md5") is.no_name refl
name_lacks b is Sha1 = passing is_name_char b (codes "sha1") is.no_name refl
name_lacks b is Sha256 = passing is_name_char b (codes "sha256") is.no_name refl
name_lacks b is Sha512 = passing is_name_char b (codes "sha512") is.no_name refl

-- nor has a digest's text
text_lacks : (b : ℕ) → IsSeparator b → (digest : Digest) → IsDigest digest
    → Lacks b (text_of digest)
text_lacks b is digest of =
    All-append (λ x. x ≢ b) (name_of (algorithm_of digest)) (58 ∷ digits_of digest)
    (name_lacks b is (algorithm_of digest))
    (All-cons (λ x. x ≢ b) 58 (digits_of digest) is.no_colon
    (hex_lacks b is.no_hex (bytes_of digest) of.1))

-- nor has a method's mark
mark_lacks : (b : ℕ) → IsSeparator b → (method : Method) → Lacks b (mark_of method)
mark_lacks b is Flat = All-nil (λ x. x ≢ b)
mark_lacks b is Recursive =
    All-cons (λ x. x ≢ b) 114 (58 ∷ []) is.no_mark
    (All-cons (λ x. x ≢ b) 58 [] is.no_colon (All-nil (λ x. x ≢ b)))

-- nor has a digest's text in a version
pub digest_lacks : (b : ℕ) → IsSeparator b → (version : Version) (digest : Option MethodDigest)
    → IsDigestOf version digest → Lacks b (digest_text version digest)
digest_lacks b is version None of =
    All-cons (λ x. x ≢ b) 45 [] is.no_dash (All-nil (λ x. x ≢ b))
digest_lacks b is One (Some found) of = hex_lacks b is.no_hex (bytes_of found.digest) of.2.1
digest_lacks b is Two (Some found) of = text_lacks b is found.digest of.1
digest_lacks b is Three (Some found) of =
    All-append (λ x. x ≢ b) (mark_of found.method) (text_of found.digest)
    (mark_lacks b is found.method) (text_lacks b is found.digest of)

-- nor has a number
decimal_lacks : (b : ℕ) → IsSeparator b → (n : ℕ) → n < 2 ^ 64 → Lacks b (decimal n)
decimal_lacks b is n below =
    decimal_by_steps (λ m ds. Lacks b ds)
    (λ m small. All-cons (λ x. x ≢ b) (48 + m) [] (is.no_number m small) (All-nil (λ x. x ≢ b)))
    (λ m ds large none. All-append (λ x. x ≢ b) ds ((48 + m % 10) ∷ []) none
    (All-cons (λ x. x ≢ b) (48 + m % 10) [] (is.no_number (m % 10) (omega arith))
    (All-nil (λ x. x ≢ b))))
    n below

-- nor has an archive's text
pub nar_lacks : (b : ℕ) → IsSeparator b → (nar : NarInfo) → IsNarInfo nar
    → Lacks b (nar_text (Some nar))
nar_lacks b is nar of =
    All-append (λ x. x ≢ b) (encode_lower nar.hash) (58 ∷ decimal nar.size)
    (hex_lacks b is.no_hex nar.hash of.0.1)
    (All-cons (λ x. x ≢ b) 58 (decimal nar.size) is.no_colon (decimal_lacks b is nar.size (omega
    (arith, of.1))))

-- nor has what is known of a path: it has no newline
pub known_lacks : (version : Version) (digest : Option MethodDigest) (nar : Option NarInfo)
    → IsKnownOf version digest nar → Lacks 10 (known_text version digest nar)
known_lacks One digest nar is = digest_lacks 10 newline One digest is.0
known_lacks Two digest nar is = digest_lacks 10 newline Two digest is.0
known_lacks Three digest None is =
    All-append (λ x. x ≢ 10) (digest_text Three digest) (32 ∷ nar_text None)
    (digest_lacks 10 newline Three digest is.0)
    (All-cons (λ x. x ≢ 10) 32 (nar_text None) (λ e. absurd (omega (arith, e)))
    (All-cons (λ x. x ≢ 10) 45 [] newline.no_dash (All-nil (λ x. x ≢ 10))))
known_lacks Three digest (Some nar) is =
    All-append (λ x. x ≢ 10) (digest_text Three digest) (32 ∷ nar_text (Some nar))
    (digest_lacks 10 newline Three digest is.0)
    (All-cons (λ x. x ≢ 10) 32 (nar_text (Some nar)) (λ e. absurd (omega (arith, e)))
    (nar_lacks 10 newline nar is.1))
