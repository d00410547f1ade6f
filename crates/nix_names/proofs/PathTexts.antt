-- The parts of a path's text: its base name, hash part and name.
use Rattle.std.proofs.Common.{◌≡◌, ◌==◌, ◌<◌, ◌≤◌, ◌+◌, ◌-◌, ℕ, Bool, true, false, not, Some, None, List, ◌∷◌, ◌++◌, length, take, drop, get_or, refl, ap, sym, ◌∙◌, arith, rules}
use Rattle.memchr.specs.Find.{IsLastByte, is_byte}
use Rattle.std.specs.List.{AllPass, after_last, suffix_len}
use Rattle.std.proofs.lemmas.Bool.{and_parts, eqb-true, leb-true, not_from_true}
use Rattle.std.proofs.lemmas.List.{length-append, get_or-append_right, get_or_at, drop_at, drop-drop, take_at, append_cancel_right}
use Rattle.std.proofs.lemmas.List.Elements.{All-append, All-cons}
use Rattle.std.proofs.lemmas.List.Sums.{suffix_len_is}
use Rattle.nix_names.specs.Base32.{is_digit}
use Rattle.nix_names.specs.Names.{IsStoreDir, is_name}
use Rattle.nix_names.specs.StorePaths.{IsPathOf, IsStorePath, base_of, hash_part_of, is_hash_part, name_of, path_text}
use Rattle.nix_names.proofs.PathBytes.{no_slash_in_name, no_slash_in_digit, all_no_slash}

-- what stands after the offset n, where the element before n is the last that passes
after_last_from : (p : ℕ → Bool) (xs : List ℕ) (n : ℕ) → n ≤ length xs
    → ((k : ℕ) → n ≤ k → k < length xs → not (p (get_or xs k 0)) ≡ true)
    → not (p (get_or xs (n - 1) 0)) ≡ false → after_last p xs ≡ drop n xs
after_last_from p xs n within from before = search (rules, not, suffix_len_is)

-- an element after the front and one more
after : (front back : List ℕ) (x k : ℕ) → length front + 1 ≤ k → get_or (front ++ x ∷ back) k 0
    ≡ get_or back (k - (length front + 1)) 0
after front back x k low = search (rules, get_or-append_right)

-- the front and one more element, and what is left without them
front_more : (front back : List ℕ) (x : ℕ) → length (front ++ x ∷ back) ≡ length front + 1
    + length back
front_more front back x = length-append front (x ∷ back) ∙ omega arith

drop_front_more : (front back : List ℕ) (x : ℕ) → drop (length front + 1) (front ++ x ∷ back) ≡ back
drop_front_more front back x =
    sym (drop-drop 1 (length front) (front ++ x ∷ back))
    ∙ ap (drop 1) (drop_at front (x ∷ back) (length front) refl)

-- what stands after the last element that passes, where none of what follows one that passes does
after_last_at : (p : ℕ → Bool) (front back : List ℕ) (x : ℕ) → p x ≡ true
    → AllPass (λ b. not (p b)) back → after_last p (front ++ x ∷ back) ≡ back
after_last_at p front back x passes others =
    let n : ℕ = length front + 1 in
    let long = front_more front back x in
    let at : get_or (front ++ x ∷ back) (n - 1) 0
    ≡ x = get_or_at front x back 0 (n - 1) (omega arith) in
    after_last_from p (front ++ x ∷ back) n (omega arith)
    (λ k low high. rw (after front back x k low) (others (k - n) 0 (omega arith)))
    (rw at (not_from_true (p x) passes)) ∙ drop_front_more front back x

-- a hash part has 32 bytes
pub hash_part_len : (hash : List ℕ) → is_hash_part hash ≡ true → length hash ≡ 32
unfolding is_hash_part
hash_part_len hash h = eqb-true _ _ (and_parts _ _ h).0

-- a hash part has no slash
hash_part_bytes : (hash : List ℕ) → is_hash_part hash ≡ true → AllPass (λ b. not (b == 47)) hash
unfolding is_hash_part
hash_part_bytes hash h = all_no_slash is_digit no_slash_in_digit hash (and_parts _ _ h).1

-- a name has no slash
name_bytes : (name : List ℕ) → is_name name ≡ true → AllPass (λ b. not (b == 47)) name
unfolding is_name
name_bytes name h = search (rules, all_no_slash, no_slash_in_name, name, and_parts)

-- what holds of each byte of two texts and of one between them holds of each byte of all
all_pass_join : (p : ℕ → Bool) (xs ys : List ℕ) (y : ℕ) → AllPass p xs → p y ≡ true → AllPass p ys
    → AllPass p (xs ++ y ∷ ys)
all_pass_join p xs ys y first between rest = search (rules, All-append, All-cons)

-- the base name of the path of a folder, a hash part and a name
pub base_of_path : (dir hash name : List ℕ) → is_hash_part hash ≡ true → is_name name ≡ true
    → base_of (path_text dir hash name) ≡ hash ++ 45 ∷ name
base_of_path dir hash name is_hash named =
    after_last_at (λ b. b == 47) dir (hash ++ 45 ∷ name) 47 refl
    (all_pass_join (λ b. not (b == 47)) hash name 45 (hash_part_bytes hash is_hash) refl
    (name_bytes name named))

-- a base name after a hash part and a dash
record Parts (base : List ℕ) : Type 0 where
  pub hash : List ℕ
  pub name : List ℕ
  pub is_hash : is_hash_part hash ≡ true
  pub named : is_name name ≡ true
  pub parts : base ≡ hash ++ 45 ∷ name

-- the base name of a path of a folder
parts_of : (dir text : List ℕ) → IsPathOf dir text → Parts (base_of text)
parts_of dir text p = record {
  hash = p.hash;
  name = p.name;
  is_hash = p.is_hash;
  named = p.named;
  parts = ap base_of p.parts ∙ base_of_path dir p.hash p.name p.is_hash p.named;
}

-- the first 32 bytes of such a base name are its hash part
hash_of_parts : (base : List ℕ) (p : Parts base) → take 32 base ≡ p.hash
hash_of_parts base p = ap (take 32) p.parts ∙ take_at p.hash (45 ∷ p.name) 32
    (hash_part_len p.hash p.is_hash)

-- all after the first 33 bytes of such a base name is its name
name_of_parts : (base : List ℕ) (p : Parts base) → drop 33 base ≡ p.name
name_of_parts base p =
    let long = hash_part_len p.hash p.is_hash in
    let at : length p.hash + 1 ≡ 33 = omega arith in
    ap (drop 33) p.parts ∙ ap (λ n. drop n (p.hash ++ 45 ∷ p.name)) (sym at)
    ∙ drop_front_more p.hash p.name 45

-- such a base name has more than 33 bytes
parts_long : (base : List ℕ) → Parts base → 33 ≤ length base
parts_long base p = search (rules, hash_part_len, front_more)

-- the path of a folder with a hash part and a name is one of its paths
pub path_of_parts : (dir hash name : List ℕ) → is_hash_part hash ≡ true → is_name name ≡ true
    → IsPathOf dir (path_text dir hash name)
path_of_parts dir hash name is_hash named = record {
  hash = hash;
  name = name;
  is_hash = is_hash;
  named = named;
  parts = refl;
}

-- the hash part and the name of a path of a folder
pub hash_part_is : (dir text : List ℕ) (p : IsPathOf dir text) → hash_part_of text ≡ p.hash
unfolding parts_of
hash_part_is dir text p = hash_of_parts (base_of text) (parts_of dir text p)

pub name_is : (dir text : List ℕ) (p : IsPathOf dir text) → name_of text ≡ p.name
unfolding parts_of
name_is dir text p = name_of_parts (base_of text) (parts_of dir text p)

pub hash_part_of_path : (dir hash name : List ℕ) → is_hash_part hash ≡ true → is_name name ≡ true
    → hash_part_of (path_text dir hash name) ≡ hash
unfolding path_of_parts
hash_part_of_path dir hash name is_hash named =
    hash_part_is dir _ (path_of_parts dir hash name is_hash named)

pub name_of_path : (dir hash name : List ℕ) → is_hash_part hash ≡ true → is_name name ≡ true
    → name_of (path_text dir hash name) ≡ name
unfolding path_of_parts
name_of_path dir hash name is_hash named = name_is dir _ (path_of_parts dir hash name is_hash named)

-- the base name of a store path has more than 33 bytes
pub base_long : (text : List ℕ) → IsStorePath text → 33 ≤ length (base_of text)
base_long text p = search (rules, parts_long, parts_of)

-- a store path's hash part is one
pub hash_part_of_is : (text : List ℕ) → IsStorePath text → is_hash_part (hash_part_of text) ≡ true
hash_part_of_is text p = ap is_hash_part (hash_part_is p.dir text p.is_path) ∙ p.is_path.is_hash

-- a store path's name is one
pub name_of_is : (text : List ℕ) → IsStorePath text → is_name (name_of text) ≡ true
name_of_is text p = ap is_name (name_is p.dir text p.is_path) ∙ p.is_path.named

-- a name has at most 211 bytes
pub name_len : (name : List ℕ) → is_name name ≡ true → length name ≤ 211
unfolding is_name
name_len name h = search (rules, leb-true, and_parts)

-- a text that is a path of a store folder may be kept as a store path
pub stored : (dir text items : List ℕ) → IsStoreDir dir → IsPathOf dir text → items ≡ text
    → IsStorePath items
stored dir text items is_dir p kept = search rules

-- a test that isn't met
unmet : (b : Bool) → (b ≡ true → ⊥) → not b ≡ true
unmet true none = absurd (none refl)
unmet false none = refl

-- the base name begins after the last slash
pub after_last_slash : (text : List ℕ) (slash : ℕ) → IsLastByte (is_byte 47) text (Some slash)
    → drop (slash + 1) text ≡ base_of text
after_last_slash text slash last = search (rules, after_last_from, unmet, not_from_true)

-- where there is no slash, all is the base name
pub without_slash : (text : List ℕ) → IsLastByte (is_byte 47) text None → drop 0 text ≡ base_of text
without_slash text none =
    let len : suffix_len (λ b. not (b == 47)) text
    ≡ length text - 0 = suffix_len_is (λ b. not (b == 47)) text 0 0 (omega arith)
    (λ k low high. unmet _ (none k low high)) (λ positive. absurd (omega arith)) in
    let offset : length text - suffix_len (λ b. not (b == 47)) text ≡ 0 = omega arith in
    sym (ap (λ k. drop k text) offset)

-- one text is the path of one folder, hash part and name only
pub parts_from_text : (dir hash name other part title : List ℕ) → is_hash_part hash ≡ true
    → is_name name ≡ true → is_hash_part part ≡ true → is_name title ≡ true
    → path_text dir hash name ≡ path_text other part title → (dir ≡ other) × (hash ≡ part)
    × (name ≡ title)
parts_from_text dir hash name other part title is_hash named is_part titled same =
    let hashes = sym (hash_part_of_path dir hash name is_hash named) ∙ ap hash_part_of same
    ∙ hash_part_of_path other part title is_part titled in
    let names = sym (name_of_path dir hash name is_hash named) ∙ ap name_of same
    ∙ name_of_path other part title is_part titled in
    let parts : path_text dir part title ≡ path_text dir hash name =
    ap (λ h. path_text dir h title) (sym hashes) ∙ ap (path_text dir hash) (sym names) in
    let dirs : path_text dir part title ≡ path_text other part title = parts ∙ same in
    (append_cancel_right dir other (47 ∷ part ++ (45 ∷ title)) dirs, hashes, names)
