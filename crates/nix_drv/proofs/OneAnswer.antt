-- Two answers to one input are the same, want of memory apart.
use Rattle.std.proofs.Common.{◌≡◌, ◌≢◌, ◌⊎◌, inl, inr, ℕ, List, Result, Ok, Err, refl, sym, subst, ◌∙◌, arith, All, rules}
use Rattle.std.specs.Global.{Vec}
use Rattle.nix_names.specs.StorePaths.{IsDrvPath, IsPathOf, name_of}
use Rattle.nix_names.proofs.FirstElements.{no_first, one_first}
use Rattle.nix_drv.specs.declared.fault.DrvFault.{DrvFault}
use Rattle.nix_drv.specs.declared.fault.DrvFault.TheVariants.{NoMemory, Syntax, Order, TooLong, TextPathMismatch, NotADrvName, NotSorted, BadReference}
use Rattle.nix_drv.specs.Grammar.{Grammar, IsLongestPrefix}
use Rattle.nix_drv.specs.Order.{IsFirstViolation}
use Rattle.nix_drv.specs.Derivation.{Drv, derivation_form, drv_value}
use Rattle.nix_drv.specs.Outcome.{IsReading}
use Rattle.nix_drv.specs.OwnPath.{IsOwnPath, referenced_paths}
use Rattle.nix_drv.specs.Checked.{IsCheck, IsFirstStray}
use Rattle.nix_drv.specs.Laws.{HasOneReading, HasOneCheck, SaysSame}
use Rattle.nix_drv.proofs.Back.{one_drv}
use Rattle.nix_drv.proofs.OwnPathLaws.{one_own_path}

-- ---- reading

one_offset : (g : Grammar) (input : List ℕ) (p q : ℕ) → IsLongestPrefix g input p
    → IsLongestPrefix g input q → p ≡ q
one_offset g input p q one other = search rules

one_violation : (d e : Drv) (p q : ℕ) → d ≡ e → IsFirstViolation derivation_form (drv_value d) p
    → IsFirstViolation derivation_form (drv_value e) q → p ≡ q
one_violation d e p q same one other =
    let here : IsFirstViolation derivation_form (drv_value d) q =
    subst (λ (x : Drv). IsFirstViolation derivation_form (drv_value x) q) (sym same) other in
    omega (arith, one.least q here.is_violation, here.least p one.is_violation)

no_violation : (d e : Drv) (input : List ℕ) (q : ℕ) → IsReading input (Ok d)
    → IsReading input (Err (Order q)) → d ≡ e → IsFirstViolation derivation_form (drv_value e) q → ⊥
no_violation d e input q is also same other =
    let here : IsFirstViolation derivation_form (drv_value d) q =
    subst (λ (x : Drv). IsFirstViolation derivation_form (drv_value x) q) (sym same) other in
    is.1.in_order q here.is_violation

pub one_reading : HasOneReading
one_reading input (Err NoMemory) other is also a b = absurd (a refl)
one_reading input (Err NotSorted) other is also a b = absurd is
one_reading input (Err (TextPathMismatch own)) other is also a b = absurd is
one_reading input (Err NotADrvName) other is also a b = absurd is
one_reading input (Err (BadReference spelled)) other is also a b = absurd is
one_reading input answer (Err NoMemory) is also a b = absurd (b refl)
one_reading input answer (Err NotSorted) is also a b = absurd also
one_reading input answer (Err (TextPathMismatch own)) is also a b = absurd also
one_reading input answer (Err NotADrvName) is also a b = absurd also
one_reading input answer (Err (BadReference spelled)) is also a b = absurd also
one_reading input (Ok d) (Ok e) is also a b = search (rules, one_drv)
one_reading input (Ok d) (Err TooLong) is also a b = search rules
one_reading input (Ok d) (Err (Syntax q)) is also a b = absurd (also.1 d is.1.is_text)
one_reading input (Ok d) (Err (Order q)) is also a b = search (rules, no_violation, one_drv)
one_reading input (Err TooLong) (Ok e) is also a b = search rules
one_reading input (Err TooLong) (Err TooLong) is also a b = refl
one_reading input (Err TooLong) (Err (Syntax q)) is also a b = search rules
one_reading input (Err TooLong) (Err (Order q)) is also a b = search rules
one_reading input (Err (Syntax p)) (Ok e) is also a b = absurd (is.1 e also.1.is_text)
one_reading input (Err (Syntax p)) (Err TooLong) is also a b = search rules
one_reading input (Err (Syntax p)) (Err (Syntax q)) is also a b = search (rules, one_offset)
one_reading input (Err (Syntax p)) (Err (Order q)) is also a b = absurd (is.1 also.1.0 also.1.1)
one_reading input (Err (Order p)) (Ok e) is also a b = search (rules, no_violation, one_drv)
one_reading input (Err (Order p)) (Err TooLong) is also a b = search rules
one_reading input (Err (Order p)) (Err (Syntax q)) is also a b = absurd (also.1 is.1.0 is.1.1)
one_reading input (Err (Order p)) (Err (Order q)) is also a b =
    search (rules, one_violation, one_drv)

-- ---- the first stray path

first_stray_is : (dir : List ℕ) (paths : List (List ℕ)) (x y : List ℕ) → IsFirstStray dir paths x
    → IsFirstStray dir paths y → x ≡ y
first_stray_is dir paths x y one other = search (rules, one_first)

no_stray : (dir : List ℕ) (paths : List (List ℕ)) (x : List ℕ) → IsFirstStray dir paths x
    → All (IsPathOf dir) paths → ⊥
no_stray dir = search (rules, no_first)

-- ---- the check

says_itself : (a : Result Drv DrvFault) → SaysSame a a
says_itself (Ok drv) = refl
says_itself (Err NoMemory) = refl
says_itself (Err (Syntax offset)) = refl
says_itself (Err (Order offset)) = refl
says_itself (Err TooLong) = refl
says_itself (Err (TextPathMismatch own)) = refl
says_itself (Err NotADrvName) = refl
says_itself (Err NotSorted) = refl
says_itself (Err (BadReference spelled)) = refl

says_same : (a b : Result Drv DrvFault) → a ≡ b → SaysSame a b
says_same a b e = search (rules, says_itself)

-- the answer where all paths are in the folder and the text's own path is known
abbrev IsByOwn : (path : List ℕ) → Drv → List ℕ → Result Drv DrvFault → Type 0
IsByOwn path drv own answer = ((answer ≡ Ok drv) × (own ≡ path))
    ⊎ ((answer ≡ Err (TextPathMismatch own)) × (own ≢ path))

-- the answer once the bytes were read
abbrev Follows : (dir path bytes : List ℕ) → Result Drv DrvFault → Result Drv DrvFault → Type 0
Follows dir path bytes (Err fault) answer = answer ≡ Err fault
Follows dir path bytes (Ok drv) answer =
    ((spelled : Vec ℕ) × (answer ≡ Err (BadReference spelled))
    × IsFirstStray dir (referenced_paths drv) spelled.items)
    ⊎ ((own : List ℕ) × All (IsPathOf dir) (referenced_paths drv)
    × IsOwnPath dir (name_of path) drv bytes own × IsByOwn path drv own answer)

record Settled (dir path bytes : List ℕ) (answer : Result Drv DrvFault) : Type 0 where
  read : Result Drv DrvFault
  named : IsDrvPath path
  is_reading : IsReading bytes read
  no_want : read ≢ Err NoMemory
  follows : Follows dir path bytes read answer

settle : (dir path bytes : List ℕ) (answer : Result Drv DrvFault) → IsCheck dir path bytes answer
    → answer ≢ Err NoMemory → ((answer ≡ Err NotADrvName) × (IsDrvPath path → ⊥))
    ⊎ Settled dir path bytes answer
settle dir path bytes (Ok drv) is a = inr (record {
  read = Ok drv;
  named = is.read.named;
  is_reading = (is.read.within, is.read.is_text);
  no_want = λ e. cc;
  follows = inr (path, is.in_store, is.own_path, inl (refl, refl));
})
settle dir path bytes (Err NotADrvName) is a = inl (refl, is)
settle dir path bytes (Err TooLong) is a = inr
    (record { read = Err TooLong; named = is.0; is_reading = is.1; no_want = a; follows = refl })
settle dir path bytes (Err (Syntax offset)) is a =
    inr (record {
      read = Err (Syntax offset);
      named = is.0;
      is_reading = is.1;
      no_want = a;
      follows = refl;
    })
settle dir path bytes (Err (Order offset)) is a =
    inr (record {
      read = Err (Order offset);
      named = is.0;
      is_reading = is.1;
      no_want = a;
      follows = refl;
    })
settle dir path bytes (Err (BadReference spelled)) is a = inr (record {
  read = Ok is.0;
  named = is.1.named;
  is_reading = (is.1.within, is.1.is_text);
  no_want = λ e. cc;
  follows = inl (spelled, refl, is.2);
})
settle dir path bytes (Err (TextPathMismatch own)) is a = inr (record {
  read = Ok is.0;
  named = is.1.read.named;
  is_reading = (is.1.read.within, is.1.read.is_text);
  no_want = λ e. cc;
  follows = inr (own, is.1.in_store, is.1.own_path, inr (refl, is.2));
})
settle dir path bytes (Err NoMemory) is a = absurd (a refl)
settle dir path bytes (Err NotSorted) is a = absurd is

by_own : (path : List ℕ) (drv : Drv) (own also : List ℕ) (a b : Result Drv DrvFault) → own ≡ also
    → IsByOwn path drv own a → IsByOwn path drv also b → SaysSame a b
by_own path drv own also a b same (inl p) (inl q) = says_same a b (p.0 ∙ sym q.0)
by_own path drv own also a b same (inl p) (inr q) = absurd (q.1 (sym same ∙ p.1))
by_own path drv own also a b same (inr p) (inl q) = absurd (p.1 (same ∙ q.1))
by_own path drv own also a b same (inr p) (inr q) = search (rules, says_same)

follows_once : (dir path bytes : List ℕ) (read a b : Result Drv DrvFault)
    → Follows dir path bytes read a → Follows dir path bytes read b → SaysSame a b
follows_once dir path bytes (Err fault) a b p q = says_same a b (p ∙ sym q)
follows_once dir path bytes (Ok drv) a b (inl p) (inl q) =
    let texts : SaysSame (Err (BadReference p.0)) (Err (BadReference q.0)) =
    first_stray_is _ _ _ _ p.2 q.2 in
    subst (λ (x : Result Drv DrvFault). SaysSame x b) (sym p.1)
    (subst (λ (x : Result Drv DrvFault). SaysSame (Err (BadReference p.0)) x) (sym q.1) texts)
follows_once dir path bytes (Ok drv) a b (inl p) (inr q) = search (rules, no_stray)
follows_once dir path bytes (Ok drv) a b (inr p) (inl q) = search (rules, no_stray)
follows_once dir path bytes (Ok drv) a b (inr p) (inr q) = search (rules, by_own, one_own_path)

pub one_check : HasOneCheck
one_check dir path bytes answer other is also a b =
    elim (settle _ _ _ _ is a) [
      | inl p ↦ elim (settle _ _ _ _ also b) [
        | inl q ↦ says_same answer other (p.0 ∙ sym q.0)
        | inr q ↦ absurd (p.1 q.named)
      ]
      | inr p ↦ elim (settle _ _ _ _ also b) [
        | inl q ↦ absurd (q.1 p.named)
        | inr q ↦
            let same : p.read ≡ q.read = one_reading bytes p.read q.read p.is_reading q.is_reading
            p.no_want q.no_want in
            follows_once _ path bytes _ _ _ p.follows
            (subst (λ (r : Result Drv DrvFault). Follows dir path bytes r other) (sym same)
            q.follows)
      ]
    ]
