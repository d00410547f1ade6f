-- What `outputChecks` says of an output (Nix manual, "Advanced Attributes", `outputChecks`; Nix 2.8,
-- `checkOutputs`).
use Rattle.std.specs.Prelude.{◌≡◌, ◌⊎◌, ◌==◌, ◌-◌, ◌^◌, ℕ, suc, ℤ, pos, negsuc, Float, List, Option, Some, None, String, Vec, codes, if◌then◌else◌, map, nat_lt, option_and_then, option_map, string_bytes}
use Rattle.std.specs.Float.{float_to_signed, float_to_unsigned}
use Rattle.std.specs.Int.{w64}
use Rattle.std.specs.declared.alloc.Global.{Global}
use Rattle.serde_json.specs.Data.{Num, unsigned, negative, float, Data, Members, no_members}
use Rattle.serde_json.specs.Find.{as_number, get_member}
use Rattle.structured_attrs.specs.Strings.{object_at, texts_of}
use Rattle.structured_attrs.specs.declared.checks.OutputChecks.{OutputChecks}

-- the members that there are, or none
abbrev pub members_or_none : Option Members → Members
members_or_none None = no_members
members_or_none (Some ms) = ms

-- what is said of an output: the members of its object in the object `outputChecks`
abbrev pub said_of : List ℕ → Members → Members
said_of output attributes = members_or_none
    (option_and_then (object_at output) (object_at (codes "outputChecks") attributes))

-- ---- limits

-- an integer with a sign as one of 64 bits without a sign (C, conversion of a negative number)
abbrev pub wrapped : ℤ → ℕ
wrapped (pos n) = n
wrapped (negsuc n) = 2 ^ 64 - suc n

-- A double as an integer of 64 bits without a sign, as x86-64 converts it: without its fraction, a
-- negative one as the integer with a sign that it is cut to, and 0 from 2^64 on. (No double lies
-- between 2^64 - 2048 and 2^64.)
abbrev pub float_limit : Float → ℕ
float_limit x =
    if float_to_unsigned w64 x == 2 ^ 64 - 1 then 0
    else (if nat_lt 0 (float_to_unsigned w64 x) then float_to_unsigned w64 x else wrapped (float_to_signed w64 x))

-- a number as a limit in bytes
abbrev pub number_limit : Num → ℕ
number_limit (unsigned n) = n
number_limit (negative z) = wrapped z
number_limit (float x) = float_limit x

-- the limit that a member gives, where it is there; none where it is no number
abbrev pub limit_of : Option Data → Option (Option ℕ)
limit_of None = Some None
limit_of (Some d) = option_map (λ n. Some (number_limit n)) (as_number d)

-- ---- lists

-- the list that a member gives, where it is there; none where it is no list of strings
abbrev pub list_of : Option Data → Option (Option (List (List ℕ)))
list_of None = Some None
list_of (Some d) = option_map Some (texts_of d)

-- the texts of a list of strings, where there is one
abbrev pub shown_list : Option (Vec (String Global) Global) → Option (List (List ℕ))
shown_list list = option_map (λ (v : Vec (String Global) Global). map (λ (s : String Global). string_bytes s) v.items) list

-- ---- checks

-- The checks are what some members say, each under its name.
pub record AreChecks (said : Members) (checks : OutputChecks) : Type 0 where
  pub max_size : limit_of (get_member (codes "maxSize") said) ≡ Some checks.max_size
  pub max_closure_size : limit_of (get_member (codes "maxClosureSize") said)
      ≡ Some checks.max_closure_size
  pub allowed_references : list_of (get_member (codes "allowedReferences") said)
      ≡ Some (shown_list checks.allowed_references)
  pub allowed_requisites : list_of (get_member (codes "allowedRequisites") said)
      ≡ Some (shown_list checks.allowed_requisites)
  pub disallowed_references : list_of (get_member (codes "disallowedReferences") said)
      ≡ Some (shown_list checks.disallowed_references)
  pub disallowed_requisites : list_of (get_member (codes "disallowedRequisites") said)
      ≡ Some (shown_list checks.disallowed_requisites)

-- some limit is no number, or some list is no list of strings
abbrev pub SaysNoChecks : Members → Type 0
SaysNoChecks said = (limit_of (get_member (codes "maxSize") said) ≡ None)
    ⊎ (limit_of (get_member (codes "maxClosureSize") said) ≡ None)
    ⊎ (list_of (get_member (codes "allowedReferences") said) ≡ None)
    ⊎ (list_of (get_member (codes "allowedRequisites") said) ≡ None)
    ⊎ (list_of (get_member (codes "disallowedReferences") said) ≡ None)
    ⊎ (list_of (get_member (codes "disallowedRequisites") said) ≡ None)
