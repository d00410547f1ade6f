-- What the checks of a job are, by what is read of them.
use Rattle.std.proofs.Common.{◌≡◌, ◌≢◌, ◌∙◌, ◌↔◌, ◌⊎◌, inl, inr, ⊎_elim, ℕ, zero, suc, Bool, List, [], ◌∷◌, ◌++◌, Option, Some, None, refl, sym, ap, subst}
use Rattle.std.specs.Prelude.{All, Contains, IsTrue, IsUtf8, codes, option_and_then, option_map}
use Rattle.std.specs.Global.{Vec}
use Rattle.std.specs.Option.{is_some}
use Rattle.std.proofs.lemmas.Bool.{false≢true}
use Rattle.std.specs.List.{AllZip, slice_get}
use Rattle.std.proofs.lemmas.List.Elements.{All-contains}
use Rattle.std.proofs.lemmas.Option.{none-some, same_Some}
use Rattle.serde_json.specs.Data.{Data, Members, no_members}
use Rattle.serde_json.specs.Find.{get_member}
use Rattle.nix_names.proofs.Lists.{get_from_contains}
use Rattle.structured_attrs.specs.Checks.{AreChecks, SaysNoChecks, limit_of, list_of, members_or_none, said_of, shown_list}
use Rattle.structured_attrs.specs.Reading.{attributes_of}
use Rattle.structured_attrs.specs.declared.checks.OutputChecks.{OutputChecks}
use Rattle.build_outcome.specs.Attributes.{json_of, value_at}
use Rattle.build_outcome.specs.Checks as checks
use Rattle.build_outcome.specs.Checks.{AreJobChecks, AreSaid, CanReadChecks, IsCounted, closure_limit, joined, key_of, limit_under, list_under, said_at, said_of_output, size_limit}
use Rattle.build_outcome.specs.declared.checks.check.Check.{Check}
use Rattle.build_outcome.specs.declared.checks.check.Check.TheVariants.{AllowedReferences, AllowedRequisites, DisallowedReferences, DisallowedRequisites}
use Rattle.build_outcome.specs.declared.checks.job_checks.JobChecks.{JobChecks}
use Rattle.build_outcome.specs.declared.checks.job_checks.JobChecks.TheVariants.{Entries, Structured}
use Rattle.build_outcome.specs.declared.job.Job.{Job}
use Rattle.build_outcome.specs.declared.job.JobOutput.{JobOutput}
use Rattle.build_outcome.specs.declared.reason.Reason.{Reason}
use Rattle.build_outcome.specs.private.Reading.{HasBadChecks, IsRefusal, list_said, of_output}

-- ---- refusals

-- why nothing is read is so of what follows too
pub refusal_follows : {A B : Type 0} (why : Reason) → (A → B) → IsRefusal A why → IsRefusal B why
refusal_follows why f refused = ⊎_elim inl (λ h. inr (h.0, f h.1)) refused

-- ---- two lists side by side

pub zip_push : {A B : Type 0} (R : A → B → Type 0) (xs : List A) (ys : List B) (x : A) (y : B)
    → AllZip R xs ys → R x y → AllZip R (xs ++ x ∷ []) (ys ++ y ∷ [])
zip_push R [] [] x y zip one = (one, tt)
zip_push R [] (b ∷ ys) x y zip one = absurd zip
zip_push R (a ∷ xs) [] x y zip one = absurd zip
zip_push R (a ∷ xs) (b ∷ ys) x y zip one = (zip.0, zip_push R xs ys x y zip.1 one)

-- what stands at a number on both sides
zip_both : {A B : Type 0} (R : A → B → Type 0) (xs : List A) (ys : List B) (n : ℕ)
    → AllZip R xs ys
    → ((slice_get xs n ≡ None) × (slice_get ys n ≡ None))
    ⊎ ((x : A) × (y : B) × (slice_get xs n ≡ Some x) × (slice_get ys n ≡ Some y) × R x y)
zip_both R [] [] n zip = inl (refl, refl)
zip_both R [] (y ∷ ys) n zip = absurd zip
zip_both R (x ∷ xs) [] n zip = absurd zip
zip_both R (x ∷ xs) (y ∷ ys) zero zip = inr (x, y, refl, refl, zip.0)
zip_both R (x ∷ xs) (y ∷ ys) (suc n) zip = zip_both R xs ys n zip.1

-- ---- what is said of an output

said_here : (text : List ℕ) (job : Job) (n : ℕ) (given : Members) (output : JobOutput)
    → attributes_of text ≡ Some given → slice_get job.outputs.items n ≡ Some output
    → said_at text job n ≡ said_of output.name.items given
said_here text job n given output read at =
    ap (said_of_output text) at ∙ ap (λ ms. said_of output.name.items (members_or_none ms)) read

-- a member of what is said of an output, by the checks that are read
member_told : {A : Type 0} (f : Option Data → Option (Option A)) (key : List ℕ)
    (g : OutputChecks → Option A) → f None ≡ Some None
    → ((said : Members) (of : OutputChecks) → AreChecks said of
    → f (get_member key said) ≡ Some (g of))
    → (text : List ℕ) (job : Job) (all : List OutputChecks) (n : ℕ) → AreSaid text job all
    → option_and_then g (slice_get all n) ≡ joined (f (get_member key (said_at text job n)))
member_told f key g none some text job all n are = ⊎_elim
    (λ neither. ap (option_and_then g) neither.1
    ∙ sym (ap (λ (o : Option JobOutput). joined (f (get_member key (said_of_output text o))))
    neither.0 ∙ ap joined none))
    (λ both. ap (option_and_then g) both.3
    ∙ sym (ap (λ ms. joined (f (get_member key ms)))
    (said_here text job n are.given both.0 are.read both.2)
    ∙ ap joined (some (said_of both.0.name.items are.given) both.1 both.4)))
    (zip_both _ job.outputs.items all n are.each)

-- ---- limits

limit_none : (key : List ℕ) (job : Job) (n : ℕ) → json_of job ≡ None
    → None ≡ limit_under (json_of job) job n key
limit_none key job n is = sym (ap (λ (o : Option (List ℕ)). limit_under o job n key) is)

pub closure_limit_told : (job : Job) (all : JobChecks) (n : ℕ) → AreJobChecks job all
    → option_and_then (λ (of : OutputChecks). of.max_closure_size) (of_output all n)
    ≡ closure_limit job n
closure_limit_told job Entries n are = limit_none (codes "maxClosureSize") job n are
closure_limit_told job (Structured all) n (text, is, are) =
    member_told limit_of (codes "maxClosureSize") (λ (of : OutputChecks). of.max_closure_size) refl
    (λ said of is_of. is_of.max_closure_size) text job all.items n are
    ∙ sym (ap (λ (o : Option (List ℕ)). limit_under o job n (codes "maxClosureSize")) is)

pub size_limit_told : (job : Job) (all : JobChecks) (n : ℕ) → AreJobChecks job all
    → option_and_then (λ (of : OutputChecks). of.max_size) (of_output all n) ≡ size_limit job n
size_limit_told job Entries n are = limit_none (codes "maxSize") job n are
size_limit_told job (Structured all) n (text, is, are) =
    member_told limit_of (codes "maxSize") (λ (of : OutputChecks). of.max_size) refl
    (λ said of is_of. is_of.max_size) text job all.items n are
    ∙ sym (ap (λ (o : Option (List ℕ)). limit_under o job n (codes "maxSize")) is)

-- ---- lists

list_of_check : (check : Check) (said : Members) (of : OutputChecks) → AreChecks said of
    → list_of (get_member (key_of check) said) ≡ Some (list_said of check)
list_of_check AllowedReferences said of are = are.allowed_references
list_of_check AllowedRequisites said of are = are.allowed_requisites
list_of_check DisallowedReferences said of are = are.disallowed_references
list_of_check DisallowedRequisites said of are = are.disallowed_requisites

list_structured : (job : Job) (all : Vec OutputChecks) (n : ℕ) (check : Check)
    → AreJobChecks job (Structured all)
    → option_and_then (λ (of : OutputChecks). list_said of check) (slice_get all.items n)
    ≡ checks.list_of job n check
list_structured job all n check (text, is, are) =
    member_told list_of (key_of check) (λ (of : OutputChecks). list_said of check) refl
    (list_of_check check) text job all.items n are
    ∙ sym (ap (λ (o : Option (List ℕ)). list_under o job n check) is)

pub list_read : (job : Job) (all : JobChecks) (structured : Vec OutputChecks) (n : ℕ)
    (check : Check) → all ≡ Structured structured → AreJobChecks job all
    → option_and_then (λ (of : OutputChecks). list_said of check) (of_output all n)
    ≡ checks.list_of job n check
list_read job all structured n check is are =
    subst (λ (a : JobChecks). option_and_then (λ (of : OutputChecks). list_said of check)
    (of_output a n) ≡ checks.list_of job n check) (sym is)
    (list_structured job structured n check (subst (AreJobChecks job) is are))

-- whether a list is there
pub asked_told : {X Y : Type 0} (f : X → Y) (found : Option X) (list : Option Y) (there : Bool)
    → there ≡ is_some found → option_map f found ≡ list → IsTrue there ↔ (list ≢ None)
asked_told f None list there is same =
    (λ yes. absurd (false≢true (sym is ∙ yes)), λ some. absurd (some (sym same)))
asked_told f (Some x) list there is same =
    (λ _ none. none-some (f x) (sym none ∙ sym same), λ _. is)

-- ---- an output among its own requisites

pub counted_entries : (job : Job) (own path : List ℕ) → AreJobChecks job Entries
    → IsCounted job own path ↔ (Some own ≢ Some path)
counted_entries job own path none = (
  λ counts same. counts none (sym (same_Some own path same)),
  λ apart is same. apart (ap Some (sym same)),
)

-- ---- checks that can be read

pub can_read : (job : Job) (all : JobChecks) → AreJobChecks job all → CanReadChecks job
can_read job Entries none text is = absurd (none-some text (sym none ∙ is))
can_read job (Structured all) (text, is, are) text' is' =
    subst (λ (t : List ℕ). (found : List OutputChecks) × AreSaid t job found)
    (same_Some text text' (sym is ∙ is')) (all.items, are)

module _ (job : Job) (text : List ℕ) (is : json_of job ≡ Some text) where
  pub not_json : (IsUtf8 text → attributes_of text ≡ None) → CanReadChecks job → ⊥
  not_json none can =
      let are = (can text is).1 in
      none-some are.given (sym (none are.utf8) ∙ are.read)

  -- no checks say what is not what Nix takes
  says_none : (said : Members) (of : OutputChecks) → SaysNoChecks said → AreChecks said of → ⊥
  says_none said of bad are = ⊎_elim
      (λ e. none-some of.max_size (sym e ∙ are.max_size))
      (⊎_elim
      (λ e. none-some of.max_closure_size (sym e ∙ are.max_closure_size))
      (⊎_elim
      (λ e. none-some (shown_list of.allowed_references) (sym e ∙ are.allowed_references))
      (⊎_elim
      (λ e. none-some (shown_list of.allowed_requisites) (sym e ∙ are.allowed_requisites))
      (⊎_elim
      (λ e. none-some (shown_list of.disallowed_references) (sym e ∙ are.disallowed_references))
      (λ e. none-some (shown_list of.disallowed_requisites) (sym e ∙ are.disallowed_requisites))))))
      bad

  pub bad_output : (given : Members) → attributes_of text ≡ Some given
      → (output : JobOutput) × Contains job.outputs.items output × HasBadChecks given output
      → CanReadChecks job → ⊥
  bad_output given read (output, has, bad) can = by bad
    where
      are : AreSaid text job (can text is).0
      are = (can text is).1

      same : are.given ≡ given
      same = same_Some are.given given (sym are.read ∙ read)

      at : (n : ℕ) × (slice_get job.outputs.items n ≡ Some output)
      at = get_from_contains job.outputs.items output has

      by : HasBadChecks given output → ⊥
      by (inl not) = not (All-contains (λ (o : JobOutput). IsUtf8 o.name.items) job.outputs.items
          output are.named has)
      by (inr says) = ⊎_elim
          (λ neither. none-some output (sym neither.0 ∙ at.1))
          (λ both. says_none (said_of output.name.items given) both.1 says
          (subst (λ (o : JobOutput). AreChecks (said_of o.name.items given) both.1)
          (same_Some both.0 output (sym both.2 ∙ at.1))
          (subst (λ (ms : Members). AreChecks (said_of both.0.name.items ms) both.1) same both.4)))
          (zip_both _ job.outputs.items (can text is).0 at.0 are.each)
