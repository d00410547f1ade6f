-- The value of a key, in the environment of a job.
use Rattle.std.proofs.Common.{◌≡◌, ◌∙◌, ℕ, Bool, true, false, cond, List, [], ◌∷◌, Option, Some, None, map, refl, sym, ap}
use Rattle.std.specs.Prelude.{find}
use Rattle.std.specs.Option.{option_map}
use Rattle.nix_names.specs.Names.{same_bytes}
use Rattle.nix_drv.specs.Derivation.{EnvEntry}
use Rattle.nix_drv.specs.Parts.{entry_of}
use Rattle.nix_drv.specs.declared.derivation.EnvEntry.{EnvEntry as EnvEntryStruct}
use Rattle.build_outcome.specs.Attributes.{value_at}
use Rattle.build_outcome.specs.declared.job.Job.{Job}

-- the first of the images that passes is the image of the first
find_step : {X Y : Type 0} (h : X → Y) (b : Bool) (x : X) (found : Option Y) (other : Option X)
    → found ≡ option_map h other
    → cond b (Some (h x)) found ≡ option_map h (cond b (Some x) other)
find_step h true x found other is = refl
find_step h false x found other is = is

find_mapped : {X Y : Type 0} (p : Y → Bool) (h : X → Y) (xs : List X) → find p (map h xs)
    ≡ option_map h (find (λ x. p (h x)) xs)
find_mapped p h [] = refl
find_mapped p h (x ∷ xs) = find_step h (p (h x)) x _ _ (find_mapped p h xs)

told : (o : Option EnvEntryStruct) → option_map (λ (e : EnvEntryStruct). e.value.items) o
    ≡ option_map (λ (e : EnvEntry). e.value) (option_map entry_of o)
told None = refl
told (Some e) = refl

-- the entry that is found among the entries of a job has the value of the key
pub value_told : (job : Job) (key : List ℕ) (found : Option EnvEntryStruct)
    → found ≡ find (λ (e : EnvEntryStruct). same_bytes e.key.items key) job.env.items
    → option_map (λ (e : EnvEntryStruct). e.value.items) found ≡ value_at key job
value_told job key found is =
    told found ∙ ap (λ o. option_map (λ (e : EnvEntry). e.value) (option_map entry_of o)) is
    ∙ ap (option_map (λ (e : EnvEntry). e.value))
    (sym (find_mapped (λ (e : EnvEntry). same_bytes e.key key) entry_of job.env.items))
