-- Under `plain` nothing of a job's texts is replaced.
use Rattle.std.proofs.Common.{◌≡◌, ◌∙◌, ap, ap₂, refl, subst, ℕ, List, [], ◌∷◌, arith, map}
use Rattle.std.specs.List.{AllZip}
use Rattle.drv_graph.specs.declared.profile.Profile.TheVariants.{Plain}
use Rattle.nix_drv.specs.Derivation.{EnvEntry}
use Rattle.process_build.specs.Setups.{IsFileOf, IsFilled, IsFilledEntry}
use Rattle.process_build.specs.Setups.{PlainSetupsArePlain, builder_under, entries_under, entry, files_under}
use Rattle.process_build.specs.Setups.{entry_of_var, filled_outputs, name_under, text_bytes}
use Rattle.process_build.specs.Setups.IsFilled.{at_end, kept, replaced}

-- without outputs no placeholder is replaced
unfilled : {text filled : List ℕ} → IsFilled [] text filled → filled ≡ text
unfilled at_end = refl
unfilled (replaced output rest filled among more) = absurd (omega (arith, among.1))
unfilled (kept byte rest filled none more) = ap (λ l. byte ∷ l) (unfilled more)

-- two lists whose items go together have the same values
same_values : {A B C : Type 0} (R : A → B → Type 0) (f : A → C) (g : B → C)
    → ((x : A) (y : B) → R x y → g y ≡ f x) → (xs : List A) (ys : List B) → AllZip R xs ys
    → map g ys ≡ map f xs
same_values R f g same [] [] zip = refl
same_values R f g same [] (y ∷ ys) zip = absurd zip
same_values R f g same (x ∷ xs) [] zip = absurd zip
same_values R f g same (x ∷ xs) (y ∷ ys) zip =
    ap₂ (λ v vs. v ∷ vs) (same x y zip.0) (same_values R f g same xs ys zip.1)

map_same : {A : Type 0} (xs : List A) → map (λ x. x) xs ≡ xs
map_same [] = refl
map_same (x ∷ xs) = ap (λ l. x ∷ l) (map_same xs)

none_from_none : {A B : Type 0} (R : A → B → Type 0) (ys : List B) → AllZip R [] ys → ys ≡ []
none_from_none R [] zip = refl
none_from_none R (y ∷ ys) zip = absurd zip

pub plain_setups : PlainSetupsArePlain
plain_setups around job prepared setup plain is =
    let outputs = job.outputs.items in
    record {
      builder = is.builder
          ∙ ap (λ p. builder_under p around.builtins.now job.builder.items) plain;
      name = is.name ∙ ap (λ p. name_under p
          (builder_under p around.builtins.now job.builder.items)) plain;
      args =
          same_values (λ arg filled. IsFilled [] arg.items (text_bytes filled)) (λ arg. arg.items)
          text_bytes (λ x y filled. unfilled filled) job.args.items setup.args.items
          (subst (λ p. AllZip (λ arg filled. IsFilled (filled_outputs p outputs) arg.items
          (text_bytes filled)) job.args.items setup.args.items) plain is.args);
      env =
          same_values (λ (e : EnvEntry) filled. IsFilledEntry [] e (entry_of_var filled)) (λ e. e)
          entry_of_var (λ x y filled. ap₂ entry (unfilled filled.0) (unfilled filled.1))
          (entries_under Plain around job prepared) setup.env.items
          (subst (λ p. AllZip (λ e filled. IsFilledEntry (filled_outputs p outputs) e
          (entry_of_var filled)) (entries_under p around job prepared) setup.env.items) plain is.env)
          ∙ map_same (entries_under Plain around job prepared);
      files =
          none_from_none (IsFileOf []) setup.files.items
          (subst (λ p. AllZip (IsFileOf (filled_outputs p outputs)) (files_under p job prepared)
          setup.files.items) plain is.files);
    }
