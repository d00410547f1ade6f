-- A draft with its outputs' expected paths where it has none is filled.
use Rattle.std.proofs.Common.{◌≡◌, ◌∙◌, ℕ, zero, suc, List, [], ◌∷◌, inl, inr, refl, sym, ap, subst, ⊎_elim, Some, rules}
use Rattle.std.specs.Prelude.{◌⊎◌, Contains, Ok, slice_get}
use Rattle.std.specs.List.{AllZip}
use Rattle.std.proofs.lemmas.List.Elements.{All-contains}
use Rattle.std.proofs.lemmas.Option.{none-some, same_Some}
use Rattle.nix_drv.specs.Derivation.{Drv, EnvEntry, Output}
use Rattle.drv_graph.specs.private.Checking.{AreExpected}
use Rattle.drv_graph.specs.Expected.{IsExpected}
use Rattle.drv_graph.specs.Filling.{IsFilled, IsFilledEntry, IsFilledOutput}
use Rattle.drv_graph.specs.Modulo.{names_of}
use Rattle.drv_graph.specs.Outputs.{HasOtherEntry, IsOutputsCheck, IsThePathOrEmpty}
use Rattle.drv_graph.specs.private.Insertion.{IsInserted, IsInsertedEntry, inserted, inserted_output, inserted_outputs}
use Rattle.drv_graph.specs.declared.kinds.Kind.{Kind}
use Rattle.drv_graph.proofs.InsertedPaths.{same_names}
use Rattle.drv_graph.proofs.Loops.{beside}
use Rattle.drv_graph.proofs.OneText.{one_path}
use Rattle.drv_graph.proofs.PathLists.{path_cases}
use Rattle.nix_names.proofs.Lists.{Contains-first, Contains-from_get, Contains-later, get_from_contains, get_mapped}
use Rattle.drv_graph.specs.declared.profile.Profile.{Profile}

-- a value that fits a path becomes that path
inserted_is : (value path : List ℕ) → IsThePathOrEmpty value path → inserted value path ≡ path
inserted_is [] path fits = refl
inserted_is (b ∷ bs) path (inl none) = absurd cc
inserted_is (b ∷ bs) path (inr same) = same

fits_or_not : (value path : List ℕ) → IsThePathOrEmpty value path
    ⊎ (IsThePathOrEmpty value path → ⊥)
fits_or_not [] path = inl (inl refl)
fits_or_not (b ∷ bs) path = ⊎_elim (λ same. inl (inr same))
    (λ other. inr (⊎_elim (λ none. absurd cc) other)) (path_cases _ _)

zip_weaker : {A B : Type 0} (R S : A → B → Type 0) (xs : List A) (ys : List B)
    → ((x : A) (y : B) → Contains xs x → R x y → S x y) → AllZip R xs ys → AllZip S xs ys
zip_weaker R S [] [] h zip = tt
zip_weaker R S [] (y ∷ ys) h zip = absurd zip
zip_weaker R S (x ∷ xs) [] h zip = absurd zip
zip_weaker R S (x ∷ xs) (y ∷ ys) h zip = (
  h x y (Contains-first x _) zip.0,
  zip_weaker R S xs ys (λ a b has. h a b (Contains-later x xs a has)) zip.1,
)

-- a filled output is one of the draft's with the path beside it
inserted_at : (os : List Output) (ps : List (List ℕ)) (R : Output → List ℕ → Type 0) (n : ℕ)
    (filled : Output) → AllZip R os ps → slice_get (inserted_outputs os ps) n ≡ Some filled
    → (o : Output) × (p : List ℕ) × (slice_get os n ≡ Some o) × (slice_get ps n ≡ Some p)
    × (filled ≡ inserted_output o p)
inserted_at [] [] R n filled zip at = absurd (none-some filled at)
inserted_at [] (p ∷ ps) R n filled zip at = absurd zip
inserted_at (o ∷ os) [] R n filled zip at = absurd zip
inserted_at (o ∷ os) (p ∷ ps) R zero filled zip at = search (rules, same_Some)
inserted_at (o ∷ os) (p ∷ ps) R (suc n) filled zip at = inserted_at os ps R n filled zip.1 at

module _ (dir name : List ℕ) (kind : Kind) (draft : Drv) (hashes paths : List (List ℕ))
    (expected : AreExpected dir name kind draft hashes paths) where
  abbrev Expected : Output → List ℕ → Type 0
  Expected = IsExpected dir name kind draft hashes

  output_filled : (o : Output) (p : List ℕ) → Expected o p → IsThePathOrEmpty o.path p
      → IsFilledOutput Expected o (inserted_output o p)
  output_filled o p is fits = search (rules, inserted_is)

  outputs_filled : (os : List Output) (ps : List (List ℕ)) → AllZip Expected os ps
      → ((o : Output) → Contains os o → (p : List ℕ) × Expected o p × IsThePathOrEmpty o.path p)
      → AllZip (IsFilledOutput Expected) os (inserted_outputs os ps)
  outputs_filled [] [] zip fit = tt
  outputs_filled [] (p ∷ ps) zip fit = absurd zip
  outputs_filled (o ∷ os) [] zip fit = absurd zip
  outputs_filled (o ∷ os) (p ∷ ps) zip fit =
      let found = fit o (Contains-first o _) in
      let one : found.0 ≡ p = one_path _ _ _ _ _ o _ p found.1 zip.0 in (
        output_filled o p zip.0 (subst (IsThePathOrEmpty o.path) one found.2),
        outputs_filled os ps zip.1 (λ a has. fit a (Contains-later o os a has)),
      )

  -- an entry under an output's name
  entry_named : ((o : Output) → Contains draft.outputs o → (p : List ℕ) × Expected o p
      × IsThePathOrEmpty o.path p)
      → ((o : Output) → Contains draft.outputs o → HasOtherEntry IsThePathOrEmpty Expected draft o
      → ⊥)
      → (d f : EnvEntry) → Contains draft.env d → IsInsertedEntry (names_of draft.outputs) paths d f
      → (output : Output) → Contains (inserted_outputs draft.outputs paths) output → output.name
      ≡ d.key → (f.value ≡ output.path) × IsThePathOrEmpty d.value output.path
  entry_named fit alone d f has is output has_output named =
      let at = get_from_contains _ _ has_output in
      let found = inserted_at _ _ Expected _ _ expected at.1 in
      let o = found.0 in
      let p = found.1 in
      let here : Contains draft.outputs o = Contains-from_get _ _ o found.2 in
      let under : o.name ≡ d.key = sym (ap (λ (x : Output). x.name) found.4) ∙ named in
      let stands = beside Expected _ _ _ o expected found.2 in
      let is_p : Expected o p = subst (Expected o) (same_Some stands.0 p (sym stands.1 ∙ found.3))
      stands.2 in
      let fits_o = fit o here in
      let path : output.path ≡ p =
      ap (λ (x : Output). x.path) found.4 ∙ inserted_is _ p
      (subst (IsThePathOrEmpty o.path)
      (one_path _ _ _ _ _ o _ p fits_o.1 is_p) fits_o.2) in
      let fits : IsThePathOrEmpty d.value p =
      ⊎_elim (λ yes. yes) (λ no. absurd (alone o here (d, p, has, sym under, is_p, no)))
      (fits_or_not _ p) in
      let at_name = get_mapped (λ (x : Output). x.name) draft.outputs at.0 o found.2 ∙ ap Some under
      in (
        is.named at.0 p at_name found.3 ∙ inserted_is _ p fits ∙ sym path,
        subst (IsThePathOrEmpty d.value) (sym path) fits,
      )

  pub filled_right : {profile : Profile} (used : List Drv) (filled : Drv)
      → IsOutputsCheck IsThePathOrEmpty profile dir name draft used hashes (Ok kind)
      → IsInserted paths draft filled → IsFilled Expected draft filled
  filled_right used filled right is =
      let fit : (o : Output) → Contains draft.outputs o → (p : List ℕ) × Expected o p
      × IsThePathOrEmpty o.path p = λ o has.
      All-contains (λ (x : Output). (p : List ℕ) × Expected x p × IsThePathOrEmpty x.path p)
      _ o right.1 has in
      let alone : (o : Output) → Contains draft.outputs o
      → HasOtherEntry IsThePathOrEmpty Expected draft o
      → ⊥ = λ o has. All-contains (λ x. HasOtherEntry IsThePathOrEmpty Expected draft x → ⊥)
      _ o right.2 has in
      let filled_entry : (d f : EnvEntry) → Contains draft.env d
      → IsInsertedEntry (names_of draft.outputs) paths d f
      → IsFilledEntry (inserted_outputs draft.outputs paths) d f =
      λ d f has inserted_here. record {
        key = inserted_here.key;
        named = entry_named fit alone d f has inserted_here;
        other = λ none.
            inserted_here.other
            (λ under.
            none (subst (λ (ns : List (List ℕ)). Contains ns d.key)
            (sym (same_names _ _)) under));
      } in
      record {
        outputs = subst (λ (os : List Output). AllZip (IsFilledOutput Expected) draft.outputs os)
            (sym is.outputs) (outputs_filled _ _ expected fit);
        inputs = is.inputs;
        sources = is.sources;
        system = is.system;
        builder = is.builder;
        args = is.args;
        env = subst (λ (os : List Output). AllZip (IsFilledEntry os) draft.env filled.env)
            (sym is.outputs)
            (zip_weaker (IsInsertedEntry (names_of draft.outputs) paths)
            (IsFilledEntry (inserted_outputs draft.outputs paths)) _ _
            filled_entry is.env);
      }
