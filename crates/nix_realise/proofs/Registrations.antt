-- A text's entry is refused for want of memory alone: its path is new, and it refers to nothing.
use Rattle.std.proofs.Common.{◌≡◌, refl, sym, subst, ℕ, List, [], ◌∷◌, ◌++◌, Err, append-nil, ◌∙◌}
use Rattle.valid_table.specs.Adding.{IsAdding, IsFirstUnclosed, IsFirstValid}
use Rattle.valid_table.specs.Entries.{registered, registered_by}
use Rattle.valid_table.specs.PathInfos.{PathInfo}
use Rattle.valid_table.specs.Valid.{IsValid}
use Rattle.valid_table.specs.declared.entry.Entry.{Entry}
use Rattle.valid_table.specs.declared.entry.Entry.TheVariants.{Add}
use Rattle.valid_table.specs.declared.fault.TableFault.{TableFault}
use Rattle.valid_table.specs.declared.fault.TableFault.TheVariants as table

-- nothing stands in the empty list
none_in : (before after : List (List ℕ)) (p : List ℕ) → [] ≡ before ++ p ∷ after → ⊥
none_in [] after p e = cc
none_in (b ∷ bs) after p e = cc

-- what stands in a list of one is that one
one_in : (before after : List (List ℕ)) (x p : List ℕ) → x ∷ [] ≡ before ++ p ∷ after → x ≡ p
one_in [] after x p e = cc
one_in (b ∷ bs) after x p e =
    let later : [] ≡ bs ++ p ∷ after = cc in absurd (none_in bs after p later)

-- an entry of one new path without references is refused for want of memory alone, which changes
-- nothing
pub refused_for_memory : (old new : List Entry) (path copy : List ℕ) (info : PathInfo)
    (fault : TableFault)
    → ¬ (IsValid (registered old) path) → copy ≡ path → info.references ≡ []
    → IsAdding old new (Add (record { path = copy; info = info })) (Err fault)
    → (fault ≡ table.NoMemory) × (new ≡ old)
refused_for_memory old new path copy info table.NoMemory fresh same none h = (refl, h.2)
refused_for_memory old new path copy info (table.AlreadyValid p) fresh same none h =
    let entry : Entry = Add (record { path = copy; info = info }) in
    let first : IsFirstValid (registered old) (registered_by entry) p = h.0 in
    let is_path : p ≡ path = sym (one_in first.before first.after copy p first.parts) ∙ same in
    absurd (fresh (subst (IsValid (registered old)) is_path first.is))
refused_for_memory old new path copy info (table.Unclosed p) fresh same none h =
    let entry : Entry = Add (record { path = copy; info = info }) in
    let first : IsFirstUnclosed (registered old) (registered_by entry) p = h.1 in
    let no_references = sym (append-nil info.references ∙ none) in
    absurd (none_in first.before first.after p (no_references ∙ first.parts))
refused_for_memory old new path copy info fault fresh same none h = absurd h
