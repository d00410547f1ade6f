-- The lists of entries and registrations that a journal has.
use Rattle.std.proofs.Common.{◌≡◌, ◌∙◌, ℕ, ◌+◌, ◌<◌, List, [], ◌∷◌, ◌++◌, length, take, drop, get_or, sym, ap, subst, rules}
use Rattle.std.specs.Prelude.{All, Contains}
use Rattle.std.proofs.lemmas.List.{append-nil, append_assoc, map-append, take_more}
use Rattle.std.proofs.lemmas.List.Concat.{flat_map-append}
use Rattle.std.proofs.lemmas.List.Elements.{All-nil, All-append, All-weaker, Contains-append_left}
use Rattle.valid_table.specs.Entries.{paths_registered, registered, registered_by}
use Rattle.valid_table.specs.Valid.{AreReferencesValid, IsClosed, IsClosedAfter, IsOnce, IsValid, references_of}
use Rattle.valid_table.specs.declared.entry.Entry.{Entry}
use Rattle.valid_table.specs.declared.entry.Registration.{Registration}
use Rattle.valid_table.proofs.PathLists.{once_prefix}
use Rattle.nix_names.proofs.Lists.{parts_at}

-- the paths of two lists of registrations, one after the other
pub paths_of-append : (a b : List Registration) → paths_registered (a ++ b) ≡ paths_registered a ++
    paths_registered b
paths_of-append a b = map-append (λ (r : Registration). r.path) a b

-- and their references
pub references_of-append : (a b : List Registration) → references_of (a ++ b) ≡ references_of a
    ++ references_of b
references_of-append a b = search (rules, flat_map-append)

-- what some entries register, and then others
pub registered-append : (a b : List Entry) → registered (a ++ b) ≡ registered a ++ registered b
registered-append a b = flat_map-append registered_by a b

-- a valid path stays valid after more registrations
pub still_valid : (some more : List Registration) (path : List ℕ) → IsValid some path
    → IsValid (some ++ more) path
still_valid some more path valid =
    subst (λ paths. Contains paths path) (sym (paths_of-append _ _))
    (Contains-append_left _ _ _ valid)

-- each reference of registrations is valid, and so after more of them
pub valid_more : (some more : List Registration) (paths : List (List ℕ)) → All (IsValid some) paths
    → All (IsValid (some ++ more)) paths
valid_more some more paths valid = search (rules, All-weaker, still_valid)

-- in closed entries after registrations whose references are valid, each reference is valid
closed_valid : (earlier : List Registration) (entries : List Entry) → AreReferencesValid earlier
    → IsClosedAfter earlier entries → AreReferencesValid (earlier ++ registered entries)
closed_valid earlier [] valid closed = subst AreReferencesValid (sym (append-nil earlier)) valid
closed_valid earlier (entry ∷ entries) valid closed =
    let now = earlier ++ registered_by entry in
    let all : AreReferencesValid now =
    subst (All (IsValid now)) (sym (references_of-append earlier (registered_by entry)))
    (All-append (IsValid now) _ _
    (valid_more _ _ _ valid) closed.0) in
    subst AreReferencesValid (append_assoc earlier (registered_by entry) (registered entries))
    (closed_valid now entries all closed.1)

-- in a closed list of entries each reference is valid
pub closed_references_valid : (entries : List Entry) → IsClosed entries
    → AreReferencesValid (registered entries)
closed_references_valid entries closed = closed_valid [] entries (All-nil (IsValid [])) closed

-- what entries register is what the first ones do, the next one and the rest
pub registered_at :
    (entries : List Entry) (i : ℕ) (entry : Entry) →
    i < length entries →
    entry ≡ get_or entries i entry →
    registered entries ≡ (registered (take i entries) ++ registered_by entry)
    ++ registered (drop (i + 1) entries)
registered_at entries i entry lt is =
    ap registered (parts_at _ i _ lt is)
    ∙ registered-append (take i entries) (entry ∷ drop (i + 1) entries)
    ∙ sym (append_assoc (registered (take i entries)) (registered_by entry)
    (registered (drop (i + 1) entries)))

-- entries without repetition have none up to one of them
pub once_so_far :
    (entries : List Entry) (i : ℕ) (entry : Entry) →
    IsOnce (registered entries) →
    i < length entries →
    entry ≡ get_or entries i entry →
    IsOnce (registered (take i entries) ++ registered_by entry)
once_so_far entries i entry once lt is =
    let prefix = registered (take i entries) ++ registered_by entry in
    let parts = ap paths_registered (registered_at _ i _ lt is)
    ∙ paths_of-append _ _ in
    once_prefix _ _
    (rw parts at once)

-- the references of registrations are those of the first ones, of the next one and of the rest
pub references_of_at :
    (rs : List Registration) (i : ℕ) (r : Registration) →
    i < length rs →
    r ≡ get_or rs i r →
    references_of rs ≡ references_of (take i rs)
    ++ (r.info.references ++ references_of (drop (i + 1) rs))
references_of_at rs i r lt is = ap references_of (parts_at _ i r lt is)
    ∙ references_of-append (take i rs) (r ∷ drop (i + 1) rs)

-- those of one more registration
pub references_of_more :
    (rs : List Registration) (i : ℕ) (r : Registration) →
    i < length rs →
    r ≡ get_or rs i r →
    references_of (take (i + 1) rs) ≡ references_of (take i rs) ++ r.info.references
references_of_more rs i r lt is =
    ap references_of (take_more _ i r lt ∙ ap (λ x. take i rs ++ x ∷ []) (sym is))
    ∙ references_of-append (take i rs) (r ∷ [])
    ∙ ap (λ l. references_of (take i rs) ++ l) (append-nil r.info.references)
