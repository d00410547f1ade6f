-- A folder has symbolic links where some member has.
use Rattle.std.proofs.Common.{◌≡◌, ◌∙◌, ap₂, refl, List, [], ◌∷◌, ◌++◌, All}
use Rattle.std.specs.Global.{Vec}
use Rattle.std.proofs.lemmas.List.Elements.{All-head, All-tail}
use Rattle.drv_graph.specs.declared.profile.Profile.{Profile}
use Rattle.drv_graph.specs.declared.profile.Profile.TheVariants.{Plain}
use Rattle.ref_scan.specs.declared.tree.Tree.{Dir}
use Rattle.ref_scan.specs.declared.tree.Member.{Member}
use Rattle.ref_scan.proofs.Folders.{targets_below, targets_dir}
use Rattle.process_build.specs.Contents.{IsAllowed}

abbrev pub AreAllowed : Profile → List Member → Type 0
AreAllowed profile members = All (λ (m : Member). IsAllowed profile m.tree) members

none_below : (members : List Member) → AreAllowed Plain members → targets_below members ≡ []
none_below [] each = refl
none_below (m ∷ ms) each =
    ap₂ (λ xs ys. xs ++ ys)
    (All-head (λ (m : Member). IsAllowed Plain m.tree) m ms each refl)
    (none_below ms (All-tail (λ (m : Member). IsAllowed Plain m.tree) m ms each))

pub allowed_dir : (profile : Profile) (members : Vec Member) → AreAllowed profile members.items
    → IsAllowed profile (Dir members)
allowed_dir profile members each none =
    targets_dir members ∙ none_below members.items (rw none at each)
