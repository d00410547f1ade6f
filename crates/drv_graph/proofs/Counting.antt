-- Failures of a source's device are counted: what a step counted is counted of the whole walk too.
use Rattle.std.proofs.Common.{◌≤◌, ℕ, List, inl, inr, rules}
use Rattle.nix_drv.specs.Derivation.{Drv}
use Rattle.nix_drv.specs.Sources.{Answer, GivesSame}
use Rattle.drv_graph.specs.private.FillSteps.{IsFillRefused, IsTargetRefused, IsTextRefused}
use Rattle.drv_graph.specs.Loading.{IsCountedFault}
use Rattle.drv_graph.specs.Nodes.{Node}
use Rattle.drv_graph.specs.declared.fault.GraphFault.{GraphFault}
use Rattle.drv_graph.specs.declared.fault.GraphFault.TheVariants.{NoMemory, At, Draft, Name}
use Rattle.drv_graph.specs.declared.fault.NodeFault.TheVariants.{Unreadable, TooMany, Text, Cycle, Outputs, OutputClash}
use Rattle.drv_graph.specs.declared.profile.Profile.{Profile}

-- what was counted from later on was counted from before
pub counted_before : (G H : List ℕ → Answer → Type 0) (before from after : ℕ) (fault : GraphFault)
    → GivesSame G H → before ≤ from → IsCountedFault H from after fault
    → IsCountedFault G before after fault
counted_before G H before from after (At p Unreadable) same less (inl missing) =
    inl ((same p _).1 missing)
counted_before G H before from after (At p Unreadable) same less (inr (device, inl rose)) =
    search rules
counted_before G H before from after (At p Unreadable) same less (inr (device, inr most)) =
    search rules
counted_before G H before from after (At p TooMany) same less at = tt
counted_before G H before from after (At p (Text fault)) same less at = tt
counted_before G H before from after (At p Cycle) same less at = tt
counted_before G H before from after (At p (Outputs fault)) same less at = tt
counted_before G H before from after (At p OutputClash) same less at = tt
counted_before G H before from after NoMemory same less at = tt
counted_before G H before from after (Draft fault) same less at = tt
counted_before G H before from after Name same less at = tt

-- nor where a draft's names, references, outputs and text are tested
pub target_counted : (gives : List ℕ → Answer → Type 0) (before after : ℕ) (dir name : List ℕ)
    (draft : Drv) (fault : GraphFault) → IsTargetRefused dir name draft fault
    → IsCountedFault gives before after fault
target_counted gives before after dir name draft fault (inl (inl (memory, named))) = rw memory tt
target_counted gives before after dir name draft fault (inl (inr (is, none))) = rw is tt
target_counted gives before after dir name draft fault (inr (names, inl memory)) = rw memory tt
target_counted gives before after dir name draft fault (inr (names, inr (text, is, stray))) =
    rw is tt

pub fill_counted : (profile : Profile) (gives : List ℕ → Answer → Type 0) (before after : ℕ)
    (dir name : List ℕ)
    (nodes : List Node) (draft : Drv) (fault : GraphFault)
    → IsFillRefused profile dir name nodes draft fault → IsCountedFault gives before after fault
fill_counted profile gives before after dir name nodes draft fault (inl memory) = rw memory tt
fill_counted profile gives before after dir name nodes draft fault
    (inr (used, hashes, are, inl memory)) =
    rw memory tt
fill_counted profile gives before after dir name nodes draft fault
    (inr (used, hashes, are, inr (of, is, some, check))) = rw is tt

pub text_counted : (gives : List ℕ → Answer → Type 0) (before after : ℕ) (drv : Drv)
    (fault : GraphFault) → IsTextRefused drv fault → IsCountedFault gives before after fault
text_counted gives before after drv fault (inl memory) = rw memory tt
text_counted gives before after drv fault (inr (is, long)) = rw is tt
