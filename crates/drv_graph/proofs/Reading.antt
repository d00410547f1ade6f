-- What reading, opening and meeting a path answers.
use Rattle.std.proofs.Common.{◌≡◌, ℕ, ◌+◌, ◌<◌, List, [], ◌∷◌, ◌++◌, length, get_or, Option, Some, None, Ok, Err, nat_eq, is_some, if◌then◌else◌, rules}
use Rattle.std.specs.Prelude.{slice_get}
use Rattle.std.specs.Cmp.Lexicographic.{pointwise}
use Rattle.std.proofs.lemmas.List.{length-map}
use Rattle.std.proofs.lemmas.Option.{slice_get_read}
use Rattle.indexmap.specs.IndexMap.{IndexMap, Updates, get, index_map_len}
use Rattle.nix_drv.specs.Checked.{IsCheck}
use Rattle.nix_drv.specs.Derivation.{Drv}
use Rattle.nix_drv.specs.Sources.{Answer}
use Rattle.nix_drv.specs.declared.fault.DrvFault.{DrvFault}
use Rattle.drv_graph.specs.Nodes.{inputs_of}
use Rattle.drv_graph.specs.Plans.{MayBeAt}
use Rattle.drv_graph.specs.Loading.{max_nodes}
use Rattle.drv_graph.specs.private.Walks.{Advances, Descends, IsMeeting, IsReadingFault, IsTextFaultAt, Opens, marked}
use Rattle.drv_graph.specs.declared.fault.GraphFault.{GraphFault}
use Rattle.drv_graph.specs.declared.fault.GraphFault.TheVariants.{NoMemory, At, Draft, Name}
use Rattle.drv_graph.specs.declared.walks.walk_state.Visit.{Visit}
use Rattle.drv_graph.specs.declared.walks.walk.Meeting.TheVariants.{Done, New}
use Rattle.drv_graph.proofs.Marks.{sets_entry}

-- a text with a fault
pub reading_wrong : (dir : List ℕ) (gives : List ℕ → Answer → Type 0) (path : List ℕ) (count : ℕ)
    (bytes given : List ℕ) (text : DrvFault) (fault : GraphFault) → count < max_nodes
    → gives path (Ok bytes) → given ≡ bytes → IsCheck dir path given (Err text)
    → IsTextFaultAt path text fault
    → IsReadingFault dir gives path count fault
reading_wrong dir gives path count bytes given text NoMemory room gave same check at = tt
reading_wrong dir gives path count bytes given text (At p found) room gave same check at =
    search rules
reading_wrong dir gives path count bytes given text (Draft fault) room gave same check at =
    absurd at
reading_wrong dir gives path count bytes given text Name room gave same check at = absurd at

-- a derivation was opened
pub opens_made :
    {S : Type 0} (dir : List ℕ) (gives : List ℕ → Answer → Type 0)
    (before after : IndexMap (List ℕ) (Option ℕ) S) (path key : List ℕ) (drv : Drv)
    (visit : Visit) (old : Option (Option ℕ)) (count : ℕ) →
    visit.path ≡ path →
    MayBeAt dir gives path drv × (count < max_nodes) →
    visit.drv ≡ drv →
    visit.inputs.items ≡ inputs_of drv →
    visit.numbers.items ≡ [] →
    key ≡ path →
    Updates (pointwise nat_eq) before after key (Some None) →
    marked before path ≡ None →
    count ≡ index_map_len before →
    old ≡ get (pointwise nat_eq) before key →
    index_map_len after ≡ index_map_len before + (if is_some old then 0 else 1) →
    Opens dir gives before after path visit
opens_made dir gives before after path key drv visit old count is_path read is_drv inputs none same
    updates new counted found more = search (rules, length-map, nat_eq, is_some, sets_entry)

-- an input was read
pub input_read : (items : List (List ℕ)) (i n : ℕ) (x : List ℕ) → x ≡ get_or items i x → i ≡ n → n
    < length items → slice_get items n ≡ Some x
input_read items i n x is same lt = search (rules, slice_get_read)

-- the next input was left before
pub advances_made : {S : Type 0} (dir : List ℕ) (gives : List ℕ → Answer → Type 0)
    (before after : IndexMap (List ℕ) (Option ℕ) S) (visit next : Visit) (input : List ℕ)
    (number : ℕ) → slice_get visit.inputs.items (length visit.numbers.items) ≡ Some input
    → IsMeeting dir gives before after input (Ok (Done number)) → next.path ≡ visit.path → next.drv
    ≡ visit.drv → next.inputs ≡ visit.inputs → next.numbers.items ≡ visit.numbers.items ++ number
    ∷ [] → Advances before after visit next
advances_made dir gives before after visit next input number is_input met path drv inputs numbers =
    search rules

-- the next input was opened
pub descends_made : {S : Type 0} (dir : List ℕ) (gives : List ℕ → Answer → Type 0)
    (before after : IndexMap (List ℕ) (Option ℕ) S) (visit next child : Visit) (input : List ℕ)
    → slice_get visit.inputs.items (length visit.numbers.items) ≡ Some input
    → IsMeeting dir gives before after input (Ok (New child)) → next ≡ visit
    → Descends dir gives before after visit next child
descends_made dir gives before after visit next child input is_input met same = search rules
