-- How a round among numbered outputs is found: by a walk along links, depth first. Numbers count
-- from 0.
use Rattle.std.specs.Prelude.{◌≡◌, ◌≢◌, ◌<◌, ◌≤◌, ◌+◌, ℕ, suc, List, [], Bool, true, false, Some, Contains, length, slice_get}
use Rattle.std.proofs.Math.ListN.{set}
use Rattle.std.specs.Global.{Vec}
use Rattle.build_outcome.specs.declared.walk.Mark.{Mark}
use Rattle.build_outcome.specs.declared.walk.Mark.TheVariants.{New, Open, Closed}
use Rattle.build_outcome.specs.declared.walk.WalkNode.{WalkNode}
use Rattle.build_outcome.specs.declared.walk.WalkStep.{WalkStep}
use Rattle.build_outcome.specs.declared.walk.WalkStep.TheVariants.{Enter, Leave, Pass, Return}

-- a link leads from one number to another
abbrev pub IsLinked : List (Vec ℕ) → (from to : ℕ) → Type 0
IsLinked links from to = (own : Vec ℕ) × (slice_get links from ≡ Some own) × Contains own.items to

-- links lead from one number to another
pub data Goes (links : List (Vec ℕ)) : (from to : ℕ) → Type 0 where
  goes_nowhere : (n : ℕ) → Goes links n n
  goes_on : (from next to : ℕ) → IsLinked links from next → Goes links next to → Goes links from to

-- Two different numbers lead to each other.
pub record HaveRound (links : List (Vec ℕ)) : Type 0 where
  pub one : ℕ
  pub other : ℕ
  pub different : one ≢ other
  pub there : Goes links one other
  pub back : Goes links other one

-- a number leads to no round: each other number that it is linked to leads to none
pub data IsGrounded (links : List (Vec ℕ)) : ℕ → Type 0 where
  grounded : (from : ℕ) → ((to : ℕ) → IsLinked links from to → from ≢ to → IsGrounded links to)
      → IsGrounded links from

-- whether links have a round
abbrev pub TellsRound : List (Vec ℕ) → Bool → Type 0
TellsRound links true = HaveRound links
TellsRound links false = (n : ℕ) → n < length links → IsGrounded links n

-- each link leads to a number that has links
abbrev pub AreInner : List (Vec ℕ) → Type 0
AreInner links = (from to : ℕ) → IsLinked links from to → to < length links

-- what a walk has passed is grounded: each number that it closed, and each link that it passed, but
-- to the number itself
pub record IsAfter (links : List (Vec ℕ)) (nodes : List WalkNode) : Type 0 where
  pub count : length nodes ≡ length links
  pub left : (from : ℕ) (node : WalkNode) (own : Vec ℕ) → slice_get nodes from ≡ Some node
      → slice_get links from ≡ Some own → node.left ≤ length own.items
  pub passed : (from : ℕ) (node : WalkNode) (own : Vec ℕ) (k to : ℕ)
      → slice_get nodes from ≡ Some node → slice_get links from ≡ Some own
      → node.left ≤ k → slice_get own.items k ≡ Some to → from ≢ to → IsGrounded links to
  pub closed : (from : ℕ) (node : WalkNode) → slice_get nodes from ≡ Some node → node.mark ≡ Closed
      → IsGrounded links from

-- Where a walk stands: its trail has all open numbers, each linked to the next.
pub record IsWalk (links : List (Vec ℕ)) (nodes : List WalkNode) (trail : List ℕ) : Type 0 where
  pub after : IsAfter links nodes
  pub opened : (from : ℕ) (node : WalkNode) → slice_get nodes from ≡ Some node → node.mark ≡ Open
      → Contains trail from
  pub within : (k n : ℕ) → slice_get trail k ≡ Some n → n < length nodes
  pub chain : (k from to : ℕ) → slice_get trail k ≡ Some from → slice_get trail (suc k) ≡ Some to
      → IsLinked links from to

-- a number was met
abbrev pub IsMet : List WalkNode → ℕ → Type 0
IsMet nodes n = (node : WalkNode) → slice_get nodes n ≡ Some node → node.mark ≢ New

-- a number that was met stays so
abbrev pub KeepsMet : (before after : List WalkNode) → Type 0
KeepsMet before after = (n : ℕ) → IsMet before n → IsMet after n

-- what is known of a number with these links before a walk
abbrev pub fresh : Vec ℕ → WalkNode
fresh own = record { mark = New; left = length own.items }

-- what is left to do at a number, by its mark alone
abbrev pub mark_weight : Mark → ℕ
mark_weight New = 2
mark_weight Open = 0
mark_weight Closed = 0

-- what is left to do at a number, by its mark and its links that are left
abbrev pub weight : WalkNode → ℕ
weight node = mark_weight node.mark + node.left

-- The last link of a number that is left to be passed leads to this number, of which this is known.
pub record IsNextLink (links : List (Vec ℕ)) (nodes : List WalkNode) (top : ℕ) (node : WalkNode)
    (to : ℕ) (other : WalkNode) : Type 0 where
  pub own : Vec ℕ
  pub k : ℕ
  pub at : slice_get nodes top ≡ Some node
  pub has : slice_get links top ≡ Some own
  pub last : node.left ≡ suc k
  pub leads : slice_get own.items k ≡ Some to
  pub other_at : slice_get nodes to ≡ Some other

-- one step at a number: it is left where no link is left, and else its last link that is left is
-- passed, entered, or leads back to the trail
abbrev pub IsWalkStep : List (Vec ℕ) → (before after : List WalkNode) → (top : ℕ) → WalkStep
    → Type 0
IsWalkStep links before after top Leave =
    (node : WalkNode) × (slice_get before top ≡ Some node) × (node.left ≡ 0)
    × (after ≡ set before top (record { mark = Closed; left = 0 }))
IsWalkStep links before after top Pass =
    (node : WalkNode) × (to : ℕ) × (other : WalkNode) × IsNextLink links before top node to other
    × ((top ≢ to) → other.mark ≡ Closed)
    × (k : ℕ) × (suc k ≡ node.left)
    × (after ≡ set before top (record { mark = node.mark; left = k }))
IsWalkStep links before after top (Enter to) =
    (node : WalkNode) × (other : WalkNode) × IsNextLink links before top node to other
    × (other.mark ≡ New)
    × (after ≡ set before to (record { mark = Open; left = other.left }))
IsWalkStep links before after top Return =
    (node : WalkNode) × (to : ℕ) × (other : WalkNode) × IsNextLink links before top node to other
    × (other.mark ≡ Open) × (top ≢ to)

-- what a walk from a number tells: a round, or it ends, with the number met beside all that were
-- met before
abbrev pub MayTell : List (Vec ℕ) → (before after : List WalkNode) → (start : ℕ) → Bool → Type 0
MayTell links before after start true = HaveRound links
MayTell links before after start false = IsWalk links after [] × KeepsMet before after
    × IsMet after start
