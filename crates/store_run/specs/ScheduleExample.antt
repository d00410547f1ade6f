-- An example of a whole run: two builds at once, of which one fails (this product's own). So the
-- conditions of *Any schedule* can be met.
use Rattle.std.specs.Prelude.{◌≡◌, ◌++◌, Bool, true, false, ℕ, pos, Some, None, List, [], ◌∷◌, codes, Result, Ok, Err}
use Rattle.sha2.specs.Sha256.{sha256}
use Rattle.nix_names.specs.Bytes.{Bytes, Path, Name}
use Rattle.nix_names.specs.Names.{same_bytes}
use Rattle.nix_names.specs.StorePaths.{store_path}
use Rattle.nix_drv.specs.Derivation.{Drv, derivation_form, drv_value}
use Rattle.nix_drv.specs.Grammar.{text}
use Rattle.nix_drv.specs.OwnPath.{text_path}
use Rattle.nix_drv.specs.Sources.{Listing}
use Rattle.drv_graph.specs.Nodes.{Node}
use Rattle.drv_graph.specs.declared.profile.Profile.TheVariants.{Plain}
use Rattle.ref_scan.specs.Trees.{pieces}
use Rattle.ref_scan.specs.declared.tree.Tree.{Tree}
use Rattle.valid_table.specs.declared.entry.Entry.{Entry}
use Rattle.valid_table.specs.declared.entry.Entry.TheVariants.{Done}
use Rattle.run_states.specs.Runs.{History, Run}
use Rattle.run_states.specs.States.{Begun, phase_of}
use Rattle.build_outcome.specs.declared.job.Answer.{Answer}
use Rattle.build_outcome.specs.declared.job.Job.{Job}
use Rattle.build_outcome.specs.declared.job.LeftOutput.{LeftOutput}
use Rattle.run_states.specs.declared.state.Event.{Event}
use Rattle.run_states.specs.declared.state.Event.TheVariants.{Begin, Done as Finish, Fail}
use Rattle.build_outcome.specs.declared.reason.Reason.{Reason}
use Rattle.build_outcome.specs.declared.reason.Reason.TheVariants.{ExitStatus}

-- How a derivation is built: its name, the program and its arguments.
pub record Recipe : Type 0 where
  pub name : Name
  pub builder : Bytes
  pub args : List Bytes

-- a derivation without inputs and sources, whose one output has this path
abbrev pub drv_alone : Recipe → (out : Path) → Drv
drv_alone recipe out = record {
  outputs = record { name = codes "out"; path = out; algo = []; hash = [] } ∷ [];
  inputs = [];
  sources = [];
  system = codes "x86_64-linux";
  builder = recipe.builder;
  args = recipe.args;
  env = record { key = codes "builder"; value = recipe.builder }
      ∷ record { key = codes "name"; value = recipe.name }
      ∷ record { key = codes "out"; value = out }
      ∷ record { key = codes "system"; value = codes "x86_64-linux" } ∷ [];
}

-- the text of a derivation
abbrev pub text_of : Drv → Bytes
text_of drv = text derivation_form (drv_value drv)

-- the path of that output, computed from the text in which it is empty
abbrev pub out_alone : Recipe → Path
out_alone recipe = store_path (codes "output:out") (sha256 (text_of (drv_alone recipe [])))
    (codes "/nix/store") recipe.name

-- the derivation with that output, at its own path
abbrev pub node_alone : Recipe → Node
node_alone recipe = record {
  path = text_path (codes "/nix/store") (recipe.name ++ codes ".drv")
      (text_of (drv_alone recipe (out_alone recipe))) [];
  drv = drv_alone recipe (out_alone recipe);
}

-- a derivation whose builder fails
abbrev pub failing : Recipe
failing = record { name = codes "left"; builder = codes "/bin/false"; args = [] }

-- one whose builder makes an empty folder
abbrev pub making : Recipe
making = record {
  name = codes "right";
  builder = codes "/bin/sh";
  args = codes "-c" ∷ codes "/bin/mkdir $out" ∷ [];
}

-- the derivation that fails, at its own path
abbrev pub left : Node
left = node_alone failing

-- the derivation that makes a folder, at its own path
abbrev pub right : Node
right = node_alone making

-- the plan of both derivations, for their system
abbrev pub both : Run
both = record {
  graph = record { profile = Plain; nodes = left ∷ right ∷ []; roots = 0 ∷ 1 ∷ [] };
  system = record { name = codes "x86_64-linux"; features = []; builtins = [] };
}

-- a source with the two derivations' files and no other
abbrev pub two_files : Listing
two_files = record {
  files = (left.path, text_of left.drv) ∷ (right.path, text_of right.drv) ∷ [];
  failing = [];
  fetches = 0;
  failures = 0;
}

-- a tree is an empty folder: a file and a link have a piece, and so has each entry
abbrev pub IsEmptyFolder : Tree → Type 0
IsEmptyFolder tree = pieces tree ≡ []

-- a tree that only its owner may write
abbrev pub owned : Tree → LeftOutput
owned tree = record { tree = tree; others_may_write = false }

-- what a program leaves behind: a program that fails ends with status 1 and leaves nothing, any
-- other ends with status 0 and leaves an empty folder at one output, which only its owner may write
abbrev pub Leaves : (fails : Bool) → Answer → Type 0
Leaves true answer = (answer.status ≡ Some (pos 1)) × (answer.outputs.items ≡ [])
Leaves false answer = (answer.status ≡ Some (pos 0))
    × ((folder : Tree) × IsEmptyFolder folder × (answer.outputs.items ≡ Some (owned folder) ∷ []))

-- the outcomes of a job: `/bin/false` fails, and every other builder makes an empty folder
abbrev pub may_leave : Job → Result Answer Reason → Type 0
may_leave job (Ok answer) = Leaves (same_bytes job.builder.items (codes "/bin/false")) answer
may_leave job (Err reason) = ⊥

-- the journal entry of the folder that `right` made
abbrev pub made : Entry
made = Done right.path
    (record {
      path = out_alone making;
      info = record { references = []; digest = None; nar = None };
    } ∷ [])

-- the history of two workers: `right` begins and ends while `left` is being built
abbrev pub side_by_side : History
side_by_side = record {
  opening = [];
  entries = made ∷ [];
  events = Begin 0 0 ∷ Begin 1 1 ∷ Finish 1 1 ∷ Fail 0 0 (ExitStatus (pos 1)) ∷ [];
}

-- the history of one thread: `right` begins when `left` has failed
abbrev pub in_turn : History
in_turn = record {
  opening = [];
  entries = made ∷ [];
  events = Begin 0 0 ∷ Fail 0 0 (ExitStatus (pos 1)) ∷ Begin 1 1 ∷ Finish 1 1 ∷ [];
}

-- Two builds overlap: after some of a history's events both are under way.
pub record Overlap (history : History) (a b : ℕ) : Type 0 where
  pub before : List Event
  pub after : List Event
  pub parts : history.events ≡ before ++ after
  pub one : ℕ
  pub other : ℕ
  pub first : phase_of before a ≡ Begun one
  pub second : phase_of before b ≡ Begun other
