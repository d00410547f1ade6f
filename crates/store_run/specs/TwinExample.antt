-- An example of a whole run with twins (this product's own). Two derivations have one output path.
-- The first one fails, and the second one is built then, while a third derivation is under way. So
-- the conditions of *Any schedule* can be met where there are twins.
use Rattle.std.specs.Prelude.{◌≡◌, ◌++◌, Bool, true, false, pos, Some, None, [], ◌∷◌, codes, map, Result, Ok, Err}
use Rattle.std.specs.List.{list_any}
use Rattle.sha2.specs.Sha256.{sha256}
use Rattle.nix_names.specs.Bytes.{Bytes, Path, Name}
use Rattle.nix_names.specs.Digests.{digits_of}
use Rattle.nix_names.specs.Names.{same_bytes}
use Rattle.nix_names.specs.StorePaths.{store_path}
use Rattle.nix_names.specs.declared.digest.Algorithm.TheVariants.{Sha256}
use Rattle.nix_names.specs.declared.digest.Digest.{Digest}
use Rattle.nix_names.specs.declared.method.Method.TheVariants.{Flat}
use Rattle.nix_names.specs.declared.method.MethodDigest.{MethodDigest}
use Rattle.nix_drv.specs.Derivation.{Drv}
use Rattle.nix_drv.specs.OwnPath.{text_path}
use Rattle.nix_drv.specs.Parts.{bytes_of}
use Rattle.nix_drv.specs.Sources.{Listing}
use Rattle.drv_graph.specs.Expected.{fixed_inner_text}
use Rattle.drv_graph.specs.Nodes.{Node}
use Rattle.drv_graph.specs.declared.profile.Profile.TheVariants.{Plain, Nix}
use Rattle.ref_scan.specs.Trees.{pieces}
use Rattle.ref_scan.specs.declared.tree.Tree.{Tree}
use Rattle.valid_table.specs.declared.entry.Entry.{Entry}
use Rattle.valid_table.specs.declared.entry.Entry.TheVariants.{Done}
use Rattle.run_states.specs.Runs.{History, Run}
use Rattle.build_outcome.specs.Verdicts.{IsFlatFile, digest_by}
use Rattle.build_outcome.specs.declared.job.Answer.{Answer}
use Rattle.build_outcome.specs.declared.job.Job.{Job}
use Rattle.run_states.specs.declared.state.Event.TheVariants.{Begin, Done as Finish, Fail}
use Rattle.build_outcome.specs.declared.reason.Reason.{Reason}
use Rattle.build_outcome.specs.declared.reason.Reason.TheVariants.{ExitStatus}
use Rattle.store_run.specs.ScheduleExample.{Leaves, Recipe, drv_alone, made, owned, right, text_of}

-- the SHA-256 digest of an empty file
abbrev pub empty_digest : Digest
empty_digest = digest_by Sha256 []

-- that digest, as one of a file's bytes
abbrev pub of_empty : MethodDigest
of_empty = record { method = Flat; digest = empty_digest }

-- the store path of an empty file with a name
abbrev pub out_empty : (name : Name) → Path
out_empty name = store_path (codes "output:out") (sha256 (fixed_inner_text Flat empty_digest))
    (codes "/nix/store") name

-- a derivation without inputs and sources, whose one output is an empty file
abbrev pub drv_empty : Recipe → Drv
drv_empty recipe = record (drv_alone recipe (out_empty recipe.name)) {
  outputs = record {
    name = codes "out";
    path = out_empty recipe.name;
    algo = codes "sha256";
    hash = digits_of empty_digest;
  } ∷ [];
}

-- the derivation at its own path
abbrev pub node_empty : Recipe → Node
node_empty recipe = record {
  path = text_path (codes "/nix/store") (recipe.name ++ codes ".drv") (text_of (drv_empty recipe))
      [];
  drv = drv_empty recipe;
}

-- the shell script that makes an empty file
abbrev pub script : Bytes
script = codes ": > $out"

-- a derivation whose builder fails
abbrev pub failing_twin : Recipe
failing_twin = record { name = codes "src"; builder = codes "/bin/false"; args = [] }

-- one whose builder makes the file
abbrev pub making_twin : Recipe
making_twin = record {
  name = codes "src";
  builder = codes "/bin/sh";
  args = codes "-c" ∷ script ∷ [];
}

-- the first twin, at its own path
abbrev pub first_twin : Node
first_twin = node_empty failing_twin

-- the second twin, at its own path
abbrev pub second_twin : Node
second_twin = node_empty making_twin

-- the plan of both twins and of a derivation that makes an empty folder
abbrev pub three : Run
three = record {
  graph = record {
    profile = Plain;
    nodes = first_twin ∷ second_twin ∷ right ∷ [];
    roots = 0 ∷ 1 ∷ 2 ∷ [];
  };
  system = record { name = codes "x86_64-linux"; features = []; builtins = [] };
}

-- a source with the three derivations' files and no other
abbrev pub three_files : Listing
three_files = record {
  files = (first_twin.path, text_of first_twin.drv)
      ∷ (second_twin.path, text_of second_twin.drv) ∷ (right.path, text_of right.drv) ∷ [];
  failing = [];
  fetches = 0;
  failures = 0;
}

-- a tree is an empty file that its owner may not execute
abbrev pub IsEmptyFile : Tree → Type 0
IsEmptyFile tree = IsFlatFile Nix tree × (pieces tree ≡ [] ∷ [])

-- what a job leaves behind: where that script is an argument, it ends with status 0 and leaves an
-- empty file at one output, which only its owner may write; else what its program leaves
abbrev pub LeavesWith : (has_script fails : Bool) → Answer → Type 0
LeavesWith true fails answer = (answer.status ≡ Some (pos 0))
    × ((file : Tree) × IsEmptyFile file × (answer.outputs.items ≡ Some (owned file) ∷ []))
LeavesWith false fails answer = Leaves fails answer

-- the outcomes of a job: its arguments and its builder alone decide them
abbrev pub may_leave_file : Job → Result Answer Reason → Type 0
may_leave_file job (Ok answer) =
    LeavesWith (list_any (same_bytes script) (map bytes_of job.args.items))
    (same_bytes job.builder.items (codes "/bin/false")) answer
may_leave_file job (Err reason) = ⊥

-- the entry of what the second twin made
abbrev pub made_file : Entry
made_file = Done second_twin.path
    (record {
      path = out_empty making_twin.name;
      info = record { references = []; digest = Some of_empty; nar = None };
    } ∷ [])

-- the first twin and the third derivation are being built, and the second twin waits
abbrev pub waiting : History
waiting = record { opening = []; entries = []; events = Begin 0 0 ∷ Begin 2 1 ∷ [] }

-- the first twin has failed, and the second can begin
abbrev pub freed : History
freed = record {
  opening = [];
  entries = [];
  events = Begin 0 0 ∷ Begin 2 1 ∷ Fail 0 0 (ExitStatus (pos 1)) ∷ [];
}

-- two workers: the second twin begins and ends while the third derivation is being built
abbrev pub tried_again : History
tried_again = record {
  opening = [];
  entries = made_file ∷ made ∷ [];
  events = Begin 0 0 ∷ Begin 2 1 ∷ Fail 0 0 (ExitStatus (pos 1)) ∷ Begin 1 2 ∷ Finish 1 2
      ∷ Finish 2 1 ∷ [];
}

-- one thread: each begins when the one before it has ended
abbrev pub one_by_one : History
one_by_one = record {
  opening = [];
  entries = made_file ∷ made ∷ [];
  events = Begin 0 0 ∷ Fail 0 0 (ExitStatus (pos 1)) ∷ Begin 1 1 ∷ Finish 1 1 ∷ Begin 2 2
      ∷ Finish 2 2 ∷ [];
}
