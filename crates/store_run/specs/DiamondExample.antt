-- An example of a run that was cut and taken up (this product's own): a diamond, cut when base and
-- left are built and right has failed. The builder of right answers otherwise the second time. So
-- the conditions of *Any interruption* can be met.
use Rattle.std.specs.Prelude.{◌⊎◌, true, false, pos, Some, None, [], List, ◌∷◌, codes, Result, Ok, Err}
use Rattle.nix_names.specs.Bytes.{Name, Path}
use Rattle.nix_names.specs.Digests.{digits_of}
use Rattle.nix_drv.specs.Derivation.{Drv, Input}
use Rattle.drv_graph.specs.Nodes.{Node}
use Rattle.drv_graph.specs.declared.profile.Profile.TheVariants.{Plain}
use Rattle.valid_table.specs.declared.entry.Entry.{Entry}
use Rattle.valid_table.specs.declared.entry.Entry.TheVariants.{Done}
use Rattle.run_states.specs.Runs.{History, Run}
use Rattle.build_outcome.specs.declared.job.Answer.{Answer}
use Rattle.build_outcome.specs.declared.job.Job.{Job}
use Rattle.run_states.specs.declared.state.Event.TheVariants.{Begin, Done as Finish, Fail}
use Rattle.build_outcome.specs.declared.reason.Reason.{Reason}
use Rattle.build_outcome.specs.declared.reason.Reason.TheVariants.{ExitStatus}
use Rattle.store_run.specs.ScheduleExample.{Leaves, drv_alone}
use Rattle.store_run.specs.TwinExample.{LeavesWith, empty_digest, of_empty, script}

-- a derivation of an empty file at this path, with these inputs
abbrev pub drv_of : Name → (out : Path) → List Input → Drv
drv_of name out inputs = record (drv_alone (record {
  name = name;
  builder = codes "/bin/sh";
  args = codes "-c" ∷ script ∷ [];
}) out) {
  outputs = record {
    name = codes "out";
    path = out;
    algo = codes "sha256";
    hash = digits_of empty_digest;
  } ∷ [];
  inputs = inputs;
}

-- the one output of an input
abbrev pub use_of : Node → Input
use_of node = record { path = node.path; names = codes "out" ∷ [] }

-- the four output paths: those of an empty file with these names
abbrev pub base_out : Path
base_out = codes "/nix/store/klmrj20nslkanfsbjn1p9fnzvyxjx6gy-base"

abbrev pub left_out : Path
left_out = codes "/nix/store/0ng50ivinqv4wyvrxaaslg7vqjfvcwfv-left"

abbrev pub right_out : Path
right_out = codes "/nix/store/xv3vb69qwgq6kzqhg3qszsr1fbsw40sn-right"

abbrev pub top_out : Path
top_out = codes "/nix/store/568s8zby0k762wgbdf9nkqpcxap0mlvq-top"

-- the four derivations, at paths of which nothing is asked but their names
abbrev pub base : Node
base = record {
  path = codes "/nix/store/00000000000000000000000000000000-base.drv";
  drv = drv_of (codes "base") base_out [];
}

abbrev pub left : Node
left = record {
  path = codes "/nix/store/11111111111111111111111111111111-left.drv";
  drv = drv_of (codes "left") left_out (use_of base ∷ []);
}

abbrev pub right : Node
right = record {
  path = codes "/nix/store/22222222222222222222222222222222-right.drv";
  drv = drv_of (codes "right") right_out (use_of base ∷ []);
}

abbrev pub top : Node
top = record {
  path = codes "/nix/store/33333333333333333333333333333333-top.drv";
  drv = drv_of (codes "top") top_out (use_of left ∷ use_of right ∷ []);
}

-- the plan of the diamond, whose root is top
abbrev pub diamond : Run
diamond = record {
  graph = record { profile = Plain; nodes = base ∷ left ∷ right ∷ top ∷ []; roots = 3 ∷ [] };
  system = record { name = codes "x86_64-linux"; features = []; builtins = [] };
}

-- the outcomes of any job: it fails, or makes an empty file
abbrev pub may_make : Job → Result Answer Reason → Type 0
may_make job (Ok answer) = Leaves true answer ⊎ LeavesWith true false answer
may_make job (Err reason) = ⊥

-- the journal entry of a file that a derivation made
abbrev pub file_of : Node → (out : Path) → Entry
file_of node out = Done node.path (record {
  path = out;
  info = record { references = []; digest = Some of_empty; nar = None };
} ∷ [])

-- what the first run left: base and left are built, right failed, top waits
abbrev pub left_after_cut : History
left_after_cut = record {
  opening = [];
  entries = file_of base base_out ∷ file_of left left_out ∷ [];
  events = Begin 0 0 ∷ Finish 0 0 ∷ Begin 1 1 ∷ Begin 2 2 ∷ Fail 2 2 (ExitStatus (pos 1))
      ∷ Finish 1 1 ∷ [];
}

-- the second run: right is built, and then top
abbrev pub taken_up : History
taken_up = record {
  opening = file_of base base_out ∷ file_of left left_out ∷ [];
  entries = file_of base base_out ∷ file_of left left_out ∷ file_of right right_out
      ∷ file_of top top_out ∷ [];
  events = Begin 2 0 ∷ Finish 2 0 ∷ Begin 3 1 ∷ Finish 3 1 ∷ [];
}
