-- An example of a start that asks for a graph of references (this product's own): a job of the
-- profile `nix` is built from base of the diamond, and asks for base's graph. So the conditions of
-- the law that starts are the same by longer lists can be met.
use Rattle.std.specs.Prelude.{◌≡◌, List, [], ◌∷◌, Result, Ok, codes, map, string_bytes}
use Rattle.nix_names.specs.Bytes.{Bytes}
use Rattle.nix_drv.specs.Derivation.{EnvEntry}
use Rattle.nix_drv.specs.Parts.{entry_of}
use Rattle.drv_graph.specs.declared.profile.Profile.TheVariants.{Nix}
use Rattle.valid_table.specs.declared.entry.Entry.{Entry}
use Rattle.build_outcome.specs.declared.job.Job.{Job}
use Rattle.build_outcome.specs.declared.preparation.Prepared.{Prepared}
use Rattle.build_outcome.specs.declared.preparation.Prepared.TheVariants.{Entries}
use Rattle.build_outcome.specs.declared.preparation.PreparedFile.{PreparedFile}
use Rattle.build_outcome.specs.declared.reason.Reason.{Reason}
use Rattle.store_run.specs.DiamondExample.{base, base_out, file_of, left, left_out}

-- base is valid
abbrev pub base_alone : List Entry
base_alone = file_of base base_out ∷ []

-- and then left, too
abbrev pub base_and_left : List Entry
base_and_left = file_of base base_out ∷ file_of left left_out ∷ []

-- the one entry of the job's environment
abbrev pub asking : EnvEntry
asking = record {
  key = codes "exportReferencesGraph";
  value = codes "graph /nix/store/klmrj20nslkanfsbjn1p9fnzvyxjx6gy-base";
}

-- A job is built from base, and asks for its graph in a file named `graph`.
pub record AsksForBase (job : Job) : Type 0 where
  pub profile : job.profile ≡ Nix
  pub env : map entry_of job.env.items ≡ asking ∷ []
  pub seeds : job.seeds.items ≡ base_out ∷ []
  pub whole_inputs : job.whole_inputs.items ≡ []

-- base has no deriver and no references
abbrev pub base_text : Bytes
base_text = codes "/nix/store/klmrj20nslkanfsbjn1p9fnzvyxjx6gy-base\n\n0\n"

-- A file has base's graph.
pub record IsBaseGraph (file : PreparedFile) : Type 0 where
  pub name : string_bytes file.name ≡ codes "graph"
  pub contents : file.contents.items ≡ base_text

-- the one file that is prepared has base's graph
abbrev pub HasBaseGraph : Result Prepared Reason → Type 0
HasBaseGraph (Ok (Entries files)) = (file : PreparedFile) × (files.items ≡ file ∷ [])
    × IsBaseGraph file
HasBaseGraph other = ⊥
