-- Entries of a job's environment, and its structured attributes among them (Nix manual, "Advanced
-- Attributes", `__structuredAttrs`). Only the profile `nix` has these.
use Rattle.std.specs.Prelude.{Option, None, codes, find, map, option_map}
use Rattle.nix_names.specs.Bytes.{Bytes, Name}
use Rattle.nix_names.specs.Names.{same_bytes}
use Rattle.nix_drv.specs.Derivation.{EnvEntry}
use Rattle.nix_drv.specs.Parts.{entry_of}
use Rattle.drv_graph.specs.declared.profile.Profile.{Profile}
use Rattle.drv_graph.specs.declared.profile.Profile.TheVariants.{Nix, Plain}
use Rattle.build_outcome.specs.declared.job.Job.{Job}

-- the value that a job's environment has for a key, if there is one
abbrev pub value_at : (key : Name) → Job → Option Bytes
value_at key job = option_map (λ (e : EnvEntry). e.value)
    (find (λ (e : EnvEntry). same_bytes e.key key) (map entry_of job.env.items))

-- the value for a key under a profile: none under `plain`
abbrev pub value_under : Profile → (key : Name) → Job → Option Bytes
value_under Plain key job = None
value_under Nix key job = value_at key job

-- the text of a job's structured attributes, if it has such
abbrev pub json_of : Job → Option Bytes
json_of job = value_under job.profile (codes "__json") job
