-- How the builders of a run build: what a builder's copy of it says, and where a log lies (this
-- product's own, `FORMATS.md`).
use Rattle.std.specs.Prelude.{◌≡◌, ◌++◌, codes, drop, is_some, length, option_map, string_bytes}
use Rattle.std.specs.List.{AllZip}
use Rattle.nix_names.specs.Bytes.{Bytes, Dir, Path}
use Rattle.process_build.specs.declared.process.builtins.BuiltinProgram.{BuiltinProgram}
use Rattle.process_build.specs.declared.process.builtins.OwnBuiltin.{OwnBuiltin}
use Rattle.process_build.specs.declared.process.options.BuildOptions.{BuildOptions}
use Rattle.process_build.specs.declared.process.options.OwnOptions.{OwnOptions}

-- the path of a derivation's log: that of its file, with the folder of logs in the place of the
-- store folder, and `.log`
abbrev pub log_path_of : (logs : Bytes) → (store_dir : Dir) → (drv : Path) → Bytes
log_path_of logs store_dir drv = logs ++ drop (length store_dir) drv ++ codes ".log"

-- the copy of a builtin has its program, and the text of its builder
abbrev pub IsOwnBuiltin : BuiltinProgram → OwnBuiltin → Type 0
IsOwnBuiltin given own = (string_bytes own.builder ≡ codes "builtin:" ++ given.name.now)
    × (string_bytes own.program ≡ given.program.now)

-- The builder's copy says the same.
pub record AreOptionsOf (options : BuildOptions) (own : OwnOptions) : Type 0 where
  pub store_dir : string_bytes own.store_dir ≡ options.store_dir.now
  pub runner : option_map string_bytes own.runner ≡ option_map (λ r. r.now) options.runner
  pub logs : option_map string_bytes own.logs ≡ option_map (λ l. l.now) options.logs
  pub kept : is_some own.kept ≡ is_some options.kept
  pub drvs : own.drvs ≡ options.drvs.now
  pub build_dir : string_bytes own.build_dir ≡ options.build_dir.now
  pub cores : own.cores ≡ options.cores
  pub builtins : AllZip IsOwnBuiltin options.builtins.now own.builtins.items
