-- What a journal tells of a text without references, and its entries after the text is put into the
-- store (Nix manual, "Nix Archive (NAR) format").
use Rattle.std.specs.Prelude.{◌≡◌, Bool, true, false, List, [], ◌∷◌, ◌++◌, Option, Some, None, Result, Ok, Err, length}
use Rattle.sha2.specs.Sha256.{sha256}
use Rattle.nix_archive.specs.Archive.{nar}
use Rattle.nix_archive.specs.Trees.{File}
use Rattle.nix_names.specs.Bytes.{Bytes, Path}
use Rattle.nix_names.specs.declared.digest.Digest.TheVariants.{Sha256}
use Rattle.nix_names.specs.declared.method.Method.TheVariants.{Flat}
use Rattle.drv_graph.specs.declared.profile.Profile.{Profile}
use Rattle.drv_graph.specs.declared.profile.Profile.TheVariants.{Nix, Plain}
use Rattle.valid_table.specs.Entries.{registered}
use Rattle.valid_table.specs.PathInfos.{NarInfo}
use Rattle.valid_table.specs.Valid.{IsValid}
use Rattle.valid_table.specs.declared.entry.Entry.{Entry}
use Rattle.valid_table.specs.declared.entry.Entry.TheVariants.{Add}
use Rattle.valid_table.specs.declared.fault.TableFault.{TableFault}
use Rattle.valid_table.specs.declared.fault.TableFault.TheVariants.{NoMemory}
use Rattle.nix_realise.specs.declared.additions.text_record.TextRecord.{TextRecord}

-- the archive (NAR) of a text, which is that of a file that its owner may not execute
unfoldable pub text_archive : (text : Bytes) → Bytes
text_archive text = nar (File false text)

-- the SHA-256 and the length of an archive
abbrev pub archive_info : (archive : Bytes) → NarInfo
archive_info archive = record { hash = sha256 archive; size = length archive }

-- what is told of a text's archive: nothing, or by the rules of Nix its SHA-256 and its length
abbrev pub text_nar : Profile → (text : Bytes) → Option NarInfo
text_nar Plain text = None
text_nar Nix text = Some (archive_info (text_archive text))

-- what is told of a text: the SHA-256 of its bytes, and that of its archive
abbrev pub record_of_text : Profile → (text : Bytes) → TextRecord
record_of_text profile text = record { digest = sha256 text; nar = text_nar profile text }

-- the entry of a text: its path, no references, and what is told of the text
abbrev pub text_entry : (path : Path) → TextRecord → Entry
text_entry path told =
    Add (record {
      path = path;
      info = record {
        references = [];
        digest = Some (record { method = Flat; digest = Sha256 told.digest });
        nar = told.nar;
      };
    })

-- whether the text's entry was added: where the path is valid the entries don't change; else the
-- entry comes after all others
abbrev pub IsRegistered : (old new : List Entry) → (path : Path) → TextRecord → (added : Bool)
    → Type 0
IsRegistered old new path told false = IsValid (registered old) path × (new ≡ old)
IsRegistered old new path told true =
    ¬ (IsValid (registered old) path) × (new ≡ old ++ text_entry path told ∷ [])

-- the answer of a registration; want of memory is the only fault, and changes nothing
abbrev pub IsTextRegistering : (old new : List Entry) → (path : Path) → TextRecord
    → Result Bool TableFault → Type 0
IsTextRegistering old new path told (Ok added) = IsRegistered old new path told added
IsTextRegistering old new path told (Err fault) = (fault ≡ NoMemory) × (new ≡ old)
