-- The entry of a derivation that was built, in any run over a plan.
use Rattle.std.specs.Prelude.{◌≡◌, ⊤, ℕ, Some, List, All, length, map, slice_get}
use Rattle.nix_names.specs.Bytes.{Path}
use Rattle.drv_graph.specs.Nodes.{Node}
use Rattle.drv_graph.specs.Plans.{Graph}
use Rattle.drv_graph.specs.declared.kinds.Kind.{Kind}
use Rattle.drv_graph.specs.declared.kinds.Kind.TheVariants.{Addressed, Fixed}
use Rattle.valid_table.specs.PathInfos.{PathInfo}
use Rattle.valid_table.specs.Valid.{IsNotValid}
use Rattle.valid_table.specs.declared.entry.Entry.{Entry}
use Rattle.valid_table.specs.declared.entry.Registration.{Registration}
use Rattle.sched_core.specs.Books.{AreNewRecords, IsNotAllowed}
use Rattle.run_states.specs.Legal.{AreAcyclicRecords, AreNewOutputs, IsEntryOf}
use Rattle.run_states.specs.declared.fault.BookFault.{BookFault}
use Rattle.run_states.specs.declared.fault.BookFault.TheVariants.{NoMemory, NotLawful}

-- if outputs of this kind declare a digest, each record has it
abbrev pub HaveDigest : Kind → List PathInfo → Type 0
HaveDigest Addressed infos = ⊤
HaveDigest (Fixed method digest) infos =
    All (λ (info : PathInfo). info.digest ≡ Some (record { method = method; digest = digest })) infos

-- The tests of records that take no memory: there is one record for each path, no path is valid,
-- and the records have the digest that outputs of this kind declare.
pub record AreFitting (known : List Registration) (kind : Kind) (paths : List Path)
    (infos : List PathInfo) : Type 0 where
  pub count : length infos ≡ length paths
  pub new : All (IsNotValid known) paths
  pub digests : HaveDigest kind infos

-- the records of some registrations
abbrev pub infos_of : List Registration → List PathInfo
infos_of registrations = map (λ (r : Registration). r.info) registrations

-- an entry is that of the derivation with this number, with these records, and allowed after some
-- entries if the references are permitted
abbrev pub IsDoneEntry : Graph → (d : ℕ) → List Entry → List PathInfo → Entry → Type 0
IsDoneEntry graph d entries infos entry = (node : Node) → slice_get graph.nodes d ≡ Some node
    → IsEntryOf node infos entry × AreAcyclicRecords node.drv infos
    × AreNewOutputs entries node.drv

-- why there is no entry of the derivation with this number
abbrev pub IsDoneFault : Graph → (d : ℕ) → List Entry → List PathInfo → BookFault → Type 0
IsDoneFault graph d entries infos NoMemory = AreNewRecords graph entries d infos
IsDoneFault graph d entries infos NotLawful = IsNotAllowed graph entries d infos
IsDoneFault graph d entries infos fault = ⊥
