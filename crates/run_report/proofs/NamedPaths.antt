-- The line of a derivation names one path, which rests on what may be referred to alone.
use Rattle.std.proofs.Common.{◌≡◌, ◌∙◌, ◌↔◌, ℕ, List, Option, Some, sym, ap, subst}
use Rattle.std.specs.Prelude.{slice_get}
use Rattle.drv_graph.specs.Nodes.{Node}
use Rattle.drv_graph.specs.PlanNodes.{output_paths_of}
use Rattle.drv_graph.specs.Plans.{Graph}
use Rattle.valid_table.specs.Entries.{registered}
use Rattle.valid_table.specs.declared.entry.Entry.{Entry}
use Rattle.valid_table.specs.declared.entry.Registration.{Registration}
use Rattle.nix_names.proofs.RisingLists.{rising_same}
use Rattle.build_outcome.specs.Jobs.{seeds_of}
use Rattle.build_outcome.specs.declared.reason.Reason.{Reason}
use Rattle.build_outcome.specs.declared.reason.Reason.TheVariants.{ExitStatus, NoStart, MissingOutput, NotFlatFile, HashMismatch, OutputCycle, TooLarge, ReadFault, OutOfMemory, Killed, BadMode, NotAllowed, BadSpecifier, BadAttributes, BadGraph, UnknownNar, PastMaxSize, PastMaxClosureSize}
use Rattle.run_states.specs.Legal.{ArePermitted, MayRefer}
use Rattle.run_states.specs.Runs.{History, IsWanted, Run, state_in}
use Rattle.run_states.specs.declared.state.State.{State}
use Rattle.run_states.specs.declared.state.State.TheVariants.{Blocked, Building, Done, Failed, Ready, Refused, Reused}
use Rattle.run_report.specs.NamedPaths.{IsNamedBy, IsNamedIn, IsPermittedAt}
use Rattle.run_report.specs.Reports.{ReportIsOne}
use Rattle.run_report.proofs.OneReport.{one_report}

-- ---- one path

one_permitted : (registrations : List Registration) (seeds outputs p q : List (List ℕ))
    → ArePermitted registrations seeds outputs p → ArePermitted registrations seeds outputs q
    → p ≡ q
one_permitted registrations seeds outputs p q of_p of_q =
    rising_same p q of_p.rising of_q.rising (λ path. (
      λ has. (of_q.each path).1 ((of_p.each path).0 has),
      λ has. (of_p.each path).1 ((of_q.each path).0 has),
    ))

one_at : (graph : Graph) (entries : List Entry) (d index : ℕ) (m n : Option (List ℕ))
    → IsPermittedAt graph entries d index m → IsPermittedAt graph entries d index n → m ≡ n
one_at graph entries d index m n of_m of_n =
    of_m.is_at ∙ ap (λ (ps : List (List ℕ)). slice_get ps index) lists ∙ sym of_n.is_at
  where
    same : of_m.node ≡ of_n.node
    same = let is : Some of_m.node ≡ Some of_n.node = sym of_m.is_node ∙ of_n.is_node in cc

    lists : of_m.permitted ≡ of_n.permitted
    lists = one_permitted (registered entries) (seeds_of graph.nodes of_n.node.drv)
        (output_paths_of of_n.node.drv) of_m.permitted of_n.permitted
        (subst (λ (node : Node). ArePermitted (registered entries) (seeds_of graph.nodes node.drv)
        (output_paths_of node.drv) of_m.permitted) same of_m.are_permitted) of_n.are_permitted

one_by : (graph : Graph) (entries : List Entry) (d : ℕ) (reason : Reason)
    (m n : Option (List ℕ)) → IsNamedBy graph entries d reason m
    → IsNamedBy graph entries d reason n → m ≡ n
one_by graph entries d (NotAllowed output index) m n of_m of_n =
    one_at graph entries d index m n of_m of_n
one_by graph entries d (ExitStatus status) m n of_m of_n = of_m ∙ sym of_n
one_by graph entries d NoStart m n of_m of_n = of_m ∙ sym of_n
one_by graph entries d (MissingOutput output) m n of_m of_n = of_m ∙ sym of_n
one_by graph entries d NotFlatFile m n of_m of_n = of_m ∙ sym of_n
one_by graph entries d HashMismatch m n of_m of_n = of_m ∙ sym of_n
one_by graph entries d OutputCycle m n of_m of_n = of_m ∙ sym of_n
one_by graph entries d TooLarge m n of_m of_n = of_m ∙ sym of_n
one_by graph entries d ReadFault m n of_m of_n = of_m ∙ sym of_n
one_by graph entries d OutOfMemory m n of_m of_n = of_m ∙ sym of_n
one_by graph entries d Killed m n of_m of_n = of_m ∙ sym of_n
one_by graph entries d (BadMode output) m n of_m of_n = of_m ∙ sym of_n
one_by graph entries d (BadSpecifier output) m n of_m of_n = of_m ∙ sym of_n
one_by graph entries d BadAttributes m n of_m of_n = of_m ∙ sym of_n
one_by graph entries d BadGraph m n of_m of_n = of_m ∙ sym of_n
one_by graph entries d (UnknownNar index) m n of_m of_n =
    one_at graph entries d index m n of_m of_n
one_by graph entries d (PastMaxSize output) m n of_m of_n = of_m ∙ sym of_n
one_by graph entries d (PastMaxClosureSize output) m n of_m of_n = of_m ∙ sym of_n

pub one_named : (graph : Graph) (entries : List Entry) (d : ℕ) (state : State)
    (m n : Option (List ℕ)) → IsNamedIn graph entries d state m
    → IsNamedIn graph entries d state n → m ≡ n
one_named graph entries d (Failed reason) m n of_m of_n = one_by graph entries d reason m n of_m of_n
one_named graph entries d Done m n of_m of_n = of_m ∙ sym of_n
one_named graph entries d (Building lease) m n of_m of_n = of_m ∙ sym of_n
one_named graph entries d Reused m n of_m of_n = of_m ∙ sym of_n
one_named graph entries d (Refused cause) m n of_m of_n = of_m ∙ sym of_n
one_named graph entries d Ready m n of_m of_n = of_m ∙ sym of_n
one_named graph entries d Blocked m n of_m of_n = of_m ∙ sym of_n

-- the path that the line of each derivation names in the report of a run
abbrev pub names_in : Run → History → (d : ℕ) → (named : Option (List ℕ)) → Type 0
names_in run history d named =
    IsNamedIn run.graph history.entries d (state_in run history d) named

-- so there is one report of a run
pub one_report_in : ReportIsOne
one_report_in run history a b of_a of_b =
    one_report run.graph (IsWanted run history.opening) (names_in run history)
    (state_in run history) a b
    (λ d m n wanted of_m of_n. one_named run.graph history.entries d (state_in run history d) m n
    of_m of_n) of_a of_b

-- ---- the same path after other entries

-- all that may be referred to after some entries may be after others, and no more
abbrev pub ReferAlike : List Entry → List Entry → Type 0
ReferAlike entries other = (seeds outputs : List (List ℕ)) (path : List ℕ)
    → MayRefer (registered entries) seeds outputs path
    ↔ MayRefer (registered other) seeds outputs path

at_after : (graph : Graph) (entries other : List Entry) → ReferAlike entries other
    → (d index : ℕ) (named : Option (List ℕ)) → IsPermittedAt graph entries d index named
    → IsPermittedAt graph other d index named
at_after graph entries other alike d index named is = record {
  node = is.node;
  is_node = is.is_node;
  permitted = is.permitted;
  are_permitted = record {
    rising = is.are_permitted.rising;
    each = λ path. (
      λ has. (both path).0 ((is.are_permitted.each path).0 has),
      λ may. (is.are_permitted.each path).1 ((both path).1 may),
    );
  };
  is_at = is.is_at;
}
  where
    both : (path : List ℕ) → MayRefer (registered entries) (seeds_of graph.nodes is.node.drv)
        (output_paths_of is.node.drv) path
        ↔ MayRefer (registered other) (seeds_of graph.nodes is.node.drv)
        (output_paths_of is.node.drv) path
    both = alike (seeds_of graph.nodes is.node.drv) (output_paths_of is.node.drv)

by_after : (graph : Graph) (entries other : List Entry) → ReferAlike entries other
    → (d : ℕ) (reason : Reason) (named : Option (List ℕ)) → IsNamedBy graph entries d reason named
    → IsNamedBy graph other d reason named
by_after graph entries other alike d (NotAllowed output index) named is =
    at_after graph entries other alike d index named is
by_after graph entries other alike d (ExitStatus status) named is = is
by_after graph entries other alike d NoStart named is = is
by_after graph entries other alike d (MissingOutput output) named is = is
by_after graph entries other alike d NotFlatFile named is = is
by_after graph entries other alike d HashMismatch named is = is
by_after graph entries other alike d OutputCycle named is = is
by_after graph entries other alike d TooLarge named is = is
by_after graph entries other alike d ReadFault named is = is
by_after graph entries other alike d OutOfMemory named is = is
by_after graph entries other alike d Killed named is = is
by_after graph entries other alike d (BadMode output) named is = is
by_after graph entries other alike d (BadSpecifier output) named is = is
by_after graph entries other alike d BadAttributes named is = is
by_after graph entries other alike d BadGraph named is = is
by_after graph entries other alike d (UnknownNar index) named is =
    at_after graph entries other alike d index named is
by_after graph entries other alike d (PastMaxSize output) named is = is
by_after graph entries other alike d (PastMaxClosureSize output) named is = is

pub named_after : (graph : Graph) (entries other : List Entry) → ReferAlike entries other
    → (d : ℕ) (state : State) (named : Option (List ℕ)) → IsNamedIn graph entries d state named
    → IsNamedIn graph other d state named
named_after graph entries other alike d (Failed reason) named is =
    by_after graph entries other alike d reason named is
named_after graph entries other alike d Done named is = is
named_after graph entries other alike d (Building lease) named is = is
named_after graph entries other alike d Reused named is = is
named_after graph entries other alike d (Refused cause) named is = is
named_after graph entries other alike d Ready named is = is
named_after graph entries other alike d Blocked named is = is
