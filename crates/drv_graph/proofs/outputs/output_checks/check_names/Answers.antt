use Rattle.std.proofs.Common.{◌∙◌, ℕ, List, sym, subst}
use Rattle.std.specs.Prelude.{IsTrue}
use Rattle.std.proofs.lemmas.Bool.{false≢true}
use Rattle.nix_names.specs.Names.{is_name}
use Rattle.nix_drv.specs.Parts.{output_of}
use Rattle.drv_graph.specs.Expected.{path_name}
use Rattle.drv_graph.specs.Outputs.{IsWellNamed}
use Rattle.drv_graph.proofs.Loops.{all_took_more, seen_at}
use Rattle.drv_graph.proofs.outputs.output_checks.check_names.Goals as goal
use Rattle.nix_names.proofs.Lists.{Contains-map}

abbrev Named : List ℕ → List ℕ → Type 0
Named name output = IsTrue (is_name output) × IsTrue (is_name (path_name name output))

pub returns-then-not-named-clause-err : goal.returns-then-not-named-clause-err
returns-then-not-named-clause-err c = (
  output_of c.output-item.result,
  Contains-map output_of _ _
      (c.loop-output.output-index, c.loop-output-test.true, sym c.output-item.is),
  λ (w : Named _ c.output-item.result.name.items).
      let is : IsTrue c.in_ok-named.named = c.in_ok-named.ensures.1
      (subst (λ (o : List ℕ). Named c.args.name.now o) (sym c.deref.ensures.value) w) in
      false≢true (sym c.if-not-named.true ∙ is),
)

pub loop-output-preserved : goal.loop-output-preserved
loop-output-preserved c =
    all_took_more (IsWellNamed _) _
    _ _
    (seen_at output_of _ _ _
    c.loop-output-test.true c.output-item.is)
    c.loop-output.invariant
    (subst (λ (o : List ℕ). Named c.args.name.now o) c.deref.ensures.value
    (c.in_ok-named.ensures.0 c.if-not-named.false))
