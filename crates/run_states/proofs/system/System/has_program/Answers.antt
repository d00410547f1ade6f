use Rattle.std.proofs.Common.{◌∙◌, ap, codes, drop, map, rules, sym, take, tests}
use Rattle.std.proofs.lemmas.Iterator.{YieldsList-from_slice}
use Rattle.std.proofs.lemmas.Iterator.Search.{any_from_yields_List}
use Rattle.nix_names.specs.Bytes.{Bytes}
use Rattle.nix_names.specs.Names.{same_bytes}
use Rattle.nix_drv.specs.Parts.{bytes_of}
use Rattle.run_states.specs.Systems.{Platform}
use Rattle.run_states.proofs.Platforms.{no_program, program_told}
use Rattle.run_states.proofs.system.System.has_program.Goals as goal

pub returns-in-Some : goal.returns-in-Some
returns-in-Some c =
    program_told c.args.self.now c.args.drv.now c.in-Some.name.now c.deref.result.now c.any.result
    (ap (map bytes_of) c.deref.ensures.value ∙ ap (λ (s : Platform). s.builtins) c.self.view_is)
    (ap (λ (b : Bytes). same_bytes (take 8 b) (codes "builtin:")) (sym c.builder.ensures)
    ∙ c.in-Some.ensures.cases.0)
    (c.in-Some.ensures.cases.1 ∙ ap (λ (b : Bytes). drop 8 b) c.builder.ensures)
    (any_from_yields_List _ _ _ c.any.result c.any.ensures.ran
    (YieldsList-from_slice c.deref.result.now cc) (λ x b q k. search (rules, tests)))

pub returns-in-None : goal.returns-in-None
returns-in-None c = no_program c.args.self.now c.args.drv.now
    (ap (λ (b : Bytes). same_bytes (take 8 b) (codes "builtin:")) (sym c.builder.ensures)
    ∙ c.in-None.ensures.cases)
