use Rattle.std.proofs.Common.{◌≡◌, ◌∙◌, ◌++◌, ◌∷◌, [], List, ap, append_assoc, codes, map, sym}
use Rattle.nix_names.specs.Bytes.{Name}
use Rattle.nix_names.specs.declared.digest.Digest.{Digest}
use Rattle.nix_names.specs.declared.method.Method.{Method}
use Rattle.nix_drv.specs.Derivation.{EnvEntry}
use Rattle.nix_drv.specs.Parts.{entry_of}
use Rattle.drv_graph.specs.declared.kinds.Kind.{Kind}
use Rattle.drv_graph.specs.declared.kinds.Kind.TheVariants.{Fixed}
use Rattle.process_build.specs.Setups.{caller_entry, entry, fixed_entries, impure_names}
use Rattle.process_build.proofs.Mapped.{if_ok}
use Rattle.process_build.proofs.process.entries.push_fixed.Goals as goal

-- the entries of a fixed output after others
fixed_after : (kind : Kind) (method : Method) (digest : Digest) (names told : List Name)
    (caller old between new made : List EnvEntry) → kind ≡ Fixed method digest
    → between ≡ old ++ made → new ≡ between ++ map (caller_entry caller) told
    → made ≡ entry (codes "NIX_OUTPUT_CHECKED") (codes "1") ∷ [] → told ≡ names
    → new ≡ old ++ fixed_entries kind names caller
fixed_after kind method digest names told caller old between new made is one all made_is told_is =
    let first : EnvEntry = entry (codes "NIX_OUTPUT_CHECKED") (codes "1") in
    all ∙ ap (λ l. l ++ map (caller_entry caller) told) (one ∙ ap (λ l. old ++ l) made_is)
    ∙ append_assoc old (first ∷ []) (map (caller_entry caller) told)
    ∙ ap (λ ns. old ++ (first ∷ map (caller_entry caller) ns)) told_is
    ∙ ap (λ k. old ++ fixed_entries k names caller) (sym is)

pub returns-in_ok-names-in-Fixed : goal.returns-in_ok-names-in-Fixed
returns-in_ok-names-in-Fixed c =
    if_ok c.push_callers.result _ _
    (λ done all. fixed_after c.args.job.now.kind c.in-Fixed.field-0 c.in-Fixed.field-1
    (impure_names c.args.job.now c.args.prepared.now) _ (map entry_of c.args.caller.now) _ _ _ _
    c.in-Fixed.is c.in_ok-push_settings-in-Fixed.ensures all (ap (λ e. e ∷ []) c.new.ensures)
    (ap (map (λ n. n.now)) c.deref.ensures.value ∙ c.in_ok-names-in-Fixed.ensures))
    c.push_callers.ensures
