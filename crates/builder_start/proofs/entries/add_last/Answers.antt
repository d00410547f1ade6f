use Rattle.std.proofs.Common.{◌≡◌, ◌∙◌, ℕ, Bool, false, List, map, subst, sym}
use Rattle.std.specs.List.{list_any}
use Rattle.nix_names.specs.Names.{same_bytes}
use Rattle.builder_start.specs.private.Files.{IsAdded}
use Rattle.builder_start.specs.private.Shown.{shown_pair}
use Rattle.builder_start.proofs.entries.add_last.Goals as goal

pub returns : goal.returns
returns c =
    let none : list_any (λ (other : List ℕ × List ℕ). same_bytes other.0 c.args.pair.now.name.now)
    (map shown_pair c.args.after.now) ≡ false = sym c.is_named.ensures ∙ c.if-is_named.false in
    subst (λ (b : Bool). IsAdded b c.args.pair.now c.args.graph.now c.args.files.now.items
    c.push.new.self.items) (sym none) (
      c.in_ok-file_of.field-0,
      c.in_ok-push.ensures.items,
      c.in_ok-file_of.ensures.name,
      c.in_ok-file_of.ensures.contents,
    )
