use Rattle.std.proofs.Common.{subst, ℕ, List, Option}
use Rattle.std.specs.Io.KnownBytes.{Appends}
use Rattle.nix_realise.proofs.Endings.{file_not_written}
use Rattle.nix_realise.specs.Endings.{path_line}
use Rattle.nix_realise.proofs.additions.add_text.put.Goals as goal

pub returns : goal.returns
returns g c =
    let before : Option (List ℕ) = g.O.Write.contents c.args.out.now in
    let after : Option (List ℕ) = g.O.Write.contents c.print_path.new.out in
    let printed =
    subst (λ (path : List ℕ). Appends before after (path_line path)) c.path.ensures
    c.in-Ok.ensures in
    file_not_written c.args.added c.in-Err.unfiled before after c.stop_of.result printed c.in-Err.ensures.err
    c.stop_of.ensures
