use Rattle.std.proofs.Common.{inl}
use Rattle.nix_realise.proofs.cli.process.run_texts.Goals as goal

pub returns-in-Ok : goal.returns-in-Ok
returns-in-Ok g c = inl (rw (← c.in-Ok.ensures, ← c.deref.ensures.value) c.run.ensures)
