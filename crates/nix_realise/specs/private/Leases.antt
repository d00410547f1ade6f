-- The derivations of events.
use Rattle.std.specs.Prelude.{ℕ}
use Rattle.run_states.specs.declared.state.Event.{Event}
use Rattle.run_states.specs.declared.state.Event.TheVariants.{Begin, Done, Fail}

-- the number of the derivation to which an event happened
abbrev pub derivation_of : Event → ℕ
derivation_of (Begin d number) = d
derivation_of (Done d number) = d
derivation_of (Fail d number reason) = d
