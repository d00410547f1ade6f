use Rattle.run_states.proofs.Attributes.{none_told, read_told}
use Rattle.std.proofs.Common.{rules}
use Rattle.run_states.proofs.structured.attributes_of.Goals as goal

pub returns-in-Ok : goal.returns-in-Ok
returns-in-Ok c =
    read_told c.args.text.now _ c.in-Ok.ensures.ok.0 c.in-Ok.ensures.ok.1

pub returns-in-Err-BadAttributes : goal.returns-in-Err-BadAttributes
returns-in-Err-BadAttributes c =
    none_told c.args.text.now (c.in-Err-BadAttributes.ensures.bad (search rules))
