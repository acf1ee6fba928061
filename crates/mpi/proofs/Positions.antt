-- Where the first element stands that passes a test, or the length where none does.
use Rattle.muck_laws.proofs.Tests.{position_found, position_within}

pub ruleset positions = (position_found, position_within)
