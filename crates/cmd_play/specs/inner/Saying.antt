-- How a line ends that was said or posed.
use Rattle.std.specs.Prelude.{◌≡◌, ℕ, Bool, List, Result, Ok, Err}
use Rattle.muck_model.specs.declared.memory.NoMemory.{NoMemory}
use Rattle.spec_commands.specs.declared.outcome.Outcome.{Outcome}
use Rattle.spec_commands.specs.declared.outcome.Outcome.TheVariants.{Said}

-- the text was copied, or memory was wanted, as it may have been before
abbrev pub SaysSo : Result (Unit {0}) NoMemory → Bool → List ℕ → Result Outcome NoMemory → Type 0
SaysSo (Ok x) pose text (Ok outcome) = outcome ≡ Said pose text
SaysSo (Ok x) pose text (Err e) = Unit {0}
SaysSo (Err e) pose text result = result ≡ Err e
