-- What a command gets of its line.
use Rattle.std.specs.Prelude.{◌≡◌, ◌≤◌, true, false, ℕ, List, length, Option, Some, None, Result, Ok, Err}
use Rattle.std.specs.Borrow.{Bor}
use Rattle.muck_model.specs.declared.memory.NoMemory.{NoMemory}
use Rattle.spec_commands.specs.declared.outcome.Outcome.TheVariants.{Done as Finished}
use Rattle.spec_commands.specs.declared.shape.Form.{Form}
use Rattle.spec_commands.specs.declared.shape.Want.{Want}
use Rattle.spec_commands.specs.declared.shape.Want.TheVariants.{NewName}
use Rattle.spec_commands.specs.declared.shape.Shape.{Shape}
use Rattle.spec_commands.specs.declared.shape.Arguments.{Arguments}
use Rattle.spec_commands.specs.Going.{Play}
use Rattle.spec_commands.specs.Reading.{has_all_parts, left_in, right_in}
use Rattle.muck_perm.specs.declared.guard.Guard.{Guard}
use Rattle.muck_perm.specs.inner.Guards.{Same, world_of}
use Rattle.cmd_common.specs.declared.parts.Parts.{Parts}
use Rattle.cmd_common.specs.inner.Plays.{Plays}

-- a row of a table of words
abbrev pub word_row : {C : Type 0} → Bor (List ℕ) × C → List ℕ × C
word_row row = (row.0.now, row.1)

-- the parts of a text; or one is missing
abbrev pub IsCut : Form → List ℕ → Result (Option Parts) NoMemory → Type 0
IsCut form text (Ok (Some parts)) = (has_all_parts form text ≡ true) × (parts.left ≡ left_in form text) × (parts.right ≡ right_in form text)
IsCut form text (Ok None) = has_all_parts form text ≡ false
IsCut form text (Err e) = Unit {0}

-- the arguments were found, nothing happened, and the line goes on with them; or it is done
abbrev pub Takes : ((Arguments → Play) → Play) → Guard → Guard → Result (Option Arguments) NoMemory → Type 0
Takes seek old new (Ok (Some args)) = (new ≡ old) × ((go : Arguments → Play) → seek go (world_of old) ≡ go args (world_of old))
Takes seek old new (Ok None) = (go : Arguments → Play) → Plays (seek go) old new (Ok Finished)
Takes seek old new (Err e) = Same old new

-- a name that is to be given has 1 to 80 bytes
abbrev pub IsJudged : Want → List ℕ → Type 0
IsJudged NewName text = (1 ≤ length text) × (length text ≤ 80)
IsJudged want text = Unit {0}

abbrev pub AreJudged : Shape → Arguments → Type 0
AreJudged shape args = IsJudged shape.first args.first.text × IsJudged shape.second args.second.text
