-- What follows of what a maker of programs answered.
use Rattle.std.specs.Prelude.{◌≡◌, ℕ, OnOk, Result, Ok, Err}
use Rattle.muck_model.specs.declared.dbref.Dbref.{Dbref}
use Rattle.muck_model.specs.declared.memory.NoMemory.{NoMemory}
use Rattle.spec_live.specs.declared.fault.DbFault.{DbFault}
use Rattle.spec_live.specs.declared.fault.DbFault.TheVariants.{NoMemory as WantsMemory}
use Rattle.spec_live.specs.Lives.{◌▸◌, tell}
use Rattle.spec_rights.specs.Levels.{dbref_number}
use Rattle.spec_commands.specs.declared.outcome.Outcome.{Outcome}
use Rattle.spec_commands.specs.declared.outcome.Outcome.TheVariants.{Edit}
use Rattle.spec_commands.specs.Replies.{cant_be_done, entering_editor}
use Rattle.spec_commands.specs.Going.{ended}
use Rattle.spec_commands.specs.Building.{created_shown}
use Rattle.spec_commands.specs.Programming.{command_over}
use Rattle.muck_perm.specs.declared.guard.Guard.{Guard}
use Rattle.cmd_common.specs.inner.Plays.{Plays}

-- the new program is told and its editor is to be opened, or it can't be done; where memory was wanted nothing
abbrev pub IsEntered : ℕ → Result Dbref DbFault → Guard → Guard → Result Outcome NoMemory → Type 0
IsEntered d (Ok x) old new result = Plays (ended (Edit x) (created_shown d (dbref_number x) ▸ tell d entering_editor)) old new result
IsEntered d (Err WantsMemory) old new result = (new ≡ old) × OnOk result ⊥
IsEntered d (Err fault) old new result = Plays (command_over d cant_be_done) old new result
