-- What is told where the world makes no player.
use Rattle.std.specs.Prelude.{◌≡◌, ℕ, OnOk, Result}
use Rattle.muck_model.specs.declared.memory.NoMemory.{NoMemory}
use Rattle.spec_live.specs.declared.fault.DbFault.{DbFault}
use Rattle.spec_live.specs.declared.fault.DbFault.TheVariants.{NoMemory as WantsMemory}
use Rattle.spec_live.specs.Lives.{tell}
use Rattle.spec_commands.specs.Replies.{cant_be_done}
use Rattle.muck_perm.specs.declared.guard.Guard.{Guard}
use Rattle.muck_perm.specs.inner.Guards.{Did}

-- that it can't be done; where memory was wanted nothing
abbrev pub IsRefused : ℕ → DbFault → Guard → Guard → Result (Unit {0}) NoMemory → Type 0
IsRefused d WantsMemory old new result = (new ≡ old) × OnOk result ⊥
IsRefused d fault old new result = Did (tell d cant_be_done) old new result
