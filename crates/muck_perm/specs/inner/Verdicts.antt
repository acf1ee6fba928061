-- What asking for leave answers.
use Rattle.std.specs.Prelude.{◌≡◌, Option, Some, None, Result, Ok, Err}
use Rattle.muck_model.specs.declared.dbref.Denial.{Denial}
use Rattle.spec_rights.specs.declared.act.Actor.{Actor}
use Rattle.spec_rights.specs.declared.act.Act.{Act}
use Rattle.muck_perm.specs.declared.rules.Pass.{Pass}

-- a pass for this actor and act, where nothing denies it; else the denial
abbrev pub IsVerdict : Option Denial → Actor → Act → Result Pass Denial → Type 0
IsVerdict v actor act (Ok pass) = (v ≡ None) × (pass.actor ≡ actor) × (pass.act.now ≡ act)
IsVerdict v actor act (Err denial) = v ≡ Some denial
