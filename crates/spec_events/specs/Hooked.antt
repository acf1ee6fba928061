-- What hooks do behind an event.
use Rattle.std.specs.Prelude.{ℕ, ℤ, Bool, true, false, if◌then◌else◌, List, [], ◌∷◌, map, codes, Option, Result, Ok, Err}
use Rattle.std.specs.List.{flat_map}
use Rattle.muck_model.specs.declared.dbref.Dbref.{Dbref}
use Rattle.spec_live.specs.Objects.{Entry}
use Rattle.muf_model.specs.declared.fault.MufFault.{MufFault}
use Rattle.muf_model.specs.declared.fault.MufFault.TheVariants.{ProcessLimit}
use Rattle.spec_hooks.specs.declared.cause.Cause.{Cause}
use Rattle.spec_hooks.specs.declared.cause.Fire.{Fire}
use Rattle.spec_hooks.specs.Causes.{causes}
use Rattle.spec_hooks.specs.Firing.{player_of, firing}
use Rattle.spec_events.specs.declared.starting.Call.{Call}
use Rattle.spec_events.specs.World.{World}
use Rattle.spec_events.specs.Starting.{by_hook, program_begun}

unfoldable pub hook_command : List ℕ
hook_command = codes "(hook)"

-- a program is started for the player of the cause
abbrev pub call_of : Cause → Fire → Call
call_of cause f = record { player = player_of cause; program = f.program; trigger = f.trigger; command = hook_command; argument = f.arg }

abbrev pub calls_of : List Entry → Cause → List Call
calls_of es cause = map (call_of cause) (firing es cause)

-- a limit refuses it
abbrev pub is_limit : MufFault → Bool
is_limit ProcessLimit = true
is_limit fault = false

-- From the first process that a limit refuses, the rest is passed over; of a program that doesn't compile, that one alone.
abbrev pub and_then : World × Result ℤ MufFault → (World → World) → World
and_then (w, Ok pid) more = more w
and_then (w, Err fault) more = if is_limit fault then w else more w

-- these are started, one after the other
unfoldable pub started_all : List Call → World → World
started_all [] w = w
started_all (c ∷ cs) w = and_then (program_begun (by_hook w) c w) (started_all cs)

-- The world after an event, with what is hooked to the differences from the world before, and to what was said.
unfoldable pub hooked : World → World → Option (Dbref × List ℕ) → World
hooked before after spoken = started_all (flat_map (calls_of after.live.objects) (causes before.live after.live spoken)) after
