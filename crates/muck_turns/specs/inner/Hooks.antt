-- What is hooked to an event, by what is kept of who moved.
use Rattle.std.specs.Prelude.{◌≡◌, ℕ, ℤ, Bool, true, not, if◌then◌else◌, List, ◌++◌, Option, None, Result, Ok, Err, OnOk}
use Rattle.std.specs.List.{flat_map}
use Rattle.std.specs.Option.{option_map}
use Rattle.muck_model.specs.declared.dbref.Dbref.{Dbref}
use Rattle.muck_model.specs.declared.memory.NoMemory.{NoMemory}
use Rattle.spec_live.specs.Objects.{Entry, mark_in}
use Rattle.spec_live.specs.declared.moved.Move.{Move}
use Rattle.spec_live.specs.Stood.{moves_from}
use Rattle.muf_model.specs.declared.fault.MufFault.{MufFault}
use Rattle.spec_hooks.specs.declared.turned.Turned.{Turned}
use Rattle.spec_hooks.specs.Causes.{heard}
use Rattle.spec_hooks.specs.Told.{told}
use Rattle.spec_events.specs.World.{World}
use Rattle.spec_events.specs.Hooked.{calls_of, is_limit, and_then, started_all}
use Rattle.spec_events.specs.Steps.{rested}
use Rattle.muck_turns.specs.declared.state.deeds.DeedFault.{DeedFault}
use Rattle.muck_turns.specs.declared.state.deeds.DeedFault.TheVariants.{Fault, NoMemory as Wanted}
use Rattle.muck_turns.specs.declared.state.hook.Speech.{Speech}

-- of none of these objects anything is to be told to what runs it
abbrev pub AreTold : List Entry → Type 0
AreTold es = (n : ℕ) → mark_in es n ≡ None

abbrev pub said_of : Option Speech → Option (Dbref × List ℕ)
said_of said = option_map (λ s. (s.player, s.text)) said

-- what is hooked to these who moved, to what became of connections and to what was said starts
abbrev pub hooked_moves : Turned → List Move → Option (Dbref × List ℕ) → World → World
hooked_moves turned moves said u = started_all (flat_map (calls_of u.live.objects) (told turned moves ++ heard u.live said)) u

-- another event begins, and what is hooked to this one starts
unfoldable pub hooked_told : Turned → Option (Dbref × List ℕ) → World → World
hooked_told turned said v = hooked_moves turned (moves_from 0 v.live.objects) said (rested v)

-- one was started, or wasn't, and then the rest starts in this world, or is passed over
abbrev pub GoesOn : World × Result ℤ MufFault → World → Bool → Type 0
GoesOn r v more = (rest : World → World) → and_then r rest ≡ (if more then rest v else v)

-- whether the rest may start, by what the start of one answered
abbrev pub MoreIs : Result ℤ DeedFault → Result Bool NoMemory → Type 0
MoreIs (Ok pid) result = result ≡ Ok true
MoreIs (Err (Fault f)) result = result ≡ Ok (not (is_limit f))
MoreIs (Err Wanted) result = OnOk result ⊥
