-- What is made of an event that is to be sent.
use Rattle.std.specs.Prelude.{◌≡◌, ℕ, negsuc, nat_lt, true, false, List, [], ◌∷◌, length, codes, Option, Result, Ok, Err}
use Rattle.std.specs.Int.{w32, cast_signed}
use Rattle.std.specs.Option.{option_map_or}
use Rattle.muck_model.specs.Bytes.{text_most}
use Rattle.spec_rights.specs.declared.act.Actor.{Actor}
use Rattle.muf_model.specs.declared.fault.MufFault.TheVariants.{TooHeavy, TextTooLong}
use Rattle.muf_model.specs.declared.value.MapKey.{MapKey}
use Rattle.muf_model.specs.declared.value.Value.{Value}
use Rattle.muf_model.specs.Datum.{Datum, int, object}
use Rattle.muf_model.specs.Values.{value_fits}
use Rattle.muf_model.specs.inner.View.{view}
use Rattle.muf_frame.specs.declared.fault.PrimFault.{PrimFault}
use Rattle.muf_frame.specs.declared.fault.PrimFault.TheVariants.{Fault, NoMemory}
use Rattle.muck_queue.specs.declared.process.Process.{Process}
use Rattle.spec_processes.specs.declared.place.Place.{Place}
use Rattle.spec_processes.specs.ProcessRows.{entry_named, event_data}

-- the number of a connection, or -1
abbrev pub descr_item : Option ℕ → Datum
descr_item descr = int (option_map_or (cast_signed w32) descr (negsuc 0))

-- by whom an event is sent
abbrev pub sender_entries : Place → Actor → Process → List (MapKey × Datum)
sender_entries x a p =
    entry_named (codes "caller_pid") (int x.pid)
    ∷ entry_named (codes "caller_prog") (object x.program.0)
    ∷ entry_named (codes "descr") (descr_item p.descr)
    ∷ entry_named (codes "player") (object a.player.0)
    ∷ entry_named (codes "prog_uid") (object a.user.0)
    ∷ entry_named (codes "trigger") (object p.trigger.0)
    ∷ []

-- what comes with it, where that isn't too heavy
abbrev pub DataMade : Place → Actor → Process → Datum → Result Value PrimFault → Type 0
DataMade x a p value (Ok made) = (value_fits (event_data x a p value) ≡ true) × (view made ≡ event_data x a p value)
DataMade x a p value (Err (Fault f)) = (value_fits (event_data x a p value) ≡ false) × (f ≡ TooHeavy)
DataMade x a p value (Err NoMemory) = Unit {0}

-- its name, where that isn't too long
abbrev pub NameMade : List ℕ → Result (List ℕ) PrimFault → Type 0
NameMade name (Ok made) = (nat_lt text_most (length name) ≡ false) × (made ≡ name)
NameMade name (Err (Fault f)) = (nat_lt text_most (length name) ≡ true) × (f ≡ TextTooLong)
NameMade name (Err NoMemory) = Unit {0}
