-- What adding a process does, and sending it an event.
use Rattle.std.specs.Prelude.{◌≡◌, ℕ, ℤ, Bool, true, false, nat_le, is_some, List, Result, Ok, Err}
use Rattle.muck_model.specs.declared.tune.Tune.{Tune}
use Rattle.muck_queue.specs.declared.process.Process.{Process}
use Rattle.muck_queue.specs.declared.fault.QueueFault.{QueueFault}
use Rattle.muck_queue.specs.declared.fault.QueueFault.TheVariants.{ProcessLimit, TooManyEvents, NoMemory}
use Rattle.muf_model.specs.Datum.{Datum}
use Rattle.muck_queue.specs.Queues.{Queue, process, on_process, told_event, events_of, events_most, is_queue_full, process_added}

-- It is added and has the last number; or it is refused, and nothing has changed.
abbrev pub Adds : Process → Tune → Queue → Queue → Result ℤ QueueFault → Type 0
Adds p tune old new (Ok n) = (is_queue_full p.player tune old ≡ false) × (n ≡ new.last) × (new ≡ process_added p old)
Adds p tune old new (Err ProcessLimit) = (is_queue_full p.player tune old ≡ true) × (new ≡ old)
Adds p tune old new (Err NoMemory) = (is_queue_full p.player tune old ≡ false) × (new ≡ old)
Adds p tune old new (Err TooManyEvents) = ⊥

-- It has the event, where it is there; or it has too many, and nothing has changed.
abbrev pub Sends : ℤ → ℕ → List ℕ × Datum → Queue → Queue → Result Bool QueueFault → Type 0
Sends pid moment event old new (Ok there) = (there ≡ is_some (process pid old)) × (nat_le events_most (events_of pid old) ≡ false) × (new ≡ on_process pid (told_event moment event) old)
Sends pid moment event old new (Err TooManyEvents) = (nat_le events_most (events_of pid old) ≡ true) × (new ≡ old)
Sends pid moment event old new (Err NoMemory) = new ≡ old
Sends pid moment event old new (Err ProcessLimit) = ⊥
