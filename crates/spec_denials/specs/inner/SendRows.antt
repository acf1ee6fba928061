-- What an event tells of its sender, by an example.
use Rattle.std.specs.Prelude.{◌≡◌, pos, [], ◌∷◌, codes, refl}
use Rattle.muf_model.specs.Datum.{object, dict, pairs_of}
use Rattle.spec_live.specs.Objects.{dbref_of}
use Rattle.spec_rights.specs.declared.act.Actor.{Actor}
use Rattle.spec_processes.specs.ProcessRows.{entry_named, event_data}
use Rattle.spec_processes.specs.inner.Worked.{fore, place_of, number}

-- Three plays what acts for Two
abbrev sender : Actor
sender = record { level = 3; user = dbref_of 2; player = dbref_of 3 }

unfoldable pub SendRows : Type 0
SendRows =
    -- by whom it was sent, in which process, from which connection, and what started that
    event_data (place_of 1) sender fore (number 5) ≡ dict (pairs_of (
    entry_named (codes "caller_pid") (number 1)
    ∷ entry_named (codes "caller_prog") (object (pos 8))
    ∷ entry_named (codes "data") (number 5)
    ∷ entry_named (codes "descr") (number 9)
    ∷ entry_named (codes "player") (object (pos 3))
    ∷ entry_named (codes "prog_uid") (object (pos 2))
    ∷ entry_named (codes "trigger") (object (pos 0))
    ∷ []))

pub send_rows : SendRows
unfolding SendRows
send_rows = refl
