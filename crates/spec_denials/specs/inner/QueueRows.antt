-- Which process goes on, reads and ends, by examples.
use Rattle.std.specs.Prelude.{◌≡◌, true, false, pos, List, [], ◌∷◌, map, Some, None, refl}
use Rattle.muck_model.specs.declared.dbref.Dbref.{Dbref}
use Rattle.spec_live.specs.Objects.{dbref_of, nothing}
use Rattle.muck_queue.specs.declared.mode.Wait.TheVariants.{ForLine}
use Rattle.muck_queue.specs.Queues.{Queue, number_most, next_due, claimed, without_process, is_queue_full, process_added, reader, ended_tied, ended_running, trigger_cleared}
use Rattle.muck_queue.specs.inner.Rows.{sample, tied_to, numbers, three, limits, of_two, ties, runners}

-- 1 is tied to the connection 7 and runs, and 3 to 8, where it waits for a line
abbrev reading : Queue
reading = record { processes = tied_to 7 (sample (pos 1) 5) ∷ record (tied_to 8 (sample (pos 3) 5)) { wait = ForLine } ∷ []; last = pos 3; claims = [] }

abbrev triggers : Queue → List Dbref
triggers q = map (λ p. p.trigger) q.processes

unfoldable pub QueueRows : Type 0
QueueRows =
    -- what is due, and claimed by nobody
    (next_due 9 three ≡ Some (pos 2))
    × (next_due 9 (claimed (pos 2) 7 three) ≡ Some (pos 4))
    × (next_due 2 three ≡ None)
    -- no number is given again
    × (numbers (process_added (sample (pos 0) 8) (without_process (pos 4) three)) ≡ pos 1 ∷ pos 2 ∷ pos 5 ∷ [])
    -- as many of a player as may be
    × (is_queue_full (dbref_of 1) (limits 3 1) of_two ≡ true)
    × (is_queue_full (dbref_of 3) (limits 3 1) of_two ≡ false)
    -- who reads the line of a connection
    × (reader 8 reading ≡ Some (pos 3))
    × (reader 7 reading ≡ None)
    -- with a connection, and with a program, also of a caller
    × (numbers (ended_tied 7 ties) ≡ pos 2 ∷ pos 3 ∷ [])
    × (numbers (ended_running (dbref_of 5) runners) ≡ pos 3 ∷ [])
    -- what is gone is no trigger any more, and other things stay one
    × (triggers (trigger_cleared (dbref_of 4) of_two) ≡ nothing ∷ nothing ∷ [])
    × (triggers (trigger_cleared (dbref_of 5) of_two) ≡ dbref_of 4 ∷ dbref_of 4 ∷ [])

pub queue_rows : QueueRows
unfolding QueueRows number_most next_due claimed without_process is_queue_full process_added reader ended_tied ended_running trigger_cleared
queue_rows = (refl, refl, refl, refl, refl, refl, refl, refl, refl, refl, refl, refl)
