-- Which entries are lawful, and what each does.
use Rattle.std.specs.Prelude.{◌≡◌, ℕ, ◌+◌, ℤ, Bool, true, false, not, ◌&&◌, ◌||◌, ◌==◌, find, nat_lt, nat_le, if◌then◌else◌, length, Option, None, is_some, is_none}
use Rattle.std.specs.Option.{option_map, option_map_or}
use Rattle.std.specs.List.{list_any}
use Rattle.muck_model.specs.declared.event.Entry.{Entry}
use Rattle.muck_model.specs.declared.event.Event.{Event}
use Rattle.muck_model.specs.declared.event.Event.TheVariants.{Opened, Input, Closed, Moment, Exec, Claim, Slice, Lost, Idle, Take, Cut, Stored, DumpFailed, Halt, StopSeen, Died}
use Rattle.spec_live.specs.Saving as saving
use Rattle.spec_live.specs.Connections.{Connection, is_ready, connections_most, takes_line, holds}
use Rattle.spec_live.specs.Boards.{connection_opened, line_added, bytes_taken}
use Rattle.spec_live.specs.Stood.{stilled}
use Rattle.spec_live.specs.Lives.{on_board, on_objects}
use Rattle.muck_queue.specs.declared.process.Process.{Process}
use Rattle.muck_queue.specs.Queues.{has_pid, process, is_process_due, is_on, next_due, claimed, released, is_busy, ended_tied}
use Rattle.spec_commands.specs.Talk.{welcome, gone_away}
use Rattle.spec_events.specs.World.{World, connection, unasked, dump_begun, dump_over, askers_of, runs_dump, on_live, on_queue, on_dumps}
use Rattle.spec_events.specs.Dumping.{resaved, dump_stored, dump_failed, told_each}
use Rattle.spec_events.specs.Lines.{first_line_done, spoken}
use Rattle.spec_events.specs.Hooked.{hooked}
use Rattle.spec_events.specs.Slices.{sliced}

-- the connection d is there and passes
abbrev pub passes : (Connection → Bool) → ℕ → World → Bool
passes test d w = option_map_or test (connection d w) false

-- a line waits that may be done, and no process keeps the connection from it: one that is tied to it waits for the line
abbrev pub has_line_to_do : World → Connection → Bool
has_line_to_do w c = is_ready c && not (is_busy c.number w.queue)

-- some process of that number passes
abbrev pub has_process : (Process → Bool) → ℤ → World → Bool
has_process test pid w = list_any (λ p. has_pid pid p && test p) w.queue.processes

-- it is there
abbrev pub is_process_there : ℤ → World → Bool
is_process_there pid w = is_some (process pid w.queue)

-- this party has claimed it
abbrev pub has_claim : ℕ → ℤ → World → Bool
has_claim party pid w = list_any (λ c. is_on pid c && c.party == party) w.queue.claims

-- a line may be done
abbrev pub has_line : World → Bool
has_line w = list_any (has_line_to_do w) w.live.board.connections && not w.stopping

-- a process may be claimed
abbrev pub has_due : World → Bool
has_due w = list_any (is_process_due w.moment w.queue.claims) w.queue.processes && not w.stopping

-- a dump is asked, or so many seconds passed since the last one began
abbrev pub is_dump_due : World → Bool
is_dump_due w = is_some w.dumps.asked || nat_le (w.dumps.last + w.live.board.tune.dump_interval) w.moment

-- A party may idle where there is nothing for it to do: the porter and the workers, 0 to 8, where no line may be done and no
-- process claimed, the dumper, 9, where no dump is asked or due.
abbrev pub may_idle : World → ℕ → Bool
may_idle w party = if nat_lt party 9 then not (has_line w) && not (has_due w) else party == 9 && not (is_dump_due w)

-- the porter and the dumper make dumps
abbrev pub makes_dumps : ℕ → Bool
makes_dumps party = party == 0 || party == 9

-- One dump runs at a time. The porter makes the dumps of a script, and the last one, when it will; the dumper makes one where it
-- is asked or due.
abbrev pub may_cut : World → ℕ → Bool
may_cut w party = makes_dumps party && is_none w.dumps.running && (party == 0 || is_dump_due w)

-- Lawful in a world that isn't dead. Connections and what runs over them are the first party's alone, and so is the end of
-- the run; lines and processes are any party's, and any may see that the world is stopping. Events that nothing uses yet are
-- lawful nowhere.
abbrev pub is_allowed : World → ℕ → Event → Bool
is_allowed w party (Opened d) = party == 0 && is_none (connection d w) && nat_lt (length w.live.board.connections) connections_most && not w.stopping
is_allowed w party (Input d line) = party == 0 && passes takes_line d w && not w.stopping
is_allowed w party (Closed d) = party == 0 && is_some (connection d w)
is_allowed w party (Moment t) = party == 0 && nat_le w.moment t
is_allowed w party (Exec d) = passes (has_line_to_do w) d w && not w.stopping
is_allowed w party (Claim pid) = has_process (is_process_due w.moment w.queue.claims) pid w && not w.stopping
is_allowed w party (Slice pid) = has_claim party pid w && is_process_there pid w
is_allowed w party (Lost pid) = has_claim party pid w && not (is_process_there pid w)
is_allowed w party Idle = may_idle w party
is_allowed w party (Take d n) = party == 0 && nat_lt 0 n && passes (holds n) d w
is_allowed w party (Cut k) = may_cut w party
is_allowed w party (Stored k) = makes_dumps party && runs_dump k w.dumps
is_allowed w party (DumpFailed k) = makes_dumps party && runs_dump k w.dumps
is_allowed w party Halt = party == 0
is_allowed w party StopSeen = w.stopping
is_allowed w party Died = true
is_allowed w party event = false

abbrev pub is_died : Event → Bool
is_died Died = true
is_died event = false

-- Died is always lawful, and after it nothing else is
unfoldable pub is_lawful : World → Entry → Bool
is_lawful w entry = if w.dead then is_died entry.event else is_allowed w entry.party entry.event

-- The world after an event of a party. As a dump begins, what is due is pending; once it is stored, that is done; and where it failed, what was pending is
-- due again. Who asked for a dump is told what came of it. A claim lasts until its party has taken the slice, or has learned that the process ended.
abbrev pub happened : World → ℕ → Event → World
happened w party (Opened d) = on_live (on_board (connection_opened d welcome)) w
happened w party (Input d line) = on_live (on_board (line_added d line)) w
happened w party (Closed d) = on_dumps (unasked d) (on_queue (ended_tied d) (on_live (gone_away d) w))
happened w party (Moment t) = record w { moment = t }
happened w party (Exec d) = first_line_done d (connection d w) w
happened w party (Claim pid) = on_queue (claimed pid party) w
happened w party (Slice pid) = on_queue (released pid) (sliced pid w)
happened w party (Lost pid) = on_queue (released pid) w
happened w party (Take d n) = on_live (on_board (bytes_taken d n)) w
happened w party (Cut k) = on_dumps (dump_begun k w.moment) (on_live (resaved saving.pending) w)
happened w party (Stored k) = on_dumps dump_over (on_live (told_each (askers_of w.dumps) (dump_stored k)) (on_live (resaved saving.saving_done) w))
happened w party (DumpFailed k) = on_dumps dump_over (on_live (told_each (askers_of w.dumps) dump_failed) (on_live (resaved saving.due_again) w))
happened w party Halt = record w { stopping = true }
happened w party Died = record w { dead = true }
happened w party event = w

-- another event begins: where players stand is where they stood
abbrev pub rested : World → World
rested w = on_live (on_objects stilled) w

-- one does behind an event that hooks follow
abbrev pub resting : Event → World → World
resting (Exec d) v = rested v
resting (Slice pid) v = rested v
resting (Closed d) v = rested v
resting event v = v

-- Behind a line that is done, a slice and a connection that goes comes what is hooked to who came, went and moved since the world before, and to what the line said.
abbrev pub hooked_by : World → Event → World → World
hooked_by w (Exec d) v = hooked w (rested v) (spoken d (connection d w) w)
hooked_by w (Slice pid) v = hooked w (rested v) None
hooked_by w (Closed d) v = hooked w (rested v) None
hooked_by w event v = v

-- the world after an entry: what happened, and what is hooked to that
unfoldable pub effect : World → Entry → World
effect w entry = hooked_by w entry.event (happened w entry.party entry.event)

-- the lowest connection with a line that may be done
unfoldable pub next_ready : World → Option ℕ
next_ready w = if w.dead || w.stopping then None else option_map (λ c. c.number) (find (has_line_to_do w) w.live.board.connections)

-- the process that may go on, whose second came first, and of those the one with the lowest number
unfoldable pub next_process : World → Option ℤ
next_process w = if w.dead || w.stopping then None else next_due w.moment w.queue

-- one step: the entry is lawful, and v is its effect
pub record Step (w : World) (entry : Entry) (v : World) : Type 0 where
  pub lawful : is_lawful w entry ≡ true
  pub effect : v ≡ effect w entry
