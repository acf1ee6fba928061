-- What a script makes happen, and the text that it writes.
use Rattle.std.specs.Prelude.{ℕ, ℤ, zero, suc, ◌+◌, ◌-◌, min, nat_lt, Bool, true, false, ◌||◌, is_some, if◌then◌else◌, List, [], ◌∷◌, ◌++◌, length, take, drop, Option, Some, None, codes}
use Rattle.std.specs.List.{flat_map}
use Rattle.std.specs.Fmt.{decimal}
use Rattle.muck_model.specs.declared.event.Entry.{Entry}
use Rattle.muck_model.specs.declared.event.Event.{Event}
use Rattle.muck_model.specs.declared.event.Event.TheVariants.{Opened, Input, Closed, Moment, Exec, Claim, Slice, Take, Cut, Stored, DumpFailed, Halt}
use Rattle.spec_events.specs.World.{World, queue_of, is_leaving}
use Rattle.spec_events.specs.Steps.{is_lawful, effect, next_ready, next_process}
use Rattle.spec_live.specs.Connections.{connections_most}
use Rattle.spec_events.specs.Histories.{after, by_porter}
use Rattle.muck_script.specs.declared.act.Act.{Act}
use Rattle.muck_script.specs.declared.act.Act.TheVariants.{Nothing, Open, Send, Close, Wait, Dump}
use Rattle.muck_script.specs.Lines.{lines_of}

-- How a dump came out, by its number.
pub data Dumped : Type 0 where
  stored : ℕ → Dumped
  failed : ℕ → Dumped

abbrev pub outcome : Event → List Dumped
outcome (Stored k) = stored k ∷ []
outcome (DumpFailed k) = failed k ∷ []
outcome event = []

-- how the dumps among these entries came out
abbrev pub outcomes_of : List Entry → List Dumped
outcomes_of es = flat_map (λ (e : Entry). outcome e.event) es

-- A part of a story: what happens in a world, where the dumps that are to come come out so.
abbrev pub Part : Type 0
Part = List Dumped → World → List Entry

-- no dump is made in it
abbrev pub plain_part : (World → List Entry) → Part
plain_part f os w = f w

-- behind these entries g goes on, with the outcomes that they left
abbrev pub then_on : Part → List Dumped → World → List Entry → List Entry
then_on g os w es = es ++ g (drop (length (outcomes_of es)) os) (after w es)

-- what f says happens, and then what g says happens in the world that it leaves
abbrev pub both_parts : Part → Part → Part
both_parts f g os w = then_on g os w (f os w)

-- an event, where it is lawful
abbrev pub if_lawful : Event → World → List Entry
if_lawful event w = if is_lawful w (by_porter event) then by_porter event ∷ [] else []

-- so many seconds later, as far as seconds go
abbrev pub moment_later : ℕ → World → ℕ
moment_later seconds w = min (w.moment + seconds) 18446744073709551615

-- what a line of the script asks for
abbrev pub acted : Act → World → List Entry
acted Nothing w = []
acted (Open d) w = if_lawful (Opened d) w
acted (Send d text) w = if_lawful (Input d text) w
acted (Close d) w = if_lawful (Closed d) w
acted (Wait seconds) w = if_lawful (Moment (moment_later seconds w)) w
acted Dump w = []

-- A turn: the first line of a connection is done, or a process runs for a slice.
pub data StoryTurn : Type 0 where
  of_line : ℕ → StoryTurn
  of_process : ℤ → StoryTurn

-- lines come before processes
abbrev pub turn_chosen : Option ℕ → Option ℤ → Option StoryTurn
turn_chosen (Some d) pid = Some (of_line d)
turn_chosen None (Some pid) = Some (of_process pid)
turn_chosen None None = None

-- the next turn, where there is one
unfoldable pub next_turn : World → Option StoryTurn
next_turn w = turn_chosen (next_ready w) (next_process w)

-- what happens in a turn: a process is claimed, and at once sliced
abbrev pub turn_entries : StoryTurn → List Entry
turn_entries (of_line d) = by_porter (Exec d) ∷ []
turn_entries (of_process pid) = by_porter (Claim pid) ∷ by_porter (Slice pid) ∷ []

-- a turn is taken, and others follow; without one nothing follows
abbrev pub turn_followed : Option StoryTurn → (StoryTurn → List Entry) → List Entry
turn_followed None others = []
turn_followed (Some t) others = turn_entries t ++ others t

-- at most n turns
unfoldable pub turns : ℕ → World → List Entry
turns zero w = []
turns (suc n) w = turn_followed (next_turn w) (λ t. turns n (after w (turn_entries t)))

-- how many turns those are
abbrev pub counted : Option StoryTurn → (StoryTurn → ℕ) → ℕ
counted None others = 0
counted (Some t) others = suc (others t)

unfoldable pub turns_taken : ℕ → World → ℕ
turns_taken zero w = 0
turns_taken (suc n) w = counted (next_turn w) (λ t. turns_taken n (after w (turn_entries t)))

-- the most turns after a line
abbrev pub turns_most : ℕ
turns_most = 4096

-- all of a queue is taken, where it isn't empty
abbrev pub queue_taken : ℕ → World → List Entry
queue_taken d w = if nat_lt 0 (length (queue_of d w)) then by_porter (Take d (length (queue_of d w))) ∷ [] else []

-- a connection that is leaving is closed
abbrev pub connection_parted : ℕ → World → List Entry
connection_parted d w = if is_leaving d w then by_porter (Closed d) ∷ [] else []

-- n connections from d on, in rising order
unfoldable pub served : ℕ → ℕ → Part
served zero d os w = []
served (suc n) d os w = both_parts (both_parts (plain_part (queue_taken d)) (plain_part (connection_parted d))) (served n (d + 1)) os w

-- how the next dump comes out: it is stored, where nothing is said of it
abbrev pub next_outcome : List Dumped → Dumped
next_outcome [] = stored 0
next_outcome (o ∷ os) = o

-- a dump begins, and is over at once
abbrev pub dump_entries : Dumped → List Entry
dump_entries (stored k) = by_porter (Cut k) ∷ by_porter (Stored k) ∷ []
dump_entries (failed k) = by_porter (Cut k) ∷ by_porter (DumpFailed k) ∷ []

abbrev pub dump_part : Part
dump_part os w = dump_entries (next_outcome os)

abbrev pub asks_dump : Act → Bool
asks_dump Dump = true
asks_dump act = false

-- the line of the script asks for a dump, or a connection has asked for one
unfoldable pub asked_dump : Act → Part
asked_dump act os w = if asks_dump act || is_some w.dumps.asked then dump_part os w else []

-- a line of the script, with what follows it: turns, a dump where one is asked, and then each queue is taken
unfoldable pub line_story : Act → Part
line_story act = both_parts (both_parts (both_parts (plain_part (acted act)) (plain_part (turns turns_most))) (asked_dump act)) (served connections_most 1)

-- the world stops, where it doesn't yet
abbrev pub halting : World → List Entry
halting w = if w.stopping then [] else by_porter Halt ∷ []

-- the lines of the script; those after the stop do nothing
abbrev pub lines_story : List Act → Part
lines_story [] os w = halting w
lines_story (act ∷ acts) os w = if w.stopping then [] else both_parts (line_story act) (lines_story acts) os w

-- the whole script, and behind it the last dump
abbrev pub story : List Act → Part
story acts = both_parts (lines_story acts) dump_part

-- a line that a connection is sent, without the byte 13 at its end
abbrev pub line_shown : ℕ → List ℕ → List ℕ
line_shown d line = decimal d ++ codes "< " ++ take (length line - 1) line ++ 10 ∷ []

abbrev pub farewell : ℕ → List ℕ
farewell d = decimal d ++ codes " closed" ++ 10 ∷ []

-- what is written for an event
unfoldable pub event_told : World → Event → List ℕ
event_told w (Take d n) = flat_map (line_shown d) (lines_of (take n (queue_of d w)))
event_told w (Closed d) = if is_leaving d w then farewell d else []
event_told w event = []

-- what is written for a history
abbrev pub transcript_of : World → List Entry → List ℕ
transcript_of w [] = []
transcript_of w (entry ∷ entries) = event_told w entry.event ++ transcript_of (effect w entry) entries

-- what a script writes
abbrev pub transcript : List Act → List Dumped → World → List ℕ
transcript acts os w = transcript_of w (story acts os w)
