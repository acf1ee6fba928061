-- Worked talks, which the checker computes.
use Rattle.std.specs.Prelude.{◌≡◌, true, false, map, List, [], ◌∷◌, codes, refl, take}
use Rattle.muck_model.specs.declared.event.Entry.{Entry}
use Rattle.muck_model.specs.declared.event.Event.{Event}
use Rattle.muck_model.specs.declared.event.Event.TheVariants.{Opened, Input, Closed, Take, Moment, Halt, Idle}
use Rattle.spec_live.specs.Output.{sent_lines_bytes, bytes_of, sent_lines, queue_most, line_sent, lines_sent, output_taken, lines_taken}
use Rattle.spec_live.specs.Output.{text_sent as sent_text}
use Rattle.spec_live.specs.Objects.{object_in}
use Rattle.spec_live.specs.Stood.{stands_in, stilled}
use Rattle.spec_live.specs.Start.{first_objects, room_zero, player_one}
use Rattle.spec_live.specs.Boards.{first_tune, early_board, connection_opened, connection_closed, line_added, bytes_taken}
use Rattle.spec_live.specs.Lives.{change_followed, reading, unchanged}
use Rattle.spec_commands.specs.Talk.{welcome, player_parted, gone_away}
use Rattle.muck_queue.specs.Queues.{ended_tied}
use Rattle.spec_hooks.specs.Causes.{causes}
use Rattle.spec_events.specs.World.{world_booted, starting_world}
use Rattle.spec_events.specs.Hooked.{hooked, started_all}
use Rattle.spec_events.specs.Steps.{effect}
use Rattle.spec_events.specs.Histories.{by_porter}
use Rattle.spec_talks.specs.Parties.{own_entries, worlds_at, is_halt}
use Rattle.spec_talks.specs.Talks.{Talk, talks, bytes_sent, is_talking}

-- what the porter does
abbrev pub porter : List Event → List Entry
porter events = map by_porter events

-- two lines come on 1 and seven bytes are taken for it; it goes, and comes again; meanwhile 2 comes
abbrev pub story : List Entry
story = porter (
    Opened 1 ∷ Input 1 (codes "WHO") ∷ Take 1 5 ∷ Opened 2 ∷ Input 1 (codes "QUIT") ∷ Take 1 2
    ∷ Closed 1 ∷ Opened 1 ∷ Take 1 4 ∷ Take 2 6 ∷ [])

abbrev pub told : List Talk
told = talks starting_world story

-- another party comes between, and then the porter halts
abbrev pub among : List Entry
among = by_porter (Moment 1) ∷ record { party = 3; event = Idle } ∷ by_porter Halt ∷ []

unfoldable pub WorkedRows : Type 0
WorkedRows =
    -- a talk for each opening, the last one first
    (map (λ t. t.number) told ≡ 1 ∷ 2 ∷ 1 ∷ [])
    × (map (λ t. t.entered) told ≡ [] ∷ [] ∷ (codes "WHO" ∷ codes "QUIT" ∷ []) ∷ [])
    × (map (λ t. t.last) told ≡ 4 ∷ 6 ∷ 2 ∷ [])
    -- what was taken belongs to the opening before it
    × (bytes_sent starting_world story 1 0 ≡ codes "Use: co")
    × (bytes_sent starting_world story 1 1 ≡ codes "Use:")
    × (bytes_sent starting_world story 1 2 ≡ [])
    × (bytes_sent starting_world story 2 0 ≡ codes "Use: c")
    -- whether it is open
    × (is_talking 1 told ≡ true)
    × (is_talking 1 (talks starting_world (take 7 story)) ≡ false)
    × (is_talking 3 told ≡ false)
    -- whose an entry is, and when the run was stopped
    × (own_entries 0 among ≡ by_porter (Moment 1) ∷ by_porter Halt ∷ [])
    × (map (λ w. w.moment) (worlds_at is_halt starting_world among) ≡ 1 ∷ [])

pub worked_rows : WorkedRows
unfolding WorkedRows talks sent_lines_bytes bytes_of sent_lines queue_most line_sent lines_sent output_taken lines_taken sent_text first_tune early_board connection_opened connection_closed line_added bytes_taken change_followed reading unchanged welcome player_parted gone_away ended_tied world_booted starting_world effect hooked started_all causes stands_in stilled object_in first_objects room_zero player_one
worked_rows = (refl, refl, refl, refl, refl, refl, refl, refl, refl, refl, refl, refl)
