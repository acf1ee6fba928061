-- Worked dumps, which the checker computes.
use Rattle.std.specs.Prelude.{◌≡◌, ℕ, true, false, List, [], ◌∷◌, map, codes, refl, None}
use Rattle.std.specs.Fmt.{digits}
use Rattle.muck_model.specs.declared.event.Event.{Event}
use Rattle.muck_model.specs.declared.event.Event.TheVariants.{Moment, Cut, Stored, DumpFailed}
use Rattle.spec_live.specs.Output.{no_output, sent_lines, queue_most, sent_lines_bytes, line_sent, lines_sent, text_sent}
use Rattle.spec_live.specs.Connections.{Connection}
use Rattle.spec_live.specs.Boards.{first_tune, early_board, told_one}
use Rattle.spec_live.specs.Lives.{on_board, tell}
use Rattle.spec_commands.specs.inner.Company.{queues}
use Rattle.spec_events.specs.World.{World, world_booted, starting_world, asked_by, on_live, on_dumps}
use Rattle.spec_events.specs.Dumping.{told_each}
use Rattle.spec_events.specs.Steps.{is_lawful, effect}
use Rattle.spec_events.specs.Histories.{after, by_porter}

-- a connection to which nothing has been sent
abbrev pub silent : ℕ → Connection
silent d = record { number = d; player = None; waiting = []; editor = None; leaving = false; output = no_output }

-- the connections 1 and 2 are there
abbrev pub two_there : World
two_there = on_live (on_board (λ b. record b { connections = silent 1 ∷ silent 2 ∷ [] })) starting_world

-- the connection d asks for a dump
abbrev pub asks_dump : ℕ → World → World
asks_dump d w = on_dumps (asked_by d) w

-- the world after these events of the porter
abbrev pub behind : List Event → World → World
behind events w = after w (map by_porter events)

-- the connection 1 asked before the dump 1 began, and the connection 2 asks while it runs
abbrev pub both_asked : World
both_asked = asks_dump 2 (behind (Cut 1 ∷ []) (asks_dump 1 two_there))

-- what is shown to the two
abbrev pub shown : World → List (List (List ℕ))
shown w = queues w.live.board.connections

abbrev pub stored_one : List (List ℕ)
stored_one = codes "Dump 1 stored." ∷ []

unfoldable pub DumpRows : Type 0
DumpRows =
    -- who asked is told what came of the dump
    (shown (behind (Cut 1 ∷ Stored 1 ∷ []) (asks_dump 1 two_there)) ≡ stored_one ∷ [] ∷ [])
    × (shown (behind (Cut 1 ∷ DumpFailed 1 ∷ []) (asks_dump 1 two_there)) ≡ (codes "Dump failed." ∷ []) ∷ [] ∷ [])
    -- an ask while a dump runs is one for the next
    × (shown (behind (Stored 1 ∷ []) both_asked) ≡ stored_one ∷ [] ∷ [])
    × (shown (behind (Stored 1 ∷ Cut 2 ∷ Stored 2 ∷ []) both_asked) ≡ stored_one ∷ (codes "Dump 2 stored." ∷ []) ∷ [])
    -- one dump runs at a time, and only that one ends
    × (is_lawful (asks_dump 1 two_there) (by_porter (Cut 1)) ≡ true)
    × (is_lawful both_asked (by_porter (Cut 2)) ≡ false)
    × (is_lawful both_asked (by_porter (Stored 2)) ≡ false)
    × (is_lawful two_there (by_porter (Stored 1)) ≡ false)
    -- no worker makes one, and the dumper makes one where it is asked or due
    × (is_lawful (asks_dump 1 two_there) (record { party = 1; event = Cut 1 }) ≡ false)
    × (is_lawful (asks_dump 1 two_there) (record { party = 9; event = Cut 1 }) ≡ true)
    × (is_lawful (behind (Moment 899 ∷ []) two_there) (record { party = 9; event = Cut 1 }) ≡ false)
    × (is_lawful (behind (Moment 900 ∷ []) two_there) (record { party = 9; event = Cut 1 }) ≡ true)

pub dump_rows : DumpRows
unfolding DumpRows digits sent_lines queue_most sent_lines_bytes line_sent lines_sent text_sent first_tune early_board told_one tell told_each world_booted starting_world is_lawful effect
dump_rows = (refl, refl, refl, refl, refl, refl, refl, refl, refl, refl, refl, refl)
