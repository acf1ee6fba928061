-- Worked slices, which the checker computes.
use Rattle.std.specs.Prelude.{◌≡◌, ℕ, pos, List, [], ◌∷◌, ◌++◌, length, map, replicate, codes, refl, Some, None}
use Rattle.std.specs.Fmt.{digits}
use Rattle.spec_live.specs.Output.{sent_lines, queue_most, sent_lines_bytes, line_sent, lines_sent, text_sent}
use Rattle.spec_live.specs.Objects.{dbref_of, object_at, number_in, kind_in, flags_in, place_in, object_in, list_in, changed_at}
use Rattle.spec_live.specs.Boards.{first_tune, early_board, told_one, told_player}
use Rattle.spec_live.specs.Lives.{unchanged, tell, tell_player}
use Rattle.spec_live.specs.Start.{room_zero, player_one, first_objects}
use Rattle.spec_rights.specs.Levels.{level_at, owner_at, flag_at, owns, controls_as, effective, inherits, level, user}
use Rattle.spec_rights.specs.Verdict.{controls, controls_or}
use Rattle.muf_model.specs.declared.code.Literal.TheVariants.{Int, Object}
use Rattle.muf_model.specs.declared.code.Offer.TheVariants.{All}
use Rattle.muf_model.specs.declared.code.Word.{Word}
use Rattle.muf_model.specs.declared.code.Word.TheVariants.{Literal, Variable, Primitive}
use Rattle.muf_model.specs.declared.prims.Primitive.TheVariants.{Pop, Fetch, Swap, Subtract, IntToStr, Notify, Call, Preempt, Sleep}
use Rattle.muf_model.specs.Tree.{Block, stop, word, fork, try_word, Tree}
use Rattle.muf_model.specs.Source.{last_word}
use Rattle.spec_prims.specs.Asking.{level_fault, is_number_there, near_fault}
use Rattle.spec_prims.specs.Shared.{first_fault, shared}
use Rattle.muck_library.specs.Library.{form_at, formed}
use Rattle.muck_queue.specs.declared.mode.Mode.TheVariants.{Preempt as PreemptMode}
use Rattle.muck_queue.specs.Queues.{empty_queue, number_most, is_queue_full, process_added, on_process, process_in_mode, without_process}
use Rattle.spec_commands.specs.inner.Company.{queues}
use Rattle.spec_commands.specs.inner.EditRows.{desk}
use Rattle.spec_processes.specs.ProcessRows.{processed}
use Rattle.spec_events.specs.declared.starting.Call.{Call as Started}
use Rattle.spec_events.specs.World.{World, world_booted, starting_world, on_live, on_queue}
use Rattle.spec_events.specs.Starting.{by_command, new_process, word_started}
use Rattle.spec_events.specs.Following.{swept, settled}
use Rattle.spec_events.specs.Slices.{acting, row_done, program_called, process_done, deed, program_error, unit_taken, units_run, sliced}

-- these words, one behind the other, all in line 1
abbrev pub in_turn : List Word → Block → Block
in_turn [] behind = behind
in_turn (w ∷ ws) behind = word 1 w (in_turn ws behind)

-- a program of one word
abbrev pub of_word : Block → Tree
of_word body = record { words = record { name = codes "main"; offer = All; variables = 0; body = body; last = 1 } ∷ []; variables = 0 }

-- One starts the program `#3`
abbrev pub by_one : Started
by_one = record { player = dbref_of 1; program = dbref_of 3; trigger = dbref_of 3; command = codes "@run #3="; argument = [] }

-- the only process is that of this program, which belongs to this player
abbrev pub running_of : ℕ → Tree → World
running_of owner tree = (word_started (by_command 1 (dbref_of 3) starting_world) by_one tree (last_word tree.words) (record starting_world { live = desk owner })).0

-- to One, so that it is at the highest level
abbrev pub running : Tree → World
running tree = running_of 1 tree

-- the same, where the program has this built form for those that call it
abbrev pub calling : Tree → Tree → World
calling form tree = record (running tree) { library = None ∷ None ∷ None ∷ Some form ∷ [] }

-- a process below the highest levels may take so many units
abbrev pub bounded : ℕ → World → World
bounded most w = on_live (λ v. record v { board = record v.board { tune = record v.board.tune { m1_units = most; m2_units = most } } }) w

-- what is shown by the slice of the process, and how many processes there are then
abbrev pub shown_of : World → List (List (List ℕ)) × ℕ
shown_of w = (queues (sliced (pos 1) w).live.board.connections, length (sliced (pos 1) w).queue.processes)

-- One is shown this text, and the process has ended
abbrev pub shows : List ℕ → List (List (List ℕ)) × ℕ
shows text = ((text ∷ []) ∷ [], 0)

abbrev pub words : List Word → Tree
words ws = of_word (in_turn ws stop)

-- `pop 7 2`
abbrev pub two_numbers : List Word
two_numbers = Primitive Pop ∷ Literal (Int (pos 7)) ∷ Literal (Int (pos 2)) ∷ []

-- `me @ swap notify`
abbrev pub tell_me : List Word
tell_me = Variable (record { 0 = 0 }) ∷ Primitive Fetch ∷ Primitive Swap ∷ Primitive Notify ∷ []

-- `#3 call`
abbrev pub call_three : List Word
call_three = Literal (Object (dbref_of 3)) ∷ Primitive Call ∷ []

-- `pop 0 try #3 call catch me @ swap notify endcatch`
abbrev pub try_three : Tree
try_three = of_word (in_turn (Primitive Pop ∷ Literal (Int (pos 0)) ∷ []) (fork try_word 1 (in_turn call_three stop) 1 (in_turn tell_me stop) stop))

-- a slice has five units outside preempt, and a section ten
abbrev pub short : World → World
short w = on_live (λ v. record v { board = record v.board { tune = record v.board.tune { instr_slice = 5; preempt_units = 10 } } }) w

abbrev pub at_moment : ℕ → World → World
at_moment moment w = record w { moment = moment }

-- so many units, each of which is a word
abbrev pub sevens : ℕ → List Word
sevens n = replicate n (Literal (Int (pos 7)))

-- `preempt`, and so many units behind it with the end of the word
abbrev pub section_of : ℕ → Tree
section_of n = words (Primitive Preempt ∷ sevens n)

-- a section begins
abbrev pub in_section : World → World
in_section w = on_queue (on_process (pos 1) (process_in_mode PreemptMode)) w

-- `5 sleep`
abbrev pub sleep_five : List Word
sleep_five = Literal (Int (pos 5)) ∷ Primitive Sleep ∷ []

-- when each process is due, with its units, and those of its section
abbrev pub counts_of : World → List (ℕ × ℕ × ℕ)
counts_of w = map (λ p. (p.due, p.units, p.section)) w.queue.processes

-- the rows
unfoldable pub Rows : Type 0
Rows =
    -- `pop 7 2 - intostr me @ swap notify`
    (shown_of (running (words (two_numbers ++ Primitive Subtract ∷ Primitive IntToStr ∷ tell_me))) ≡ shows (codes "5"))
    -- `pop pop`: the error names the program
    × (shown_of (running (words (Primitive Pop ∷ Primitive Pop ∷ []))) ≡ shows (codes "Program error in #3: Stack underflow."))
    -- three units and the end of the word, where four may be taken and where only three may
    × (shown_of (bounded 4 (running_of 2 (words two_numbers))) ≡ ([] ∷ [], 0))
    × (shown_of (bounded 3 (running_of 2 (words two_numbers))) ≡ shows (codes "Program error in #3: Too many instructions."))
    -- a called program tells a text; and its fault is caught by its caller
    × (shown_of (calling (words tell_me) (words call_three)) ≡ shows [])
    × (shown_of (calling (words (Primitive Pop ∷ [])) try_three) ≡ shows (codes "Stack underflow."))
    -- a section of as many units as it may have, and of one more, which is its fault also where the level leaves none either
    × (shown_of (short (running (section_of 9))) ≡ ([] ∷ [], 0))
    × (shown_of (short (running (section_of 10))) ≡ shows (codes "Program error in #3: Preempt section too long."))
    × (shown_of (bounded 10 (in_section (short (running_of 2 (words (sevens 10)))))) ≡ shows (codes "Program error in #3: Preempt section too long."))
    -- outside preempt the slice ends after its units, and the process is due at once; with a section in it, it goes on to the end of that
    × (counts_of (sliced (pos 1) (at_moment 7 (short (running (words (sevens 9)))))) ≡ (7, 5, 0) ∷ [])
    × (counts_of (sliced (pos 1) (short (running (words (sevens 4 ++ Primitive Preempt ∷ sevens 3))))) ≡ [])
    -- a sleep ends the slice and the section, and another section begins behind it
    × (counts_of (sliced (pos 1) (at_moment 7 (short (running (words sleep_five))))) ≡ (12, 0, 0) ∷ [])
    × (counts_of (sliced (pos 1) (sliced (pos 1) (short (running (words (Primitive Preempt ∷ sevens 8 ++ sleep_five ++ sevens 9)))))) ≡ [])

pub rows : Rows
unfolding Rows digits sent_lines queue_most sent_lines_bytes line_sent lines_sent text_sent object_at number_in kind_in flags_in place_in object_in list_in changed_at first_tune early_board told_one told_player unchanged tell tell_player room_zero player_one first_objects level_at owner_at flag_at owns controls_as effective inherits level user controls controls_or empty_queue number_most is_queue_full process_added on_process without_process world_booted starting_world new_process form_at formed acting level_fault is_number_there near_fault first_fault shared row_done processed program_called process_done deed program_error swept settled unit_taken units_run sliced
rows = (refl, refl, refl, refl, refl, refl, refl, refl, refl, refl, refl, refl, refl)
