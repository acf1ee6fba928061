-- What a run of `debug` writes: what a run of `run` writes, and before what is written of a slice the lines of its units that are shown.
use Rattle.std.specs.Prelude.{ℕ, ◌==◌, not, Bool, false, if◌then◌else◌, List, [], ◌∷◌, ◌++◌, length, drop}
use Rattle.std.specs.List.{flat_map, filter}
use Rattle.muck_model.specs.declared.event.Entry.{Entry}
use Rattle.muck_model.specs.declared.event.Event.{Event}
use Rattle.muck_model.specs.declared.event.Event.TheVariants.{Slice}
use Rattle.spec_events.specs.World.{World}
use Rattle.spec_events.specs.Steps.{effect}
use Rattle.spec_events.specs.Histories.{after}
use Rattle.muck_script.specs.declared.act.Act.{Act}
use Rattle.muck_script.specs.Lines.{lines_of}
use Rattle.muck_script.specs.Story.{Dumped, outcomes_of, halting, line_story, event_told as told_by_run}
use Rattle.muf_debug.specs.declared.view.View.{View}
use Rattle.muf_debug.specs.Shown.{Tracer, views_told, handed_out, with_break, without_break}
use Rattle.spec_views.specs.Views.{views_of}
use Rattle.muck_debugging.specs.declared.act.DebugAct.{DebugAct}
use Rattle.muck_debugging.specs.declared.act.DebugAct.TheVariants.{Plain, Break, Clear, Trace}

-- what is seen of an event: the process before each unit of a slice
abbrev pub seen_of : World → Event → List View
seen_of w (Slice pid) = views_of pid w
seen_of w event = []

-- what is seen of a history
abbrev pub views_in : World → List Entry → List View
views_in w [] = []
views_in w (e ∷ es) = seen_of w e.event ++ views_in (effect w e) es

-- the lines of these views that a tracer shows
abbrev pub shown_of : List View → Tracer → List (List ℕ)
shown_of vs t = (views_told vs (handed_out t)).kept

-- the tracer behind them
abbrev pub views_passed : List View → Tracer → Tracer
views_passed vs t = record (views_told vs t) { kept = t.kept }

-- What is written of an entry: lines of units, each without its end, and what a run writes.
pub record SeenPiece : Type 0 where
  pub units : List (List ℕ)
  pub run : List ℕ

abbrev pub pieces_of : Tracer → World → List Entry → List SeenPiece
pieces_of t w [] = []
pieces_of t w (e ∷ es) =
    record { units = shown_of (seen_of w e.event) t; run = told_by_run w e.event } ∷ pieces_of (views_passed (seen_of w e.event) t) (effect w e) es

-- a line with its end
abbrev pub line_ended : List ℕ → List ℕ
line_ended line = line ++ 10 ∷ []

abbrev pub piece_text : SeenPiece → List ℕ
piece_text p = flat_map line_ended p.units ++ p.run

abbrev pub text_of_all : List SeenPiece → List ℕ
text_of_all ps = flat_map piece_text ps

-- the lines of units among them
abbrev pub units_of_all : List SeenPiece → List (List ℕ)
units_of_all ps = flat_map (λ (p : SeenPiece). p.units) ps

-- what the script asks of `run`, without the four lines
abbrev pub plain_acts : List DebugAct → List Act
plain_acts [] = []
plain_acts (Plain act ∷ acts) = act ∷ plain_acts acts
plain_acts (Break program line ∷ acts) = plain_acts acts
plain_acts (Clear program line ∷ acts) = plain_acts acts
plain_acts (Trace on ∷ acts) = plain_acts acts

-- What these lines make of a history, with a tracer.
abbrev pub Pieces : Type 0
Pieces = List Dumped → World → Tracer → List SeenPiece

-- behind these entries others follow, with the outcomes that they left, and with the tracer behind them
abbrev pub then_seen_pieces : Pieces → List Dumped → World → Tracer → List Entry → List SeenPiece
then_seen_pieces more os w t es = pieces_of t w es ++ more (drop (length (outcomes_of es)) os) (after w es) (views_passed (views_in w es) t)

-- a piece for each entry of the story of a script, but for the last dump, of which nothing is written; one of the four lines changes the tracer alone
abbrev pub debug_pieces : List DebugAct → Pieces
debug_pieces [] os w t = pieces_of t w (halting w)
debug_pieces (Plain act ∷ acts) os w t = if w.stopping then [] else then_seen_pieces (debug_pieces acts) os w t (line_story act os w)
debug_pieces (Break program line ∷ acts) os w t = debug_pieces acts os w (with_break (record { program = program; line = line }) t)
debug_pieces (Clear program line ∷ acts) os w t = debug_pieces acts os w (without_break (record { program = program; line = line }) t)
debug_pieces (Trace on ∷ acts) os w t = debug_pieces acts os w (record t { on = on })

-- what a run of this script writes
abbrev pub debug_text : List DebugAct → List Dumped → World → Tracer → List ℕ
debug_text acts os w t = text_of_all (debug_pieces acts os w t)

-- the lines of units that it shows
abbrev pub shown_lines : List DebugAct → List Dumped → World → Tracer → List (List ℕ)
shown_lines acts os w t = units_of_all (debug_pieces acts os w t)

-- the line begins with `!`
abbrev pub is_marked : List ℕ → Bool
is_marked [] = false
is_marked (b ∷ line) = b == 33

-- the lines of a text that begin with `!`, and those that don't
abbrev pub marked_lines : List ℕ → List (List ℕ)
marked_lines text = filter is_marked (lines_of text)

abbrev pub unmarked_lines : List ℕ → List (List ℕ)
unmarked_lines text = filter (λ line. not (is_marked line)) (lines_of text)
