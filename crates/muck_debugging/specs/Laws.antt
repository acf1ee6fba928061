-- Laws over what a run of `debug` writes.
use Rattle.std.specs.Prelude.{◌≡◌, ℕ, Bool, true, is_none, List}
use Rattle.std.specs.List.{list_all}
use Rattle.muck_model.specs.Bytes.{text_fault}
use Rattle.spec_events.specs.World.{World}
use Rattle.muck_script.specs.Lines.{lines_of}
use Rattle.muck_script.specs.Story.{Dumped, transcript}
use Rattle.muf_debug.specs.Shown.{Tracer}
use Rattle.muck_debugging.specs.declared.act.DebugAct.{DebugAct}
use Rattle.muck_debugging.specs.Seen.{plain_acts, debug_text, shown_lines, marked_lines, unmarked_lines}

-- each is a text, so that no line ends inside it
abbrev pub are_texts : List (List ℕ) → Bool
are_texts lines = list_all (λ line. is_none (text_fault line)) lines

-- The lines without `!` are those of the transcript of the script without the four lines, and those with `!` are those of the units that are shown.
pub record AreApart (acts : List DebugAct) (os : List Dumped) (w : World) (t : Tracer) : Type 0 where
  pub run : unmarked_lines (debug_text acts os w t) ≡ lines_of (transcript (plain_acts acts) os w)
  pub units : marked_lines (debug_text acts os w t) ≡ shown_lines acts os w t

abbrev pub ShowsApart : Type 0
ShowsApart = (acts : List DebugAct) (os : List Dumped) (w : World) (t : Tracer) → are_texts (shown_lines acts os w t) ≡ true → AreApart acts os w t
