-- The lines that wait on connections, and their editors.
use Rattle.std.specs.Prelude.{◌≡◌, ◌⊎◌, ℕ, true, ◌==◌, if◌then◌else◌, List, [], ◌∷◌, ◌++◌, drop, Option, Some, None}
use Rattle.std.specs.Option.{option_map, option_and_then}
use Rattle.muck_model.specs.declared.dbref.Dbref.{Dbref}
use Rattle.muck_model.specs.declared.edit.EditState.{EditState}
use Rattle.muck_model.specs.declared.event.Entry.{Entry}
use Rattle.muck_model.specs.declared.event.Event.{Event}
use Rattle.muck_model.specs.declared.event.Event.TheVariants.{Opened, Input, Closed, Exec, Slice}
use Rattle.spec_events.specs.World.{World, connection}
use Rattle.spec_events.specs.Endings.{Lapsed}
use Rattle.spec_events.specs.Slices.{units_of}
use Rattle.spec_events.specs.Steps.{effect, happened}
use Rattle.spec_origins.specs.Origins.{LostIn}

-- the lines that wait on a connection, where it is there
abbrev pub lines_waiting_at : ℕ → World → Option (List (List ℕ))
lines_waiting_at d w = option_map (λ c. c.waiting) (connection d w)

-- None wait on a connection that opens. A line that comes waits behind the others, and the first one waits no more once it is done.
abbrev pub lines_behind : Event → ℕ → Option (List (List ℕ)) → Option (List (List ℕ))
lines_behind (Opened n) d o = if n == d then Some [] else o
lines_behind (Input n line) d o = if n == d then option_map (λ lines. lines ++ line ∷ []) o else o
lines_behind (Exec n) d o = if n == d then option_map (drop 1) o else o
lines_behind (Closed n) d o = if n == d then None else o
lines_behind event d o = o

abbrev pub editor_at : ℕ → World → Option EditState
editor_at d w = option_and_then (λ c. c.editor) (connection d w)

-- It is open as it was, or was closed since its program was lost.
abbrev pub SameEditor : (Dbref → Type 0) → Option EditState → Option EditState → Type 0
SameEditor Lost old new = (new ≡ old) ⊎ ((new ≡ None) × ((s : EditState) × (old ≡ Some s) × Lost s.program))

-- A line opens and closes the editor of its own connection alone; one that opens has none.
abbrev pub EditorKept : Event → World → World → ℕ → Type 0
EditorKept (Exec n) w v d = ((n == d) ≡ true) ⊎ SameEditor (λ x. Lapsed x w.live v.live) (editor_at d w) (editor_at d v)
EditorKept (Slice pid) w v d = SameEditor (LostIn (units_of pid w)) (editor_at d w) (editor_at d v)
EditorKept (Opened n) w v d = editor_at d v ≡ (if n == d then None else editor_at d w)
EditorKept (Closed n) w v d = editor_at d v ≡ (if n == d then None else editor_at d w)
EditorKept event w v d = editor_at d v ≡ editor_at d w

-- of every connection
pub record Seated (event : Event) (w v : World) : Type 0 where
  pub lines : (d : ℕ) → lines_waiting_at d v ≡ lines_behind event d (lines_waiting_at d w)
  pub editors : (d : ℕ) → EditorKept event w v d

-- It is so of what happens by each entry where it stands; what is hooked to that changes no connection.
abbrev pub AllSeated : World → List Entry → Type 0
AllSeated w [] = Unit {0}
AllSeated w (entry ∷ entries) = Seated entry.event w (happened w entry.party entry.event) × AllSeated (effect w entry) entries
