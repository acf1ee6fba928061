-- The note of the links among items of a history.
use Rattle.std.specs.Prelude.{List, [], ◌∷◌, Some, None}
use Rattle.spec_events.specs.declared.logged.Logged.{Logged}
use Rattle.spec_serve.specs.Marks.{LinksNote}

abbrev pub first_note : LinksNote → LinksNote → LinksNote
first_note (Some counts) later = Some counts
first_note None later = later

-- the first note of the links that stands there
abbrev pub note_in : List Logged → LinksNote
note_in [] = None
note_in (l ∷ ls) = first_note l.counted (note_in ls)
