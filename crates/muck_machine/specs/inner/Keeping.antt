-- What a world keeps of its history.
use Rattle.std.specs.Prelude.{◌≡◌, ℕ, true, false, List, Result, Ok, Err}
use Rattle.muck_model.specs.declared.event.Entry.{Entry}
use Rattle.muck_model.specs.declared.event.Event.TheVariants.{Died}
use Rattle.muck_model.specs.declared.memory.NoMemory.{NoMemory}
use Rattle.muck_model.specs.declared.note.Note.{Note}
use Rattle.muck_model.specs.Told.{with_entry, with_note, with_counts}
use Rattle.muck_model.specs.declared.note.Count.{Count}
use Rattle.spec_live.specs.Stood.{IsStill}
use Rattle.muck_queue.specs.inner.Numbered.{IsNumbered}
use Rattle.spec_events.specs.World.{World}
use Rattle.spec_events.specs.Histories.{History, after, AllLawful}
use Rattle.spec_events.specs.Logged.{IsPlaced}
use Rattle.spec_events.specs.inner.Sound.{IsSound}
use Rattle.muck_turns.specs.inner.Hooks.{AreTold}
use Rattle.muck_machine.specs.declared.past.Past.{Past}

abbrev pub history : Past → History
history p = record { start = p.origin; entries = p.tale.entries; notes = p.tale.notes; counted = p.tale.counted }

-- The tale may grow, each entry of it is lawful where it stands, and each note has its place. The world after it is dead or not as is kept, and as
-- long as it isn't it is sound, and it is the state that is kept. It began with objects of which nothing was to be told and none of which had moved,
-- and with processes whose numbers rise.
pub record Keeps (p : Past) (state : World) : Type 0 where
  pub grows : p.tale.open_ended ≡ true
  pub lawful : AllLawful p.origin p.tale.entries
  pub placed : IsPlaced (history p)
  pub dies : (after p.origin p.tale.entries).dead ≡ p.dead
  pub sound : p.dead ≡ false → IsSound (after p.origin p.tale.entries)
  pub lives : p.dead ≡ false → state ≡ after p.origin p.tale.entries
  pub told : AreTold p.origin.live.objects
  pub still : IsStill p.origin.live.objects
  pub numbered : IsNumbered p.origin.queue

-- longer by an entry
abbrev pub told : Entry → Past → Past
told e p = record p { tale = with_entry e p.tale }

-- longer by a note
abbrev pub remarked : Note → Past → Past
remarked note p = record p { tale = with_note note p.tale }

-- longer by the note of the links
abbrev pub counted_at_end : List Count → Past → Past
counted_at_end counts p = record p { tale = with_counts counts p.tale }

-- and by memory that a party wanted
abbrev pub lost : ℕ → Past → Past
lost party p = record (told (record { party = party; event = Died }) p) { dead = true }

-- longer by what was done, or by the memory that was wanted for it
abbrev pub Concludes : Entry → Result (Unit {0}) NoMemory → Past → Past → Type 0
Concludes e (Ok x) p q = q ≡ told e p
Concludes e (Err x) p q = q ≡ lost e.party p
