-- Seats of two threads that take turns.
use Rattle.std.specs.Prelude.{◌≡◌, ◌⊎◌, ℕ, [], Option}
use Rattle.atomic_table.specs.Table.{Me}
use Rattle.muck_model.specs.declared.event.Entry.{Entry}
use Rattle.turn_lock.specs.declared.view.View.{View}
use Rattle.turn_lock.specs.declared.view.Place.TheVariants.{Idle, Told}
use Rattle.tests_links_rows.specs.declared.book.Book.{Book}

abbrev pub Chair : Type 0
Chair = Me (Option Book) (View Entry (Unit {0}))

-- the seat of this party, which waits for nothing and carries nothing
abbrev pub Rests : ℕ → Chair → Type 0
Rests p me = (me.1 ≡ []) × (me.0.place ≡ Idle) × (me.0.party ≡ p)

-- what the first seat knows of others stays
abbrev pub SameLists : Chair → Chair → Type 0
SameLists old new = (new.0.given ≡ old.0.given) × (new.0.joined ≡ old.0.joined)

-- the seat may be taken in
abbrev pub Leaves : Chair → Chair → Type 0
Leaves old new = (new.1 ≡ []) × ((new.0.place ≡ Idle) ⊎ (new.0.place ≡ Told)) × SameLists old new
