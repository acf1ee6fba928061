-- The note of the links among the items of a history, against the worlds in which they were made.
use Rattle.std.specs.Prelude.{◌≡◌, Bool, not, ◌&&◌, ◌||◌, ◌==◌, List, [], ◌∷◌, is_some}
use Rattle.spec_events.specs.declared.logged.Logged.{Logged}
use Rattle.spec_events.specs.World.{World}
use Rattle.spec_events.specs.Steps.{effect}

-- An item has the note just where it is the porter's, in a world that is stopping, in which memory wasn't wanted before, and none before it has it.
abbrev pub IsNoted : Bool → World → Logged → Type 0
IsNoted noted w l = is_some l.counted ≡ (l.entry.party == 0 && (not noted && (w.stopping && not w.dead)))

-- each of these does, from this world on, where one before them has the note or not
abbrev pub AllNoted : Bool → World → List Logged → Type 0
AllNoted noted w [] = Unit {0}
AllNoted noted w (l ∷ ls) = IsNoted noted w l × AllNoted (noted || is_some l.counted) (effect w l.entry) ls
