-- Which second it is, by the moments that were entered.
use Rattle.std.specs.Prelude.{ℕ, List, [], ◌∷◌}
use Rattle.muck_model.specs.declared.event.Entry.{Entry}
use Rattle.muck_model.specs.declared.event.Event.{Event}
use Rattle.muck_model.specs.declared.event.Event.TheVariants.{Moment}

abbrev pub second_behind : ℕ → Event → ℕ
second_behind second (Moment t) = t
second_behind second event = second

-- after these entries, where it was that one before
abbrev pub second_on : ℕ → List Entry → ℕ
second_on second [] = second
second_on second (e ∷ es) = second_on (second_behind second e.event) es
