-- A loop that counts, changed in place.
use Rattle.std.specs.Prelude.{List, [], ◌∷◌, ℤ, Option}
use Rattle.muf_frame.specs.declared.mark.Mark.{Mark}
use Rattle.muf_frame.specs.declared.mark.Mark.TheVariants.{Loop, Guard, Back, Leave}
use Rattle.muf_frame.specs.declared.mark.Turns.TheVariants.{Plain, Indices, Values, Pairs}

-- a loop that counts goes on at another index, and any other mark stays as it is
abbrev pub counting : Option ℤ → Mark → Mark
counting next (Loop Plain again after) = Loop Plain again after
counting next (Loop (Indices index last step) again after) = Loop (Indices next last step) again after
counting next (Loop (Values of at) again after) = Loop (Values of at) again after
counting next (Loop (Pairs of at) again after) = Loop (Pairs of at) again after
counting next (Guard locked outer handler) = Guard locked outer handler
counting next (Back base place) = Back base place
counting next (Leave caller base place) = Leave caller base place

-- the innermost mark does
abbrev pub with_next : Option ℤ → List Mark → List Mark
with_next next [] = []
with_next next (m ∷ ms) = counting next m ∷ ms
