-- Which kind an object is of.
use Rattle.std.specs.Prelude.{Bool, true, false}
use Rattle.muck_model.specs.declared.dbref.Kind.{Kind}
use Rattle.muck_model.specs.declared.dbref.Kind.TheVariants.{Room, Thing, Exit, Player, Program, Garbage}

abbrev pub is_room : Kind → Bool
is_room Room = true
is_room kind = false

abbrev pub is_thing : Kind → Bool
is_thing Thing = true
is_thing kind = false

abbrev pub is_exit : Kind → Bool
is_exit Exit = true
is_exit kind = false

abbrev pub is_player : Kind → Bool
is_player Player = true
is_player kind = false

abbrev pub is_program : Kind → Bool
is_program Program = true
is_program kind = false

abbrev pub is_garbage : Kind → Bool
is_garbage Garbage = true
is_garbage kind = false
