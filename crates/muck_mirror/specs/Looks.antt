-- What is seen of an object of the world that a mirror holds.
use Rattle.std.specs.Prelude.{ℕ, List, Option}
use Rattle.muck_model.specs.declared.dbref.Dbref.{Dbref}
use Rattle.muck_store.specs.Forms.{loaded}
use Rattle.muck_looking.specs.Looks.{object_looked_at, object_examined}
use Rattle.muck_mirror.specs.Mirrors.{Mirror}

-- its objects are those that a server has that begins with that world
abbrev pub looked_at : Mirror → Dbref → Option (List (List ℕ))
looked_at m d = object_looked_at d (loaded m.world.objects)

abbrev pub examined_at : Mirror → Dbref → Option (List (List ℕ))
examined_at m d = object_examined d (loaded m.world.objects)
