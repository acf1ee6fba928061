-- What records are that make a world that hangs together.
use Rattle.std.specs.Prelude.{ℕ, Bool, List, length}
use Rattle.muck_codec.specs.declared.stored.Stored.{Stored}
use Rattle.spec_live.specs.Chain.{Ends}
use Rattle.spec_live.specs.Consistent.{IsConsistent}
use Rattle.muck_store.specs.Forms.{next_of_stored, loaded}
use Rattle.muck_store.specs.Whole.{first_at}

-- Each list that a record begins has an end, and the objects that the records stand for make a consistent world.
pub record IsHung (os : List Stored) : Type 0 where
  pub ends : (exits : Bool) (p : ℕ) → Ends (length os) (next_of_stored os) (first_at exits os p)
  pub world : IsConsistent (loaded os)
