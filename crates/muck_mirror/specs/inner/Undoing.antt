-- What undoes a batch.
use Rattle.std.specs.Prelude.{◌≡◌, ℕ, Bool, true, false, List, [], ◌∷◌, take, slice_set, Option, Some, None}
use Rattle.muck_codec.specs.declared.stored.Stored.{Stored}
use Rattle.muck_codec.specs.declared.stored.Batch.{Batch}
use Rattle.muck_log.specs.World.{StoredWorld, laid_over}
use Rattle.muck_mirror.specs.Laying.{laid_in}
use Rattle.muck_mirror.specs.declared.world.Replaced.{Replaced}
use Rattle.muck_mirror.specs.declared.world.Undo.{Undo}

-- these records stand in their places again, the last one first
unfoldable pub put_back : List Replaced → List Stored → List Stored
put_back [] objects = objects
put_back (r ∷ rs) objects = slice_set (put_back rs objects) r.at r.was

-- so many records, with these in their places again
abbrev pub undone : ℕ → List Replaced → List Stored → List Stored
undone count rs objects = put_back rs (take count objects)

abbrev pub undone_world : Undo → StoredWorld → StoredWorld
undone_world u w = record { objects = undone u.count u.replaced.items w.objects; tune = u.tune }

-- with the records of the batch in their places they make such a world, with its parameters; or they don't
abbrev pub AreLaid : Bool → Batch → List Stored → List Stored → Type 0
AreLaid true b old new = laid_over b (record { objects = old; tune = b.tune }) ≡ Some (record { objects = new; tune = b.tune })
AreLaid false b old new = laid_over b (record { objects = old; tune = b.tune }) ≡ None

-- the batch is laid, and can be undone; or nothing is changed
abbrev pub IsUndone : Option Undo → Batch → StoredWorld → StoredWorld → Type 0
IsUndone (Some u) b old new = (laid_over b old ≡ Some new) × (undone_world u new ≡ old)
IsUndone None b old new = (laid_over b old ≡ None) × (new ≡ old)

-- the same of the bytes of a batch
abbrev pub IsLaid : Option Undo → List ℕ → StoredWorld → StoredWorld → Type 0
IsLaid (Some u) payload old new = (laid_in 1 payload old ≡ Some new) × (undone_world u new ≡ old)
IsLaid None payload old new = (laid_in 1 payload old ≡ None) × (new ≡ old)
