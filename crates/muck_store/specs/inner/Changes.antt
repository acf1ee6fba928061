-- What a dump has to write: the records that aren't kept already.
use Rattle.std.specs.Prelude.{◌≡◌, ℕ, false, List, [], ◌∷◌, Some, slice_get}
use Rattle.std.specs.Option.{option_and_then}
use Rattle.spec_live.specs.Objects.{Entry, index_of}
use Rattle.spec_live.specs.Saving.{saving_in, is_due}
use Rattle.muck_codec.specs.declared.stored.Stored.{Stored}
use Rattle.muck_store.specs.Forms.{persist}

-- what is kept at the number of a record is the record itself
abbrev pub IsKept : List Stored → Stored → Type 0
IsKept base o = option_and_then (slice_get base) (index_of o.dbref) ≡ Some o

-- The records are all of them, in their order, without some that are kept already.
pub data LeavesOut (base : List Stored) : List Stored → List Stored → Type 0 where
  none : LeavesOut base [] []
  takes : (o : Stored) {all records : List Stored} → LeavesOut base all records → LeavesOut base (o ∷ all) (o ∷ records)
  leaves : (o : Stored) {all records : List Stored} → IsKept base o → LeavesOut base all records → LeavesOut base (o ∷ all) records

-- What is kept at the number of an object that isn't due is its stored form.
abbrev pub KeepsUndue : List Stored → List Entry → Type 0
KeepsUndue base es = (k : ℕ) → is_due (saving_in es k) ≡ false → slice_get base k ≡ slice_get (persist es) k
