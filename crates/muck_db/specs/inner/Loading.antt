-- The slots that stored records stand for.
use Rattle.std.specs.Prelude.{if◌then◌else◌, List, map, Option, Some, None}
use Rattle.muck_codec.specs.declared.stored.Stored.{Stored}
use Rattle.muck_store.specs.Forms.{stored_object}
use Rattle.spec_live.specs.declared.object.Object.{Object}
use Rattle.spec_live.specs.declared.saving.Saving.TheVariants.{Due}
use Rattle.spec_live.specs.Objects.{index_of, is_garbage}
use Rattle.spec_live.specs.Stood.{standing}
use Rattle.muck_db.specs.declared.slot.Slot.{Slot}

-- the object of a record, none where it is garbage
unfoldable pub object_kept : Stored → Option Object
object_kept s = if is_garbage s.kind then None else Some (stored_object s)

-- the object with its chain fields, of which nothing is to be told; it is due, and hasn't moved
unfoldable pub slot_of : Stored → Slot
slot_of s = record {
  object = object_kept s;
  first_content = index_of s.first_content;
  first_exit = index_of s.first_exit;
  next = index_of s.next;
  mark = None;
  saving = Due;
  stood = standing (stored_object s);
}

unfoldable pub slots_of : List Stored → List Slot
slots_of os = map slot_of os
