-- That a primitive which changes a list or dictionary isn't refused.
use Rattle.std.specs.Prelude.{◌≡◌, ℕ, ◌+◌, ◌≤◌, ◌∷◌, length, drop, Some, None, slice_get}
use Rattle.muf_model.specs.declared.prims.Primitive.{Primitive}
use Rattle.muf_model.specs.declared.prims.Primitive.TheVariants.{ArraySetItem, ArrayInsertItem, ArrayAppendItem, ArrayDelItem}
use Rattle.muf_model.specs.declared.value.MapKey.{MapKey}
use Rattle.muf_model.specs.Datum.{Datum}
use Rattle.muf_model.specs.Answer.{gives, Scope}
use Rattle.muf_model.specs.ArrayRows.{gone_from}
use Rattle.muf_model.specs.Rows.{primitive}
use Rattle.muf_model.specs.inner.Flat.{Flat}
use Rattle.muf_frame.specs.inner.Shown.{locked_by}
use Rattle.muf_array.specs.declared.changes.Change.{Change}
use Rattle.muf_array.specs.declared.changers.Changer.{Changer}
use Rattle.muf_array.specs.declared.changers.Changer.TheVariants.{SetItem, InsertItem, AppendItem, DelItem}
use Rattle.muf_array.specs.inner.Shapes.{changed, key_in}
use Rattle.muf_array.specs.inner.Taken.{item_refused, held_refused, append_refused}

abbrev pub prim_of : Changer → Primitive
prim_of SetItem = ArraySetItem
prim_of InsertItem = ArrayInsertItem
prim_of AppendItem = ArrayAppendItem
prim_of DelItem = ArrayDelItem

-- how many items it takes
abbrev pub taken_by : Changer → ℕ
taken_by SetItem = 3
taken_by InsertItem = 3
taken_by AppendItem = 2
taken_by DelItem = 2

-- there are enough items, and whatever the variables hold, one item takes the place of those
pub record IsOpen (c : Changer) (f : Flat) : Type 0 where
  pub enough : locked_by f.marks + taken_by c ≤ length f.stack
  pub made : Datum
  pub done : (s : Scope) → s.locked ≡ locked_by f.marks → primitive (prim_of c) s f.stack ≡ gives (made ∷ drop (taken_by c) f.stack)

-- the tests that each begins with are passed

abbrev pub CanChange : Change → Flat → Type 0
CanChange c f =
    (k : MapKey) × (locked_by f.marks + 3 ≤ length f.stack) × (key_in 0 f.stack ≡ Some k) × (item_refused (changed c) k (slice_get f.stack 1) (slice_get f.stack 2) ≡ None)

abbrev pub CanAppend : Flat → Type 0
CanAppend f = (locked_by f.marks + 2 ≤ length f.stack) × (append_refused (slice_get f.stack 0) (slice_get f.stack 1) ≡ None)

abbrev pub CanDelete : Flat → Type 0
CanDelete f = (k : MapKey) × (locked_by f.marks + 2 ≤ length f.stack) × (key_in 0 f.stack ≡ Some k) × (held_refused gone_from k (slice_get f.stack 1) ≡ None)
