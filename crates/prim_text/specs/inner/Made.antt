-- What a primitive of texts makes.
use Rattle.std.specs.Prelude.{◌≡◌, ℕ, List, [], ◌∷◌, map, ℤ, Option, Some, None, Result, Ok, Err}
use Rattle.muf_model.specs.Datum.{Datum, int, object}
use Rattle.muf_model.specs.declared.prims.Primitive.{Primitive}
use Rattle.muf_model.specs.Answer as answer
use Rattle.muf_model.specs.TextRows.{seeking, of_sought}
use Rattle.muf_model.specs.inner.View.{view}
use Rattle.muf_frame.specs.declared.fault.PrimFault.{PrimFault}
use Rattle.muf_frame.specs.declared.fault.PrimFault.TheVariants.{Fault, NoMemory}
use Rattle.prim_text.specs.declared.made.Made.{Made}
use Rattle.prim_text.specs.declared.made.Made.TheVariants.{One, Many}

-- the items that stand for what is made
abbrev pub made_of : Made → answer.Made
made_of (One item) = answer.makes (view item ∷ [])
made_of (Many items) = answer.makes (map view items.items)

-- it is made, or it is refused with its fault, or memory is wanted
abbrev pub Makes : answer.Made → Result Made PrimFault → Type 0
Makes m (Ok made) = m ≡ made_of made
Makes m (Err (Fault f)) = m ≡ answer.rejects f
Makes m (Err NoMemory) = Unit {0}

-- what a primitive makes that seeks a text in another one
unfoldable pub sought_in : Primitive → List ℕ → List ℕ → answer.Made
sought_in p = seeking (of_sought p)

-- the integer at the top, or the number of the object there
abbrev pub number_at_top : List Datum → Option ℤ
number_at_top (int i ∷ rest) = Some i
number_at_top (object d ∷ rest) = Some d
number_at_top _ = None
