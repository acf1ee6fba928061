-- How a value is shown, and what is looked at.
use Rattle.std.specs.Prelude.{ℕ, List, Option}
use Rattle.muck_prop.specs.declared.value.PropValue.{PropValue}
use Rattle.spec_live.specs.declared.object.Object.{Object}
use Rattle.muf_model.specs.Datum.{Datum}
use Rattle.spec_prims.specs.PropRows.{value_of, as_item, value_as_text, as_number, has_below}
use Rattle.prim_prop.specs.declared.looking.Form.{Form}
use Rattle.prim_prop.specs.declared.looking.Form.TheVariants.{Item, Text, Number}
use Rattle.prim_prop.specs.declared.looking.Look.{Look}
use Rattle.prim_prop.specs.declared.looking.Look.TheVariants.{Held, Below}

abbrev pub form_of : Form → Option PropValue → Datum
form_of Item = as_item
form_of Text = value_as_text
form_of Number = as_number

abbrev pub look_of : Look → Option Object → List (List ℕ) → Datum
look_of (Held form) = λ o path. form_of form (value_of o path)
look_of Below = has_below
